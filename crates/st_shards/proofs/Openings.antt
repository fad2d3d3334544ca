-- Cuts of pieces that aren't the server's.
use Rattle.std.proofs.Common.{◌≡◌, ℕ, zero, suc, ◌+◌, ◌<◌, Bool, true, false, ◌&&◌, List, [], ◌∷◌, ◌++◌, map, length, take, get_or, refl, sym, ap, subst, ◌∙◌, arith, add-one}
use Rattle.std.specs.List.{flat_map}
use Rattle.std.proofs.Math.Bool.{cond}
use Rattle.std.proofs.lemmas.List.{map-append}
use Rattle.std.proofs.lemmas.List.Sums.{fold-append}
use Rattle.std.proofs.lemmas.List.Concat.{flat_map-append}
use Rattle.st_key.specs.Spans.{Span, key_less, all_keys, holds}
use Rattle.st_model.specs.declared.piece.Piece.{Piece}
use Rattle.st_model.specs.Pieces.{part, cut, cut_span, cut_where, is_absent, ends_of, cut_keys, first_phase, first_pieces}
use Rattle.std.specs.Prelude.{Result, Ok, Err, OnOk, OnErr}
use Rattle.st_model.specs.Partition.{IsPartition}
use Rattle.st_shards.specs.Blank.{blank, cut_all, opened_piece}

blank_one : (since : ℕ) (key : List ℕ) (span : Span) → cut key (blank since span) ≡ map (blank since) (cut_span key span)
blank_one since key span = by (key_less span.begin key && key_less key span.end)
  where
    by : (b : Bool)
        → cond b (part (blank since span) (record { begin = span.begin; end = key }) ∷ (part (blank since span) (record { begin = key; end = span.end }) ∷ [])) (blank since span ∷ [])
        ≡ map (blank since) (cond b (record { begin = span.begin; end = key } ∷ (record { begin = key; end = span.end } ∷ [])) (span ∷ []))
    by true = refl
    by false = refl

pub blank_cut : (since : ℕ) (key : List ℕ) (parts : List Span)
    → cut_where is_absent key (map (blank since) parts) ≡ map (blank since) (flat_map (cut_span key) parts)
blank_cut since key [] = refl
blank_cut since key (span ∷ parts) =
    ap (λ l. l ++ cut_where is_absent key (map (blank since) parts)) (blank_one since key span)
    ∙ (ap (λ l. map (blank since) (cut_span key span) ++ l) (blank_cut since key parts)
    ∙ sym (map-append (blank since) (cut_span key span) (flat_map (cut_span key) parts)))

-- the ends of one more range
ends_more : (ranges : List Span) (i : ℕ) (range : Span) → i < length ranges → range ≡ get_or ranges i range
    → ends_of (take (i + 1) ranges) ≡ ends_of (take i ranges) ++ (range.begin ∷ (range.end ∷ []))
ends_more [] i range lt read = absurd (omega arith)
ends_more (r ∷ ranges) zero range lt read = ap (λ (s : Span). s.begin ∷ (s.end ∷ [])) (sym read)
ends_more (r ∷ ranges) (suc i) range lt read =
    ap (λ n. ends_of (take n (r ∷ ranges))) (add-one (suc i))
    ∙ ap (λ l. r.begin ∷ (r.end ∷ l)) (sym (ap (λ n. ends_of (take n ranges)) (add-one i)) ∙ ends_more ranges i range (omega arith) read)

pub cut_more : (since : ℕ) (parts ranges : List Span) (i : ℕ) (range : Span) (before mid after : List Piece) → i < length ranges
    → range ≡ get_or ranges i range → before ≡ map (blank since) (cut_all parts (ends_of (take i ranges)))
    → mid ≡ cut_where is_absent range.begin before → after ≡ cut_where is_absent range.end mid
    → after ≡ map (blank since) (cut_all parts (ends_of (take (i + 1) ranges)))
cut_more since parts ranges i range before mid after lt read inv is_mid is_after =
    is_after
    ∙ (ap (cut_where is_absent range.end) (is_mid ∙ (ap (cut_where is_absent range.begin) inv
    ∙ blank_cut since range.begin (cut_all parts (ends_of (take i ranges)))))
    ∙ (blank_cut since range.end (flat_map (cut_span range.begin) (cut_all parts (ends_of (take i ranges))))
    ∙ ap (map (blank since))
    (sym (fold-append (λ (ps : List Span) (key : List ℕ). flat_map (cut_span key) ps) parts (ends_of (take i ranges)) (range.begin ∷ (range.end ∷ [])))
    ∙ ap (cut_all parts) (sym (ends_more ranges i range lt read)))))

-- the pieces of an opening, by way of blank ones
pub opened : (since : ℕ) (available assigned : List Span) (one first second all : List Piece) → one ≡ blank since all_keys ∷ []
    → ((s : ℕ) (parts : List Span) → one ≡ map (blank s) parts → first ≡ map (blank s) (cut_all parts (ends_of available)))
    → ((s : ℕ) (parts : List Span) → first ≡ map (blank s) parts → second ≡ map (blank s) (cut_all parts (ends_of assigned)))
    → all ≡ map (opened_piece since available assigned) second
    → all ≡ first_pieces since available assigned
opened since available assigned one first second all is_one is_first is_second is_all =
    is_all
    ∙ (ap (map (opened_piece since available assigned))
    (is_second since (cut_all (all_keys ∷ []) (ends_of available)) (is_first since (all_keys ∷ []) is_one)
    ∙ ap (map (blank since))
    (sym (fold-append (λ (ps : List Span) (key : List ℕ). flat_map (cut_span key) ps) (all_keys ∷ []) (ends_of available) (ends_of assigned))
    ∙ ap (cut_all (all_keys ∷ [])) (sym (flat_map-append (λ (span : Span). span.begin ∷ (span.end ∷ [])) available assigned))))
    ∙ twice (cut_keys (available ++ assigned)))
  where
    twice : (parts : List Span) → map (opened_piece since available assigned) (map (blank since) parts)
        ≡ map (λ span. record { begin = span.begin; end = span.end; phase = first_phase since (holds available span.begin) (holds assigned span.begin) }) parts
    twice [] = refl
    twice (span ∷ parts) = ap (λ l. opened_piece since available assigned (blank since span) ∷ l) (twice parts)

-- a change that is whole or not made at all keeps the partition
pub whole_or_none : {T E : Type 0} (r : Result T E) (old new next : List Piece) → OnOk r (new ≡ next) → OnErr r (new ≡ old)
    → IsPartition next → IsPartition old → IsPartition new
whole_or_none (Ok done) old new next ok err h g = subst IsPartition (sym ok) h
whole_or_none (Err why) old new next ok err h g = subst IsPartition (sym err) g
