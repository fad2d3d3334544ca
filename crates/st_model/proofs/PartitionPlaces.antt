-- Places of pieces in a partition, and keys that aren't served.
use Rattle.std.proofs.Common.{◌≡◌, ℕ, zero, suc, ◌<◌, ◌≤◌, Bool, true, false, not, ◌&&◌, ◌||◌, List, [], ◌∷◌, ◌++◌, length, take, drop, get_or, refl, sym, ap, subst, ◌∙◌, inl, inr, ◌⊎◌, arith, Option, Some, None}
use Rattle.std.specs.Prelude.{bytes_eq, MatchOption}
use Rattle.std.specs.List.{find, AllWithin}
use Rattle.std.specs.List.Sorted.{IsPartitionedBy}
use Rattle.std.specs.Option.{option_map, option_map_or}
use Rattle.std.proofs.Math.Bool.{cond}
use Rattle.std.proofs.lemmas.Bool.{cases_Bool, cond_both, and_parts, and_from, and_left, and_right, or_from, or_left, not_from_false, not-true, both_ways, false_from_ne_true, true_from_ne_false, cond-true, cond-false}
use Rattle.st_key.specs.Spans.{Span, key_less, within, all_keys}
use Rattle.st_key.specs.Parts.{greatest}
use Rattle.st_key.specs.KeyOrder.{less_irrefl, less_trans, less_asym, le_less_trans, less_le_trans}
use Rattle.st_model.specs.declared.piece.Piece.{Piece}
use Rattle.st_model.specs.declared.piece.Phase.{Phase}
use Rattle.st_model.specs.Pieces.{span_of, is_readable, serves, part, cut, cut_where, piece_from, begins, change_at}
use Rattle.st_model.specs.Partition.{Tiles, IsPartition, IsPlaceOf, piece_at, IsFirstUnserved, AreServed}
use Rattle.st_model.specs.Reply.{first_unreadable}
use Rattle.st_model.proofs.PartitionTiles.{ge_trans, tiles-order, inside, out_above, out_below, changed_there, found_at}
use Rattle.st_model.proofs.PartitionPieces.{begins_apart, apart_there}

none_less : (k : List ℕ) → key_less k [] ≡ false
none_less [] = refl
none_less (x ∷ xs) = refl

-- a later piece ends no sooner
ends_rise : (low high : List ℕ) (pieces : List Piece) (i j : ℕ) (d : Piece) → Tiles span_of low high pieces → i ≤ j → j < length pieces
    → key_less (get_or pieces j d).end (get_or pieces i d).end ≡ false
ends_rise low high [] i j d h le lt = absurd (omega arith)
ends_rise low high (x ∷ xs) zero zero d h le lt = less_irrefl x.end
ends_rise low high (x ∷ xs) zero (suc j) d h le lt =
    less_asym x.end (get_or xs j d).end (ends_above x.end high xs j d h.2 (omega arith))
  where
    ends_above : (low' high' : List ℕ) (ps : List Piece) (k : ℕ) (e : Piece) → Tiles span_of low' high' ps → k < length ps
        → key_less low' (get_or ps k e).end ≡ true
    ends_above low' high' [] k e g lt' = absurd (omega arith)
    ends_above low' high' (y ∷ ys) zero e g lt' = subst (λ b. key_less b y.end ≡ true) g.0 g.1
    ends_above low' high' (y ∷ ys) (suc k) e g lt' =
        less_trans low' y.end (get_or ys k e).end (subst (λ b. key_less b y.end ≡ true) g.0 g.1)
        (ends_above y.end high' ys k e g.2 (omega arith))
ends_rise low high (x ∷ xs) (suc i) zero d h le lt = absurd (omega arith)
ends_rise low high (x ∷ xs) (suc i) (suc j) d h le lt = ends_rise x.end high xs i j d h.2 (omega arith) (omega arith)

pub parted_by_end : (key : List ℕ) (pieces : List Piece) → IsPartition pieces → IsPartitionedBy (λ piece. not (key_less key piece.end)) pieces
parted_by_end key pieces h i j d le lt past =
    not_from_false (key_less key (get_or pieces i d).end)
    (ge_trans key (get_or pieces j d).end (get_or pieces i d).end (not-true (key_less key (get_or pieces j d).end) past)
    (ends_rise all_keys.begin all_keys.end pieces i j d h le lt))

-- every piece ends at ff at most
pub ends_below : (low high : List ℕ) (pieces : List Piece) (i : ℕ) (d : Piece) → Tiles span_of low high pieces → i < length pieces
    → key_less high (get_or pieces i d).end ≡ false
ends_below low high [] i d h lt = absurd (omega arith)
ends_below low high (x ∷ xs) zero d h lt = tiles-order span_of x.end high xs h.2
ends_below low high (x ∷ xs) (suc i) d h lt = ends_below x.end high xs i d h.2 (omega arith)

pub place_found : (pieces : List Piece) (key : List ℕ) (at : ℕ) → IsPartition pieces
    → AllWithin (λ piece. key_less key piece.end ≡ false) pieces 0 at
    → AllWithin (λ piece. key_less key piece.end ≡ true) pieces at (length pieces) → at < length pieces → IsPlaceOf pieces key at
place_found pieces key at h before behind lt =
    let here : (d : Piece) → (at < length pieces) × (within (span_of (get_or pieces at d)) key ≡ true) × (piece_at pieces key ≡ Some (get_or pieces at d)) =
    λ d. found_at span_of all_keys.begin all_keys.end pieces key at d h (none_less key)
    (less_le_trans key (get_or pieces at d).end all_keys.end (behind at d (omega arith) lt)
    (ends_below all_keys.begin all_keys.end pieces at d h lt)) before behind (omega arith) in
    (lt, λ d. ((here d).1, (here d).2))

pub place_in_range : (pieces : List Piece) (key : List ℕ) (at : ℕ) → IsPartition pieces
    → AllWithin (λ piece. key_less key piece.end ≡ false) pieces 0 at
    → AllWithin (λ piece. key_less key piece.end ≡ true) pieces at (length pieces) → at ≤ length pieces
    → key_less key all_keys.end ≡ true → at < length pieces
place_in_range pieces key at h before behind le below =
    (found_at span_of all_keys.begin all_keys.end pieces key at
    (record { begin = []; end = []; phase = Phase.Readable }) h (none_less key) below before behind le).0

pub changed_at_place : (begin : List ℕ) (change : Piece → List Piece) (pieces : List Piece) (at : ℕ) (d : Piece)
    → IsPartition pieces → IsPlaceOf pieces begin at
    → change_at begin change pieces
    ≡ take at pieces ++ (cond (bytes_eq (get_or pieces at d).begin begin) (change (get_or pieces at d)) (get_or pieces at d ∷ []) ++ drop (suc at) pieces)
changed_at_place begin change pieces at d h place =
    changed_there span_of begin (λ piece. cond (bytes_eq piece.begin begin) (change piece) (piece ∷ [])) (apart_there begin change)
    all_keys.begin all_keys.end pieces at d h place.0 (place.1 d).0

-- a key that isn't in a piece doesn't cut it
cut_outside : (place : List ℕ) (piece : Piece) → within (span_of piece) place ≡ false → cut place piece ≡ piece ∷ []
cut_outside place piece out =
    cond-false (key_less piece.begin place && key_less place piece.end)
    (part piece (record { begin = piece.begin; end = place }) ∷ part piece (record { begin = place; end = piece.end }) ∷ []) (piece ∷ [])
    (false_from_ne_true (key_less piece.begin place && key_less place piece.end) (λ e.
    let ends = and_parts (key_less piece.begin place) (key_less place piece.end) e in
    both_ways (within (span_of piece) place) out (inside (span_of piece) place (less_asym piece.begin place ends.0) ends.1)))

cut_apart : (test : Phase → Bool) (place : List ℕ) (piece : Piece) → within (span_of piece) place ≡ false
    → cond (test piece.phase) (cut place piece) (piece ∷ []) ≡ piece ∷ []
cut_apart test place piece out =
    cond_both (test piece.phase) (cut place piece) (piece ∷ []) (λ l. l ≡ piece ∷ [])
    (λ _. cut_outside place piece out) (λ _. refl)

pub cut_at_place : (test : Phase → Bool) (place : List ℕ) (pieces : List Piece) (at : ℕ) (d : Piece)
    → IsPartition pieces → IsPlaceOf pieces place at
    → cut_where test place pieces
    ≡ take at pieces ++ (cond (test (get_or pieces at d).phase) (cut place (get_or pieces at d)) (get_or pieces at d ∷ []) ++ drop (suc at) pieces)
cut_at_place test place pieces at d h held =
    changed_there span_of place (λ piece. cond (test piece.phase) (cut place piece) (piece ∷ []))
    (λ piece _ out. cut_apart test place piece out)
    all_keys.begin all_keys.end pieces at d h held.0 (held.1 d).0

-- a key that no piece has cuts none
pub cut_nowhere : (test : Phase → Bool) (place : List ℕ) (pieces : List Piece)
    → AllWithin (λ piece. key_less place piece.end ≡ false) pieces 0 (length pieces) → cut_where test place pieces ≡ pieces
cut_nowhere test place [] past = refl
cut_nowhere test place (x ∷ xs) past =
    ap (λ l. l ++ cut_where test place xs) (cut_apart test place x (out_above (span_of x) place (past 0 x (omega arith) (omega arith))))
    ∙ ap (λ l. x ∷ l) (cut_nowhere test place xs (λ k d low high. past (suc k) d (omega arith) (omega arith)))

-- the piece that begins at a key is the one that has the key, or none
from_there : (low high begin : List ℕ) (pieces : List Piece) (piece : Piece) → Tiles span_of low high pieces
    → piece_at pieces begin ≡ Some piece → piece_from begin pieces ≡ cond (bytes_eq piece.begin begin) (Some piece) None
from_there low high begin [] piece h found = cc
from_there low high begin (x ∷ xs) piece h found =
    elim (cases_Bool (within (span_of x) begin)) [
      | inl e ↦
          let ends = and_parts (not (key_less begin x.begin)) (key_less begin x.end) e in
          let same : Some x ≡ Some piece = sym (cond-true (within (span_of x) begin) (Some x) (piece_at xs begin) e) ∙ found in
          let one : x ≡ piece = cc in
          ap (λ o. cond (bytes_eq x.begin begin) (Some x) o) (nothing x.end high xs h.2 ends.1)
          ∙ ap (λ p. cond (bytes_eq p.begin begin) (Some p) None) one
      | inr e ↦
          cond-false (bytes_eq x.begin begin) (Some x) (piece_from begin xs) (begins_apart begin x h.1 e)
          ∙ from_there x.end high begin xs piece h.2 (sym (cond-false (within (span_of x) begin) (Some x) (piece_at xs begin) e) ∙ found)
    ]
  where
    nothing : (low' high' : List ℕ) (ps : List Piece) → Tiles span_of low' high' ps → key_less begin low' ≡ true → piece_from begin ps ≡ None
    nothing low' high' [] g below = refl
    nothing low' high' (y ∷ ys) g below =
        let under : key_less begin y.begin ≡ true = subst (λ k. key_less begin k ≡ true) (sym g.0) below in
        cond-false (bytes_eq y.begin begin) (Some y) (piece_from begin ys)
        (begins_apart begin y g.1 (out_below (span_of y) begin under))
        ∙ nothing y.end high' ys g.2 (less_trans begin y.begin y.end under g.1)

pub begins_at_place : (test : Piece → Bool) (begin : List ℕ) (pieces : List Piece) (at : ℕ) (d : Piece) → IsPartition pieces
    → IsPlaceOf pieces begin at
    → begins test begin pieces ≡ (bytes_eq (get_or pieces at d).begin begin && test (get_or pieces at d))
begins_at_place test begin pieces at d h place =
    ap (λ o. option_map_or test o false)
    (from_there all_keys.begin all_keys.end begin pieces (get_or pieces at d) h (place.1 d).1)
    ∙ tested (bytes_eq (get_or pieces at d).begin begin)
  where
    tested : (b : Bool) → option_map_or test (cond b (Some (get_or pieces at d)) None) false ≡ (b && test (get_or pieces at d))
    tested true = refl
    tested false = refl

-- ---- keys that aren't served

abbrev is_bar : Span → Piece → Bool
is_bar span piece = not (is_readable piece.phase) && key_less piece.begin span.end && key_less span.begin piece.end

-- what the first piece that isn't readable says of the keys from low on
abbrev Judges : List Piece → Span → (low high : List ℕ) → Option Piece → Type 0
Judges pieces span low high None =
    (key : List ℕ) → within span key ≡ true → key_less key low ≡ false → key_less key high ≡ true → serves pieces key ≡ true
Judges pieces span low high (Some piece) =
    (within span (greatest piece.begin span.begin) ≡ true) × (key_less (greatest piece.begin span.begin) low ≡ false)
    × (key_less (greatest piece.begin span.begin) high ≡ true) × (serves pieces (greatest piece.begin span.begin) ≡ false)
    × ((key : List ℕ) → within span key ≡ true → key_less key low ≡ false → key_less key (greatest piece.begin span.begin) ≡ true → serves pieces key ≡ true)

none_serves_below : (low high : List ℕ) (pieces : List Piece) (key : List ℕ) → Tiles span_of low high pieces → key_less key low ≡ true
    → serves pieces key ≡ false
none_serves_below low high [] key h below = refl
none_serves_below low high (x ∷ xs) key h below =
    let under : key_less key x.begin ≡ true = subst (λ k. key_less key k ≡ true) (sym h.0) below in
    or_from (is_readable x.phase && within (span_of x) key) (serves xs key)
    (and_right (is_readable x.phase) (within (span_of x) key) (out_below (span_of x) key under))
    (none_serves_below x.end high xs key h.2 (less_trans key x.begin x.end under h.1))

-- the greater of two keys that both pass a bound passes it, and it isn't below either
greatest_both : (a b : List ℕ) (P : List ℕ → Type 0) → P a → P b → P (greatest a b)
greatest_both a b P pa pb = cond_both (key_less a b) b a P (λ _. pb) (λ _. pa)

greatest_low : (a b : List ℕ) → key_less (greatest a b) a ≡ false
greatest_low a b = cond_both (key_less a b) b a (λ k. key_less k a ≡ false) (λ e. less_asym a b e) (λ _. less_irrefl a)

greatest_high : (a b : List ℕ) → key_less (greatest a b) b ≡ false
greatest_high a b = cond_both (key_less a b) b a (λ k. key_less k b ≡ false) (λ _. less_irrefl b) (λ e. e)

-- a key below the greater of two is below one of them
below_one : (a b key : List ℕ) → key_less key (greatest a b) ≡ true → (key_less key a ≡ true) ⊎ (key_less key b ≡ true)
below_one a b key =
    cond_both (key_less a b) b a (λ k. key_less key k ≡ true → (key_less key a ≡ true) ⊎ (key_less key b ≡ true))
    (λ _ e. inr e) (λ _ e. inl e)

judged : (span : Span) → key_less span.begin span.end ≡ true → (low high : List ℕ) (pieces : List Piece) → Tiles span_of low high pieces
    → Judges pieces span low high (find (is_bar span) pieces)
judged span some low high [] h = λ key in_span above below.
    absurd (both_ways (key_less key low) above (subst (λ k. key_less key k ≡ true) (sym h) below))
judged span some low high (x ∷ xs) h =
    elim (cases_Bool (is_bar span x)) [
      | inl e ↦ subst (Judges (x ∷ xs) span low high) (sym (cond-true (is_bar span x) (Some x) (find (is_bar span) xs) e)) (when_bar e)
      | inr e ↦
          subst (Judges (x ∷ xs) span low high) (sym (cond-false (is_bar span x) (Some x) (find (is_bar span) xs) e))
          (when_open e (find (is_bar span) xs) (judged span some x.end high xs h.2))
    ]
  where
    when_bar : is_bar span x ≡ true → Judges (x ∷ xs) span low high (Some x)
    when_bar e =
        let parts = and_parts (not (is_readable x.phase) && key_less x.begin span.end) (key_less span.begin x.end) e in
        let first = and_parts (not (is_readable x.phase)) (key_less x.begin span.end) parts.0 in
        let k = greatest x.begin span.begin in
        let in_piece : key_less k x.end ≡ true = greatest_both x.begin span.begin (λ b. key_less b x.end ≡ true) h.1 parts.1 in (
          inside span k (greatest_high x.begin span.begin) (greatest_both x.begin span.begin (λ b. key_less b span.end ≡ true) first.1 some),
          subst (λ l. key_less k l ≡ false) h.0 (greatest_low x.begin span.begin),
          less_le_trans k x.end high in_piece (tiles-order span_of x.end high xs h.2),
          or_from (is_readable x.phase && within (span_of x) k) (serves xs k)
              (and_left (is_readable x.phase) (within (span_of x) k) (not-true (is_readable x.phase) first.0))
              (none_serves_below x.end high xs k h.2 in_piece),
          λ key in_span above below.
              let ends = and_parts (not (key_less key span.begin)) (key_less key span.end) in_span in
              elim (below_one x.begin span.begin key below) [
                | inl under ↦ absurd (both_ways (key_less key x.begin) (subst (λ l. key_less key l ≡ false) (sym h.0) above) under)
                | inr under ↦ absurd (both_ways (key_less key span.begin) (not-true (key_less key span.begin) ends.0) under)
              ],
        )

    here : is_bar span x ≡ false → (key : List ℕ) → within span key ≡ true → key_less key low ≡ false → key_less key x.end ≡ true
        → serves (x ∷ xs) key ≡ true
    here e key in_span above below =
        let ends = and_parts (not (key_less key span.begin)) (key_less key span.end) in_span in
        let from : key_less key x.begin ≡ false = subst (λ l. key_less key l ≡ false) (sym h.0) above in
        let meets_low : key_less x.begin span.end ≡ true = le_less_trans x.begin key span.end from ends.1 in
        let meets_high : key_less span.begin x.end ≡ true = le_less_trans span.begin key x.end (not-true (key_less key span.begin) ends.0) below in
        let open' : is_readable x.phase ≡ true =
        true_from_ne_false (is_readable x.phase) (λ shut.
        both_ways (is_bar span x) e
        (and_from (not (is_readable x.phase) && key_less x.begin span.end) (key_less span.begin x.end)
        (and_from (not (is_readable x.phase)) (key_less x.begin span.end) (not_from_false (is_readable x.phase) shut) meets_low)
        meets_high)) in
        or_left (is_readable x.phase && within (span_of x) key) (serves xs key)
        (and_from (is_readable x.phase) (within (span_of x) key) open' (inside (span_of x) key from below))

    there : (key : List ℕ) → key_less key x.end ≡ false → serves xs key ≡ serves (x ∷ xs) key
    there key past =
        sym (ap (λ b. b || serves xs key) (and_right (is_readable x.phase) (within (span_of x) key) (out_above (span_of x) key past)))

    when_open : is_bar span x ≡ false → (o : Option Piece) → Judges xs span x.end high o → Judges (x ∷ xs) span low high o
    when_open e None rest = λ key in_span above below.
        elim (cases_Bool (key_less key x.end)) [
          | inl near ↦ here e key in_span above near
          | inr far ↦ sym (there key far) ∙ rest key in_span far below
        ]
    when_open e (Some piece) rest =
        let k = greatest piece.begin span.begin in (
          rest.0,
          ge_trans k x.end low rest.1 (less_asym low x.end (subst (λ b. key_less b x.end ≡ true) h.0 h.1)),
          rest.2,
          sym (there k rest.1) ∙ rest.3,
          λ key in_span above below.
              elim (cases_Bool (key_less key x.end)) [
                | inl near ↦ here e key in_span above near
                | inr far ↦ sym (there key far) ∙ rest.4 key in_span far below
              ],
        )

pub first_unreadable-is : (pieces : List Piece) (span : Span) → IsPartition pieces → key_less span.begin span.end ≡ true
    → key_less all_keys.end span.end ≡ false
    → MatchOption (first_unreadable pieces span) (AreServed pieces span) (IsFirstUnserved pieces span)
first_unreadable-is pieces span h some within_all =
    by (find (is_bar span) pieces) (judged span some all_keys.begin all_keys.end pieces h)
  where
    by : (o : Option Piece) → Judges pieces span all_keys.begin all_keys.end o
        → MatchOption (option_map (λ piece. greatest piece.begin span.begin) o) (AreServed pieces span) (IsFirstUnserved pieces span)
    by None says = λ key in_span.
        let ends = and_parts (not (key_less key span.begin)) (key_less key span.end) in_span in
        says key in_span (none_less key) (less_le_trans key span.end all_keys.end ends.1 within_all)
    by (Some piece) says = record {
      asked = says.0;
      unserved = says.3;
      least = λ other in_span below. says.4 other in_span (none_less other) below;
    }
