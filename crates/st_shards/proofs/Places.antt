-- What comes in place of one piece.
use Rattle.std.proofs.Common.{◌≡◌, ℕ, zero, suc, ◌<◌, Bool, true, false, not, ◌&&◌, List, [], ◌∷◌, ◌++◌, length, take, drop, get_or, refl, sym, ap, subst, ◌∙◌, arith, inl, inr, Some}
use Rattle.std.specs.Prelude.{bytes_eq, Option, Result, Ok, Err}
use Rattle.std.specs.Result.{IsErrAnd}
use Rattle.std.specs.Option.{option_map}
use Rattle.std.proofs.Math.Bool.{cond}
use Rattle.std.proofs.lemmas.Bool.{cases_Bool, cond_both, cond-true, and_parts, and_from, not-true, not_from_false, both_ways}
use Rattle.std.proofs.lemmas.Slice.Eq.{bytes_eq-Decides}
use Rattle.st_key.specs.Spans.{key_less, all_keys}
use Rattle.st_key.specs.KeyOrder.{less_irrefl, less_asym, less_connected, le_less_trans}
use Rattle.st_model.specs.declared.piece.Phase.{Phase}
use Rattle.st_model.specs.declared.piece.Phase.TheVariants.{Absent, WaitPrevious, Fetching, Waiting, Readable}
use Rattle.st_model.specs.declared.piece.Piece.{Piece}
use Rattle.st_model.specs.Partition.{Tiles, IsPartition, piece_at, phase_at}
use Rattle.st_model.specs.Pieces.{span_of, begins, change_at, start_piece, block_piece, takes_block, stops_at, split_piece, wants_block, in_phase, fetched_to}
use Rattle.st_shards.specs.Begun.{is_begun, AreBegun}
use Rattle.st_shards.specs.declared.refusal.ShardRefusal.{ShardRefusal}
use Rattle.st_shards.specs.Refusals.{RefusesNotDue, Tells}
use Rattle.st_shards.proofs.Begun.{IsBegun, all-get, all-put}

-- the piece that begins at the key is changed, at its place
pub changed_is : (begin : List ℕ) (change : Piece → List Piece) (pieces now new parts : List Piece) (at : ℕ) (piece : Piece) (also : Bool)
    → change_at begin change pieces
    ≡ take at pieces
    ++ (cond (bytes_eq (get_or pieces at piece).begin begin) (change (get_or pieces at piece)) (get_or pieces at piece ∷ [])
    ++ drop (suc at) pieces)
    → piece ≡ get_or now at piece → now ≡ pieces → (bytes_eq piece.begin begin && also) ≡ true → parts ≡ change piece
    → new ≡ take at pieces ++ (parts ++ drop (suc at) pieces) → new ≡ change_at begin change pieces
changed_is begin change pieces now new parts at piece also law read same due is_parts is_new =
    let it : piece ≡ get_or pieces at piece = read ∙ ap (λ ps. get_or ps at piece) same in
    is_new
    ∙ (ap (λ l. take at pieces ++ (l ++ drop (suc at) pieces))
    (is_parts
    ∙ (sym (cond-true (bytes_eq piece.begin begin) (change piece) (piece ∷ []) (and_parts (bytes_eq piece.begin begin) also due).0)
    ∙ ap (λ (p : Piece). cond (bytes_eq p.begin begin) (change p) (p ∷ [])) it))
    ∙ sym law)

-- whether it is due, and the phase there, are those of the piece at the place
pub refusal_is : {A : Type 0} (test : Piece → Bool) (begin : List ℕ) (pieces now : List Piece) (at : ℕ) (piece : Piece) (r : Result A ShardRefusal)
    → begins test begin pieces ≡ (bytes_eq (get_or pieces at piece).begin begin && test (get_or pieces at piece))
    → piece_at pieces begin ≡ Some (get_or pieces at piece)
    → piece ≡ get_or now at piece → now ≡ pieces
    → RefusesNotDue (bytes_eq piece.begin begin && test piece) (Some piece.phase) r
    → RefusesNotDue (begins test begin pieces) (phase_at pieces begin) r
refusal_is test begin pieces now at piece r due held read same h =
    let it : piece ≡ get_or pieces at piece = read ∙ ap (λ ps. get_or ps at piece) same in
    let phase : Some piece.phase ≡ phase_at pieces begin =
    ap (λ (p : Piece). Some p.phase) it ∙ sym (ap (option_map (λ (p : Piece). p.phase)) held) in
    let is_due : (bytes_eq piece.begin begin && test piece) ≡ begins test begin pieces =
    ap (λ (p : Piece). bytes_eq p.begin begin && test p) it ∙ sym due in
    subst (λ b. RefusesNotDue b (phase_at pieces begin) r) is_due
    (subst (λ o. RefusesNotDue (bytes_eq piece.begin begin && test piece) o r) phase h)

-- ---- parts in place of one piece keep the partition

tiles-append : (low mid high : List ℕ) (xs ys : List Piece)
    → Tiles span_of low mid xs → Tiles span_of mid high ys → Tiles span_of low high (xs ++ ys)
tiles-append low mid high [] ys h g = subst (λ k. Tiles span_of k high ys) (sym h) g
tiles-append low mid high (x ∷ xs) ys h g = (h.0, h.1, tiles-append x.end mid high xs ys h.2 g)

tiles-put : (low high : List ℕ) (xs parts : List Piece) (i : ℕ) (d : Piece) → Tiles span_of low high xs → i < length xs
    → Tiles span_of (get_or xs i d).begin (get_or xs i d).end parts → Tiles span_of low high (take i xs ++ (parts ++ drop (suc i) xs))
tiles-put low high [] parts i d h lt g = absurd (omega arith)
tiles-put low high (x ∷ xs) parts zero d h lt g =
    subst (λ k. Tiles span_of k high (parts ++ xs)) h.0 (tiles-append x.begin x.end high parts xs g h.2)
tiles-put low high (x ∷ xs) parts (suc i) d h lt g = (h.0, h.1, tiles-put x.end high xs parts i d h.2 (omega arith) g)

tiles-get : (low high : List ℕ) (xs : List Piece) (i : ℕ) (d : Piece) → Tiles span_of low high xs → i < length xs
    → key_less (get_or xs i d).begin (get_or xs i d).end ≡ true
tiles-get low high [] i d h lt = absurd (omega arith)
tiles-get low high (x ∷ xs) zero d h lt = h.1
tiles-get low high (x ∷ xs) (suc i) d h lt = tiles-get x.end high xs i d h.2 (omega arith)

-- parts that lie in the span of one piece, each begun
abbrev pub Fill : Piece → List Piece → Type 0
Fill piece parts = Tiles span_of piece.begin piece.end parts × AreBegun parts

pub put_keeps : (pieces now new parts : List Piece) (at : ℕ) (piece : Piece) → IsPartition pieces × AreBegun pieces → at < length pieces
    → piece ≡ get_or now at piece → now ≡ pieces
    → (key_less piece.begin piece.end ≡ true → IsBegun piece → Fill piece parts)
    → new ≡ take at pieces ++ (parts ++ drop (suc at) pieces) → IsPartition new × AreBegun new
put_keeps pieces now new parts at piece whole lt read same fill is_new =
    let it : get_or pieces at piece ≡ piece = sym (read ∙ ap (λ ps. get_or ps at piece) same) in
    let filled : Fill piece parts =
    fill (subst (λ (p : Piece). key_less p.begin p.end ≡ true) it (tiles-get all_keys.begin all_keys.end pieces at piece whole.0 lt))
    (subst IsBegun it (all-get IsBegun pieces at piece whole.1 lt)) in
    subst (λ ps. IsPartition ps × AreBegun ps) (sym is_new) (
      tiles-put all_keys.begin all_keys.end pieces parts at piece whole.0 lt
          (subst (λ (p : Piece). Tiles span_of p.begin p.end parts) (sym it) filled.0),
      all-put IsBegun pieces parts at whole.1 filled.1,
    )

pub fill-start : (at : ℕ) (piece : Piece) (parts : List Piece) → parts ≡ start_piece at piece ∷ []
    → key_less piece.begin piece.end ≡ true → IsBegun piece → Fill piece parts
fill-start at piece parts e lt b =
    subst (Fill piece) (sym e) ((refl, lt, refl), (not_from_false (key_less piece.begin piece.begin) (less_irrefl piece.begin), tt))

begun-ahead : (key begin end : List ℕ) (phase : Phase)
    → takes_block key (record { begin = begin; end = end; phase = phase }) ≡ true → is_begun begin phase ≡ true
    → is_begun begin (fetched_to key phase) ≡ true
begun-ahead key begin end (Fetching at upto taken in_base) h b =
    let ahead : key_less upto key ≡ true = (and_parts (key_less upto key) (not (key_less end key)) h).0 in
    let low : key_less upto begin ≡ false = not-true (key_less upto begin) b in
    not_from_false (key_less key begin) (less_asym begin key (le_less_trans begin upto key low ahead))
begun-ahead key begin end (Absent since) h b = refl
begun-ahead key begin end (WaitPrevious since) h b = refl
begun-ahead key begin end (Waiting transferred) h b = refl
begun-ahead key begin end Readable h b = refl

pub fill-block : (key begin : List ℕ) (piece : Piece) (parts : List Piece) → parts ≡ block_piece key piece ∷ []
    → (bytes_eq piece.begin begin && takes_block key piece) ≡ true
    → key_less piece.begin piece.end ≡ true → IsBegun piece → Fill piece parts
fill-block key begin piece parts e due lt b =
    subst (Fill piece) (sym e)
    ((refl, lt, refl), (begun-ahead key piece.begin piece.end piece.phase (and_parts (bytes_eq piece.begin begin) (takes_block key piece) due).1 b, tt))

-- ---- the parts of a split

-- the piece is fetched up to a key inside it
inside_of : (key begin end : List ℕ) (phase : Phase)
    → stops_at key (record { begin = begin; end = end; phase = phase }) ≡ true → is_begun begin phase ≡ true
    → (key_less key begin ≡ false) × (key_less key end ≡ true)
inside_of key begin end (Fetching at upto taken in_base) h b =
    let both = and_parts (bytes_eq upto key) (key_less upto end) h in
    let same : upto ≡ key = (bytes_eq-Decides upto key).0 both.0 in (
      subst (λ k. key_less k begin ≡ false) same (not-true (key_less upto begin) b),
      subst (λ k. key_less k end ≡ true) same both.1,
    )
inside_of key begin end (Absent since) h b = absurd (both_ways false refl h)
inside_of key begin end (WaitPrevious since) h b = absurd (both_ways false refl h)
inside_of key begin end (Waiting transferred) h b = absurd (both_ways false refl h)
inside_of key begin end Readable h b = absurd (both_ways false refl h)

pub fill-split : (durable : ℕ) (key : List ℕ) (piece : Piece) (parts : List Piece) → parts ≡ split_piece durable key piece
    → stops_at key piece ≡ true → key_less piece.begin piece.end ≡ true → IsBegun piece → Fill piece parts
fill-split durable key piece parts e stops lt b =
    let in_it = inside_of key piece.begin piece.end piece.phase stops b in
    subst (Fill piece) (sym e)
    (cond_both (bytes_eq key piece.begin) (in_phase (WaitPrevious durable) piece ∷ [])
    (record { begin = piece.begin; end = key; phase = piece.phase } ∷ (record { begin = key; end = piece.end; phase = WaitPrevious durable } ∷ []))
    (Fill piece)
    (λ _. ((refl, lt, refl), (refl, tt)))
    (λ other. ((refl, above key piece.begin other in_it.0, (refl, in_it.1, refl)), (b, (refl, tt)))))
  where
    above : (k begin : List ℕ) → bytes_eq k begin ≡ false → key_less k begin ≡ false → key_less begin k ≡ true
    above k begin other low =
        elim (cases_Bool (key_less begin k)) [
          | inl e ↦ e
          | inr e ↦ absurd (both_ways (bytes_eq k begin) other ((bytes_eq-Decides k begin).1 (less_connected k begin low e)))
        ]

-- the piece at the place is the one that is split
pub split_due : (begin key : List ℕ) (pieces now : List Piece) (at : ℕ) (piece : Piece)
    → begins (stops_at key) begin pieces ≡ (bytes_eq (get_or pieces at piece).begin begin && stops_at key (get_or pieces at piece))
    → piece ≡ get_or now at piece → now ≡ pieces → (bytes_eq piece.begin begin && wants_block piece) ≡ true
    → stops_at key piece ≡ true → begins (stops_at key) begin pieces ≡ true
split_due begin key pieces now at piece law read same due stops =
    let it : piece ≡ get_or pieces at piece = read ∙ ap (λ ps. get_or ps at piece) same in
    law
    ∙ (ap (λ (p : Piece). bytes_eq p.begin begin && stops_at key p) (sym it)
    ∙ and_from (bytes_eq piece.begin begin) (stops_at key piece) (and_parts (bytes_eq piece.begin begin) (wants_block piece) due).0 stops)

-- the refusal that is handed on
pub handed_on : {A : Type 0} (due : Bool) (phase : Option Phase) (why : ShardRefusal) (r : Result A ShardRefusal)
    → IsErrAnd r (λ told. told ≡ why) → Tells due phase why → RefusesNotDue due phase r
handed_on due phase why (Ok done) h t = absurd h
handed_on due phase why (Err told) h t = subst (Tells due phase) (sym h) t
