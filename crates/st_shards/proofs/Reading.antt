-- The first piece that has keys of a span and isn't served.
use Rattle.std.proofs.Common.{◌≡◌, ℕ, zero, suc, ◌+◌, ◌<◌, ◌≤◌, Bool, true, false, not, ◌&&◌, List, [], ◌∷◌, length, get_or, refl, sym, ap, subst, ◌∙◌, arith, inl, inr, ◌⊎◌, Some, None}
use Rattle.std.specs.List.{AllWithin, find}
use Rattle.std.proofs.lemmas.Bool.{cond-true, cond-false, both_ways, false_from_ne_true, and_left, and_right, and_from, not-true, not-false}
use Rattle.st_key.specs.Spans.{Span, key_less, all_keys}
use Rattle.st_key.specs.KeyOrder.{less_trans}
use Rattle.st_model.specs.declared.piece.Piece.{Piece}
use Rattle.st_model.specs.Partition.{Tiles, IsPartition}
use Rattle.st_model.specs.Pieces.{span_of, is_readable}
use Rattle.st_shards.specs.Unserved.{is_missing}

pub find_at : {X : Type 0} (test : X → Bool) (xs : List X) (i : ℕ) (d : X) → AllWithin (λ x. test x ≡ false) xs 0 i → i < length xs
    → test (get_or xs i d) ≡ true → find test xs ≡ Some (get_or xs i d)
find_at test [] i d none lt h = absurd (omega arith)
find_at test (x ∷ xs) zero d none lt h = cond-true (test x) (Some x) (find test xs) h
find_at test (x ∷ xs) (suc i) d none lt h =
    cond-false (test x) (Some x) (find test xs) (none 0 d (omega arith) (omega arith))
    ∙ find_at test xs i d (λ k e low high. none (suc k) e (omega arith) (omega arith)) (omega arith) h

pub find_none : {X : Type 0} (test : X → Bool) (xs : List X) → AllWithin (λ x. test x ≡ false) xs 0 (length xs) → find test xs ≡ None
find_none test [] none = refl
find_none test (x ∷ xs) none =
    cond-false (test x) (Some x) (find test xs) (none 0 x (omega arith) (omega arith))
    ∙ find_none test xs (λ k e low high. none (suc k) e (omega arith) (omega arith))

not_before : (low high stop : List ℕ) (xs : List Piece) (k : ℕ) (d : Piece) → Tiles span_of low high xs → k < length xs
    → key_less low stop ≡ false → key_less (get_or xs k d).begin stop ≡ false
not_before low high stop [] k d h lt n = absurd (omega arith)
not_before low high stop (x ∷ xs) zero d h lt n = subst (λ b. key_less b stop ≡ false) (sym h.0) n
not_before low high stop (x ∷ xs) (suc k) d h lt n =
    not_before x.end high stop xs k d h.2 (omega arith)
    (false_from_ne_true (key_less x.end stop)
    (λ e. both_ways (key_less low stop) n (subst (λ b. key_less b stop ≡ true) h.0 (less_trans x.begin x.end stop h.1 e))))

-- no piece behind one that begins at a key or above it begins below it
pub later : (low high stop : List ℕ) (xs : List Piece) (i k : ℕ) (d e : Piece) → Tiles span_of low high xs → i ≤ k → k < length xs
    → key_less (get_or xs i d).begin stop ≡ false → key_less (get_or xs k e).begin stop ≡ false
later low high stop [] i k d e h le lt n = absurd (omega arith)
later low high stop (x ∷ xs) zero k d e h le lt n =
    not_before low high stop (x ∷ xs) k e h lt (subst (λ b. key_less b stop ≡ false) h.0 n)
later low high stop (x ∷ xs) (suc i) zero d e h le lt n = absurd (omega arith)
later low high stop (x ∷ xs) (suc i) (suc k) d e h le lt n = later x.end high stop xs i k d e h.2 (omega arith) (omega arith) n

tiles-end : (low high : List ℕ) (xs : List Piece) (i : ℕ) (d : Piece) → Tiles span_of low high xs → i + 1 ≡ length xs
    → (get_or xs i d).end ≡ high
tiles-end low high [] i d h e = absurd (omega (arith, e))
tiles-end low high (x ∷ []) zero d h e = h.2
tiles-end low high (x ∷ []) (suc i) d h e = absurd (omega (arith, e))
tiles-end low high (x ∷ (y ∷ xs)) zero d h e = absurd (omega (arith, e))
tiles-end low high (x ∷ (y ∷ xs)) (suc i) d h e = tiles-end x.end high (y ∷ xs) i d h.2 (omega (arith, e))

pub some_piece : (pieces : List Piece) → IsPartition pieces → 1 ≤ length pieces
some_piece [] h = absurd (omega (arith, ap length h))
some_piece (x ∷ xs) h = omega arith

pub last_end : (pieces : List Piece) (i : ℕ) (d : Piece) → IsPartition pieces → i + 1 ≡ length pieces → (get_or pieces i d).end ≡ all_keys.end
last_end pieces i d h e = tiles-end all_keys.begin all_keys.end pieces i d h e

nat_split : (k at : ℕ) → (k < at) ⊎ (at ≤ k)
nat_split k zero = inr (omega arith)
nat_split zero (suc at) = inl (omega arith)
nat_split (suc k) (suc at) = elim (nat_split k at) [ inl h ↦ inl (omega (arith, h)) | inr h ↦ inr (omega (arith, h)) ]

abbrev pub NoneBefore : Span → List Piece → ℕ → Type 0
NoneBefore span pieces at = AllWithin (λ piece. is_missing span piece ≡ false) pieces 0 at

pub none_behind : (span : Span) (pieces now : List Piece) (at : ℕ) (piece : Piece) → IsPartition pieces → now ≡ pieces
    → piece ≡ get_or now at piece → NoneBefore span pieces at → not (key_less piece.begin span.end) ≡ true
    → find (is_missing span) pieces ≡ None
none_behind span pieces now at piece parts same read none behind =
    let it : piece ≡ get_or pieces at piece = read ∙ ap (λ ps. get_or ps at piece) same in
    let stop : key_less (get_or pieces at piece).begin span.end ≡ false =
    subst (λ (p : Piece). key_less p.begin span.end ≡ false) it (not-true (key_less piece.begin span.end) behind) in
    find_none (is_missing span) pieces
    (λ k d low high.
    elim (nat_split k at) [
      | inl lt ↦ none k d low lt
      | inr le ↦
          and_left (not (is_readable (get_or pieces k d).phase) && key_less (get_or pieces k d).begin span.end)
          (key_less span.begin (get_or pieces k d).end)
          (and_right (not (is_readable (get_or pieces k d).phase)) (key_less (get_or pieces k d).begin span.end)
          (later all_keys.begin all_keys.end span.end pieces at k piece d parts le high stop))
    ])

pub found_at : (span : Span) (pieces now : List Piece) (at : ℕ) (piece : Piece) → now ≡ pieces → piece ≡ get_or now at piece
    → at < length pieces → NoneBefore span pieces at → not (key_less piece.begin span.end) ≡ false → not (is_readable piece.phase) ≡ true
    → key_less span.begin (get_or pieces at piece).end ≡ true → find (is_missing span) pieces ≡ Some piece
found_at span pieces now at piece same read lt none ahead unserved ends =
    let it : piece ≡ get_or pieces at piece = read ∙ ap (λ ps. get_or ps at piece) same in
    find_at (is_missing span) pieces at piece none lt
    (subst (λ (p : Piece). (not (is_readable p.phase) && key_less p.begin span.end && key_less span.begin (get_or pieces at piece).end) ≡ true) it
    (and_from (not (is_readable piece.phase) && key_less piece.begin span.end) (key_less span.begin (get_or pieces at piece).end)
    (and_from (not (is_readable piece.phase)) (key_less piece.begin span.end) unserved (not-false (key_less piece.begin span.end) ahead)) ends))
    ∙ ap Some (sym it)

pub none_at_all : (span : Span) (pieces : List Piece) (at : ℕ) → NoneBefore span pieces at → length pieces ≤ at
    → find (is_missing span) pieces ≡ None
none_at_all span pieces at none le = find_none (is_missing span) pieces (λ k d low high. none k d low (omega (arith, high, le)))
