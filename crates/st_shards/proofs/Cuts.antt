-- A list with one item cut in two, and with the cut taken back.
use Rattle.std.proofs.Common.{◌≡◌, ℕ, zero, suc, ◌+◌, ◌<◌, Bool, true, false, not, ◌&&◌, List, [], ◌∷◌, ◌++◌, map, length, take, drop, get_or, refl, sym, ap, subst, ◌∙◌, arith, add-one, inl, inr}
use Rattle.std.specs.List.{insert, remove}
use Rattle.std.proofs.Math.ListN.{set}
use Rattle.std.proofs.Math.Bool.{cond}
use Rattle.std.proofs.lemmas.Bool.{cond_both, cond-true, cond-false, and_from, and_left, and_parts, and_cases, both_ways, not-true, not-false}
use Rattle.std.proofs.lemmas.List.{length-set}
use Rattle.std.proofs.lemmas.List.Edits.{map_over_more, get_or-insert_below}
use Rattle.std.specs.List.{AllWithin}
use Rattle.std.specs.List.Sorted.{IsPartitionPoint}
use Rattle.st_key.specs.Spans.{key_less, within}
use Rattle.st_model.specs.declared.piece.Phase.{Phase}
use Rattle.st_model.specs.declared.piece.Piece.{Piece}
use Rattle.st_model.specs.Pieces.{span_of, part, cut, cut_where}

pub set_parts : {X : Type 0} (xs : List X) (i : ℕ) (x : X) → i < length xs → set xs i x ≡ take i xs ++ (x ∷ drop (suc i) xs)
set_parts [] i x lt = absurd (omega arith)
set_parts (y ∷ xs) zero x lt = refl
set_parts (y ∷ xs) (suc i) x lt = ap (λ l. y ∷ l) (set_parts xs i x (omega arith))

pub parts_of : {X : Type 0} (xs : List X) (i : ℕ) (d : X) → i < length xs → xs ≡ take i xs ++ (get_or xs i d ∷ drop (suc i) xs)
parts_of [] i d lt = absurd (omega arith)
parts_of (y ∷ xs) zero d lt = refl
parts_of (y ∷ xs) (suc i) d lt = ap (λ l. y ∷ l) (parts_of xs i d (omega arith))

two_parts : {X : Type 0} (xs : List X) (i : ℕ) (l r : X) → i < length xs
    → set (insert xs (suc i) r) i l ≡ take i xs ++ (l ∷ (r ∷ drop (suc i) xs))
two_parts [] i l r lt = absurd (omega arith)
two_parts (y ∷ xs) zero l r lt = refl
two_parts (y ∷ xs) (suc i) l r lt = ap (λ k. y ∷ k) (two_parts xs i l r (omega arith))

pub cut_parts : {X : Type 0} (xs : List X) (i : ℕ) (l r : X) → i < length xs
    → set (insert xs (i + 1) r) i l ≡ take i xs ++ (l ∷ (r ∷ drop (suc i) xs))
cut_parts xs i l r lt = ap (λ n. set (insert xs n r) i l) (add-one i) ∙ two_parts xs i l r lt

taken_back : {X : Type 0} (xs : List X) (i : ℕ) (l r d : X) → i < length xs
    → set (remove (set (insert xs (suc i) r) i l) (suc i)) i (get_or xs i d) ≡ xs
taken_back [] i l r d lt = absurd (omega arith)
taken_back (y ∷ xs) zero l r d lt = refl
taken_back (y ∷ xs) (suc i) l r d lt = ap (λ k. y ∷ k) (taken_back xs i l r d (omega arith))

pub cut_back : {X : Type 0} (xs : List X) (i : ℕ) (l r d : X) → i < length xs
    → set (remove (set (insert xs (i + 1) r) i l) (i + 1)) i (get_or xs i d) ≡ xs
cut_back xs i l r d lt = ap (λ n. set (remove (set (insert xs n r) i l) n) i (get_or xs i d)) (add-one i) ∙ taken_back xs i l r d lt

longer : {X : Type 0} (xs : List X) (i : ℕ) (l r : X) → i < length xs → suc i < length (set (insert xs (suc i) r) i l)
longer [] i l r lt = absurd (omega arith)
longer (y ∷ xs) zero l r lt = omega arith
longer (y ∷ xs) (suc i) l r lt = let rest = longer xs i l r (omega arith) in omega arith

pub cut_longer : {X : Type 0} (xs : List X) (i : ℕ) (l r : X) → i < length xs → i + 1 < length (set (insert xs (i + 1) r) i l)
cut_longer xs i l r lt = subst (λ n. n < length (set (insert xs n r) i l)) (sym (add-one i)) (longer xs i l r lt)

-- what a cut of one piece leaves
abbrev pub parts_by : (Phase → Bool) → List ℕ → Piece → List Piece
parts_by test place p = cond (test p.phase) (cut place p) (p ∷ [])

one_by : (test : Phase → Bool) (place : List ℕ) (p : Piece) → (key_less p.begin place && test p.phase) ≡ false → parts_by test place p ≡ p ∷ []
one_by test place p why =
    cond_both (test p.phase) (cut place p) (p ∷ []) (λ l. l ≡ p ∷ [])
    (λ passes.
    cond-false (key_less p.begin place && key_less place p.end)
    (part p (record { begin = p.begin; end = place }) ∷ (part p (record { begin = place; end = p.end }) ∷ [])) (p ∷ [])
    (and_left (key_less p.begin place) (key_less place p.end) (low passes)))
    (λ _. refl)
  where
    low : test p.phase ≡ true → key_less p.begin place ≡ false
    low passes =
        elim (and_cases (key_less p.begin place) (test p.phase) why) [
          | inl e ↦ e
          | inr e ↦ absurd (both_ways (test p.phase) e passes)
        ]

-- the pieces as they are, where the piece that has the place isn't cut
pub uncut_is : (test : Phase → Bool) (place : List ℕ) (pieces : List Piece) (at : ℕ) (p : Piece)
    → cut_where test place pieces ≡ take at pieces ++ (parts_by test place (get_or pieces at p) ++ drop (suc at) pieces)
    → at < length pieces → p ≡ get_or pieces at p → (key_less p.begin place && test p.phase) ≡ false
    → pieces ≡ cut_where test place pieces
uncut_is test place pieces at p law lt read why =
    parts_of pieces at p lt
    ∙ (ap (λ x. take at pieces ++ (x ∷ drop (suc at) pieces)) (sym read)
    ∙ (ap (λ l. take at pieces ++ (l ++ drop (suc at) pieces)) (sym (one_by test place p why) ∙ ap (parts_by test place) read)
    ∙ sym law))

two_by : (test : Phase → Bool) (place : List ℕ) (p left right : Piece) → (key_less p.begin place && test p.phase) ≡ true
    → key_less place p.end ≡ true
    → left ≡ part p (record { begin = p.begin; end = place }) → right ≡ part p (record { begin = place; end = p.end })
    → parts_by test place p ≡ left ∷ (right ∷ [])
two_by test place p left right why high is_left is_right =
    let both = and_parts (key_less p.begin place) (test p.phase) why in
    cond-true (test p.phase) (cut place p) (p ∷ []) both.1
    ∙ (cond-true (key_less p.begin place && key_less place p.end)
    (part p (record { begin = p.begin; end = place }) ∷ (part p (record { begin = place; end = p.end }) ∷ [])) (p ∷ [])
    (and_from (key_less p.begin place) (key_less place p.end) both.0 high)
    ∙ (ap (λ x. x ∷ (part p (record { begin = place; end = p.end }) ∷ [])) (sym is_left)
    ∙ ap (λ x. left ∷ (x ∷ [])) (sym is_right)))

-- the two parts in place of the piece, where the place cuts it
pub cut_is : (test : Phase → Bool) (place : List ℕ) (pieces : List Piece) (at : ℕ) (p left right : Piece)
    → cut_where test place pieces ≡ take at pieces ++ (parts_by test place (get_or pieces at p) ++ drop (suc at) pieces)
    → at < length pieces → p ≡ get_or pieces at p → (key_less p.begin place && test p.phase) ≡ true → within (span_of (get_or pieces at p)) place ≡ true
    → left ≡ part p (record { begin = p.begin; end = place }) → right ≡ part p (record { begin = place; end = p.end })
    → set (insert pieces (at + 1) right) at left ≡ cut_where test place pieces
cut_is test place pieces at p left right law lt read why held is_left is_right =
    let ends = and_parts (not (key_less place (get_or pieces at p).begin)) (key_less place (get_or pieces at p).end) held in
    let high : key_less place p.end ≡ true = subst (λ (q : Piece). key_less place q.end ≡ true) (sym read) ends.1 in
    cut_parts pieces at left right lt
    ∙ (ap (λ l. take at pieces ++ (l ++ drop (suc at) pieces))
    (sym (two_by test place p left right why high is_left is_right) ∙ ap (parts_by test place) read)
    ∙ sym law)

-- ---- one item changed

set_read : {X : Type 0} (xs : List X) (i : ℕ) (d : X) → set xs i (get_or xs i d) ≡ xs
set_read [] i d = refl
set_read (x ∷ xs) zero d = refl
set_read (x ∷ xs) (suc i) d = ap (λ l. x ∷ l) (set_read xs i d)

-- an item that its change leaves as it is
pub set_unchanged : {X : Type 0} (f : X → X) (xs : List X) (i : ℕ) (d : X) → f (get_or xs i d) ≡ get_or xs i d → xs ≡ set xs i (f (get_or xs i d))
set_unchanged f xs i d e = sym (ap (set xs i) e ∙ set_read xs i d)

default_same : {X : Type 0} (xs : List X) (i : ℕ) (d e : X) → i < length xs → get_or xs i d ≡ get_or xs i e
default_same [] i d e lt = absurd (omega arith)
default_same (x ∷ xs) zero d e lt = refl
default_same (x ∷ xs) (suc i) d e lt = default_same xs i d e (omega arith)

pub read_any : {X : Type 0} (xs : List X) (i : ℕ) (x d : X) → i < length xs → x ≡ get_or xs i x → x ≡ get_or xs i d
read_any xs i x d lt read = read ∙ default_same xs i x d lt

-- one more item of a list that is changed item by item
pub map_one_more : {X : Type 0} (f : X → X) (xs ys zs : List X) (i : ℕ) (d : X) → i < length xs → ys ≡ map f (take i xs) ++ drop i xs
    → length ys ≡ length xs → zs ≡ set ys i (f (get_or ys i d))
    → (zs ≡ map f (take (i + 1) xs) ++ drop (i + 1) xs) × (length zs ≡ length xs)
map_one_more f xs ys zs i d lt inv same is = (
  is ∙ map_over_more f xs ys i (get_or ys i d) lt inv (default_same ys i d (get_or ys i d) (omega arith)),
  ap length is ∙ (length-set ys i (f (get_or ys i d)) ∙ same),
)

-- a cut is taken back by its right part going, and the whole coming in place of the left one
pub undo_is : (pieces mid new : List Piece) (at : ℕ) (left right whole : Piece) → at < length pieces
    → mid ≡ insert pieces (at + 1) right → new ≡ set mid at left → whole ≡ get_or mid at whole
    → (at + 1 ≡ at + 1) × (at + 1 < length new) × (set (remove new (at + 1)) at whole ≡ pieces)
undo_is pieces mid new at left right whole lt is_mid is_new handed =
    let e : new ≡ set (insert pieces (at + 1) right) at left = is_new ∙ ap (λ ps. set ps at left) is_mid in
    let it : whole ≡ get_or pieces at whole =
    handed ∙ (ap (λ ps. get_or ps at whole) is_mid
    ∙ get_or-insert_below pieces (at + 1) right whole at (omega arith) (omega arith)) in (
      refl,
      subst (λ ps. at + 1 < length ps) (sym e) (cut_longer pieces at left right lt),
      ap (λ w. set (remove new (at + 1)) at w) it
          ∙ (ap (λ ps. set (remove ps (at + 1)) at (get_or pieces at whole)) e ∙ cut_back pieces at left right whole lt),
    )

-- what halving finds, of the pieces as callers see them
pub place_facts : (seen now : List Piece) (key : List ℕ) (at : ℕ) → now ≡ seen
    → IsPartitionPoint (λ (y : Piece). not (key_less key y.end) ≡ true) (λ y. not (key_less key y.end) ≡ false) now at
    → AllWithin (λ (piece : Piece). key_less key piece.end ≡ false) seen 0 at
    × AllWithin (λ (piece : Piece). key_less key piece.end ≡ true) seen at (length seen)
place_facts seen now key at e point =
    let moved' : IsPartitionPoint (λ (y : Piece). not (key_less key y.end) ≡ true) (λ y. not (key_less key y.end) ≡ false) seen at =
    subst (λ ps. IsPartitionPoint (λ (y : Piece). not (key_less key y.end) ≡ true) (λ y. not (key_less key y.end) ≡ false) ps at) e point in (
      λ k d low high. not-true (key_less key (get_or seen k d).end) (moved'.0 k d low high),
      λ k d low high. not-false (key_less key (get_or seen k d).end) (moved'.1 k d low high),
    )
