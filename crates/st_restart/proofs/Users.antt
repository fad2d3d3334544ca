-- Keys of users.
use Rattle.std.proofs.Common.{◌≡◌, ◌∙◌, ◌&&◌, ◌||◌, not, ℕ, Bool, true, false, nat_le, List, [], ◌∷◌, length, IsTrue, refl, sym, ap}
use Rattle.std.specs.List.{list_all}
use Rattle.std.proofs.lemmas.Bool.{false≢true}
use Rattle.st_key.specs.KeyOrder.{less_connected, less_trans}
use Rattle.st_key.specs.Spans.{Span, all_keys, holds, key_less, within}
use Rattle.st_meta.specs.Stored.{ff, is_range}

pub and_left : (a b : Bool) → (a && b) ≡ true → a ≡ true
and_left true b is = refl
and_left false b is = absurd (false≢true is)

pub and_right : (a b : Bool) → (a && b) ≡ true → b ≡ true
and_right true b is = is
and_right false b is = absurd (false≢true is)

pub not_true : (a : Bool) → not a ≡ true → a ≡ false
not_true true is = absurd (false≢true is)
not_true false is = refl

-- a key below a bound that isn't above ff is a user's
below-ff : (key end : List ℕ) → key_less key end ≡ true → key_less ff end ≡ false → key_less key ff ≡ true
below-ff key end below bound = by_test (key_less key ff) refl
  where
    by_test : (t : Bool) → key_less key ff ≡ t → key_less key ff ≡ true
    by_test true is = is
    by_test false is = by_other (key_less ff key) refl
      where
        by_other : (u : Bool) → key_less ff key ≡ u → key_less key ff ≡ true
        by_other true above = absurd (false≢true (sym bound ∙ less_trans ff key end above below))
        by_other false above = absurd (false≢true (sym bound ∙ ap (λ k. key_less k end) (sym (less_connected key ff is above)) ∙ below))

nothing-below : (key : List ℕ) → key_less key [] ≡ false
nothing-below [] = refl
nothing-below (byte ∷ key) = refl

pub users-key : (key : List ℕ) → key_less key ff ≡ true → within all_keys key ≡ true
users-key key below = ap (λ (t : Bool). not t && key_less key ff) (nothing-below key) ∙ below

-- the keys of ranges that a state may have are users'
pub ranges-users : (spans : List Span) → list_all is_range spans ≡ true → (key : List ℕ) → holds spans key ≡ true → within all_keys key ≡ true
ranges-users [] are key held = absurd (false≢true held)
ranges-users (span ∷ spans) are key held =
    by_test (within span key) refl (ranges-users spans (and_right (is_range span) (list_all is_range spans) are) key)
  where
    range : is_range span ≡ true
    range = and_left (is_range span) (list_all is_range spans) are

    by_test : (t : Bool) → within span key ≡ t → (holds spans key ≡ true → within all_keys key ≡ true) → within all_keys key ≡ true
    by_test true is later =
        users-key key (below-ff key span.end (and_right (not (key_less key span.begin)) (key_less key span.end) is)
        (not_true (key_less ff span.end)
        (and_right (key_less span.begin span.end && nat_le (length span.begin) 10001 && nat_le (length span.end) 10001) (not (key_less ff span.end)) range)))
    by_test false is later = later (sym (ap (λ (t : Bool). t || holds spans key) is) ∙ held)
