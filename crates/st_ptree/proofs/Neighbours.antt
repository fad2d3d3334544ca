-- What a look at a node tells of the first key above a key, and of the last before it.
use Rattle.std.proofs.Common.{◌≡◌, ◌∙◌, ℕ, suc, Bool, true, false, not, cond, List, ◌∷◌, ◌++◌, Option, Some, None, refl, ap, subst}
use Rattle.std.specs.FinMap.Entries.{where_key}
use Rattle.std.specs.List.{filter}
use Rattle.std.specs.Option.{option_or}
use Rattle.st_ptree.specs.Entries.{key_cmp, less, before, first_of, last_of, above}
use Rattle.st_node.specs.Shapes.{Shape, Fork, entries}
use Rattle.st_ptree.specs.Depth.{depth_behind, depth_beside}
use Rattle.st_ptree.specs.Treap.{IsTreap}
use Rattle.st_ptree.proofs.Depths.{depth_left, depth_right}
use Rattle.st_ptree.proofs.Lists.{all_weaker, append_none, first_append, kept_append, kept_none, last_append, or_none}
use Rattle.st_ptree.proofs.Orders.{at_falls, at_rises, before-later, before_falls, behind_rises}

pub not_true : (t : Bool) → not t ≡ true → t ≡ false
not_true true e = absurd cc
not_true false e = refl

not_false : (t : Bool) → not t ≡ false → t ≡ true
not_false true e = refl
not_false false e = absurd cc

module _ {T : Type 0} where
  pub record Nears (key : List ℕ) (whole side : Shape T) (e : Option (List ℕ × (ℕ × T))) : Type 0 where
    pub treap : IsTreap side
    pub first : first_of (above (entries whole) key) ≡ option_or (first_of (above (entries side) key)) e
    pub depth : depth_behind key (entries whole) ≡ suc (depth_behind key (entries side))

  module _ (key : List ℕ) (l : Shape T) (e : List ℕ × (ℕ × T)) (r : Shape T) (treap : IsTreap (Fork l e r)) where
    abbrev is_above : List ℕ × (ℕ × T) → Bool
    is_above f = less key f.0

    nears_left : less key e.0 ≡ true → Nears key (Fork l e r) l (Some e)
    nears_left lt = record {
      treap = treap.0.0;
      first = ap first_of (kept_append is_above (entries l) (e ∷ entries r))
          ∙ ap (λ (t : Bool). first_of (filter is_above (entries l) ++ cond t (e ∷ filter is_above (entries r)) (filter is_above (entries r)))) lt
          ∙ first_append (filter is_above (entries l)) e (filter is_above (entries r));
      depth = depth_left (λ k. not (less key k)) (λ k. less key k) (at_falls key) (behind_rises key) (entries l) e (entries r) treap.1.0 treap.1.1 (ap not lt) lt;
    }

    nears_right : less key e.0 ≡ false → Nears key (Fork l e r) r None
    nears_right ge = record {
      treap = treap.0.1;
      first = ap first_of (kept_append is_above (entries l) (e ∷ entries r))
          ∙ ap (λ (xs : List (List ℕ × (ℕ × T))). first_of (xs ++ filter is_above (e ∷ entries r))) (kept_none is_above (entries l) (all_weaker (λ f is. behind_rises key f.0 e.0 is.0 ge) (entries l) treap.1.0))
          ∙ ap (λ (t : Bool). first_of (cond t (e ∷ filter is_above (entries r)) (filter is_above (entries r)))) ge
          ∙ or_none (first_of (filter is_above (entries r)));
      depth = depth_right (λ k. not (less key k)) (λ k. less key k) (at_falls key) (behind_rises key) (entries l) e (entries r) treap.1.0 treap.1.1 (ap not ge) ge;
    }

  pub goes_left : (key : List ℕ) {whole l : Shape T} {e : List ℕ × (ℕ × T)} {r : Shape T} → whole ≡ Fork l e r → IsTreap whole → less key e.0 ≡ true → Nears key whole l (Some e)
  goes_left key {whole} {l} {e} {r} is treap lt = rw is (nears_left key l e r (subst IsTreap is treap) lt)

  pub goes_right : (key : List ℕ) {whole l : Shape T} {e : List ℕ × (ℕ × T)} {r : Shape T} → whole ≡ Fork l e r → IsTreap whole → less key e.0 ≡ false → Nears key whole r None
  goes_right key {whole} {l} {e} {r} is treap ge = rw is (nears_right key l e r (subst IsTreap is treap) ge)

  pub record NearsFromLeft (key : List ℕ) (or_equal : Bool) (whole side : Shape T) (e : Option (List ℕ × (ℕ × T))) : Type 0 where
    pub treap : IsTreap side
    pub last : last_of (where_key key_cmp (before key or_equal) (entries whole)) ≡ option_or (last_of (where_key key_cmp (before key or_equal) (entries side))) e
    pub depth : depth_beside key or_equal (entries whole) ≡ suc (depth_beside key or_equal (entries side))

  module _ (key : List ℕ) (l : Shape T) (e : List ℕ × (ℕ × T)) (r : Shape T) (treap : IsTreap (Fork l e r)) where
    deeper_right : (or_equal : Bool) → before key or_equal e.0 ≡ true → depth_beside key or_equal (entries (Fork l e r)) ≡ suc (depth_beside key or_equal (entries r))
    deeper_right true is = depth_right (λ k. not (less key k)) (λ k. less key k) (at_falls key) (behind_rises key) (entries l) e (entries r) treap.1.0 treap.1.1 is (not_true (less key e.0) is)
    deeper_right false is = depth_right (λ k. less k key) (λ k. not (less k key)) (before_falls key) (at_rises key) (entries l) e (entries r) treap.1.0 treap.1.1 is (ap not is)

    deeper_left : (or_equal : Bool) → before key or_equal e.0 ≡ false → depth_beside key or_equal (entries (Fork l e r)) ≡ suc (depth_beside key or_equal (entries l))
    deeper_left true is = depth_left (λ k. not (less key k)) (λ k. less key k) (at_falls key) (behind_rises key) (entries l) e (entries r) treap.1.0 treap.1.1 is (not_false (less key e.0) is)
    deeper_left false is = depth_left (λ k. less k key) (λ k. not (less k key)) (before_falls key) (at_rises key) (entries l) e (entries r) treap.1.0 treap.1.1 is (ap not is)

    module _ (or_equal : Bool) where
      abbrev is_first : List ℕ × (ℕ × T) → Bool
      is_first f = before key or_equal f.0

      last_right : before key or_equal e.0 ≡ true → NearsFromLeft key or_equal (Fork l e r) r (Some e)
      last_right is = record {
        treap = treap.0.1;
        last = ap last_of (kept_append is_first (entries l) (e ∷ entries r))
            ∙ ap (λ (t : Bool). last_of (filter is_first (entries l) ++ cond t (e ∷ filter is_first (entries r)) (filter is_first (entries r)))) is
            ∙ last_append (filter is_first (entries l)) e (filter is_first (entries r));
        depth = deeper_right or_equal is;
      }

      last_left : before key or_equal e.0 ≡ false → NearsFromLeft key or_equal (Fork l e r) l None
      last_left is =
          let none = kept_none is_first (entries r) (all_weaker (λ f later. before-later key or_equal e.0 f.0 later.0 is) (entries r) treap.1.1) in
          record {
            treap = treap.0.0;
            last = ap last_of (kept_append is_first (entries l) (e ∷ entries r))
                ∙ ap (λ (t : Bool). last_of (filter is_first (entries l) ++ cond t (e ∷ filter is_first (entries r)) (filter is_first (entries r)))) is
                ∙ ap (λ (xs : List (List ℕ × (ℕ × T))). last_of (filter is_first (entries l) ++ xs)) none
                ∙ ap last_of (append_none (filter is_first (entries l)))
                ∙ or_none (last_of (filter is_first (entries l)));
            depth = deeper_left or_equal is;
          }

  pub goes_on_right : (key : List ℕ) (or_equal : Bool) {whole l : Shape T} {e : List ℕ × (ℕ × T)} {r : Shape T} → whole ≡ Fork l e r → IsTreap whole → before key or_equal e.0 ≡ true → NearsFromLeft key or_equal whole r (Some e)
  goes_on_right key or_equal {whole} {l} {e} {r} is treap first = rw is (last_right key l e r (subst IsTreap is treap) or_equal first)

  pub goes_on_left : (key : List ℕ) (or_equal : Bool) {whole l : Shape T} {e : List ℕ × (ℕ × T)} {r : Shape T} → whole ≡ Fork l e r → IsTreap whole → before key or_equal e.0 ≡ false → NearsFromLeft key or_equal whole l None
  goes_on_left key or_equal {whole} {l} {e} {r} is treap later = rw is (last_left key l e r (subst IsTreap is treap) or_equal later)

  pub first_goes_left : {whole l : Shape T} {e : List ℕ × (ℕ × T)} {r : Shape T} → whole ≡ Fork l e r → first_of (entries whole) ≡ option_or (first_of (entries l)) (Some e)
  first_goes_left {whole} {l} {e} {r} is = ap (λ (s : Shape T). first_of (entries s)) is ∙ first_append (entries l) e (entries r)
