-- The keys of a treap rise.
use Rattle.std.proofs.Common.{◌≡◌, ℕ, Bool, true, false, ◌&&◌, List, [], ◌∷◌, ◌++◌, refl}
use Rattle.std.specs.Prelude.{IsTrue}
use Rattle.std.specs.List.{AllByRecursion}
use Rattle.std.specs.FinMap.Entries as entries
use Rattle.st_ptree.specs.Entries.{key_cmp, less, is_ordered}
use Rattle.st_node.specs.Shapes.{Shape, Tip, Fork, entries as listed}
use Rattle.st_ptree.specs.Treap.{IsTreap}
use Rattle.st_ptree.proofs.Lists.{all_join, all_weaker}
use Rattle.st_ptree.proofs.Orders.{less_trans}

pub both_true : (a b : Bool) → (a && b) ≡ true → (a ≡ true) × (b ≡ true)
both_true true b e = (refl, e)
both_true false b e = absurd cc

module _ {T : Type 0} where
  pub below_all_is : (key : List ℕ) (es : List (List ℕ × (ℕ × T))) → AllByRecursion (λ f. less key f.0 ≡ true) es → entries.below_all key_cmp key es ≡ true
  below_all_is key [] all = refl
  below_all_is key (e ∷ es) all = rw (all.0, below_all_is key es all.1) refl

  pub all_below_is : (key : List ℕ) (es : List (List ℕ × (ℕ × T))) → entries.below_all key_cmp key es ≡ true → AllByRecursion (λ f. less key f.0 ≡ true) es
  all_below_is key [] is = tt
  all_below_is key (e ∷ es) is =
      let parts = both_true (less key e.0) (entries.below_all key_cmp key es) is in
      (parts.0, all_below_is key es parts.1)

  ordered_join : (l : List (List ℕ × (ℕ × T))) (e : List ℕ × (ℕ × T)) (r : List (List ℕ × (ℕ × T)))
      → is_ordered l ≡ true → is_ordered r ≡ true → AllByRecursion (λ f. less f.0 e.0 ≡ true) l → AllByRecursion (λ f. less e.0 f.0 ≡ true) r
      → is_ordered (l ++ e ∷ r) ≡ true
  ordered_join [] e r left right before behind = rw (below_all_is e.0 r behind, right) refl
  ordered_join (x ∷ l) e r left right before behind =
      let parts = both_true (entries.below_all key_cmp x.0 l) (is_ordered l) left in
      let all = all_join (λ f. less x.0 f.0 ≡ true) l (e ∷ r) (all_below_is x.0 l parts.0) (before.0, all_weaker (λ f is. less_trans x.0 e.0 f.0 before.0 is) r behind) in
      rw (below_all_is x.0 (l ++ e ∷ r) all, ordered_join l e r parts.1 right before.1 behind) refl

  rises : (s : Shape T) → IsTreap s → is_ordered (listed s) ≡ true
  rises Tip treap = refl
  rises (Fork l e r) treap =
      ordered_join (listed l) e (listed r) (rises l treap.0.0) (rises r treap.0.1) (all_weaker (λ f is. is.0) (listed l) treap.1.0) (all_weaker (λ f is. is.0) (listed r) treap.1.1)

  pub ordered : (s : Shape T) → IsTreap s → IsTrue (is_ordered (listed s))
  ordered s treap = rises s treap
