-- What a look at a node tells of a key: on which side it is, and how deep.
use Rattle.std.proofs.Common.{◌≡◌, ◌∙◌, ℕ, suc, Bool, false, not, cond, List, [], ◌∷◌, ◌++◌, Some, None, refl, sym, ap, subst}
use Rattle.std.specs.List.{AllByRecursion}
use Rattle.std.specs.Ordering.{is_eq}
use Rattle.std.specs.declared.cmp.Ordering.TheVariants.{Less, Equal, Greater}
use Rattle.std.proofs.lemmas.Map.Lookups.{exact_bytes}
use Rattle.st_ptree.specs.Entries.{key_cmp, less, same, found}
use Rattle.st_node.specs.Shapes.{Shape, Fork, entries}
use Rattle.st_ptree.specs.Depth.{depth_at}
use Rattle.st_ptree.specs.Treap.{IsTreap}
use Rattle.st_ptree.proofs.Depths.{depth_here, depth_left, depth_right}
use Rattle.st_ptree.proofs.Lists.{all_weaker}
use Rattle.st_ptree.proofs.Orders.{above_is, apart_above, apart_below, at_falls, at_rises, below_is, equal_is, less_asym, less_trans}

module _ {T : Type 0} where
  pub found_behind : (key : List ℕ) (xs ys : List (List ℕ × (ℕ × T))) → AllByRecursion (λ f. same key f.0 ≡ false) xs → found key (xs ++ ys) ≡ found key ys
  found_behind key [] ys none = refl
  found_behind key (x ∷ xs) ys none = rw none.0 (found_behind key xs ys none.1)

  pub found_nowhere : (key : List ℕ) (ys : List (List ℕ × (ℕ × T))) → AllByRecursion (λ f. same key f.0 ≡ false) ys → found key ys ≡ None
  found_nowhere key [] none = refl
  found_nowhere key (y ∷ ys) none = rw none.0 (found_nowhere key ys none.1)

  pub found_before : (key : List ℕ) (xs ys : List (List ℕ × (ℕ × T))) → AllByRecursion (λ f. same key f.0 ≡ false) ys → found key (xs ++ ys) ≡ found key xs
  found_before key [] ys none = found_nowhere key ys none
  found_before key (x ∷ xs) ys none = ap (cond (same key x.0) (Some x.1)) (found_before key xs ys none)

  module _ (key : List ℕ) (l : Shape T) (e : List ℕ × (ℕ × T)) (r : Shape T) (treap : IsTreap (Fork l e r)) where
    pub found_left : key_cmp key e.0 ≡ Less → found key (entries (Fork l e r)) ≡ found key (entries l)
    found_left o =
        let lt = below_is key e.0 o in
        found_before key (entries l) (e ∷ entries r) (apart_below key e.0 lt, all_weaker (λ f is. apart_below key f.0 (less_trans key e.0 f.0 lt is.0)) (entries r) treap.1.1)

    pub found_right : key_cmp key e.0 ≡ Greater → found key (entries (Fork l e r)) ≡ found key (entries r)
    found_right o =
        let lt = above_is key e.0 o in
        found_behind key (entries l) (e ∷ entries r) (all_weaker (λ f is. apart_above key f.0 (less_trans f.0 e.0 key is.0 lt)) (entries l) treap.1.0)
        ∙ ap (λ (t : Bool). cond t (Some e.1) (found key (entries r))) (apart_above key e.0 lt)

    pub found_here : key_cmp key e.0 ≡ Equal → found key (entries (Fork l e r)) ≡ Some e.1
    found_here o =
        let is : key ≡ e.0 = exact_bytes key e.0 o in
        found_behind key (entries l) (e ∷ entries r) (all_weaker (λ f is_before. apart_above key f.0 (rw is is_before.0)) (entries l) treap.1.0)
        ∙ ap (λ (t : Bool). cond t (Some e.1) (found key (entries r))) (ap is_eq o)

    pub depth_at-left : key_cmp key e.0 ≡ Less → depth_at key (entries (Fork l e r)) ≡ suc (depth_at key (entries l))
    depth_at-left o =
        let lt = below_is key e.0 o in
        depth_left (λ k. not (less key k)) (λ k. not (less k key)) (at_falls key) (at_rises key) (entries l) e (entries r) treap.1.0 treap.1.1
        (ap not lt) (ap not (less_asym key e.0 lt))

    pub depth_at-right : key_cmp key e.0 ≡ Greater → depth_at key (entries (Fork l e r)) ≡ suc (depth_at key (entries r))
    depth_at-right o =
        let lt = above_is key e.0 o in
        depth_right (λ k. not (less key k)) (λ k. not (less k key)) (at_falls key) (at_rises key) (entries l) e (entries r) treap.1.0 treap.1.1
        (ap not (less_asym e.0 key lt)) (ap not lt)

    pub depth_at-here : key_cmp key e.0 ≡ Equal → depth_at key (entries (Fork l e r)) ≡ 1
    depth_at-here o =
        let tests = equal_is key e.0 o in
        depth_here (λ k. not (less key k)) (λ k. not (less k key)) (at_falls key) (at_rises key) (entries l) e (entries r) treap.1.0 treap.1.1
        (ap not tests.0) (ap not tests.1)

-- what a step down tells: the side is a treap, has the key where the tree has it, and the key is one less deep there
pub record StepsTo {T : Type 0} (key : List ℕ) (whole side : Shape T) : Type 0 where
  pub treap : IsTreap side
  pub same : found key (entries side) ≡ found key (entries whole)
  pub depth : depth_at key (entries whole) ≡ suc (depth_at key (entries side))

pub record StopsAt {T : Type 0} (key : List ℕ) (whole : Shape T) (e : List ℕ × (ℕ × T)) : Type 0 where
  pub found_is : found key (entries whole) ≡ Some e.1
  pub depth : depth_at key (entries whole) ≡ 1

module _ {T : Type 0} (key : List ℕ) {whole : Shape T} {l : Shape T} {e : List ℕ × (ℕ × T)} {r : Shape T} (is : whole ≡ Fork l e r) (treap : IsTreap whole) where
  whole_treap : IsTreap (Fork l e r)
  whole_treap = subst IsTreap is treap

  pub steps_left : key_cmp key e.0 ≡ Less → StepsTo key whole l
  steps_left o = record {
    treap = whole_treap.0.0;
    same = sym (ap (λ (s : Shape T). found key (entries s)) is ∙ found_left key l e r whole_treap o);
    depth = ap (λ (s : Shape T). depth_at key (entries s)) is ∙ depth_at-left key l e r whole_treap o;
  }

  pub steps_right : key_cmp key e.0 ≡ Greater → StepsTo key whole r
  steps_right o = record {
    treap = whole_treap.0.1;
    same = sym (ap (λ (s : Shape T). found key (entries s)) is ∙ found_right key l e r whole_treap o);
    depth = ap (λ (s : Shape T). depth_at key (entries s)) is ∙ depth_at-right key l e r whole_treap o;
  }

  pub stops_here : key_cmp key e.0 ≡ Equal → StopsAt key whole e
  stops_here o = record {
    found_is = ap (λ (s : Shape T). found key (entries s)) is ∙ found_here key l e r whole_treap o;
    depth = ap (λ (s : Shape T). depth_at key (entries s)) is ∙ depth_at-here key l e r whole_treap o;
  }
