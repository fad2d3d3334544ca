-- The way down and up again.
use Rattle.std.proofs.Common.{◌≡◌, ◌∙◌, ℕ, List, [], ◌∷◌, ◌++◌, refl, sym, ap, subst}
use Rattle.std.specs.List.{AllByRecursion}
use Rattle.std.specs.declared.cmp.Ordering.TheVariants.{Less, Equal, Greater}
use Rattle.st_node.specs.declared.node.Node.{Node}
use Rattle.st_ptree.specs.Entries.{key_cmp, with_entry}
use Rattle.st_node.specs.Shapes.{Shape, Tip, Fork, shape, entry_of, node_shape, entries}
use Rattle.std.proofs.lemmas.Map.Lookups.{exact_bytes}
use Rattle.st_ptree.specs.Insert.{IsWhole, AreParts}
use Rattle.st_ptree.specs.Ways.{over_node, over, IsOn, along}
use Rattle.st_ptree.specs.Treap.{IsBefore, IsBehind, IsTreap}
use Rattle.st_ptree.specs.declared.way.Side.{Side}
use Rattle.st_ptree.specs.declared.way.Side.TheVariants.{Left, Right}
use Rattle.st_ptree.specs.declared.way.Step.{Step}
use Rattle.st_ptree.proofs.Lists.{all_join, all_split, all_weaker}
use Rattle.st_ptree.proofs.Orders.{above_is, below_is}
use Rattle.st_ptree.proofs.Raising.{with_between, with_here}

module _ {T : Type 0} where
  pub along-append : (path : List (Step T)) (step : Step T) (s : Shape T) → along (path ++ step ∷ []) s ≡ along path (over step s)
  along-append [] step s = refl
  along-append (first ∷ path) step s = ap (over first) (along-append path step s)

  treap_below : (n : Node T) (side : Side) (s : Shape T) → IsTreap (over_node n side s) → IsTreap s
  treap_below n Left s treap = treap.0.0
  treap_below n Right s treap = treap.0.1

  pub treap_along : (path : List (Step T)) (s : Shape T) → IsTreap (along path s) → IsTreap s
  treap_along [] s treap = treap
  treap_along (step ∷ path) s treap = treap_along path s (treap_below step.node.now step.side (along path s) treap)

  pub starts_gap : (new : List ℕ × (ℕ × T)) → AreParts new Tip Tip Tip
  starts_gap new = record { treaps = (tt, tt); list = refl; before = tt; behind = tt }

  pub starts_here : (new : List ℕ × (ℕ × T)) (l : Shape T) (e : List ℕ × (ℕ × T)) (r : Shape T) → IsTreap (Fork l e r) → key_cmp new.0 e.0 ≡ Equal → e.1.0 ≡ new.1.0
      → IsWhole new (Fork l e r) (Fork l new r)
  starts_here new l e r treap o level = record {
    treap = subst (λ (x : List ℕ × (ℕ × T)). IsTreap (Fork l x r)) same_rank treap;
    list = sym (with_here new.0 new.1.0 new.1.1 (entries l) e (entries r) o treap.1.0 ∙ ap (λ (p : ℕ). entries l ++ (new.0, (p, new.1.1)) ∷ entries r) level);
    before = λ f less_f all.
        let parts = all_split (IsBefore f) (entries l) (e ∷ entries r) all in
        all_join (IsBefore f) (entries l) (new ∷ entries r) parts.0 (subst (IsBefore f) same_rank parts.1.0, parts.1.1);
    behind = λ f less_f all.
        let parts = all_split (IsBehind f) (entries l) (e ∷ entries r) all in
        all_join (IsBehind f) (entries l) (new ∷ entries r) parts.0 (subst (IsBehind f) same_rank parts.1.0, parts.1.1);
  }
    where
      same_rank : (e.0, (e.1.0, new.1.1)) ≡ new
      same_rank i = (sym (exact_bytes new.0 e.0 o) i, (level i, new.1.1))

  pub finishes_parts : (new : List ℕ × (ℕ × T)) (old a b : Shape T) → AreParts new old a b → IsTreap (Fork a new b) × (entries (Fork a new b) ≡ with_entry (entries old) new.0 new.1.0 new.1.1)
  finishes_parts new old a b p = (
    (p.treaps, (p.before, p.behind)),
    sym (ap (λ (l : List (List ℕ × (ℕ × T))). with_entry l new.0 new.1.0 new.1.1) p.list
        ∙ with_between new.0 new.1.0 new.1.1 (entries a) (entries b) (all_weaker (λ f is. is.0) (entries a) p.before) (all_weaker (λ f is. is.0) (entries b) p.behind)),
  )

-- a step down: the path is one longer, and leads to a side
module _ {T : Type 0} (key : List ℕ) (path : List (Step T)) (step : Step T) (n : Node T) (at : step.node.now ≡ n) where
  pub leads_left : (whole rest : Shape T) → rest ≡ node_shape n → along path rest ≡ whole → step.side ≡ Left → along (path ++ step ∷ []) (shape n.left) ≡ whole
  leads_left whole rest is leads left =
      along-append path step (shape n.left)
      ∙ ap (λ (d : Side). along path (over_node step.node.now d (shape n.left))) left
      ∙ ap (λ (m : Node T). along path (over_node m Left (shape n.left))) at
      ∙ ap (along path) (sym is)
      ∙ leads

  pub leads_right : (whole rest : Shape T) → rest ≡ node_shape n → along path rest ≡ whole → step.side ≡ Right → along (path ++ step ∷ []) (shape n.right) ≡ whole
  leads_right whole rest is leads right =
      along-append path step (shape n.right)
      ∙ ap (λ (d : Side). along path (over_node step.node.now d (shape n.right))) right
      ∙ ap (λ (m : Node T). along path (over_node m Right (shape n.right))) at
      ∙ ap (along path) (sym is)
      ∙ leads

  pub on_left : AllByRecursion (IsOn key) path → step.side ≡ Left → key_cmp key (entry_of n).0 ≡ Less → AllByRecursion (IsOn key) (path ++ step ∷ [])
  on_left sides left o = all_join (IsOn key) path (step ∷ []) sides (rw (left, at) (below_is key (entry_of n).0 o), tt)

  pub on_right : AllByRecursion (IsOn key) path → step.side ≡ Right → key_cmp key (entry_of n).0 ≡ Greater → AllByRecursion (IsOn key) (path ++ step ∷ [])
  on_right sides right o = all_join (IsOn key) path (step ∷ []) sides (rw (right, at) (above_is key (entry_of n).0 o), tt)

  pub along_left : step.side ≡ Left → (t : Shape T) → along (path ++ step ∷ []) t ≡ along path (over_node n Left t)
  along_left left t = along-append path step t ∙ ap (λ (d : Side). along path (over_node step.node.now d t)) left ∙ ap (λ (m : Node T). along path (over_node m Left t)) at

  pub along_right : step.side ≡ Right → (t : Shape T) → along (path ++ step ∷ []) t ≡ along path (over_node n Right t)
  along_right right t = along-append path step t ∙ ap (λ (d : Side). along path (over_node step.node.now d t)) right ∙ ap (λ (m : Node T). along path (over_node m Right t)) at
