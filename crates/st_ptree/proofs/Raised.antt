-- The cases of a step up.
use Rattle.std.proofs.Common.{◌≡◌, ℕ, true, List, subst, arith, ◌<◌, ◌≤◌}
use Rattle.st_node.specs.declared.node.Node.{Node}
use Rattle.st_node.specs.declared.node.Tree.{Tree}
use Rattle.st_node.specs.Shapes.{Shape, Fork, shape, entry_of}
use Rattle.st_ptree.specs.Entries.{less}
use Rattle.st_ptree.specs.Depth.{outranks}
use Rattle.st_ptree.specs.Insert.{IsWhole, AreParts, StandsFor}
use Rattle.st_ptree.specs.Ways.{over_node, IsOnSide}
use Rattle.st_ptree.specs.Treap.{IsTreap}
use Rattle.st_ptree.specs.declared.way.Side.{Side}
use Rattle.st_ptree.specs.declared.way.Side.TheVariants.{Left, Right}
use Rattle.st_ptree.specs.declared.insert.Below.{Below}
use Rattle.st_ptree.specs.declared.insert.Below.TheVariants.{Whole, Parts}
use Rattle.st_ptree.proofs.Orders.{below_is, less_asym}
use Rattle.st_ptree.proofs.Raising.{made_left, made_right, parts_left, parts_right, whole_left, whole_right}

module _ {T : Type 0} where
  pub outranks_above : (e f : List ℕ × (ℕ × T)) → f.1.0 < e.1.0 → outranks e f ≡ true
  outranks_above e f lt = grind (arith, lt)

  pub outranks_level : (e f : List ℕ × (ℕ × T)) → f.1.0 ≤ e.1.0 → less e.0 f.0 ≡ true → outranks e f ≡ true
  outranks_level e f le lt = let back = less_asym e.0 f.0 lt in grind (arith, le, back)

module _ {T : Type 0} (new : List ℕ × (ℕ × T)) (n : Node T) (old : Shape T) where
  pub whole_left_of : {side : Side} {below : Below T} {tree : Tree T} {out : Shape T} → side ≡ Left → below ≡ Whole tree → out ≡ Fork (shape tree) (entry_of n) (shape n.right)
      → IsOnSide new.0 n side → IsTreap (over_node n side old) → StandsFor new old below → IsWhole new (over_node n side old) out
  whole_left_of {side} {below} {tree} {out} side_is below_is out_is on treap stands =
      rw (side_is, out_is) (whole_left new old (entry_of n) (shape n.right) (subst (λ (d : Side). IsTreap (over_node n d old)) side_is treap)
      (subst (IsOnSide new.0 n) side_is on) (shape tree) (subst (StandsFor new old) below_is stands))

  pub whole_right_of : {side : Side} {below : Below T} {tree : Tree T} {out : Shape T} → side ≡ Right → below ≡ Whole tree → out ≡ Fork (shape n.left) (entry_of n) (shape tree)
      → IsOnSide new.0 n side → IsTreap (over_node n side old) → StandsFor new old below → IsWhole new (over_node n side old) out
  whole_right_of {side} {below} {tree} {out} side_is below_is out_is on treap stands =
      rw (side_is, out_is) (whole_right new old (entry_of n) (shape n.left) (subst (λ (d : Side). IsTreap (over_node n d old)) side_is treap)
      (subst (IsOnSide new.0 n) side_is on) (shape tree) (subst (StandsFor new old) below_is stands))

  pub parts_left_of : {side : Side} {below : Below T} {a b : Tree T} {out : Shape T} → side ≡ Left → below ≡ Parts a b → out ≡ Fork (shape b) (entry_of n) (shape n.right)
      → n.prio ≤ new.1.0
      → IsOnSide new.0 n side → IsTreap (over_node n side old) → StandsFor new old below → AreParts new (over_node n side old) (shape a) out
  parts_left_of {side} {below} {a} {b} {out} side_is below_is out_is rank on treap stands =
      let lt = subst (IsOnSide new.0 n) side_is on in
      rw (side_is, out_is) (parts_left new old (entry_of n) (shape n.right) (subst (λ (d : Side). IsTreap (over_node n d old)) side_is treap)
      lt (shape a) (shape b) (subst (StandsFor new old) below_is stands) (outranks_level new (entry_of n) rank lt))

  pub parts_right_of : {side : Side} {below : Below T} {a b : Tree T} {out : Shape T} → side ≡ Right → below ≡ Parts a b → out ≡ Fork (shape n.left) (entry_of n) (shape a)
      → n.prio < new.1.0
      → IsOnSide new.0 n side → IsTreap (over_node n side old) → StandsFor new old below → AreParts new (over_node n side old) out (shape b)
  parts_right_of {side} {below} {a} {b} {out} side_is below_is out_is rank on treap stands =
      let lt = subst (IsOnSide new.0 n) side_is on in
      rw (side_is, out_is) (parts_right new old (entry_of n) (shape n.left) (subst (λ (d : Side). IsTreap (over_node n d old)) side_is treap)
      lt (shape a) (shape b) (subst (StandsFor new old) below_is stands) (outranks_above new (entry_of n) rank))

  pub made_left_of : {side : Side} {below : Below T} {a b : Tree T} {out : Shape T} → side ≡ Left → below ≡ Parts a b → out ≡ Fork (Fork (shape a) new (shape b)) (entry_of n) (shape n.right)
      → new.1.0 < n.prio
      → IsOnSide new.0 n side → IsTreap (over_node n side old) → StandsFor new old below → IsWhole new (over_node n side old) out
  made_left_of {side} {below} {a} {b} {out} side_is below_is out_is rank on treap stands =
      let lt = subst (IsOnSide new.0 n) side_is on in
      rw (side_is, out_is) (made_left new old (entry_of n) (shape n.right) (subst (λ (d : Side). IsTreap (over_node n d old)) side_is treap)
      lt (shape a) (shape b) (subst (StandsFor new old) below_is stands) (outranks_above (entry_of n) new rank))

  pub made_right_of : {side : Side} {below : Below T} {a b : Tree T} {out : Shape T} → side ≡ Right → below ≡ Parts a b → out ≡ Fork (shape n.left) (entry_of n) (Fork (shape a) new (shape b))
      → new.1.0 ≤ n.prio
      → IsOnSide new.0 n side → IsTreap (over_node n side old) → StandsFor new old below → IsWhole new (over_node n side old) out
  made_right_of {side} {below} {a} {b} {out} side_is below_is out_is rank on treap stands =
      let lt = subst (IsOnSide new.0 n) side_is on in
      rw (side_is, out_is) (made_right new old (entry_of n) (shape n.left) (subst (λ (d : Side). IsTreap (over_node n d old)) side_is treap)
      lt (shape a) (shape b) (subst (StandsFor new old) below_is stands) (outranks_level (entry_of n) new rank lt))
