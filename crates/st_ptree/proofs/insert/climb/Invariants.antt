use Rattle.std.proofs.Common.{◌≡◌, ◌+◌, ◌≤◌, length}
use Rattle.std.specs.List.{AllByRecursion}
use Rattle.st_node.specs.Shapes.{Shape, key_in, item_in}
use Rattle.st_ptree.specs.Insert.{StandsFor, still_open}
use Rattle.st_ptree.specs.Ways.{IsOn, along}
use Rattle.st_ptree.specs.Treap.{IsTreap}
use Rattle.st_ptree.proofs.insert.climb.Given as goal

-- what is left of the path is a front of it, and what comes of the tree at its end stands for that tree
abbrev pub invariant-loop-step : goal.invariant-loop-step
invariant-loop-step g l =
    record {
      stands : (old : Shape g.row.T.Denot) → AllByRecursion (IsOn (key_in l.entry)) l.initial.path.items → IsTreap (along l.initial.path.items old)
          → StandsFor (key_in l.entry, (l.prio, item_in l.entry)) old l.initial.below
          → (s : Shape g.row.T.Denot) × ((along l.path.items s ≡ along l.initial.path.items old) × (AllByRecursion (IsOn (key_in l.entry)) l.path.items × StandsFor (key_in l.entry, (l.prio, item_in l.entry)) s l.below));
      steps : l.steps + still_open l.below + length l.path.items ≤ l.initial.steps + still_open l.initial.below + length l.initial.path.items;
    }

abbrev pub decreases-loop-step : goal.decreases-loop-step
decreases-loop-step g l = length l.path.items
