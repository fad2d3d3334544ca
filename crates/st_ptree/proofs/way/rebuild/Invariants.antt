use Rattle.std.proofs.Common.{◌≡◌, ◌+◌, ◌≤◌, length}
use Rattle.st_node.specs.Shapes.{shape}
use Rattle.st_ptree.specs.Ways.{along}
use Rattle.st_ptree.proofs.way.rebuild.Given as goal

abbrev pub invariant-loop-step : goal.invariant-loop-step
invariant-loop-step g l =
    record {
      same : along l.path.items (shape l.tree) ≡ along l.initial.path.items (shape l.initial.tree);
      steps : l.steps + length l.path.items ≤ l.initial.steps + length l.initial.path.items;
    }

abbrev pub decreases-loop-step : goal.decreases-loop-step
decreases-loop-step g l = length l.path.items
