use Rattle.std.proofs.Common.{◌≡◌, length}
use Rattle.std.specs.List.{AllByRecursion}
use Rattle.st_node.specs.Shapes.{Shape, Tip, shape}
use Rattle.st_ptree.specs.Cut.{AreHalves, IsPassed}
use Rattle.st_ptree.specs.Ways.{along}
use Rattle.st_ptree.proofs.cut.climb.Given as goal

-- what is left of the path is a front of it, and the halves are those of the tree at its end
abbrev pub invariant-loop-step : goal.invariant-loop-step
invariant-loop-step g l =
    (s : Shape g.row.T.Denot) × ((along l.path.items s ≡ along l.initial.path.items Tip)
    × (AllByRecursion (IsPassed l.key l.or_equal) l.path.items × AreHalves l.key l.or_equal s (shape l.halves.front) (shape l.halves.back)))

abbrev pub decreases-loop-step : goal.decreases-loop-step
decreases-loop-step g l = length l.path.items
