use Rattle.std.proofs.Common.{◌≡◌}
use Rattle.std.specs.List.{AllByRecursion}
use Rattle.st_node.specs.Shapes.{shape}
use Rattle.st_ptree.specs.Cut.{IsPassed}
use Rattle.st_ptree.specs.Ways.{along}
use Rattle.st_ptree.proofs.cut.descend.Given as goal

-- the path leads to what is left
abbrev pub invariant-loop-rest : goal.invariant-loop-rest
invariant-loop-rest g l =
    record {
      whole : along l.path.items (shape l.rest) ≡ shape l.tree;
      passed : AllByRecursion (IsPassed l.key l.or_equal) l.path.items;
    }
