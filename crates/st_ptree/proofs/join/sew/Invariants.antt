use Rattle.std.proofs.Common.{◌+◌}
use Rattle.st_node.specs.Drops.{weight}
use Rattle.st_node.specs.Shapes.{Shape, shape}
use Rattle.st_ptree.specs.Ways.{along}
use Rattle.st_ptree.specs.Join.{Apart, IsJoin}
use Rattle.st_ptree.specs.Treap.{IsTreap}
use Rattle.st_ptree.proofs.join.sew.Given as goal

-- a join of what is left makes one of the whole
abbrev pub invariant-loop-before : goal.invariant-loop-before
invariant-loop-before g l =
    record {
      before : IsTreap (shape l.before);
      behind : IsTreap (shape l.behind);
      apart : Apart (shape l.before) (shape l.behind);
      leads : (t : Shape g.row.T.Denot) → IsJoin (shape l.before) (shape l.behind) t → IsJoin (shape l.initial.before) (shape l.initial.behind) (along l.path.items t);
    }

abbrev pub decreases-loop-before : goal.decreases-loop-before
decreases-loop-before g l = weight (shape l.before) + weight (shape l.behind)
