use Rattle.std.proofs.Common.{◌≡◌, ◌+◌, ◌≤◌}
use Rattle.st_ptree.specs.Entries.{found}
use Rattle.st_node.specs.Shapes.{shape, entries}
use Rattle.st_ptree.specs.Depth.{depth_at}
use Rattle.st_ptree.specs.Treap.{IsTreap}
use Rattle.st_ptree.proofs.search.find.Given as goal

-- the key is where it was in the tree, and no deeper than the steps that are left
abbrev pub invariant-loop-rest : goal.invariant-loop-rest
invariant-loop-rest g l =
    record {
      treap : IsTreap (shape l.rest);
      same : found l.key (entries (shape l.rest)) ≡ found l.key (entries (shape l.tree));
      steps : l.steps + depth_at l.key (entries (shape l.rest)) ≤ l.initial.steps + depth_at l.key (entries (shape l.tree));
    }
