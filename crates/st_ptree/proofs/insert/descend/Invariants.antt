use Rattle.std.proofs.Common.{◌≡◌, ◌+◌, ◌≤◌, length}
use Rattle.std.specs.List.{AllByRecursion}
use Rattle.st_ptree.specs.Entries.{found}
use Rattle.st_node.specs.Shapes.{shape, entries}
use Rattle.st_ptree.specs.Depth.{depth_at}
use Rattle.st_ptree.specs.Ways.{IsOn, along}
use Rattle.st_ptree.specs.Treap.{IsTreap}
use Rattle.st_ptree.proofs.insert.descend.Given as goal

-- the path leads to what is left
abbrev pub invariant-loop-rest : goal.invariant-loop-rest
invariant-loop-rest g l =
    record {
      treap : IsTreap (shape l.rest);
      same : found l.key (entries (shape l.rest)) ≡ found l.key (entries (shape l.tree));
      whole : along l.path.items (shape l.rest) ≡ shape l.tree;
      sides : AllByRecursion (IsOn l.key) l.path.items;
      steps : l.steps + depth_at l.key (entries (shape l.rest)) ≤ l.initial.steps + depth_at l.key (entries (shape l.tree));
      short : length l.path.items + depth_at l.key (entries (shape l.rest)) ≤ depth_at l.key (entries (shape l.tree));
    }
