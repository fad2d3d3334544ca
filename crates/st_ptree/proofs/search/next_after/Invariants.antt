use Rattle.std.proofs.Common.{◌≡◌, ◌+◌, ◌≤◌}
use Rattle.std.specs.Option.{option_map, option_or}
use Rattle.st_ptree.specs.Entries.{above, first_of}
use Rattle.st_node.specs.Shapes.{shape, entries, entry_of}
use Rattle.st_ptree.specs.Depth.{depth_behind}
use Rattle.st_ptree.specs.Treap.{IsTreap}
use Rattle.st_ptree.proofs.search.next_after.Given as goal

-- the first key above is in what is left, or else the nearest so far
abbrev pub invariant-loop-rest : goal.invariant-loop-rest
invariant-loop-rest g l =
    record {
      treap : IsTreap (shape l.rest);
      first : first_of (above (entries (shape l.tree)) l.key) ≡ option_or (first_of (above (entries (shape l.rest)) l.key)) (option_map (λ node. entry_of node.now) l.nearest);
      steps : l.steps + depth_behind l.key (entries (shape l.rest)) ≤ l.initial.steps + depth_behind l.key (entries (shape l.tree));
    }
