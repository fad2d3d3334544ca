use Rattle.std.proofs.Common.{◌≡◌, ◌+◌, ◌≤◌}
use Rattle.std.specs.FinMap.Entries.{where_key}
use Rattle.std.specs.Option.{option_map, option_or}
use Rattle.st_node.specs.Shapes.{shape, entries, entry_of}
use Rattle.st_ptree.specs.Depth.{depth_beside}
use Rattle.st_ptree.specs.Entries.{before, key_cmp, last_of}
use Rattle.st_ptree.specs.Treap.{IsTreap}
use Rattle.st_ptree.proofs.search.last_before.Given as goal

-- the last key before is in what is left, or else the nearest so far
abbrev pub invariant-loop-rest : goal.invariant-loop-rest
invariant-loop-rest g l =
    record {
      treap : IsTreap (shape l.rest);
      last : last_of (where_key key_cmp (before l.key l.or_equal) (entries (shape l.tree)))
          ≡ option_or (last_of (where_key key_cmp (before l.key l.or_equal) (entries (shape l.rest)))) (option_map (λ node. entry_of node.now) l.nearest);
      steps : l.steps + depth_beside l.key l.or_equal (entries (shape l.rest)) ≤ l.initial.steps + depth_beside l.key l.or_equal (entries (shape l.tree));
    }
