use Rattle.std.proofs.Common.{◌≡◌}
use Rattle.std.specs.Option.{option_map, option_or}
use Rattle.st_node.specs.Shapes.{shape, entries, entry_of}
use Rattle.st_ptree.specs.Entries.{first_of}
use Rattle.st_ptree.proofs.search.first.Given as goal

-- the first is in what is left, or else the last one passed
abbrev pub invariant-loop-rest : goal.invariant-loop-rest
invariant-loop-rest g l =
    first_of (entries (shape l.tree)) ≡ option_or (first_of (entries (shape l.rest))) (option_map (λ node. entry_of node.now) l.first)
