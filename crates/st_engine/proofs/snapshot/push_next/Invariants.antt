use Rattle.std.proofs.Common.{◌≡◌, ◌++◌}
use Rattle.std.specs.List.{AllByRecursion, list_any}
use Rattle.st_ops.specs.Grammar.{Fits}
use Rattle.st_ptree.specs.Entries.{pairs_of}
use Rattle.st_engine.specs.Snapshot.{cursor_behind, is_end, items_within, last_within, snap}
use Rattle.st_engine.proofs.snapshot.push_next.Given as goal

-- what was pushed, and what the pairs that are left lead to
abbrev pub invariant-loop-key : goal.invariant-loop-key
invariant-loop-key g l =
    (l.out.items ++ items_within l.room l.key-iterator ≡ l.fn.out.items ++ snap l.fn.cursor l.fn.room (pairs_of l.pairs))
    × (last_within l.cursor l.room l.key-iterator ≡ cursor_behind l.fn.cursor l.fn.room (pairs_of l.pairs))
    × (AllByRecursion Fits l.fn.out.items → AllByRecursion Fits l.out.items)
    × (list_any is_end (items_within l.room l.key-iterator) ≡ list_any is_end (snap l.fn.cursor l.fn.room (pairs_of l.pairs)))
