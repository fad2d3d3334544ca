use Rattle.std.proofs.Common.{◌≡◌, drop}
use Rattle.std.specs.List.{list_any}
use Rattle.st_engine.specs.Snapshot.{is_end}
use Rattle.st_engine.proofs.recovery.has_end.Given as goal

-- none of the operations so far is an end
abbrev pub invariant-loop-op : goal.invariant-loop-op
invariant-loop-op l = list_any is_end (drop l.op-index l.ops) ≡ list_any is_end l.fn.ops
