use Rattle.std.proofs.Common.{◌≡◌, drop}
use Rattle.st_engine.specs.Snapshot.{room_of}
use Rattle.st_engine.proofs.snapshot.room_of.Given as goal

-- the room so far, and what the operations that are left take
abbrev pub invariant-loop-op : goal.invariant-loop-op
invariant-loop-op l = room_of l.room (drop l.op-index l.ops) ≡ room_of l.fn.quota l.ops
