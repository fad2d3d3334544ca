use Rattle.std.proofs.Common.{◌≡◌, drop, fold}
use Rattle.st_engine.specs.Replay.{frame_on, recovered_by}
use Rattle.st_engine.proofs.recovery.Recovery.frame.Given as goal

-- the operations that are left lead to the recovery behind the frame
abbrev pub invariant-loop-op : goal.invariant-loop-op
invariant-loop-op g l = fold recovered_by l.self (drop l.op-index l.op-items) ≡ frame_on l.fn.self l.frame
