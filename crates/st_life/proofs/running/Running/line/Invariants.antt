use Rattle.st_disk.specs.Fuse.{fused_faults, fused_history}
use Rattle.st_life.proofs.Closing.{IsStill, OnLine}
use Rattle.st_life.proofs.running.Running.line.Given as goal

abbrev pub invariant-loop-time : goal.invariant-loop-time
invariant-loop-time g l =
    OnLine (fused_history g.D.Disk.history) g.B.Beginning.start g.B.Beginning.told l.one l.times l._time l.fn.self l.self
    × IsStill (fused_faults g.D.Disk.fault_count) l.fn.self.server.engine l.self.server.engine
