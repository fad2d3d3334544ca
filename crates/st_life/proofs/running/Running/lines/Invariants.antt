use Rattle.std.proofs.Common.{drop}
use Rattle.st_disk.specs.Fuse.{fused_faults, fused_history}
use Rattle.st_life.specs.Running.{LeadsOn}
use Rattle.st_life.proofs.Closing.{IsStill}
use Rattle.st_life.proofs.running.Running.lines.Given as goal

abbrev pub invariant-loop-one : goal.invariant-loop-one
invariant-loop-one g l =
    LeadsOn (fused_history g.D.Disk.history) g.B.Beginning.start g.B.Beginning.told l.lines (drop l.one-index l.lines) l.fn.self l.self
    × IsStill (fused_faults g.D.Disk.fault_count) l.fn.self.server.engine l.self.server.engine
