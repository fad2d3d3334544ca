use Rattle.std.proofs.Common.{◌-◌, ◌^◌, [], length}
use Rattle.st_disk.specs.Fuse.{fused_faults, fused_history}
use Rattle.st_life.specs.Running.{LeadsOn}
use Rattle.st_life.proofs.Closing.{IsStill}
use Rattle.st_life.proofs.running.Running.rest.Given as goal

abbrev pub invariant-loop-action : goal.invariant-loop-action
invariant-loop-action g l =
    LeadsOn (fused_history g.D.Disk.history) g.B.Beginning.start g.B.Beginning.told [] [] l.fn.self l.self
    × IsStill (fused_faults g.D.Disk.fault_count) l.fn.self.server.engine l.self.server.engine

abbrev pub decreases-loop-action : goal.decreases-loop-action
decreases-loop-action g l = 2 ^ 64 - length l.self.server.board.trace
