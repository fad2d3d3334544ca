use Rattle.std.proofs.Common.{◌≡◌}
use Rattle.st_disk.specs.Fuse.{fused_history}
use Rattle.st_model.specs.Schedule.{polls_left}
use Rattle.st_life.proofs.Closing.{InTurn}
use Rattle.st_life.proofs.running.Running.read_out.Given as goal

abbrev pub invariant-loop : goal.invariant-loop
invariant-loop g l =
    InTurn (fused_history g.D.Disk.history) g.B.Beginning.start g.B.Beginning.told l.reader l.fn.self l.self
    × (l.self.server ≡ l.fn.self.server)

abbrev pub decreases-loop : goal.decreases-loop
decreases-loop g l = polls_left l.self.reading.patience l.self.reading.sessions
