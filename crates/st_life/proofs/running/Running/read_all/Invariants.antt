use Rattle.std.proofs.Common.{◌≡◌, []}
use Rattle.st_disk.specs.Fuse.{fused_history}
use Rattle.st_life.specs.Running.{IsTurnOf, LeadsOn}
use Rattle.st_life.proofs.Closing.{readers-from}
use Rattle.st_life.proofs.running.Running.read_all.Given as goal

-- the readers from this one on are left
abbrev pub invariant-loop-reader : goal.invariant-loop-reader
invariant-loop-reader g l =
    LeadsOn (fused_history g.D.Disk.history) g.B.Beginning.start g.B.Beginning.told [] [] l.fn.self l.self
    × IsTurnOf g.B.Beginning.start.given (readers-from l.reader) l.self
    × (l.self.server ≡ l.fn.self.server)
