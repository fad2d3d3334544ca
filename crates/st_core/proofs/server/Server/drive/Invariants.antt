use Rattle.st_core.proofs.Driving.{Driven}
use Rattle.st_core.proofs.server.Server.drive.Given as goal

-- so many acts were done
abbrev pub invariant-loop-action : goal.invariant-loop-action
invariant-loop-action g l = Driven g.N.Story.given g.N.Story.opening g.N.Story.store l.upto g.D.Disk.history g.D.Disk.fault_count l.fn.self l.acts l.self l.action-index l.done
