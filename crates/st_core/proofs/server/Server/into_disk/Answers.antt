use Rattle.std.proofs.Common.{IfSome, sym, subst}
use Rattle.st_disk.specs.History.{Files, MayLeave}
use Rattle.st_restart.specs.After.{OpenBehind}
use Rattle.st_core.proofs.server.Server.into_disk.Goals as goal

pub returns-clause-opens : goal.returns-clause-opens
returns-clause-opens g c =
    subst (λ (disk : g.row.D.Denot). IfSome (g.D.Disk.history disk) (λ h. (images : Files) → MayLeave h images → OpenBehind g.N.Story.given c.args.self.board.state images))
    (sym c.dismount.ensures)
    c.into_parts-engine.ensures.opens
