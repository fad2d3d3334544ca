use Rattle.st_disk.specs.Fuse.{fused_history}
use Rattle.st_run.proofs.Living.{start-over}
use Rattle.st_run.proofs.life.live.Goals as goal

pub returns-in-Ok-clause-ended : goal.returns-in-Ok-clause-ended
returns-in-Ok-clause-ended g c =
    start-over (fused_history g.D.Disk.history) g.D.Disk.history g.N.Story.given c.args.plan.now c.args.opened g.N.Story.opening g.N.Story.store c.in-Ok.server c.life_plain.result
    c.in-Ok.ensures.engine c.requires.named c.requires.store c.life_plain.ensures.ended
