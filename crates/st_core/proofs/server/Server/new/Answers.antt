use Rattle.std.proofs.Common.{◌∙◌, ap}
use Rattle.st_core.proofs.Beginning.{keeps-first}
use Rattle.st_core.proofs.server.Server.new.Goals as goal

pub returns-clause-serves : goal.returns-clause-serves
returns-clause-serves g c =
    keeps-first g.N.Story.given g.N.Story.opening g.N.Story.store g.D.Disk.history c.args.board c.args.engine c.args.peer c.rewind.new.self
    c.requires.still c.trace.ensures.stands c.is_fresh.ensures.agrees
    (ap (λ r. r.log) c.in-Ok.ensures.ok ∙ c.requires.log) (ap (λ r. r.last) c.in-Ok.ensures.ok ∙ c.newest.ensures) c.requires.none
    c.requires.made c.requires.stored c.requires.version c.requires.sound
