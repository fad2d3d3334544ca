use Rattle.st_core.proofs.Ending.{stays-open}
use Rattle.st_core.proofs.Keeping.{served}
use Rattle.st_core.proofs.server.Server.opens.Goals as goal

pub returns-clause-now : goal.returns-clause-now
returns-clause-now g c =
    rw (← c.self.view_is)
    (stays-open g.N.Story.given g.N.Story.opening g.N.Story.store g.D.Disk.history _ (served c.self.view_is c.requires.serves) c.trace.ensures.stands
    c.stores_open.ensures.untouched c.stores_open.ensures.written c.operations_change_each_key.ensures c.stored_ranges_are_of_users.ensures c.written_is_stored.ensures)
