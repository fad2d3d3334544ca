use Rattle.st_core.proofs.Ending.{opens-behind}
use Rattle.st_core.proofs.Keeping.{served}
use Rattle.st_core.proofs.server.Server.into_parts.Goals as goal

pub returns-clause-opens : goal.returns-clause-opens
returns-clause-opens g c =
    rw (← c.self.view_is)
    (opens-behind g.N.Story.given g.N.Story.opening g.N.Story.store g.D.Disk.history _ (served c.self.view_is c.requires.serves) c.trace.ensures.stands
    c.stores_open.ensures.untouched c.stores_open.ensures.written c.operations_change_each_key.ensures c.stored_ranges_are_of_users.ensures c.written_is_stored.ensures)
