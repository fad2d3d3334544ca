use Rattle.st_queue.proofs.Appends.{told-settled}
use Rattle.st_queue.proofs.queue.Queue.enter_next.Goals as goal

pub returns-clause-enters : goal.returns-clause-enters
returns-clause-enters g c = rw (← c.self.view_is) c.enter_next.ensures.enters

pub returns-clause-broken : goal.returns-clause-broken
returns-clause-broken g c = rw (← c.self.view_is) c.enter_next.ensures.broken

pub returns-clause-stands : goal.returns-clause-stands
returns-clause-stands g c = λ unbroken. told-settled _ _ (c.enter_next.ensures.holds.settled unbroken)
