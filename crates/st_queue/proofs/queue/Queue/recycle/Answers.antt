use Rattle.st_queue.proofs.Appends.{told-settled}
use Rattle.st_queue.proofs.queue.Queue.recycle.Goals as goal

pub returns-clause-broken : goal.returns-clause-broken
returns-clause-broken g c = rw (← c.self.view_is) c.recycle.ensures.broken

pub returns-clause-full : goal.returns-clause-full
returns-clause-full g c = rw (← c.self.view_is) c.recycle.ensures.full

pub returns-clause-stands : goal.returns-clause-stands
returns-clause-stands g c = λ unbroken. told-settled _ _ (c.recycle.ensures.holds.settled unbroken)
