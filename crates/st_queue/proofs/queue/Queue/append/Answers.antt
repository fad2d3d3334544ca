use Rattle.st_queue.proofs.Appends.{told-settled}
use Rattle.st_queue.proofs.queue.Queue.append.Goals as goal

pub returns-clause-appends : goal.returns-clause-appends
returns-clause-appends g c = rw (← c.self.view_is) c.append.ensures.appends

pub returns-clause-broken : goal.returns-clause-broken
returns-clause-broken g c = rw (← c.self.view_is) c.append.ensures.broken

pub returns-clause-full : goal.returns-clause-full
returns-clause-full g c = rw (← c.self.view_is) c.append.ensures.full

pub returns-clause-number : goal.returns-clause-number
returns-clause-number g c = rw (← c.self.view_is) c.append.ensures.number

pub returns-clause-stands : goal.returns-clause-stands
returns-clause-stands g c = λ unbroken. told-settled _ _ (c.append.ensures.holds.settled unbroken)
