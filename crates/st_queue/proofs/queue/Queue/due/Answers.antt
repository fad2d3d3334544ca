use Rattle.st_queue.proofs.Appends.{told-settled}
use Rattle.std.proofs.Common.{◌∙◌}
use Rattle.st_queue.proofs.Held.{due-files}
use Rattle.st_queue.proofs.queue.Queue.due.Goals as goal

pub returns-clause-files : goal.returns-clause-files
returns-clause-files g c = rw (← c.self.view_is) (λ unbroken h e. c.is_due.ensures ∙ due-files _ c.self.inside.state c.self.invariant unbroken h e)

pub returns-clause-stands : goal.returns-clause-stands
returns-clause-stands g c = rw (← c.self.view_is) (λ unbroken. told-settled _ _ (c.self.invariant.settled unbroken))
