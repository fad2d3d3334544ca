use Rattle.st_watch.proofs.Course.{moved-on, stepped-on}
use Rattle.st_watch.proofs.laws.batches_move_watches_on.Goals as goal

pub returns-clause-steps : goal.returns-clause-steps
returns-clause-steps c = stepped-on

pub returns-clause-states : goal.returns-clause-states
returns-clause-states c = moved-on
