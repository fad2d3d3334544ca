use Rattle.st_model.proofs.Reached.{rests}
use Rattle.st_model.proofs.facts.rest_is_nothing_due.Goals as goal

pub returns : goal.returns
returns c = rests
