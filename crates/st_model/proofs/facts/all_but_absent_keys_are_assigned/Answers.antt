use Rattle.st_model.proofs.Reached.{in_step}
use Rattle.st_model.proofs.facts.all_but_absent_keys_are_assigned.Goals as goal

pub returns : goal.returns
returns c = in_step
