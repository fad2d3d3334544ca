use Rattle.st_model.proofs.Assignments.{assigned_keys}
use Rattle.st_model.proofs.facts.assignment_is_of_each_key.Goals as goal

pub returns : goal.returns
returns c = assigned_keys
