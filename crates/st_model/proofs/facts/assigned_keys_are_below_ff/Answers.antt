use Rattle.st_model.proofs.Reached.{assigned_below}
use Rattle.st_model.proofs.facts.assigned_keys_are_below_ff.Goals as goal

pub returns : goal.returns
returns c = assigned_below
