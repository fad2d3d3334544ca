use Rattle.st_model.proofs.Counts.{counted}
use Rattle.st_model.proofs.facts.versions_are_in_order.Goals as goal

pub returns : goal.returns
returns c = counted
