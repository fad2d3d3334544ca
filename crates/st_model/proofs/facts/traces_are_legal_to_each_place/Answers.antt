use Rattle.st_model.proofs.Reached.{legal_to}
use Rattle.st_model.proofs.facts.traces_are_legal_to_each_place.Goals as goal

pub returns : goal.returns
returns c = legal_to
