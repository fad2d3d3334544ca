use Rattle.st_model.proofs.Reached.{by_key}
use Rattle.st_model.proofs.facts.reached_keys_are_in_their_phases.Goals as goal

pub returns : goal.returns
returns c = by_key
