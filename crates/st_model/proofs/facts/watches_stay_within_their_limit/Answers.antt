use Rattle.st_model.proofs.Acts.{watched}
use Rattle.st_model.proofs.facts.watches_stay_within_their_limit.Goals as goal

pub returns : goal.returns
returns c = watched
