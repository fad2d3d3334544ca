use Rattle.st_model.proofs.Ends.{makes_a_life}
use Rattle.st_model.proofs.ending.schedules_make_a_life.Goals as goal

pub returns : goal.returns
returns c = λ _. makes_a_life
