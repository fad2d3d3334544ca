use Rattle.st_model.proofs.Plays.{one_life}
use Rattle.st_model.proofs.laws.schedules_make_one_life.Goals as goal

pub returns : goal.returns
returns c = λ _. one_life
