use Rattle.st_model.proofs.Ends.{comes_to_an_end}
use Rattle.st_model.proofs.ending.schedules_come_to_an_end.Goals as goal

pub returns : goal.returns
returns c = λ _. comes_to_an_end
