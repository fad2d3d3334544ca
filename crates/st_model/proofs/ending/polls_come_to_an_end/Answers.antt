use Rattle.st_model.proofs.EndsPolls.{fewer_left, kept_patient}
use Rattle.st_model.proofs.ending.polls_come_to_an_end.Goals as goal

pub returns : goal.returns
returns c = λ _. record { fewer = fewer_left; kept = kept_patient }
