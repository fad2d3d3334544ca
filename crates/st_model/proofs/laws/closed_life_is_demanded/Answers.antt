use Rattle.st_model.proofs.Reports.{closed_alone}
use Rattle.st_model.proofs.laws.closed_life_is_demanded.Goals as goal

pub returns : goal.returns
returns c = closed_alone
