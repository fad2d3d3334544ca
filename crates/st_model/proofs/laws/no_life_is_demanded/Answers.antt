use Rattle.st_model.proofs.Reports.{none_begun}
use Rattle.st_model.proofs.laws.no_life_is_demanded.Goals as goal

pub returns : goal.returns
returns c = none_begun
