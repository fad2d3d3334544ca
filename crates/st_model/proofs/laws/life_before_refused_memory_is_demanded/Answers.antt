use Rattle.st_model.proofs.Reports.{memory_alone}
use Rattle.st_model.proofs.laws.life_before_refused_memory_is_demanded.Goals as goal

pub returns : goal.returns
returns c = memory_alone
