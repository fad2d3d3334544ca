use Rattle.st_engine.proofs.Behind.{value-ops_on}
use Rattle.st_engine.proofs.laws.operations_change_each_key.Goals as goal

pub returns : goal.returns
returns c = value-ops_on
