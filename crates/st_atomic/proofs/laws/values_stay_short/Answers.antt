use Rattle.st_atomic.proofs.Lengths.{short_value}
use Rattle.st_atomic.proofs.laws.values_stay_short.Goals as goal

pub returns : goal.returns
returns c = short_value
