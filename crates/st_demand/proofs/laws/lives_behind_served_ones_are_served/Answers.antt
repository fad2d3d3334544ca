use Rattle.st_demand.proofs.Holding.{holds_again}
use Rattle.st_demand.proofs.laws.lives_behind_served_ones_are_served.Goals as goal

pub returns : goal.returns
returns c = holds_again
