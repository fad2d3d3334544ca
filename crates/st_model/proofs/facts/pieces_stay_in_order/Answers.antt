use Rattle.st_model.proofs.Reached.{stands}
use Rattle.st_model.proofs.facts.pieces_stay_in_order.Goals as goal

pub returns-clause-partition : goal.returns-clause-partition
returns-clause-partition c given opening trace state legal = (stands given opening trace state legal).parted

pub returns-clause-placed : goal.returns-clause-placed
returns-clause-placed c given opening trace state legal = (stands given opening trace state legal).placed
