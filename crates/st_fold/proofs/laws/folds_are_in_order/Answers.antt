use Rattle.st_fold.proofs.Order.{sorted_fold}
use Rattle.st_fold.proofs.laws.folds_are_in_order.Goals as goal

pub returns : goal.returns
returns c = sorted_fold
