use Rattle.st_model.proofs.Batches.{next_is}
use Rattle.st_model.proofs.laws.next_is_first_left.Goals as goal

pub returns : goal.returns
returns c = next_is
