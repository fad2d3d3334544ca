use Rattle.st_key.specs.KeyOrder.{less_after, alone_after}
use Rattle.st_key.proofs.laws.next_key.Goals as goal

pub returns : goal.returns
returns c = record { above = less_after; alone = alone_after }
