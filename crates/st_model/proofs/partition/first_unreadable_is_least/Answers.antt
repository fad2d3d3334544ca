use Rattle.st_model.proofs.PartitionPlaces.{first_unreadable-is}
use Rattle.st_model.proofs.partition.first_unreadable_is_least.Goals as goal

pub returns : goal.returns
returns c = first_unreadable-is
