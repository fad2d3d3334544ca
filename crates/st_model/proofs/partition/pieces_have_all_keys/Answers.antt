use Rattle.st_model.proofs.PartitionPieces.{partition-held, partition-serves}
use Rattle.st_model.proofs.partition.pieces_have_all_keys.Goals as goal

pub returns : goal.returns
returns c = record { held = partition-held; served = partition-serves }
