use Rattle.st_model.proofs.PartitionPieces.{partition-cut_where, piece_at-cut_where}
use Rattle.st_model.proofs.partition.cuts_part_the_keys.Goals as goal

pub returns : goal.returns
returns c = record { partition = partition-cut_where; parts = piece_at-cut_where }
