use Rattle.st_model.proofs.PartitionPieces.{partition-first_pieces, phase_at-first_pieces}
use Rattle.st_model.proofs.partition.openings_part_the_keys.Goals as goal

pub returns : goal.returns
returns c = record { partition = partition-first_pieces; phases = phase_at-first_pieces }
