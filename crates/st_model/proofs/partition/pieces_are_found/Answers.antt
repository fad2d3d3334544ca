use Rattle.st_model.proofs.PartitionPlaces.{parted_by_end, place_found, place_in_range}
use Rattle.st_model.proofs.partition.pieces_are_found.Goals as goal

pub returns : goal.returns
returns c = record { parted = parted_by_end; found = place_found; in_range = place_in_range }
