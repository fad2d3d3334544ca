use Rattle.st_model.proofs.PartitionPlaces.{begins_at_place, changed_at_place, cut_at_place, cut_nowhere}
use Rattle.st_model.proofs.partition.pieces_change_at_a_place.Goals as goal

pub returns : goal.returns
returns c = record { begins = begins_at_place; changed = changed_at_place; cut = cut_at_place; uncut = cut_nowhere }
