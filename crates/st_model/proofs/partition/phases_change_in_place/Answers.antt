use Rattle.st_model.proofs.PartitionPieces.{partition-by_phase, piece_at-by_phase, partition-inject, piece_at-inject}
use Rattle.st_model.proofs.partition.phases_change_in_place.Goals as goal

pub returns : goal.returns
returns c = record {
  partition = partition-by_phase;
  phases = piece_at-by_phase;
  injected = partition-inject;
  injected_phases = piece_at-inject;
}
