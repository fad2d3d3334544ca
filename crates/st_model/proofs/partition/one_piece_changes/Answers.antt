use Rattle.st_model.proofs.PartitionPieces.{partition-change_at, piece_at-change_at, keeps-split}
use Rattle.st_model.proofs.partition.one_piece_changes.Goals as goal

pub returns : goal.returns
returns c = record {
  partition = λ begin test change pieces keeps h due. partition-change_at begin test change pieces keeps h due;
  parts = λ begin key test change pieces keeps h due. piece_at-change_at begin key test change pieces keeps h due;
  split = keeps-split;
}
