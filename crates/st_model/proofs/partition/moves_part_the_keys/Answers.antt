use Rattle.std.proofs.Common.{not}
use Rattle.st_model.specs.Pieces.{is_absent, waits}
use Rattle.st_model.specs.declared.piece.Phase.TheVariants.{Absent}
use Rattle.st_model.proofs.PartitionPieces.{partition-move_piece, piece_at-change_within, steady-absent, steady-present}
use Rattle.st_model.proofs.partition.moves_part_the_keys.Goals as goal

pub returns : goal.returns
returns c = record {
  partition = partition-move_piece;
  assigned = λ version pieces span key h. piece_at-change_within key span is_absent waits steady-absent pieces h;
  released = λ version pieces span key h.
      piece_at-change_within key span (λ phase. not (is_absent phase)) (λ phase. Absent version) steady-present pieces h;
}
