use Rattle.std.proofs.Common.{◌≡◌, take}
use Rattle.st_model.specs.Pieces.{by_phase, rows_taken}
use Rattle.st_shards.proofs.slots.Slots.with_rows_taken.Given as goal

abbrev pub invariant-loop-piece : goal.invariant-loop-piece
invariant-loop-piece l = l.slots ≡ by_phase rows_taken (take l.piece-index l.self)
