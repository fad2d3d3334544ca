use Rattle.std.proofs.Common.{◌≡◌, ◌++◌, length, map, take, drop}
use Rattle.st_model.specs.declared.piece.Piece.{Piece}
use Rattle.st_model.specs.Pieces.{in_phase, rows_in_base}
use Rattle.st_shards.proofs.slots.Slots.settle_all.Given as goal

abbrev pub invariant-loop-at : goal.invariant-loop-at
invariant-loop-at l =
    (l.self ≡ map (λ (piece : Piece). in_phase (rows_in_base l.durable piece.phase) piece) (take l.at l.initial.self) ++ drop l.at l.initial.self)
    × (length l.self ≡ length l.initial.self) × (l.at-end ≡ length l.initial.self)
