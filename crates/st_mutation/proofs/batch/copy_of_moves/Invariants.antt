use Rattle.std.proofs.Common.{◌≡◌, take}
use Rattle.st_mutation.proofs.batch.copy_of_moves.Given as goal

abbrev pub invariant-loop-step : goal.invariant-loop-step
invariant-loop-step l = l.copy ≡ take l.step-index l.moves
