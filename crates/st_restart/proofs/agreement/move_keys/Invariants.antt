use Rattle.std.proofs.Common.{◌≡◌, drop, fold}
use Rattle.st_model.specs.State.{move_span}
use Rattle.st_restart.proofs.agreement.move_keys.Given as goal

-- the moves that are left lead to what all do
abbrev pub invariant-loop-change : goal.invariant-loop-change
invariant-loop-change l = fold move_span l.assigned (drop l.change-index l.moves) ≡ fold move_span l.fn.assigned l.moves
