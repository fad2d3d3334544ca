use Rattle.std.proofs.Common.{◌≡◌, drop, fold}
use Rattle.st_fold.specs.Map.{batches_to}
use Rattle.st_model.specs.State.{assigned, move_span}
use Rattle.st_restart.proofs.agreement.assigned_at.Given as goal

-- the batches that are left lead to what all do
abbrev pub invariant-loop-batch : goal.invariant-loop-batch
invariant-loop-batch l =
    fold (λ spans batch. fold move_span spans batch.moves) l.assigned (batches_to l.version (drop l.batch-index l.log)) ≡ assigned l.own l.log l.version
