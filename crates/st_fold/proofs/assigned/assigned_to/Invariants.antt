use Rattle.std.proofs.Common.{◌≡◌, ℕ, List, drop, fold}
use Rattle.st_key.specs.Spans.{holds}
use Rattle.st_fold.specs.Map.{batches_to}
use Rattle.st_fold.specs.Assigned.{assigned_by, is_assigned}
use Rattle.st_fold.proofs.assigned.assigned_to.Given as goal

-- the batches that are left lead to what all do
abbrev pub invariant-loop-batch : goal.invariant-loop-batch
invariant-loop-batch l = (key : List ℕ)
    → fold (λ before batch. fold (assigned_by key) before batch.moves) (holds l.assigned key) (batches_to l.version (drop l.batch-index l.log))
    ≡ is_assigned l.own l.log l.version key
