use Rattle.std.proofs.Common.{◌≡◌, drop, fold}
use Rattle.st_fold.specs.Map.{batches_to, folded, value_at}
use Rattle.st_mutation.specs.Effect.{value_by_batch}
use Rattle.st_fold.proofs.value.value_to.Given as goal

-- the batches that are left lead to the value in the fold of all
abbrev pub invariant-loop-batch : goal.invariant-loop-batch
invariant-loop-batch l =
    fold (value_by_batch l.key) l.found (batches_to l.version (drop l.batch-index l.log))
    ≡ value_at (folded l.log l.version) l.key
