use Rattle.std.proofs.Common.{◌≡◌, drop, fold}
use Rattle.st_fold.specs.Map.{apply_batch, batches_to, folded}
use Rattle.st_fold.proofs.plain.fold_to.Given as goal

-- the batches that are left lead to the fold of all
abbrev pub invariant-loop-batch : goal.invariant-loop-batch
invariant-loop-batch l =
    fold apply_batch l.pairs (batches_to l.version (drop l.batch-index l.log)) ≡ folded l.log l.version
