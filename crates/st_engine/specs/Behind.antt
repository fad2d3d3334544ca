-- What operations make of the value of one key.
use Rattle.std.specs.Prelude.{ℕ, List, fold, Option}
use Rattle.st_mutation.specs.Effect.{value_by}
use Rattle.st_mutation.specs.declared.batch.Mutation.TheVariants as mutation
use Rattle.st_ops.specs.declared.op.Op.{Op}
use Rattle.st_ops.specs.declared.op.Op.TheVariants.{Set, Clear, SnapItem, SnapEnd, Commit}

-- the value of a key behind an operation, where it had this one before
abbrev pub value_by_op : List ℕ → Option (List ℕ) → Op → Option (List ℕ)
value_by_op key before (Set set value) = value_by key before (mutation.Set set value)
value_by_op key before (Clear begin end) = value_by key before (mutation.Clear (record { begin = begin; end = end }))
value_by_op key before (SnapItem item value) = before
value_by_op key before SnapEnd = before
value_by_op key before Commit = before

-- and behind several
abbrev pub value_behind : List ℕ → Option (List ℕ) → List Op → Option (List ℕ)
value_behind key before ops = fold (value_by_op key) before ops
