-- What a mutation does to the value of one key.
use Rattle.std.specs.Prelude.{ℕ, bytes_eq, List, fold, Option, Some, None, if◌then◌else◌}
use Rattle.st_key.specs.Spans.{within}
use Rattle.st_atomic.specs.Atomic.{changed}
use Rattle.st_mutation.specs.declared.batch.Batch.{Batch}
use Rattle.st_mutation.specs.declared.batch.Mutation.{Mutation}
use Rattle.st_mutation.specs.declared.batch.Mutation.TheVariants.{Set, Clear, Atomic}

-- the value of a key after a mutation, where it had this one before
abbrev pub value_by : List ℕ → Option (List ℕ) → Mutation → Option (List ℕ)
value_by key before (Set other value) = if bytes_eq key other then Some value else before
value_by key before (Clear span) = if within span key then None else before
value_by key before (Atomic op other operand) = if bytes_eq key other then changed op before operand else before

-- and after those of a batch, in their order
abbrev pub value_by_batch : List ℕ → Option (List ℕ) → Batch → Option (List ℕ)
value_by_batch key before batch = fold (value_by key) before batch.mutations
