-- The lengths of keys and values of a log.
use Rattle.std.specs.Prelude.{◌≤◌, List, length}
use Rattle.std.specs.List.{AllByRecursion}
use Rattle.st_mutation.specs.declared.batch.Batch.{Batch}
use Rattle.st_mutation.specs.declared.batch.Mutation.{Mutation}
use Rattle.st_mutation.specs.declared.batch.Mutation.TheVariants.{Set, Clear, Atomic}

-- the key of a mutation of one key has at most 10,001 bytes, as the end of a range, and its value or operand at most 100,000
abbrev pub IsShort : Mutation → Type 0
IsShort (Set key value) = (length key ≤ 10001) × (length value ≤ 100000)
IsShort (Clear span) = Unit {0}
IsShort (Atomic op key operand) = (length key ≤ 10001) × (length operand ≤ 100000)

abbrev pub AreShort : List Batch → Type 0
AreShort log = AllByRecursion (λ batch. AllByRecursion IsShort batch.mutations) log
