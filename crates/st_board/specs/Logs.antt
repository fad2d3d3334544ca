-- The logs that a board stands for.
use Rattle.std.specs.Prelude.{◌≤◌, length}
use Rattle.st_mutation.specs.declared.batch.Mutation.{Mutation}
use Rattle.st_mutation.specs.declared.batch.Mutation.TheVariants.{Set, Clear, Atomic}

-- the key of a mutation of one key has at most 10,000 bytes
abbrev pub HasShortKey : Mutation → Type 0
HasShortKey (Set key value) = length key ≤ 10000
HasShortKey (Clear span) = Unit {0}
HasShortKey (Atomic op key operand) = length key ≤ 10000
