-- What a root that is kept tells of a key.
use Rattle.std.specs.Prelude.{◌≡◌, ◌⊎◌, ℕ, ◌≤◌, List, Option, Some, None}
use Rattle.st_mutation.specs.declared.batch.Batch.{Batch}
use Rattle.st_versioned.specs.Root.{Decision}
use Rattle.st_course.specs.Sent.{value_of}
use Rattle.st_board.specs.Values.{Has}

-- Up to a version, the key has the value that was decided, since it was. Where nothing is decided, it has the value that it
-- had at the durable version.
abbrev pub TellsTo : List Batch → (durable upto : ℕ) → List ℕ → Decision → Type 0
TellsTo log durable upto key None = Has log durable upto key (value_of log durable key)
TellsTo log durable upto key (Some found) = (found.0 ≤ upto) × Has log found.0 upto key found.1

-- The same in the middle of a batch, behind the mutations of which the key has a value: what was decided before it holds up to
-- the newest version, and what is decided is that value.
abbrev pub MakesTo : List Batch → (durable newest made : ℕ) → List ℕ → Decision → Option (List ℕ) → Type 0
MakesTo log durable newest made key None value = Has log durable newest key (value_of log durable key) × (value ≡ value_of log durable key)
MakesTo log durable newest made key (Some found) value = ((found.0 ≤ newest) ⊎ (found.0 ≡ made)) × Has log found.0 newest key found.1 × (value ≡ found.1)
