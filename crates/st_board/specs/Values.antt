-- The values that keys have in a log.
use Rattle.std.specs.Prelude.{◌≡◌, ℕ, ◌≤◌, List, Option}
use Rattle.st_course.specs.Sent.{value_of}
use Rattle.st_mutation.specs.declared.batch.Batch.{Batch}

-- a key has this value at each version from one up to another
abbrev pub Has : List Batch → (from upto : ℕ) → List ℕ → Option (List ℕ) → Type 0
Has log from upto key value = (version : ℕ) → from ≤ version → version ≤ upto → value_of log version key ≡ value
