-- Maps from keys to values, and what folding a log gives.
use Rattle.std.specs.Prelude.{ℕ, bytes_eq, not, List, [], Option, Some, None, filter, fold, nat_le}
use Rattle.std.specs.Ordering.{nat_cmp}
use Rattle.std.specs.Cmp.Lexicographic.{slice_cmp}
use Rattle.std.specs.FinMap.Entries.{put, find}
use Rattle.st_key.specs.Spans.{within}
use Rattle.st_atomic.specs.Atomic.{changed}
use Rattle.st_mutation.specs.declared.batch.Batch.{Batch}
use Rattle.st_mutation.specs.declared.batch.Mutation.{Mutation}
use Rattle.st_mutation.specs.declared.batch.Mutation.TheVariants.{Set, Clear, Atomic}

-- a map from byte strings to byte strings, as its pairs in the order of their keys
abbrev pub Map : Type 0
Map = List (List ℕ × List ℕ)

-- the value of a key, where it has one
abbrev pub value_at : Map → List ℕ → Option (List ℕ)
value_at pairs key = find (slice_cmp nat_cmp) key pairs

-- the map in which a key has this value, or none, and the others what they had
abbrev pub with_value : List ℕ → Option (List ℕ) → Map → Map
with_value key (Some value) pairs = put (slice_cmp nat_cmp) key value pairs
with_value key None pairs = filter (λ pair. not (bytes_eq pair.0 key)) pairs

-- the map after one mutation
abbrev pub apply : Map → Mutation → Map
apply pairs (Set key value) = with_value key (Some value) pairs
apply pairs (Clear span) = filter (λ pair. not (within span pair.0)) pairs
apply pairs (Atomic op key operand) = with_value key (changed op (value_at pairs key) operand) pairs

-- the map after the mutations of a batch, in their order
abbrev pub apply_batch : Map → Batch → Map
apply_batch pairs batch = fold apply pairs batch.mutations

-- the batches of a log up to a version
abbrev pub batches_to : ℕ → List Batch → List Batch
batches_to version log = filter (λ batch. nat_le batch.version version) log

-- what a log makes of the empty map up to a version
abbrev pub folded : List Batch → ℕ → Map
folded log version = fold apply_batch [] (batches_to version log)
