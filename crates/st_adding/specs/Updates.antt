-- The updates that are held of a piece of the keys while it is fetched.
use Rattle.std.specs.Prelude.{◌≡◌, ℕ, ◌&&◌, ◌++◌, List, Option, filter, map, nat_le, nat_lt}
use Rattle.std.specs.List.{find, filter_map, flat_map}
use Rattle.std.specs.Option.{option_map}
use Rattle.st_key.specs.Spans.{Span}
use Rattle.st_mutation.specs.declared.batch.Batch.{Batch}
use Rattle.st_mutation.specs.declared.batch.Mutation.{Mutation}
use Rattle.st_mutation.specs.Clip.{clipped}

-- a mutation with the version that makes it
abbrev pub Update : Type 0
Update = ℕ × Mutation

-- the mutations of a batch, each with its version
abbrev pub updates_from : Batch → List Update
updates_from batch = map (λ mutation. (batch.version, mutation)) batch.mutations

-- the part of an update inside a span, where there is one
abbrev pub part_in : Span → Update → Option Update
part_in span update = option_map (λ part. (update.0, part)) (clipped update.1 span)

-- the parts of updates inside a span, in their order
abbrev pub updates_in : Span → List Update → List Update
updates_in span updates = filter_map (part_in span) updates

-- the batches of a log above one version and up to another
abbrev pub batches_between : ℕ → ℕ → List Batch → List Batch
batches_between at newest log = filter (λ batch. nat_lt at batch.version && nat_le batch.version newest) log

-- the parts inside a span of what a log does above one version and up to another, in order
abbrev pub updates_of : List Batch → Span → ℕ → ℕ → List Update
updates_of log span at newest = updates_in span (flat_map updates_from (batches_between at newest log))

-- the first batch of a log above a version
abbrev pub first_above : ℕ → List Batch → Option Batch
first_above version log = find (λ batch. nat_lt version batch.version) log

-- a piece that is fetched at a version, and what is held of it
pub record Holding : Type 0 where
  pub piece : Span
  pub at : ℕ
  pub updates : List Update

-- what is held with a batch more
abbrev pub with_batch : Batch → Holding → Holding
with_batch batch held = record held { updates = held.updates ++ updates_in held.piece (updates_from batch) }

-- what is held without the updates above a version
abbrev pub dropped_to : ℕ → Holding → Holding
dropped_to version held = record held { updates = filter (λ update. nat_le update.0 version) held.updates }

-- the part of what is held inside a span
abbrev pub part_of : Span → Holding → Holding
part_of span held = record held { piece = span; updates = updates_in span held.updates }

-- the parts below a key, and from it on
abbrev pub below : List ℕ → Holding → Holding
below key held = part_of (record { begin = held.piece.begin; end = key }) held

abbrev pub from : List ℕ → Holding → Holding
from key held = part_of (record { begin = key; end = held.piece.end }) held

-- what is held is what a log does to the piece above its version and up to the newest
abbrev pub IsHeldOf : List Batch → ℕ → Holding → Type 0
IsHeldOf log newest held = held.updates ≡ updates_of log held.piece held.at newest
