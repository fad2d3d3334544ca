-- A log that is read batch by batch.
use Rattle.std.specs.Prelude.{ℕ, max, nat_lt, List, Option}
use Rattle.std.specs.List.{find}
use Rattle.std.specs.Option.{option_map_or}
use Rattle.st_mutation.specs.declared.batch.Batch.{Batch}

-- a log, the version up to which it was read, and the version up to which it was given up
pub record Reading : Type 0 where
  pub log : List Batch
  pub last : ℕ
  pub popped : ℕ

-- the first batch above a version
abbrev pub first_above : ℕ → List Batch → Option Batch
first_above version log = find (λ batch. nat_lt version batch.version) log

abbrev pub next_of : Reading → Option Batch
next_of reading = first_above reading.last reading.log

-- the reading that goes on behind a version, and the one that goes on behind the next batch
abbrev pub at : ℕ → Reading → Reading
at version reading = record reading { last = version }

abbrev pub behind_next : Reading → Reading
behind_next reading = option_map_or (λ batch. at batch.version reading) (next_of reading) reading

-- the reading to which nothing up to a version is given any more
abbrev pub popped_to : ℕ → Reading → Reading
popped_to version reading = record reading { last = max reading.last version; popped = max reading.popped version }
