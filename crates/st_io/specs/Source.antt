-- What a source of bytes has left, where it tells, and what a reading to its end takes.
use Rattle.std.specs.Prelude.{◌≡◌, ℕ, ◌<◌, ◌≤◌, min, List, [], length, drop, Option, Some, IfSome, if◌then◌else◌}
use Rattle.std.specs.Io.KnownBytes.{Consumes}
use Rattle.st_io.specs.Calls.{Calls, next_fails, after_next}
use Rattle.st_io.specs.Faults.{Rose}
use Rattle.st_io.specs.declared.source.ReadAll.{ReadAll}
use Rattle.st_io.specs.declared.source.ReadAll.TheVariants.{ReadFault, TooLong, NoMemory}

-- these are all bytes that were left, and nothing is left
abbrev pub TakesAll : Option (List ℕ) → Option (List ℕ) → List ℕ → Type 0
TakesAll before now bytes = IfSome before (λ left. (bytes ≡ left) × (now ≡ Some []))

-- n bytes were taken from the front, and what is left is the rest
abbrev pub Takes : Option (List ℕ) → Option (List ℕ) → ℕ → Type 0
Takes before now n = (front : List ℕ) × (length front ≡ n) × Consumes before now front

-- what a reading to the end that was given up has taken, and why it was
abbrev pub WasGivenUp : Option (List ℕ) → Option (List ℕ) → ℕ → ℕ → ℕ → ReadAll → Type 0
WasGivenUp before now faults_before faults_now limit (ReadFault faults) =
    ((n : ℕ) × (n ≤ limit) × Takes before now n) × Rose faults_before faults_now × (faults ≡ faults_now)
WasGivenUp before now faults_before faults_now limit (TooLong told) =
    ((n : ℕ) × (limit < n) × Takes before now n) × (told ≡ limit)
WasGivenUp before now faults_before faults_now limit NoMemory = (n : ℕ) × (n ≤ limit) × Takes before now n

-- a source in memory: the bytes left, how many a read gives at most, and the calls made
pub record Input : Type 0 where
  pub left : List ℕ
  pub piece : ℕ
  pub calls : Calls

-- how many bytes a read into a buffer of this length gives, unless it fails
abbrev pub read_len : Input → ℕ → ℕ
read_len input room = min input.piece (min room (length input.left))

-- after a read into a buffer of this length
abbrev pub after_read : Input → ℕ → Input
after_read input room = record input {
  left = if next_fails input.calls then input.left else drop (read_len input room) input.left;
  calls = after_next input.calls;
}
