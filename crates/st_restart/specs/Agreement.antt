-- When a store is one of a script's log.
use Rattle.std.specs.Prelude.{◌≡◌, ◌≢◌, ℕ, Bool, true, false, ◌==◌, ◌||◌, bytes_eq, ◌&&◌, if◌then◌else◌, List, [], ◌∷◌, Option, Some, None, Result, Ok, Err, IsTrue}
use Rattle.std.specs.List.{list_any}
use Rattle.st_fold.specs.Map.{Map}
use Rattle.st_fold.specs.declared.report.ForeignPart.TheVariants as part
use Rattle.st_key.specs.Parts.{least}
use Rattle.st_key.specs.Spans.{Span}
use Rattle.st_model.specs.State.{Opening, assigned, base_of}
use Rattle.st_mutation.specs.declared.batch.Batch.{Batch}
use Rattle.st_restart.specs.Opened.{Opened}
use Rattle.st_restart.specs.declared.refusal.AgreeRefusal.{AgreeRefusal}
use Rattle.st_restart.specs.declared.refusal.AgreeRefusal.TheVariants.{Foreign, NoMemory}

-- the version of a batch, or the one before the log begins
abbrev pub is_version : List Batch → ℕ → Bool
is_version log version = version == 0 || list_any (λ batch. batch.version == version) log

abbrev pub same_pair : List ℕ × List ℕ → List ℕ × List ℕ → Bool
same_pair one other = bytes_eq one.0 other.0 && bytes_eq one.1 other.1

-- the first key at which two maps differ: one of them has no pair there that the other has
abbrev pub first_difference : Map → Map → Option (List ℕ)
first_difference [] [] = None
first_difference [] (other ∷ others) = Some other.0
first_difference (one ∷ ones) [] = Some one.0
first_difference (one ∷ ones) (other ∷ others) =
    if same_pair one other then first_difference ones others else Some (least one.0 other.0)

-- what of it a life opens with
abbrev pub opening_of : Opened → Opening
opening_of opened = record { version = opened.version; available = opened.available }

-- The store is the log's: its version is one of the log, what is assigned is so by the log's moves, and the pairs of what is
-- available are those of the log at that version.
pub record Agrees (own : List Span) (log : List Batch) (opened : Opened) : Type 0 where
  pub version : IsTrue (is_version log opened.version)
  pub assigned_is : opened.assigned ≡ assigned own log opened.version
  pub base : opened.base ≡ base_of log (opening_of opened)

-- its version is none of the log
abbrev pub HasForeignVersion : List Batch → Opened → Type 0
HasForeignVersion log opened = is_version log opened.version ≡ false

-- its version is one, and what is assigned isn't what is assigned there
pub record HasForeignAssigned (own : List Span) (log : List Batch) (opened : Opened) : Type 0 where
  pub version : IsTrue (is_version log opened.version)
  pub other : opened.assigned ≢ assigned own log opened.version

-- both are the log's, and this is the first key at which the pairs aren't
pub record HasForeignKey (own : List Span) (log : List Batch) (opened : Opened) (key : List ℕ) : Type 0 where
  pub version : IsTrue (is_version log opened.version)
  pub assigned_is : opened.assigned ≡ assigned own log opened.version
  pub first : first_difference opened.base (base_of log (opening_of opened)) ≡ Some key

-- the answer of a call that asks whether a store with frames agrees, but for want of memory
abbrev pub Answers : List Span → List Batch → Opened → Result (Unit {0}) AgreeRefusal → Type 0
Answers own log opened (Ok agreed) = Agrees own log opened
Answers own log opened (Err (Foreign part.Version)) = HasForeignVersion log opened
Answers own log opened (Err (Foreign part.Assigned)) = HasForeignAssigned own log opened
Answers own log opened (Err (Foreign (part.Key key))) = HasForeignKey own log opened key
Answers own log opened (Err NoMemory) = Unit {0}

-- a fresh store has nothing that could differ
abbrev pub IsAsked : Bool → Result (Unit {0}) AgreeRefusal → Type 0 → Type 0
IsAsked true (Ok agreed) asked = Unit {0}
IsAsked true (Err (Foreign part)) asked = ⊥
IsAsked true (Err NoMemory) asked = Unit {0}
IsAsked false result asked = asked
