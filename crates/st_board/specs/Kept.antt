-- What the versions that a board keeps tell of its log, where it serves all keys.
use Rattle.std.specs.Prelude.{◌≡◌, ℕ, ◌≤◌, ◌<◌, true, List, [], ◌∷◌, map, fold, Option, None, IfSome}
use Rattle.std.specs.List.{AllByRecursion}
use Rattle.st_key.specs.Spans.{all_keys, within}
use Rattle.st_mutation.specs.Effect.{value_by}
use Rattle.st_mutation.specs.declared.batch.Batch.{Batch}
use Rattle.st_mutation.specs.declared.batch.Mutation.{Mutation}
use Rattle.st_versioned.specs.Root.{Pairs, decided, value_at}
use Rattle.st_versioned.specs.Window.{Stands, Versions, mutations_to, root_of}
use Rattle.st_board.specs.Tells.{TellsTo}
use Rattle.st_course.specs.Sent.{value_of}

-- a key of users
abbrev pub IsUsers : List ℕ → Type 0
IsUsers key = within all_keys key ≡ true

-- versions of mutations never fall
abbrev pub NeverFall : List (ℕ × Mutation) → Type 0
NeverFall [] = Unit {0}
NeverFall (made ∷ later) = AllByRecursion (λ other. made.0 ≤ other.0) later × NeverFall later

-- the value of a key behind mutations, where it had this one before
abbrev pub led_to : List ℕ → Option (List ℕ) → List (ℕ × Mutation) → Option (List ℕ)
led_to key before mutations = fold (value_by key) before (map (λ made. made.1) mutations)

pub record KeepsVersions (log : List Batch) (durable newest : ℕ) (window : Versions) (base : Pairs) : Type 0 where
  pub sealed : window.making ≡ None
  pub forgotten_is : window.forgotten ≡ durable
  pub newest_is : window.newest ≡ newest
  pub stands : Stands window
  -- the root of each version tells the values of that version
  pub tells : (version : ℕ) (key : List ℕ) → durable ≤ version → version ≤ newest → IsUsers key
      → IfSome (root_of window version) (λ root. TellsTo log durable version key (decided root key))
  -- the base has those of the durable version
  pub base_is : (key : List ℕ) → IsUsers key → value_at base key ≡ value_of log durable key
  -- the mutations up to a version lead from these to its own
  pub leads : (version : ℕ) (key : List ℕ) → durable ≤ version → version ≤ newest → IsUsers key
      → led_to key (value_of log durable key) (mutations_to version window) ≡ value_of log version key
  -- they are those above the durable version
  pub above : AllByRecursion (λ made. durable < made.0) window.mutations
  pub in_order : NeverFall window.mutations
