-- How the files of a life that stopped open again.
use Rattle.std.specs.Prelude.{◌≡◌, ℕ, true, List, Option, Some, IsTrue}
use Rattle.std.specs.Result.{IsOkAnd}
use Rattle.st_course.specs.Jobs.{meta_of}
use Rattle.st_course.specs.Sent.{value_of}
use Rattle.st_disk.specs.History.{Files}
use Rattle.st_fold.specs.Map.{Map, value_at}
use Rattle.st_key.specs.Spans.{holds}
use Rattle.st_meta.specs.Stored.{Stores}
use Rattle.st_model.specs.Report.{MayOpen}
use Rattle.st_model.specs.State.{Given, Opening, State}
use Rattle.st_restart.specs.Agreement.{Agrees, is_version, opening_of}
use Rattle.st_restart.specs.Opened.{opened}

-- the map is the one of an opening: it stores the opening's state, at a version of the log, and the keys that are available have
-- their values of that version
pub record IsStoreOf (given : Given) (opening : Opening) (pairs : Map) : Type 0 where
  pub stored : Stores pairs (meta_of given opening)
  pub version : IsTrue (is_version given.log opening.version)
  pub values : (key : List ℕ) → holds opening.available key ≡ true → value_at pairs key ≡ value_of given.log opening.version key

-- files open so, and their store is the log's
abbrev pub OpenTo : Given → (Opening → Type 0) → Files → Type 0
OpenTo given may files = IsOkAnd (opened given.own files) (λ one. may (opening_of one) × Agrees given.own given.log one)

-- files open behind a life's state: by what is durable in it, or by what is once its commit in flight is
abbrev pub OpenBehind : Given → State → Files → Type 0
OpenBehind given state files = OpenTo given (MayOpen (Some state)) files
