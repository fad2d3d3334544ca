-- What a board stands for, where it serves all keys and its log moves nothing.
use Rattle.std.specs.Prelude.{◌≡◌, ℕ, ◌≤◌, ◌<◌, nat_lt, false, List, [], ◌∷◌, filter, map, Option, Some, None, IsSomeAnd}
use Rattle.std.specs.List.{AllByRecursion, list_any}
use Rattle.std.specs.Option.{ForSome, option_map}
use Rattle.st_fold.specs.Map.{Map}
use Rattle.st_fold.specs.Plain.{Rises}
use Rattle.st_fold.specs.declared.report.Event.{Event}
use Rattle.st_key.specs.Spans.{all_keys}
use Rattle.st_meta.specs.declared.state.Meta.{Meta}
use Rattle.st_model.specs.State.{Given, Opening, State}
use Rattle.st_model.specs.Trace.{is_end, state_after}
use Rattle.st_model.specs.declared.piece.Piece.{Piece}
use Rattle.st_versioned.specs.Root.{over, value_at}
use Rattle.st_versioned.specs.Window.{Versions, root_of}
pub use Rattle.st_board.specs.Base.{all_served}
use Rattle.st_course.specs.Course.{Course, course_of, job_after, made_after}
use Rattle.st_course.specs.Jobs.{meta_of}
use Rattle.st_course.specs.Sent.{batches_between, value_of}
use Rattle.st_board.specs.Base.{Among, IsWrite, LeadTo, Store, value_behind}
use Rattle.st_board.specs.Kept.{IsUsers, KeepsVersions}
use Rattle.st_board.specs.Logs.{HasShortKey}

-- A board as its callers see it: the trace that it stores, the state that its own numbers and pieces are, and the base.
pub record Standing : Type 0 where
  pub trace : List Event
  pub state : State
  pub window : Versions
  pub base : Map

-- the commit that this will be stored of
abbrev pub flight_of : Meta → Opening
flight_of next = record { version = next.version; available = next.available }

-- the board of these parts: what its base is stored with, and what it will be stored with
abbrev pub board_of : List Event → (newest : ℕ) → (durable : Meta) → (next : Option Meta) → List Piece → Versions → Map → Standing
board_of trace newest durable next pieces window base = record {
  trace = trace;
  state = record {
    newest = newest;
    oldest = durable.version;
    durable = durable.version;
    available = durable.available;
    flight = option_map flight_of next;
    pieces = pieces;
    watches = [];
  };
  window = window;
  base = base;
}

-- the events for which there is always room: the end of the flight, and the life's last
abbrev pub still_to_come : Option Meta → ℕ
still_to_come None = 1
still_to_come (Some next) = 2

-- the log of a server that owns all keys, and moves none
pub record IsStill (given : Given) (opening : Opening) : Type 0 where
  pub own : given.own ≡ all_keys ∷ []
  pub available : opening.available ≡ all_keys ∷ []
  pub rises : Rises 0 given.log
  pub no_moves : AllByRecursion (λ batch. batch.moves ≡ []) given.log
  pub short : AllByRecursion (λ batch. AllByRecursion HasShortKey batch.mutations) given.log

-- a commit in flight, of all keys, at the durable version or that of a batch above it
pub record IsFlight (given : Given) (state : State) (flight : Opening) : Type 0 where
  pub above : state.durable ≤ flight.version
  pub read : flight.version ≤ state.newest
  pub there : Among flight.version (state.durable ∷ map (λ batch. batch.version) (batches_between given.log state.durable state.newest))
  pub available : flight.available ≡ all_keys ∷ []

-- the base has the pairs of the opening's store, changed by the jobs of the durable commits
abbrev pub IsCommitted : Given → Opening → Store → Standing → Type 0
IsCommitted given opening store board =
    (key : List ℕ) → IsUsers key → value_at board.base key ≡ value_behind key (value_at store.pairs key) (made_after given opening store.fresh board.trace)

-- what a board keeps of its course
pub record Follows (given : Given) (store : Store) (board : Standing) (course : Course) : Type 0 where
  pub state : course.state ≡ board.state
  -- all keys are available
  pub clears : course.clears ≡ []
  -- the window has what was sent above the durable version
  pub sent : board.window.mutations ≡ filter (λ made. nat_lt board.state.durable made.0) course.sent
  pub writes : AllByRecursion (λ made. IsWrite made.1) board.window.mutations
  -- the job in flight leads from the base to its version
  pub flown : option_map (λ job. job.version) course.job ≡ option_map (λ flight. flight.version) board.state.flight
  pub leads : ForSome course.job (λ job. (key : List ℕ) → IsUsers key → value_behind key (value_at board.base key) job.ops ≡ value_of given.log job.version key)
  -- and changes keys of users, and stores the state of its commit
  pub lands : ForSome course.job (λ job. ForSome board.state.flight (λ flight. LeadTo (meta_of given flight) job.ops))
  -- and the durable ones led to the base
  pub committed : (key : List ℕ) → IsUsers key → value_at board.base key ≡ value_behind key (value_at store.pairs key) course.made

-- what a board keeps of itself
pub record Keeps (given : Given) (opening : Opening) (store : Store) (board : Standing) : Type 0 where
  pub still : IsStill given opening
  pub legal : state_after given opening board.trace ≡ Some board.state
  pub going_on : list_any is_end board.trace ≡ false
  pub oldest : board.state.oldest ≡ board.state.durable
  pub pieces : board.state.pieces ≡ all_served
  pub available : board.state.available ≡ all_keys ∷ []
  pub flight : ForSome board.state.flight (IsFlight given board.state)
  pub versions : KeepsVersions given.log board.state.durable board.state.newest board.window board.base
  -- the window has a root of each batch above the durable version, and of that version
  pub roots : map (λ kept. kept.version) board.window.roots
      ≡ board.state.durable ∷ map (λ batch. batch.version) (batches_between given.log board.state.durable board.state.newest)
  pub course : Course
  pub is_course : course_of given opening store.fresh board.trace ≡ Some course
  pub follows : Follows given store board course

-- the board stands for its log and its trace
pub record StandsFor (given : Given) (opening : Opening) (store : Store) (board : Standing) : Type 0 where
  -- the trace is legal, and leads to the board's state
  pub legal : state_after given opening board.trace ≡ Some board.state
  pub going_on : list_any is_end board.trace ≡ false
  -- all keys are served, since the log moves none
  pub pieces : board.state.pieces ≡ all_served
  -- the map of each version that can be read is that of the log
  pub versions : (version : ℕ) (key : List ℕ) → board.state.oldest ≤ version → version ≤ board.state.newest → IsUsers key
      → IsSomeAnd (root_of board.window version) (λ root. over root board.base key ≡ value_of given.log version key)
  -- the base is that of the durable version
  pub base_is : (key : List ℕ) → IsUsers key → value_at board.base key ≡ value_of given.log board.state.durable key
  -- the changes that are kept are above it
  pub above : AllByRecursion (λ made. board.state.durable < made.0) board.window.mutations
  -- behind the job in flight the base is that of the job's version
  pub flight : ForSome (job_after given opening store.fresh board.trace)
      (λ job. (key : List ℕ) → IsUsers key → value_behind key (value_at board.base key) job.ops ≡ value_of given.log job.version key)
  -- there is a job where there is a commit in flight, of its version
  pub flown : option_map (λ job. job.version) (job_after given opening store.fresh board.trace) ≡ option_map (λ flight. flight.version) board.state.flight
  -- which changes keys of users, and stores the state of its commit
  pub lands : ForSome (job_after given opening store.fresh board.trace) (λ job. ForSome board.state.flight (λ flight. LeadTo (meta_of given flight) job.ops))
  -- the base has the pairs of the opening's store, changed by the jobs of the durable commits
  pub committed : IsCommitted given opening store board
