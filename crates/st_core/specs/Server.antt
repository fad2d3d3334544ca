-- A server: a board over an engine, a cursor over the log, and the job of the commit in flight.
use Rattle.std.specs.Prelude.{◌≡◌, ◌≤◌, ◌⊎◌, ℕ, Bool, true, false, List, [], filter, take, length, Option, Some, None, IfSome, IsTrue}
use Rattle.std.specs.Option.{ForSome}
use Rattle.st_board.specs.Base.{AreChanges, Store}
use Rattle.st_board.specs.Stands.{IsStill, Standing}
use Rattle.st_course.specs.Course.{job_after, made_after}
use Rattle.st_course.specs.Jobs.{meta_of}
use Rattle.st_course.specs.declared.job.CommitJob.{CommitJob}
use Rattle.st_cursor.specs.Reading.{Reading}
use Rattle.st_disk.specs.History.{Files, History, MayLeave}
use Rattle.st_engine.specs.Engine.{Mounted}
use Rattle.st_engine.specs.Holding.{Reads}
use Rattle.st_engine.specs.Replay.{ops_on}
use Rattle.st_fold.specs.Map.{Map}
use Rattle.st_fold.specs.declared.report.Event.{Event}
use Rattle.st_key.specs.Spans.{holds}
use Rattle.st_meta.specs.Stored.{IsState, Stores}
use Rattle.st_model.specs.Report.{MayOpen}
use Rattle.st_model.specs.State.{Given, Opening, State}
use Rattle.st_model.specs.Trace.{state_after}
use Rattle.st_restart.specs.After.{OpenTo}
use Rattle.st_restart.specs.Agreement.{is_version}

-- a server as its callers see it
pub record Serving (D P : Type 0) : Type 0 where
  pub board : Standing
  pub engine : Mounted D
  pub peer : P
  pub cursor : Reading
  pub flight : Option CommitJob

-- files read as an engine's store, or with a commit in flight as the one behind it
abbrev pub ReadNow : Bool → Map → Option CommitJob → Files → Type 0
ReadNow fresh pairs None files = Reads fresh pairs files
ReadNow fresh pairs (Some job) files = Reads fresh pairs files ⊎ Reads false (ops_on pairs job.ops) files

-- what is durable in a state
abbrev pub durable_of : State → Opening
durable_of state = record { version = state.durable; available = state.available }

-- nothing was written yet: the store is the one that the server owns before its log begins
pub record IsUntouched (given : Given) (state : State) (pairs : Map) : Type 0 where
  pub durable : durable_of state ≡ record { version = 0; available = given.own }
  pub none : pairs ≡ []

-- what is stored: the state that is durable, once a frame was written
abbrev pub HoldsState : Given → State → Bool → Map → Type 0
HoldsState given state true pairs = IsUntouched given state pairs
HoldsState given state false pairs = Stores pairs (meta_of given (durable_of state))

-- The engine's map is one whose available pairs the life opened with, behind the operations of its durable commits.
pub record IsMade (given : Given) (opening : Opening) (store : Store) (trace : List Event) (pairs : Map) : Type 0 where
  pub mounted : Map
  pub opened : filter (λ pair. holds opening.available pair.0) mounted ≡ store.pairs
  pub made : pairs ≡ ops_on mounted (made_after given opening store.fresh trace)

-- A server serves its life: its parts are what the life's trace made of what it was given and opened with.
pub record Serves {D P : Type 0} (given : Given) (opening : Opening) (store : Store) (told : D → Option History) (server : Serving D P) : Type 0 where
  pub still : IsStill given opening
  pub log : server.cursor.log ≡ given.log
  pub at : server.cursor.last ≡ server.board.state.newest
  -- the job in flight is the one that the trace began
  pub flight : server.flight ≡ job_after given opening store.fresh server.board.trace
  pub changes : ForSome server.flight (λ job. AreChanges job.ops)
  pub storable : ForSome server.board.state.flight (λ flight. IsState (meta_of given flight))
  -- the map is that of the trace's durable commits, and stores the durable state
  pub made : IsMade given opening store server.board.trace server.engine.store.pairs
  pub stored : HoldsState given server.board.state server.engine.store.fresh server.engine.store.pairs
  -- what is durable, and what will be, is of a version of the log
  pub version : IsTrue (is_version given.log server.board.state.durable)
  pub next_version : ForSome server.board.state.flight (λ flight. IsTrue (is_version given.log flight.version))
  -- a crash leaves the store, or the one behind the commit in flight
  pub images : IfSome (told server.engine.disk) (λ h. (images : Files) → MayLeave h images → ReadNow server.engine.store.fresh server.engine.store.pairs server.flight images)
  pub sound : server.flight ≡ None → server.engine.broken ≡ None

-- files open behind some part from the front of a trace that has at least so many events
pub record OpenWithin (given : Given) (opening : Opening) (from : ℕ) (trace : List Event) (files : Files) : Type 0 where
  pub place : ℕ
  pub low : from ≤ place
  pub high : place ≤ length trace
  pub opens : OpenTo given (MayOpen (state_after given opening (take place trace))) files
