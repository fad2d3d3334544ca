-- Lives of a server that owns all keys, whose log moves nothing, and whose commits are never due.
use Rattle.std.specs.Prelude.{◌≡◌, ℕ, zero, suc, ◌≤◌, List, [], ◌∷◌, ◌++◌, map, drop, length, Option, Some, None, nat_le, if◌then◌else◌}
use Rattle.std.specs.List.{AllByRecursion, find}
use Rattle.std.specs.Option.{option_map, option_map_or}
use Rattle.st_fold.specs.Plain.{Rises, IsPlainBatch}
use Rattle.st_mutation.specs.declared.batch.Batch.{Batch}
use Rattle.st_fold.specs.declared.plan.Act.TheVariants as act
use Rattle.st_fold.specs.declared.plan.Do.{Do}
use Rattle.st_fold.specs.declared.plan.Do.TheVariants as step_of
use Rattle.st_fold.specs.declared.plan.LifePlan.{LifePlan}
use Rattle.st_fold.specs.declared.report.Event.{Event}
use Rattle.st_fold.specs.declared.report.Event.TheVariants.{Opened, Applied}
use Rattle.st_model.specs.declared.piece.Phase.TheVariants.{Readable}
use Rattle.st_model.specs.Pieces.{all_keys}
use Rattle.st_model.specs.Report.{requests_of}
use Rattle.st_model.specs.State.{Given, Opening, State}
use Rattle.st_model.specs.Schedule.{Progress, Session, Stage, has_open, made, poll_first, readers_at_end, unpolled}

-- what such a life is given
pub record IsPlain (given : Given) : Type 0 where
  pub own : given.own ≡ all_keys ∷ []
  pub rises : Rises 0 given.log
  pub batches : AllByRecursion (IsPlainBatch given.settings.window) given.log
  pub patient : 1 ≤ given.settings.patience

-- the opening of an empty store, of which all keys are held
abbrev pub fresh_opening : Opening
fresh_opening = record { version = 0; available = all_keys ∷ [] }

-- the state in which the batches up to a version were applied, and nothing else was done
abbrev pub plain_state : ℕ → State
plain_state newest = record {
  newest = newest;
  oldest = 0;
  durable = 0;
  available = all_keys ∷ [];
  flight = None;
  pieces = record { begin = []; end = 255 ∷ []; phase = Readable } ∷ [];
  watches = [];
}

-- the log's batches up to a version, and the others
pub record IsSplit (log : List Batch) (newest : ℕ) (left : List Batch) : Type 0 where
  pub applied : List Batch
  pub whole : log ≡ applied ++ left
  pub below : AllByRecursion (λ batch. batch.version ≤ newest) applied
  pub above : Rises newest left

-- the first of the batches that are left, unless it is above what the life applies
abbrev pub first_to : ℕ → List Batch → Option Batch
first_to upto [] = None
first_to upto (batch ∷ later) = if nat_le batch.version upto then Some batch else None

-- ---- their schedules

-- how far such a life is: the lines that are left of its schedule, the newest version and the batches above it, the
-- trace, and the sessions
pub record Plainly : Type 0 where
  pub lines : List (Do × ℕ)
  pub newest : ℕ
  pub left : List Batch
  pub trace : List Event
  pub sessions : List Session

-- the stage of such a life, which makes no commit
abbrev pub plain_stage : Given → LifePlan → Stage (Unit {0})
plain_stage given plan = record { given = given; opening = fresh_opening; plan = plan; engine = tt; commit = λ engine events. made 0 engine }

-- how far a life is that is so far
abbrev pub progress_of : Plainly → Progress (Unit {0})
progress_of plainly = record {
  lines = plainly.lines;
  trace = plainly.trace;
  state = plain_state plainly.newest;
  sessions = plainly.sessions;
  engine = tt;
  calls = 0;
  halt = None;
}

abbrev pub begin_plainly : Given → LifePlan → Plainly
begin_plainly given plan = record {
  lines = plan.dos;
  newest = 0;
  left = given.log;
  trace = Opened 0 ∷ [];
  sessions = map unpolled (requests_of plan);
}

abbrev pub with_lines : List (Do × ℕ) → Plainly → Plainly
with_lines lines plainly = record plainly { lines = lines }

-- a batch is applied
abbrev pub apply_plainly : Plainly → Batch → Plainly
apply_plainly plainly batch = record plainly {
  newest = batch.version;
  left = drop 1 plainly.left;
  trace = plainly.trace ++ Applied batch.version ∷ [];
}

-- a reader's first open request is polled
abbrev pub poll_plainly : Given → Plainly → ℕ → Plainly
poll_plainly given plainly reader =
    record plainly { sessions = poll_first given reader (length plainly.trace) (plain_state plainly.newest) plainly.sessions }

-- a line of the schedule, to be done once and then so many times more
abbrev pub line_plainly : Given → Plainly → Do → ℕ → List (Do × ℕ) → Plainly
line_plainly given plainly (step_of.Act act.Apply) times later =
    option_map_or (apply_plainly (with_lines ((step_of.Act act.Apply, times) ∷ later) plainly)) (first_to given.upto plainly.left)
    (with_lines later plainly)
line_plainly given plainly (step_of.Poll reader) times later =
    if has_open reader plainly.sessions then poll_plainly given (with_lines ((step_of.Poll reader, times) ∷ later) plainly) reader
    else with_lines later plainly
line_plainly given plainly one times later = with_lines later plainly

-- the closing applies what is left, and then the readers poll
abbrev pub end_plainly : Given → Plainly → Option Plainly
end_plainly given plainly =
    option_map_or (λ batch. Some (apply_plainly plainly batch)) (first_to given.upto plainly.left)
    (option_map (poll_plainly given plainly) (find (λ reader. has_open reader plainly.sessions) readers_at_end))

abbrev pub next_plainly : Given → Plainly → Option Plainly
next_plainly given plainly = by_lines plainly.lines
  where
    by_lines : List (Do × ℕ) → Option Plainly
    by_lines [] = end_plainly given plainly
    by_lines ((one, zero) ∷ later) = Some (with_lines later plainly)
    by_lines ((one, suc times) ∷ later) = Some (line_plainly given plainly one times later)

abbrev pub walk_plainly : Given → ℕ → Plainly → Plainly
walk_plainly given zero plainly = plainly
walk_plainly given (suc steps) plainly = option_map_or (walk_plainly given steps) (next_plainly given plainly) plainly
