-- How the store on a disk is opened for a life.
use Rattle.std.specs.Prelude.{◌≡◌, ◌≤◌, ℕ, true, false, List, [], Option, Result, Ok, Err, IfSome}
use Rattle.std.specs.Result.{IsOkAnd}
use Rattle.st_board.specs.declared.opening.Opening.{Opening}
use Rattle.st_course.specs.Jobs.{clears_of}
use Rattle.st_disk.specs.History.{History, risen, seen}
use Rattle.st_disk.specs.Moments.{ToldLeavesOnly}
use Rattle.st_engine.specs.Answers.{Mounts}
use Rattle.st_engine.specs.Engine.{ToldAgrees}
use Rattle.st_engine.specs.Store.{Store}
use Rattle.st_fold.specs.declared.plan.Settings.{Settings}
use Rattle.st_fold.specs.declared.report.Damage.TheVariants as damage
use Rattle.st_fold.specs.declared.report.Fault.{Fault}
use Rattle.st_fold.specs.declared.report.Fault.TheVariants as fault
use Rattle.st_fold.specs.declared.report.ForeignPart.{ForeignPart}
use Rattle.st_key.specs.Spans.{Span}
use Rattle.st_life.specs.Play.{bounds_of}
use Rattle.st_meta.specs.Stored.{Stores}
use Rattle.st_mutation.specs.declared.batch.Batch.{Batch}
use Rattle.st_queue.specs.Mounting.{IsImageOf, IsSyncedOrStopped}
use Rattle.st_queue.specs.declared.frame.QueueRefusal.{QueueRefusal}
use Rattle.st_queue.specs.declared.frame.QueueRefusal.TheVariants as queue
use Rattle.st_restart.specs.Agreement.{Agrees, Answers}
use Rattle.st_restart.specs.Opened.{as_opened, opened, opened_as}
use Rattle.st_restart.specs.Opened.{Opened as Opens}
use Rattle.st_restart.specs.declared.refusal.AgreeRefusal.TheVariants.{Foreign}
use Rattle.st_run.specs.declared.opening.Opened.{Opened}
use Rattle.st_run.specs.declared.opening.NotOpened.{NotOpened}

-- why a store isn't mounted, as it is told
abbrev pub fault_of : QueueRefusal → Fault
fault_of (queue.DiskFault faults) = fault.Device faults
fault_of (queue.Damaged file at) = fault.Damaged (damage.File file at)
fault_of refusal = fault.Memory

-- A store opens so, and is the log's: its state and its pairs are those of the opening.
pub record OpensTo (own : List Span) (log : List Batch) (store : Store) (opening : Opening) : Type 0 where
  pub opens : opened_as own store.fresh store.pairs ≡ Ok (as_opened store.fresh opening)
  pub clears : opening.clears.items ≡ clears_of store.fresh opening.available
  -- what has frames stores a state, and is asked for the log's
  pub stored : store.fresh ≡ false
      → Stores store.pairs (record { version = opening.version; assigned = opening.assigned; available = opening.available })
  pub agrees : store.fresh ≡ false → Agrees own log (as_opened store.fresh opening)

-- it has frames, and this part of it isn't the log's
abbrev pub IsForeign : List Span → List Batch → ForeignPart → Opens → Type 0
IsForeign own log part one = (one.fresh ≡ false) × Answers own log one (Err (Foreign part))

-- Why it opens to nothing: its pairs store no state, it has frames of another log, or memory is wanting.
abbrev pub OpensNothing : List Span → List Batch → Store → Fault → Type 0
OpensNothing own log store (fault.Damaged (damage.Meta which)) = opened_as own store.fresh store.pairs ≡ Err which
OpensNothing own log store (fault.Foreign part) = IsOkAnd (opened_as own store.fresh store.pairs) (IsForeign own log part)
OpensNothing own log store fault.Memory = Unit {0}
OpensNothing own log store why = ⊥

-- The store of a disk is open: mounted, and as its files open. Without a frame it has no pair.
pub record IsOpenOn {D : Type 0} (told : D → Option History) (before : D) (own : List Span) (log : List Batch) (settings : Settings)
    (found : Opened D) : Type 0 where
  pub mounted : Mounts told before (bounds_of settings) found.engine
  pub opens : OpensTo own log found.engine.store found.opening
  pub files : IfSome (told before) (λ h. opened own (seen h) ≡ Ok (as_opened found.engine.store.fresh found.opening))
  pub untouched : found.engine.store.fresh ≡ true → found.engine.store.pairs ≡ []

-- Which fault an opening ends in, by what the files open as. The disk's fault carries its count, which rose. Want of memory may
-- come at any time.
abbrev pub IsFault : List Span → List Batch → (told : Option History) → (before now : ℕ) → Fault → Type 0
IsFault own log told before now (fault.Device faults) = (faults ≡ now) × (risen before ≤ now)
IsFault own log told before now (fault.Damaged where_is) = IfSome told (λ h. opened own (seen h) ≡ Err where_is)
IsFault own log told before now (fault.Foreign part) =
    IfSome told (λ h. IsOkAnd (opened own (seen h)) (IsForeign own log part))
IsFault own log told before now fault.Memory = Unit {0}
IsFault own log told before now why = ⊥

-- What an opening that is refused leaves: both files are synced, or it stopped before; and nothing was written.
pub record FailsToOpen {D : Type 0} (told : D → Option History) (count : D → ℕ) (before : D) (own : List Span) (log : List Batch)
    (refused : NotOpened D) : Type 0 where
  pub why : IsFault own log (told before) (count before) (count refused.disk) refused.why
  pub never_falls : count before ≤ count refused.disk
  pub came_to : IsSyncedOrStopped (told before) (told refused.disk)
  pub any_moment : ToldLeavesOnly (told before) (told refused.disk) (IsImageOf (told before))
