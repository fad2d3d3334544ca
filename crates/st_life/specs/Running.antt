-- A life in the making over a server, and where the steps of its schedule lead it.
use Rattle.std.specs.Prelude.{◌≡◌, ◌+◌, ◌-◌, ◌<◌, ◌^◌, ◌≤◌, ℕ, Bool, false, if◌then◌else◌, List, [], ◌++◌, length, Option, Some, None, IfSome, Result, Ok, Err}
use Rattle.std.specs.List.{AllByRecursion}
use Rattle.std.specs.Option.{ForSome, option_map}
use Rattle.st_core.specs.Acts.{reached_by}
use Rattle.st_core.specs.Driving.{HasMade}
use Rattle.st_core.specs.Server.{Serving}
use Rattle.st_core.specs.declared.refusal.DriveRefusal.{DriveRefusal}
use Rattle.st_core.specs.declared.refusal.DriveRefusal.TheVariants.{Device, NoMemory}
use Rattle.st_disk.specs.Calls.{StoppedIn, made}
use Rattle.st_disk.specs.History.{History, fresh, risen}
use Rattle.st_disk.specs.Recorded.{Call}
use Rattle.st_engine.specs.Commit.{Refused}
use Rattle.st_engine.specs.Engine.{Mounted}
use Rattle.st_engine.specs.Store.{Kept}
use Rattle.st_fold.specs.declared.plan.Act.{Act}
use Rattle.st_fold.specs.declared.plan.Act.TheVariants as act
use Rattle.st_fold.specs.declared.plan.Do.{Do}
use Rattle.st_fold.specs.declared.plan.LifePlan.{LifePlan}
use Rattle.st_fold.specs.declared.report.Event.{Event}
use Rattle.st_model.specs.Schedule.{LeadsTo, Progress, do_act, event_of, finish_commit, has_open, may_do, next, readers_at_end}
use Rattle.st_model.specs.State.{Given, Opening}
use Rattle.st_model.specs.Trace.{due}
use Rattle.st_queue.specs.declared.frame.QueueRefusal.{QueueRefusal}
use Rattle.st_queue.specs.declared.frame.QueueRefusal.TheVariants as queue
use Rattle.st_engine.specs.Commit.{calls_of}
use Rattle.st_life.specs.Play.{Start, as_played, commit_in_flight, stage_of}
use Rattle.st_life.specs.Readers.{Reading}

-- a life in the making
pub record Playing (D P : Type 0) : Type 0 where
  pub server : Serving D P
  pub reading : Reading

-- A disk lets so many more calls through as a plan gives the life until it is killed, or each.
pub record LetsThrough (plan : LifePlan) (h : History) : Type 0 where
  pub passes : h.passes ≡ option_map (λ kill. h.made + kill.0) plan.kill
  pub countable : ForSome h.passes (λ n. n < 2 ^ 64 - 1)

-- the life that was begun, by what it is given, how it opened, and what its disk told then
pub record IsBegun (given : Given) (opening : Opening) (no_frame : Bool) (start : Start) (told : Option History) : Type 0 where
  pub given_is : start.given ≡ given
  pub opening_is : start.opening ≡ opening
  pub fresh_is : start.fresh ≡ no_frame
  pub fuse : IfSome told (LetsThrough start.plan)

-- It is where its schedule led it, with these lines left: there are these events and sessions; and since its disk had a history,
-- the engine made so many calls, and keeps this store, with nothing unsynced.
pub record IsAt {D P : Type 0} (told : D → Option History) (h : History) (lines : List (Do × ℕ)) (playing : Playing D P) (progress : Progress Kept) : Type 0 where
  pub lines_are : progress.lines ≡ lines
  pub trace : progress.trace ≡ playing.server.board.trace
  pub state : progress.state ≡ playing.server.board.state
  pub sessions : progress.sessions ≡ playing.reading.sessions
  pub unhalted : progress.halt ≡ None
  pub calls : List Call
  pub made_are : HasMade told h playing.server.engine calls progress.engine
  pub count : progress.calls ≡ length calls
  pub synced : (made calls h).now ≡ (fresh progress.engine.files).now
  pub unbroken : playing.server.engine.broken ≡ None

-- steps of its schedule lead it on, from where it had some lines left to where it has others
abbrev pub LeadsOn : {D P : Type 0} → (D → Option History) → Start → (before : Option History) → (from to : List (Do × ℕ)) → (old new : Playing D P) → Type 0
LeadsOn told start before from to old new =
    IfSome before (λ h. (progress : Progress Kept) → IsAt told h from old progress
    → (later : Progress Kept) × LeadsTo (stage_of start) progress later × IsAt told h to new later)

-- an act is done, where it may be, and else it isn't
abbrev pub Acts : {D P : Type 0} → (D → Option History) → Start → (before : Option History) → Act → (done : Bool) → (old new : Playing D P) → Type 0
Acts told start before action done old new =
    IfSome before (λ h. (lines : List (Do × ℕ)) (progress : Progress Kept) → IsAt told h lines old progress
    → (may_do (stage_of start) progress action ≡ done) × IsAt told h lines new (if done then do_act (stage_of start) progress action else progress))

-- The disk stopped in the calls of the commit in flight, of a life that came so far and made these calls.
pub record IsCutShort {D : Type 0} (told : D → Option History) (start : Start) (h : History) (calls : List Call) (last : Progress Kept) (disk : D) : Type 0 where
  pub now : History
  pub told_is : told disk ≡ Some now
  pub stopped : StoppedIn (calls_of (commit_in_flight start last.engine last.trace)) (made calls h) now

-- The frame of the commit in flight is past the limit of a file.
pub record IsPastLimit {D : Type 0} (told : D → Option History) (start : Start) (h : History) (calls : List Call) (last : Progress Kept) (disk : D) (long limit : ℕ) : Type 0 where
  pub refused : Refused
  pub is : commit_in_flight start last.engine last.trace ≡ Err refused
  pub past : refused.past ≡ record { length = long; limit = limit }
  pub told_is : told disk ≡ Some (made refused.calls (made calls h))

-- the commit in flight was refused
abbrev pub CommitStops : {D : Type 0} → (D → Option History) → Start → History → List Call → Progress Kept → D → QueueRefusal → Type 0
CommitStops told start h calls last disk (queue.DiskFault faults) = IsCutShort told start h calls last disk
CommitStops told start h calls last disk (queue.Full long limit) = IsPastLimit told start h calls last disk long limit
CommitStops told start h calls last disk (queue.Broken faults) = ⊥
CommitStops told start h calls last disk (queue.Damaged file at) = ⊥
CommitStops told start h calls last disk queue.NoMemory = ⊥

-- an act was refused: memory was wanting, or it is the end of a commit
abbrev pub ActStops : {D : Type 0} → (D → Option History) → Start → History → List Call → Progress Kept → D → Act → DriveRefusal → Type 0
ActStops told start h calls last disk action NoMemory = Unit {0}
ActStops told start h calls last disk action (Device refusal) =
    (action ≡ act.Durable) × (event : Event) × (event_of (stage_of start) last act.Durable ≡ Some event) × CommitStops told start h calls last disk refusal

abbrev pub RefusesAct : {D P : Type 0} → (D → Option History) → Start → (before : Option History) → Act → (old new : Playing D P) → DriveRefusal → Type 0
RefusesAct told start before action old new why =
    IfSome before (λ h. (lines : List (Do × ℕ)) (progress : Progress Kept) → (at : IsAt told h lines old progress)
    → ActStops told start h at.calls progress new.server.engine.disk action why)

-- the next step is refused: memory was wanting, or it ends a commit
abbrev pub StepStops : {D : Type 0} → (D → Option History) → Start → History → List Call → Progress Kept → D → DriveRefusal → Type 0
StepStops told start h calls last disk NoMemory = Unit {0}
StepStops told start h calls last disk (Device refusal) =
    (lines : List (Do × ℕ)) × (event : Event)
    × (next (stage_of start) last ≡ Some (finish_commit (stage_of start) (record last { lines = lines }) event (as_played (commit_in_flight start last.engine last.trace))))
    × CommitStops told start h calls last disk refusal

-- Steps of its schedule lead to where the next one was refused.
pub record Stops {D P : Type 0} (told : D → Option History) (start : Start) (h : History) (progress : Progress Kept) (new : Playing D P) (why : DriveRefusal) : Type 0 where
  pub last : Progress Kept
  pub leads : LeadsTo (stage_of start) progress last
  pub lines : List (Do × ℕ)
  pub before : Playing D P
  pub at : IsAt told h lines before last
  pub board : reached_by new.server.board ≡ reached_by before.server.board
  pub reading : new.reading ≡ before.reading
  pub by : StepStops told start h at.calls last new.server.engine.disk why

abbrev pub StopsOn : {D P : Type 0} → (D → Option History) → Start → (before : Option History) → (from : List (Do × ℕ)) → (old new : Playing D P) → DriveRefusal → Type 0
StopsOn told start before from old new why =
    IfSome before (λ h. (progress : Progress Kept) → IsAt told h from old progress → Stops told start h progress new why)

-- at rest, the readers before these ones have no open request
pub record IsTurnOf {D P : Type 0} (given : Given) (readers : List ℕ) (playing : Playing D P) : Type 0 where
  pub rest : due given playing.server.board.state ≡ None
  pub polled : List ℕ
  pub order : readers_at_end ≡ polled ++ readers
  pub shut : AllByRecursion (λ reader. has_open reader playing.reading.sessions ≡ false) polled

-- its schedule and the closing lead it to the end
abbrev pub PlaysOut : {D P : Type 0} → (D → Option History) → Start → (before : Option History) → (from : List (Do × ℕ)) → (old new : Playing D P) → Type 0
PlaysOut told start before from old new =
    IfSome before (λ h. (progress : Progress Kept) → IsAt told h from old progress
    → (last : Progress Kept) × LeadsTo (stage_of start) progress last × IsAt told h [] new last × (next (stage_of start) last ≡ None))

-- What steps leave of an engine, by how they ended: nothing failed; or the disk did, which tells its count; or the engine was
-- broken before.
abbrev pub EngineBehind : {D T : Type 0} → (count : D → ℕ) → (old new : Mounted D) → Result T DriveRefusal → Type 0
EngineBehind count old new (Ok done) = (count new.disk ≡ count old.disk) × (new.broken ≡ old.broken)
EngineBehind count old new (Err (Device (queue.DiskFault faults))) = (faults ≡ count new.disk) × (risen (count old.disk) ≤ count new.disk)
EngineBehind count old new (Err (Device (queue.Broken faults))) = old.broken ≡ Some faults
EngineBehind count old new (Err (Device (queue.Full long limit))) = Unit {0}
EngineBehind count old new (Err (Device (queue.Damaged file at))) = ⊥
EngineBehind count old new (Err (Device queue.NoMemory)) = ⊥
EngineBehind count old new (Err NoMemory) = Unit {0}
