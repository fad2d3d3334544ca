-- How a life is over, and what it leaves of its disk.
use Rattle.std.specs.Prelude.{◌≡◌, ◌≤◌, ◌⊎◌, ℕ, Bool, true, false, [], Option, Some, None, unwrap_or, IfSome}
use Rattle.st_core.specs.Server.{Serving}
use Rattle.st_disk.specs.History.{Files, History, MayLeave, fresh, risen, seen}
use Rattle.st_engine.specs.Engine.{kept_in}
use Rattle.st_fold.specs.declared.plan.LifePlan.{LifePlan}
use Rattle.st_fold.specs.declared.report.Fault.{Fault}
use Rattle.st_fold.specs.declared.report.Fault.TheVariants as fault
use Rattle.st_fold.specs.declared.report.Life.{Life}
use Rattle.st_model.specs.Schedule.{BreaksOff, Halt, Plays, blown, no_block, past_limit}
use Rattle.st_model.specs.State.{Given, Opening, State}
use Rattle.st_restart.specs.After.{OpenBehind}
use Rattle.st_life.specs.declared.ended.LifeEnded.{LifeEnded}
use Rattle.st_life.specs.Leaving.{leaves}
use Rattle.st_life.specs.Play.{Start, stage_of}

-- the life of a server that did nothing yet, over a disk with this history
abbrev pub start_at : {D P : Type 0} → Given → LifePlan → Opening → (no_frame : Bool) → Serving D P → History → Start
start_at given plan opening no_frame server h = record {
  given = given;
  plan = plan;
  opening = opening;
  fresh = no_frame;
  kept = kept_in (seen h) server.engine;
}

-- the same by what its disk tells, if anything
abbrev pub start_by : {D P : Type 0} → Given → LifePlan → Opening → (no_frame : Bool) → Serving D P → Option History → Start
start_by given plan opening no_frame server told = start_at given plan opening no_frame server (unwrap_or told (fresh ([], [])))

-- no write to such a disk is done in part
abbrev pub WritesWhole : {D : Type 0} → (D → Option History) → Type 0
WritesWhole {D = D} told = (disk : D) (h : History) → told disk ≡ Some h → h.in_part ≡ 0

-- with which fault a life is over that its schedule ended
abbrev pub fault_at : Option Halt → Option Fault
fault_at None = None
fault_at (Some blown) = None
fault_at (Some (past_limit long limit)) = Some (fault.Full long limit)
fault_at (Some no_block) = Some (fault.Peer 1)

-- what a crash leaves of a disk opens behind a state
abbrev pub OpensBehind : Start → State → Option History → Type 0
OpensBehind start state told = IfSome told (λ h. (images : Files) → MayLeave h images → OpenBehind start.given state images)

-- Its schedule and the closing made the life, or a kill or the limit of a file ended it in a commit.
pub record IsPlayedOut {D : Type 0} (told : D → Option History) (start : Start) (ended : LifeEnded D) (life : Life) : Type 0 where
  pub plays : Plays (stage_of start) life
  pub fault_is : ended.fault ≡ fault_at plays.0.halt
  pub opens : OpensBehind start plays.0.state (told ended.disk)
  pub left : WritesWhole told → IfSome (told ended.disk) (λ h. h.now ≡ (fresh (leaves start plays.0)).now)

-- The life followed its schedule up to somewhere, and there the disk failed, or memory was wanting.
pub record IsCutOff {D : Type 0} (told : D → Option History) (start : Start) (ended : LifeEnded D) (life : Life) : Type 0 where
  pub broken : BreaksOff (stage_of start) life
  pub opens : OpensBehind start broken.0.state (told ended.disk)

-- the disk failed, or memory was wanting
abbrev pub is_failure : Option Fault → Bool
is_failure (Some (fault.Device faults)) = true
is_failure (Some fault.Memory) = true
is_failure why = false

-- The count of a disk is above each number that no disk of its kind counts fewer faults than.
abbrev pub IsAboveLeast : {D : Type 0} → (count : D → ℕ) → D → Type 0
IsAboveLeast {D = D} count disk = (least : ℕ) → ((other : D) → least ≤ count other) → risen least ≤ count disk

-- The fault of a disk carries its count, which rose: in the life's calls, or in the restart behind a kill.
abbrev pub IsFaultOf : {D : Type 0} → (before : ℕ) → (count : D → ℕ) → D → Option Fault → Type 0
IsFaultOf before count disk None = Unit {0}
IsFaultOf before count disk (Some (fault.Device faults)) = (faults ≡ count disk) × (risen before ≤ count disk ⊎ IsAboveLeast count disk)
IsFaultOf before count disk (Some (fault.Full long limit)) = Unit {0}
IsFaultOf before count disk (Some fault.Memory) = Unit {0}
IsFaultOf before count disk (Some why) = ⊥

-- which life is over, where the disk told its history as the life began; or none was begun, since memory was wanting
abbrev pub IsLifeOf : {D : Type 0} → (D → Option History) → (before : Option History) → (History → Start) → LifeEnded D → Option Life → Type 0
IsLifeOf told before start ended None = ended.fault ≡ Some fault.Memory
IsLifeOf told before start ended (Some life) =
    IfSome before (λ h. IsPlayedOut told (start h) ended life ⊎ (is_failure ended.fault ≡ true) × IsCutOff told (start h) ended life)
