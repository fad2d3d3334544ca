-- What a run of a script over a disk that tells its history comes to.
use Rattle.std.specs.Prelude.{◌≡◌, ◌≢◌, ◌≤◌, ◌⊎◌, ℕ, List, [], ◌∷◌, Option, Some, None, Ok, IfSome, IsTrue, MatchResult}
use Rattle.std.specs.Result.{IsOkAnd}
use Rattle.st_disk.specs.History.{Files, History, MayLeave, risen, seen}
use Rattle.st_fold.specs.declared.plan.LifePlan.{LifePlan}
use Rattle.st_fold.specs.declared.plan.Script.{Script}
use Rattle.st_fold.specs.declared.report.Fault.{Fault}
use Rattle.st_fold.specs.declared.report.Fault.TheVariants as fault
use Rattle.st_fold.specs.declared.report.ForeignPart.{ForeignPart}
use Rattle.st_fold.specs.declared.report.Life.{Life}
use Rattle.st_fold.specs.Endings.{status_of}
use Rattle.st_life.specs.Ended.{WritesWhole, fault_at, is_failure}
use Rattle.st_life.specs.Leaving.{leaves}
use Rattle.st_life.specs.Play.{Start, stage_of, start_on}
use Rattle.st_model.specs.Report.{Begun, IsDemanded, MayOpenAfter, given_by, lives_of}
use Rattle.st_model.specs.Schedule.{BreaksOff, Plays}
use Rattle.st_model.specs.State.{Given, Opening}
use Rattle.st_restart.specs.After.{OpenTo}
use Rattle.st_restart.specs.Agreement.{Agrees, opening_of}
use Rattle.st_restart.specs.Opened.{opened}
use Rattle.st_restart.specs.Opened.{Opened as Opens}
use Rattle.st_run.specs.Lived.{ToldUnwritten}
use Rattle.st_run.specs.Opening.{IsForeign}
use Rattle.st_run.specs.declared.lives.Ran.{Ran}

-- ---- each life follows its schedule

-- why no further life was begun: there is none, or the disk failed, or memory was wanting
abbrev pub IsDone : List LifePlan → Option Fault → Type 0
IsDone [] why = why ≡ None
IsDone (plan ∷ plans) why = IsTrue (is_failure why)

-- A life that its schedule ended with this fault is the last one, and the run ends with it. Behind one without a fault come the
-- later ones.
abbrev pub EndsWith : Option Fault → (later : Type 0) → (left behind : Files) → List Life → Option Fault → Type 0
EndsWith None later left behind lives why = later
EndsWith (Some full) later left behind lives why = (lives ≡ []) × (why ≡ Some full) × (behind ≡ left)

-- Lives of these plans, the first of them on these files. Each is the one that its schedule and the closing make on the files that
-- its mount read, which are those that the life before it left, unless a write may be done in part. Or it followed them up to
-- somewhere, where the disk failed or memory was wanting, and is the last one.
abbrev pub AreReplayed : (whole : Type 0) → Script → List LifePlan → (before : Files) → List Life → Option Fault → (behind : Files) → Type 0
AreReplayed whole script plans before [] why behind = IsDone plans why × (behind ≡ before)
AreReplayed whole script [] before (life ∷ lives) why behind = ⊥
AreReplayed whole script (plan ∷ plans) before (life ∷ lives) why behind =
    (start : Start) × (start_on script plan before ≡ Ok start)
    × (((plays : Plays (stage_of start) life) × (left : Files) × (whole → left ≡ leaves start plays.0)
    × EndsWith (fault_at plays.0.halt) (AreReplayed whole script plans left lives why behind) left behind lives why)
    ⊎ (BreaksOff (stage_of start) life × (lives ≡ []) × IsTrue (is_failure why)))

-- ---- the first opening

-- The store of the files is the log's, and is replayed on. Or a part of it isn't the log's, and that is told; no life is begun.
abbrev pub OnOpened : (whole : Type 0) → Script → (before : Files) → Opens → List Life → Option Fault → (behind : Files) → Type 0
OnOpened whole script before one lives why behind =
    (Agrees script.own script.log one × AreReplayed whole script script.lives before lives why behind)
    ⊎ ((part : ForeignPart) × IsForeign script.own script.log part one × (lives ≡ []) × (why ≡ Some (fault.Foreign part)))

-- What a run makes of a disk's files: by what they open as, or told where they are damaged. Or no life was begun, since the disk
-- failed or memory was wanting before.
abbrev pub IsReplayed : (whole : Type 0) → Script → (before : Files) → List Life → Option Fault → (behind : Files) → Type 0
IsReplayed whole script before lives why behind =
    MatchResult (opened script.own before)
    (λ one. OnOpened whole script before one lives why behind)
    (λ damage. (lives ≡ []) × (why ≡ Some (fault.Damaged damage)))
    ⊎ ((lives ≡ []) × IsTrue (is_failure why))

-- a life was begun: the files opened so, as the log's
abbrev pub OpensAs : Script → Files → Opening → List Begun → Type 0
OpensAs script files opening [] = Unit {0}
OpensAs script files opening (first ∷ later) =
    IsOkAnd (opened script.own files) (λ one. (opening_of one ≡ opening) × Agrees script.own script.log one)

-- ---- the disk

-- Where a life was begun, whatever a crash leaves of the disk opens behind the last one; where none was, nothing was written.
abbrev pub IsLeft : Script → Opening → List Begun → (before now : Option History) → Type 0
IsLeft script opening [] before now = ToldUnwritten before now
IsLeft script opening (first ∷ later) before now =
    IfSome now (λ h. (images : Files) → MayLeave h images
    → OpenTo (given_by script first.plan) (MayOpenAfter script (λ one. one ≡ opening) (first ∷ later)) images)

-- With which fault lives end over any disk. One of the disk carries its count, which rose.
abbrev pub IsOfRun : (before now : ℕ) → Option Fault → Type 0
IsOfRun before now None = Unit {0}
IsOfRun before now (Some fault.Words) = ⊥
IsOfRun before now (Some (fault.Script line kind)) = ⊥
IsOfRun before now (Some (fault.Read faults)) = ⊥
IsOfRun before now (Some (fault.Device faults)) = (faults ≡ now) × (risen before ≤ now)
IsOfRun before now (Some (fault.Peer faults)) = ⊥
IsOfRun before now (Some (fault.Damaged damage)) = Unit {0}
IsOfRun before now (Some fault.Memory) = Unit {0}
IsOfRun before now (Some (fault.Full long limit)) = Unit {0}
IsOfRun before now (Some (fault.Foreign part)) = Unit {0}

-- ---- a run

-- Over a disk that tells its history, a run of the script comes to lives that it demands, which follow their schedules on the files
-- as their mounts read them; and it leaves the disk so that it opens behind them.
pub record Runs {D : Type 0} (told : D → Option History) (script : Script) (before : History) (ran : Ran D) : Type 0 where
  pub opening : Opening
  pub begun : List Begun
  pub lives : ran.lives ≡ lives_of begun
  pub opens : OpensAs script (seen before) opening begun
  pub demanded : IsDemanded script opening (status_of ran.fault) ran.fault begun
  pub now : History
  pub tells : told ran.disk ≡ Some now
  pub replayed : IsReplayed (WritesWhole told) script (seen before) ran.lives ran.fault (seen now)
  pub left : IsLeft script opening begun (Some before) (Some now)
