-- The lives of a script, one after the other on two files.
use Rattle.std.specs.Prelude.{◌≡◌, ◌⊎◌, true, List, [], ◌∷◌, Ok}
use Rattle.st_demand.specs.Serving.{IsServable, IsServablePlan}
use Rattle.st_disk.specs.History.{Files}
use Rattle.st_fold.specs.declared.plan.LifePlan.{LifePlan}
use Rattle.st_fold.specs.declared.plan.Script.{Script}
use Rattle.st_fold.specs.declared.report.Life.{Life}
use Rattle.st_model.specs.Report.{given_by, is_faulted}
use Rattle.st_model.specs.Schedule.{BreaksOff, Plays}
use Rattle.st_life.specs.Leaving.{leaves}
use Rattle.st_life.specs.Play.{Start, stage_of, start_on}

-- The life that its schedule and the closing make on files, and the files that it leaves.
pub record IsPlayed (script : Script) (plan : LifePlan) (before : Files) (life : Life) (behind : Files) : Type 0 where
  pub start : Start
  pub starts : start_on script plan before ≡ Ok start
  pub plays : Plays (stage_of start) life
  pub leaves_them : behind ≡ leaves start plays.0

-- A life that followed its schedule and the closing on files up to somewhere, and ended there by a fault.
pub record IsBrokenOff (script : Script) (plan : LifePlan) (before : Files) (life : Life) : Type 0 where
  pub start : Start
  pub starts : start_on script plan before ≡ Ok start
  pub broken : BreaksOff (stage_of start) life

-- Lives of the first of these plans, each played on the files that the one before it left, and the files that the last one
-- leaves. None comes behind one that faulted.
abbrev pub ArePlayed : Script → List LifePlan → (before : Files) → List Life → (behind : Files) → Type 0
ArePlayed script plans before [] behind = behind ≡ before
ArePlayed script [] before (life ∷ lives) behind = ⊥
ArePlayed script (plan ∷ plans) before (life ∷ lives) behind =
    (between : Files) × IsPlayed script plan before life between × (is_faulted life.ending ≡ true → lives ≡ [])
    × ArePlayed script plans between lives behind

-- the lives of a run: they were played, or the last of them was broken off
abbrev pub FollowPlans : Script → List LifePlan → (before : Files) → List Life → Type 0
FollowPlans script plans before [] = Unit {0}
FollowPlans script [] before (life ∷ lives) = ⊥
FollowPlans script (plan ∷ plans) before (life ∷ lives) =
    ((between : Files) × IsPlayed script plan before life between × (is_faulted life.ending ≡ true → lives ≡ [])
    × FollowPlans script plans between lives)
    ⊎ (IsBrokenOff script plan before life × (lives ≡ []))

-- A life on files of a server that owns all keys, holds them all at its opening and moves none, and that watches nothing.
pub record IsServed (script : Script) (plan : LifePlan) (start : Start) : Type 0 where
  pub is_given : start.given ≡ given_by script plan
  pub is_to_do : start.plan ≡ plan
  pub servable : IsServable (given_by script plan) start.opening
  pub servable_plan : IsServablePlan plan
