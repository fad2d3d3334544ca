-- The lives of a script, one after the other on one disk.
use Rattle.std.specs.Prelude.{◌≡◌, ℕ, List, [], ◌∷◌, Option, Some, None}
use Rattle.std.specs.List.{AllByRecursion}
use Rattle.st_disk.specs.History.{History}
use Rattle.st_fold.specs.declared.plan.LifePlan.{LifePlan}
use Rattle.st_fold.specs.declared.plan.Script.{Script}
use Rattle.st_fold.specs.declared.report.Fault.{Fault}
use Rattle.st_fold.specs.declared.report.Life.{Life}
use Rattle.st_life.specs.declared.ended.LifeEnded.{LifeEnded}
use Rattle.st_model.specs.Report.{given_by}
use Rattle.st_run.specs.Lived.{IsLivable, OwnsAll, LivesOn}
use Rattle.st_run.specs.declared.lives.Ran.{Ran}

-- a script of lives of one server that owns all keys and moves none
pub record IsServable (script : Script) : Type 0 where
  pub served : OwnsAll script.settings script.own script.log
  pub lives : AllByRecursion IsLivable script.lives

-- What a life leads to: no life where none was begun, the last one where it ended by a fault, and else the later ones.
abbrev pub LeadsOn : {D : Type 0} → (later : List Life → Type 0) → LifeEnded D → Ran D → Option Life → Option Fault → Type 0
LeadsOn later ended ran None why = (ran.lives ≡ []) × (ran.fault ≡ why) × (ran.disk ≡ ended.disk)
LeadsOn later ended ran (Some life) (Some why) = (ran.lives ≡ life ∷ []) × (ran.fault ≡ Some why) × (ran.disk ≡ ended.disk)
LeadsOn later ended ran (Some life) None = (others : List Life) × (ran.lives ≡ life ∷ others) × later others

-- Each of these plans was lived on the disk that the one before it left, up to the first that ended by a fault.
abbrev pub RunsOn : {D : Type 0} → (told : D → Option History) → (count : D → ℕ) → Script → List LifePlan → (before : D) → Ran D → Type 0
RunsOn told count script [] before ran = (ran.lives ≡ []) × (ran.fault ≡ None) × (ran.disk ≡ before)
RunsOn {D = D} told count script (plan ∷ plans) before ran =
    (ended : LifeEnded D) × LivesOn told count (given_by script plan) plan before ended ended.life
    × LeadsOn (λ others. RunsOn told count script plans ended.disk (record ran { lives = others })) ended ran ended.life ended.fault
