-- Served lives are demanded, and each that follows one is served again.
use Rattle.std.proofs.Common.{◌≡◌, ◌≤◌, List, length, Some, Result, Ok, Err, IfOk, IfErr, sym, ap, ◌∙◌, subst, arith}
use Rattle.std.specs.Result.{IsOkAnd}
use Rattle.st_demand.specs.Serving.{CommitsWithin, IsServable, IsServablePlan, IsWithin}
use Rattle.st_disk.specs.History.{Files}
use Rattle.st_engine.specs.Commit.{Done, Refused, commit_of}
use Rattle.st_engine.specs.Store.{Bounds, Kept, mount_of}
use Rattle.st_fold.specs.declared.plan.LifePlan.{LifePlan}
use Rattle.st_fold.specs.declared.plan.Script.{Script}
use Rattle.st_fold.specs.declared.report.Damage.{Damage}
use Rattle.st_fold.specs.declared.report.Life.{Life}
use Rattle.st_model.specs.Report.{IsLife, MayOpen, given_by}
use Rattle.st_model.specs.State.{Given, State}
use Rattle.st_model.specs.Trace.{state_after}
use Rattle.st_ops.specs.declared.op.Op.{Op}
use Rattle.st_queue.specs.Frames.{Damage as Place}
use Rattle.st_restart.specs.After.{OpenBehind}
use Rattle.st_restart.specs.Agreement.{Agrees, opening_of}
use Rattle.st_restart.specs.Opened.{Opened, opened}
use Rattle.st_life.specs.Lives.{IsServed}
use Rattle.st_life.specs.Play.{Start, as_played, bounds_of, commit_in_flight, ops_in_flight, stage_of, start_on, start_with}
use Rattle.st_life.proofs.Played.{ok-of, start-given}

-- the calls of a commit, as a schedule counts them
within-ten : (commit : Result Done Refused) → IfOk commit (λ done. (4 ≤ length done.calls) × (length done.calls ≤ 10))
    → IfErr commit (λ refused. length refused.calls ≤ 6) → IsWithin (as_played commit)
within-ten (Ok done) made refused = made
within-ten (Err why) made refused = omega (arith, refused)

pub commits-within : ((bounds : Bounds) (kept : Kept) (ops : List Op)
    → IfOk (commit_of bounds kept ops) (λ done. (4 ≤ length done.calls) × (length done.calls ≤ 10)))
    → ((bounds : Bounds) (kept : Kept) (ops : List Op) → IfErr (commit_of bounds kept ops) (λ refused. length refused.calls ≤ 6))
    → (start : Start) → CommitsWithin (stage_of start)
commits-within made refused start = λ kept trace.
    let bounds = bounds_of start.given.settings in
    let ops = ops_in_flight start trace in
    within-ten (commit_in_flight start kept trace) (made bounds kept ops) (refused bounds kept ops)

module _ (script : Script) (plan : LifePlan) (start : Start) (served : IsServed script plan start) where
  pub servable-start : IsServable start.given start.opening
  servable-start = subst (λ given. IsServable given start.opening) (sym served.is_given) served.servable

  pub servable-plan : IsServablePlan start.plan
  servable-plan = subst IsServablePlan (sym served.is_to_do) served.servable_plan

  pub demanded : (life : Life) → IsLife start.given start.opening start.plan life → IsLife (given_by script plan) start.opening plan life
  demanded life is_life =
      subst (λ to_do. IsLife (given_by script plan) start.opening to_do life) served.is_to_do
      (subst (λ given. IsLife given start.opening start.plan life) served.is_given is_life)

  -- the trace leads to the state
  pub ends-in : (life : Life) (state : State) → state_after start.given start.opening life.trace ≡ Some state
      → state_after (given_by script plan) start.opening life.trace ≡ Some state
  ends-in life state after = sym (ap (λ given. state_after given start.opening life.trace) served.is_given) ∙ after

  -- what files open as, a life opens with that begins on them
  opens-so : (next : LifePlan) (later : Start) (state : State) (opens : Result Opened Damage) (mount : Result Kept Place)
      → IsOkAnd opens (λ one. MayOpen (Some state) (opening_of one) × Agrees start.given.own start.given.log one)
      → start_with (given_by script next) next opens mount ≡ Ok later → MayOpen (Some state) later.opening
  opens-so next later state (Ok one) (Ok kept) opens is = subst (MayOpen (Some state)) (ap (λ r. (ok-of later r).opening) is) opens.0
  opens-so next later state (Err why) mount opens is = absurd opens
  opens-so next later state (Ok one) (Err place) opens is = cc (is)

  pub follows : (life : Life) (state : State) → state_after start.given start.opening life.trace ≡ Some state → (files : Files)
      → OpenBehind start.given state files → (next : LifePlan) (later : Start) → start_on script next files ≡ Ok later
      → MayOpen (state_after (given_by script plan) start.opening life.trace) later.opening
  follows life state after files opens next later starts =
      subst (λ behind. MayOpen behind later.opening)
      (sym after ∙ ap (λ given. state_after given start.opening life.trace) served.is_given)
      (opens-so next later state (opened script.own files) (mount_of files)
      (subst (λ own. IsOkAnd (opened own files) (λ one. MayOpen (Some state) (opening_of one) × Agrees start.given.own start.given.log one))
      (ap (λ (given : Given). given.own) served.is_given) opens)
      starts)

pub serves-again : (script : Script) (next : LifePlan) (later : Start) (files : Files) → start_on script next files ≡ Ok later
    → IsServablePlan next → IsServable (given_by script next) later.opening → IsServed script next later
serves-again script next later files starts servable_plan servable =
    let of = start-given (given_by script next) next (opened script.own files) (mount_of files) later starts in
    record { is_given = of.0; is_to_do = of.1; servable = servable; servable_plan = servable_plan }
