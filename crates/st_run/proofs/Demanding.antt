-- The lives of a script that is served are demanded.
use Rattle.std.proofs.Common.{◌≡◌, ◌∙◌, ◌⊎◌, ⊎_elim, ℕ, true, List, [], ◌∷◌, Option, Some, None, is_some, IfSome, refl, sym, ap, subst}
use Rattle.st_disk.specs.History.{History, MayLeave, seen}
use Rattle.st_fold.specs.Endings.{status_of}
use Rattle.st_fold.specs.declared.plan.LifePlan.{LifePlan}
use Rattle.st_fold.specs.declared.plan.Script.{Script}
use Rattle.st_fold.specs.declared.report.Fault.{Fault}
use Rattle.st_fold.specs.declared.report.Life.{Life}
use Rattle.st_key.specs.Spans.{all_keys}
use Rattle.st_life.specs.Lives.{IsServed}
use Rattle.st_life.specs.Play.{Start, stage_of}
use Rattle.st_model.specs.Report.{HasCause, IsDemanded, IsLife, given_by}
use Rattle.st_model.specs.Schedule.{BreaksOff, Plays}
use Rattle.st_model.specs.State.{Opening}
use Rattle.st_model.specs.Trace.{state_after}
use Rattle.st_run.specs.Lived.{IsLivable}
use Rattle.st_run.specs.Ran.{IsServable, RunsOn}
use Rattle.st_run.specs.Replayed.{Runs}
use Rattle.st_run.specs.declared.lives.Ran.{Ran}
use Rattle.st_run.proofs.Replaying.{runs-below, runs-told}

served : (script : Script) → IsServable script → (plan : LifePlan) (start : Start) → IsLivable plan → start.given ≡ given_by script plan → start.plan ≡ plan
    → start.opening.available ≡ all_keys ∷ [] → IsServed script plan start
served script servable plan start livable given to_do all = record {
  is_given = given;
  is_to_do = to_do;
  servable = record { own = servable.served.all; no_moves = servable.served.no_moves; available = all };
  servable_plan = livable.servable;
}

module _ {D E : Type 0} (told : D → Option History) (above : E → Option History) (count : E → ℕ) (below : E → D) (same : (e : E) → above e ≡ told (below e))
    (is-played : (script : Script) (plan : LifePlan) (start : Start) (life : Life) → IsServed script plan start → Plays (stage_of start) life → IsLife (given_by script plan) start.opening plan life)
    (is-broken : (script : Script) (plan : LifePlan) (start : Start) (life : Life) → IsServed script plan start → BreaksOff (stage_of start) life → IsLife (given_by script plan) start.opening plan life)
    (state-played : (script : Script) (plan : LifePlan) (start : Start) (life : Life) → IsServed script plan start → (plays : Plays (stage_of start) life)
    → state_after (given_by script plan) start.opening life.trace ≡ Some plays.0.state)
    (state-broken : (script : Script) (plan : LifePlan) (start : Start) (life : Life) → IsServed script plan start → (breaks : BreaksOff (stage_of start) life)
    → state_after (given_by script plan) start.opening life.trace ≡ Some breaks.0.state)
    (no-life : (script : Script) (opening : Opening) (why : Fault) → HasCause script [] (Some why) → IsDemanded script opening (status_of (Some why)) (Some why) [])
    (image : (e : E) (h : History) → above e ≡ Some h → MayLeave h (seen h)) where
  -- a run over a disk of which it is known whether it tells
  pub run-told : (script : Script) → IsServable script → (plan : LifePlan) (plans : List LifePlan) → script.lives ≡ plan ∷ plans → (disk : D) (first : E) → below first ≡ disk
      → ((e : E) → is_some (above e) ≡ is_some (told disk)) → (ran : Ran E) → RunsOn above count script script.lives first ran
      → IfSome (told disk) (λ h. Runs told script h (record { lives = ran.lives; fault = ran.fault; disk = below ran.disk }))
  run-told script servable plan plans lives disk first first-is keeps ran runs = of (told disk) refl
    where
      of : (o : Option History) → told disk ≡ o → IfSome o (λ h. Runs told script h (record { lives = ran.lives; fault = ran.fault; disk = below ran.disk }))
      of None none = tt
      of (Some h) some = runs-below told above below same script h ran
          (runs-told above count script IsLivable (λ e. keeps e ∙ ap is_some some) image
          (λ plan start life livable given to_do all lived. ⊎_elim
          (is-played script plan start life (served script servable plan start livable given to_do all))
          (is-broken script plan start life (served script servable plan start livable given to_do all)) lived)
          (λ plan start life livable given to_do all plays. state-played script plan start life (served script servable plan start livable given to_do all) plays)
          (λ plan start life livable given to_do all breaks. state-broken script plan start life (served script servable plan start livable given to_do all) breaks)
          no-life servable.lives first h (same first ∙ ap told first-is ∙ some) ran plan plans lives runs)
