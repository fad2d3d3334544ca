-- Reports of at most one life.
use Rattle.std.proofs.Common.{◌≡◌, ◌≢◌, true, false, [], ◌∷◌, length, Some, None, refl, sym, ap, subst, ◌∙◌, arith}
use Rattle.st_fold.specs.declared.plan.LifePlan.{LifePlan}
use Rattle.st_fold.specs.declared.plan.Script.{Script}
use Rattle.st_fold.specs.declared.report.Ending.TheVariants as ending
use Rattle.st_fold.specs.declared.report.Fault.{Fault}
use Rattle.st_fold.specs.declared.report.Fault.TheVariants as fault
use Rattle.st_fold.specs.declared.report.Life.{Life}
use Rattle.st_fold.specs.Endings.{status_of}
use Rattle.st_model.specs.Report.{AreLives, Begun, HasCause, IsDemanded, IsLife, ends_life, given_by, is_faulted}
use Rattle.st_model.specs.State.{Opening}
use Rattle.st_model.proofs.Lists.{all_at}

-- a script's only life
abbrev one : Opening → LifePlan → Life → Begun
one opening plan life = record { plan = plan; opening = opening; life = life }

one_life : (script : Script) (opening : Opening) (plan : LifePlan) (life : Life) → script.lives ≡ plan ∷ []
    → IsLife (given_by script plan) opening plan life → AreLives script (λ first. first ≡ opening) script.lives (one opening plan life ∷ [])
one_life script opening plan life lives is_life =
    subst (λ plans. AreLives script (λ first. first ≡ opening) plans (one opening plan life ∷ [])) (sym lives)
    (refl, refl, is_life, (λ _. refl), tt)

pub closed_alone : (script : Script) (opening : Opening) (plan : LifePlan) (life : Life) → script.lives ≡ plan ∷ []
    → IsLife (given_by script plan) opening plan life → life.ending ≡ ending.Closed
    → IsDemanded script opening 0 None (one opening plan life ∷ [])
closed_alone script opening plan life lives is_life closed = record {
  lives_are = one_life script opening plan life lives is_life;
  all_lives = λ _. ap length (sym lives);
  status_is = refl;
  faulted = all_at (λ (begun : Begun). is_faulted begun.life.ending ≡ true → ends_life None ≡ true) (one opening plan life ∷ [])
      ((λ faulted. let e : false ≡ true = ap is_faulted (sym closed) ∙ faulted in cc), tt);
  cause = tt;
}

pub memory_alone : (script : Script) (opening : Opening) (plan : LifePlan) (life : Life) → script.lives ≡ plan ∷ []
    → IsLife (given_by script plan) opening plan life
    → IsDemanded script opening 9 (Some fault.Memory) (one opening plan life ∷ [])
memory_alone script opening plan life lives is_life = record {
  lives_are = one_life script opening plan life lives is_life;
  all_lives = λ _. ap length (sym lives);
  status_is = refl;
  faulted = all_at (λ (begun : Begun). is_faulted begun.life.ending ≡ true → ends_life (Some fault.Memory) ≡ true) (one opening plan life ∷ []) ((λ _. refl), tt);
  cause = tt;
}

pub none_begun : (script : Script) (opening : Opening) (why : Fault) → HasCause script [] (Some why)
    → IsDemanded script opening (status_of (Some why)) (Some why) []
none_begun script opening why caused = record {
  lives_are = tt;
  all_lives = λ none. absurd (not_zero why none);
  status_is = refl;
  faulted = all_at (λ (begun : Begun). is_faulted begun.life.ending ≡ true → ends_life (Some why) ≡ true) [] tt;
  cause = caused;
}
  where
    not_zero : (f : Fault) → status_of (Some f) ≢ 0
    not_zero fault.Words = λ e. omega (arith, e)
    not_zero (fault.Script line kind) = λ e. omega (arith, e)
    not_zero (fault.Read faults) = λ e. omega (arith, e)
    not_zero (fault.Device faults) = λ e. omega (arith, e)
    not_zero (fault.Peer faults) = λ e. omega (arith, e)
    not_zero (fault.Damaged damage) = λ e. omega (arith, e)
    not_zero fault.Memory = λ e. omega (arith, e)
    not_zero (fault.Full size limit) = λ e. omega (arith, e)
    not_zero (fault.Foreign part) = λ e. omega (arith, e)
