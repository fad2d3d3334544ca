-- Lives that follow one another.
use Rattle.std.proofs.Common.{◌≡◌, ◌∙◌, ℕ, List, [], ◌∷◌, ◌++◌, length, Option, Some, None, is_some, Bool, true, false, refl, sym, ap, subst, append_assoc}
use Rattle.std.proofs.lemmas.Bool.{false≢true}
use Rattle.std.proofs.lemmas.List.{append-nil}
use Rattle.st_disk.specs.History.{History, MayLeave}
use Rattle.st_disk.specs.Moments.{started}
use Rattle.st_fold.specs.declared.plan.LifePlan.{LifePlan}
use Rattle.st_fold.specs.declared.plan.Script.{Script}
use Rattle.st_fold.specs.declared.report.Fault.{Fault}
use Rattle.st_fold.specs.declared.report.Fault.TheVariants as fault
use Rattle.st_fold.specs.declared.report.Life.{Life}
use Rattle.st_life.specs.declared.ended.LifeEnded.{LifeEnded}
use Rattle.st_model.specs.Report.{given_by}
use Rattle.st_run.specs.Lived.{IsUnbegun, LivesOn, ToldUnwritten}
use Rattle.st_run.specs.Ran.{LeadsOn, RunsOn}
use Rattle.st_run.specs.declared.lives.Ran.{Ran}

pub some-of : {A : Type 0} (o : Option A) → is_some o ≡ true → (a : A) × (o ≡ Some a)
some-of None is = absurd (false≢true is)
some-of (Some a) is = (a, refl)

pub nothing-left : {A : Type 0} (o : Option A) → is_some o ≡ false → o ≡ None
nothing-left None is = refl
nothing-left (Some a) is = absurd (false≢true (sym is))

pub empty-of : {A : Type 0} (l : List A) → length l ≡ 0 → l ≡ []
empty-of [] is = refl
empty-of (a ∷ l) is = cc (is)

-- nothing was done
pub untouched : (told : Option History) → ToldUnwritten told told
untouched None = refl
untouched (Some h) = record { same = refl; images = started h (MayLeave h) (λ images may. may) }

module _ {D : Type 0} (told : D → Option History) (count : D → ℕ) (script : Script) (plans : List LifePlan) (before : D) where
  -- what the plans that are left make of the disk now comes behind these lives
  abbrev pub Continues : (left : List LifePlan) → (now : D) → List Life → Type 0
  Continues left now lives = (later : Ran D) → RunsOn told count script left now later → RunsOn told count script plans before (record later { lives = lives ++ later.lives })

  pub continues-first : Continues plans before []
  continues-first later runs = runs

  -- no plan is left
  pub done : (now : D) (lives : List Life) → Continues [] now lives → RunsOn told count script plans before (record { lives = lives; fault = None; disk = now })
  done now lives continues =
      subst (λ l. RunsOn told count script plans before (record { lives = l; fault = None; disk = now })) (append-nil lives)
      (continues (record { lives = []; fault = None; disk = now }) (refl, refl, refl))

  module _ (plan : LifePlan) (left : List LifePlan) (now : D) (lives : List Life) (continues : Continues (plan ∷ left) now lives) where
    ends-here : (why : Option Fault) (disk : D) → RunsOn told count script (plan ∷ left) now (record { lives = []; fault = why; disk = disk })
        → RunsOn told count script plans before (record { lives = lives; fault = why; disk = disk })
    ends-here why disk runs =
        subst (λ l. RunsOn told count script plans before (record { lives = l; fault = why; disk = disk })) (append-nil lives)
        (continues (record { lives = []; fault = why; disk = disk }) runs)

    -- memory is wanting before the next life
    pub no-room : RunsOn told count script plans before (record { lives = lives; fault = Some fault.Memory; disk = now })
    no-room = ends-here (Some fault.Memory) now (
      record { life = None; disk = now; fault = Some fault.Memory; log = [] },
      record { why = fault.Memory; fault_is = refl; cause = tt; unwritten = untouched (told now) },
      (refl, refl, refl),
    )

    module _ (ended : LifeEnded D) (lives-on : LivesOn told count (given_by script plan) plan now ended ended.life) where
      -- it wasn't begun
      pub not-begun : ended.life ≡ None → RunsOn told count script plans before (record { lives = lives; fault = ended.fault; disk = ended.disk })
      not-begun none = ends-here ended.fault ended.disk (
        ended,
        lives-on,
        subst (λ o. LeadsOn (λ others. RunsOn told count script left ended.disk (record { lives = others; fault = ended.fault; disk = ended.disk })) ended
            (record { lives = []; fault = ended.fault; disk = ended.disk }) o ended.fault) (sym none) (refl, refl, refl),
      )

      module _ (life : Life) (some : ended.life ≡ Some life) where
        -- it ended by a fault
        pub faulted : (why : Fault) → ended.fault ≡ Some why → RunsOn told count script plans before (record { lives = lives ++ life ∷ []; fault = ended.fault; disk = ended.disk })
        faulted why is = continues (record { lives = life ∷ []; fault = ended.fault; disk = ended.disk }) (
          ended,
          lives-on,
          rw (some, is) (refl, refl, refl),
        )

        -- it ended well
        pub goes-on : ended.fault ≡ None → Continues left ended.disk (lives ++ life ∷ [])
        goes-on is later runs =
            subst (λ l. RunsOn told count script plans before (record later { lives = l })) (sym (append_assoc lives (life ∷ []) later.lives))
            (continues (record later { lives = life ∷ later.lives }) (
              ended,
              lives-on,
              rw (some, is) (later.lives, refl, runs),
            ))
