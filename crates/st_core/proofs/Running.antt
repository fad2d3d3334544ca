-- What acts make of the files.
use Rattle.std.proofs.Common.{◌≡◌, ◌∙◌, ◌++◌, ℕ, Bool, List, [], ◌∷◌, fold, Option, Some, None, Result, Ok, Err, IfSome, refl, sym, ap, subst}
use Rattle.std.specs.Result.{IsOkAnd}
use Rattle.std.proofs.lemmas.List.{append-nil}
use Rattle.std.proofs.lemmas.List.Sums.{fold-append}
use Rattle.st_board.specs.Stands.{Standing}
use Rattle.st_core.specs.Acts.{act_on, reached_by, to}
use Rattle.st_core.specs.Driving.{IsRun, Ran, behind_commit, behind_flight, on_files, ran_at, run_on}
use Rattle.st_course.specs.Course.{job_after}
use Rattle.st_course.specs.declared.job.CommitJob.{CommitJob}
use Rattle.st_disk.specs.Calls.{made}
use Rattle.st_disk.specs.History.{History, seen}
use Rattle.st_disk.specs.Recorded.{Call}
use Rattle.st_engine.specs.Answers.{IsDone}
use Rattle.st_engine.specs.Commit.{Done, Refused, commit_of}
use Rattle.st_engine.specs.Engine.{Mounted, kept_in}
use Rattle.st_engine.specs.Store.{Bounds}
use Rattle.st_fold.specs.declared.plan.Act.{Act}
use Rattle.st_fold.specs.declared.plan.Act.TheVariants as act
use Rattle.st_model.specs.State.{Given, Opening}

-- the history that is told is the one that was told
pub told-so : {D : Type 0} (told : Option D) (P : D → Type 0) → ((h : D) → told ≡ Some h → P h) → IfSome told P
told-so None P each = tt
told-so (Some h) P each = each h refl

-- the same without the calls that were made before
abbrev anew : Ran → Ran
anew ran = record ran { calls = [] }

-- further calls come behind those that were made
record AreMore (old new ran : Ran) : Type 0 where
  kept : new.kept ≡ ran.kept
  calls : new.calls ≡ old.calls ++ ran.calls
  past : new.past ≡ ran.past

more-commit : (ran : Ran) (result : Result Done Refused) → AreMore ran (behind_commit ran result) (behind_commit (anew ran) result)
more-commit ran (Ok done) = record { kept = refl; calls = refl; past = refl }
more-commit ran (Err refused) = record { kept = refl; calls = sym (append-nil ran.calls); past = refl }

more-flight : (bounds : Bounds) (ran : Ran) (flight : Option CommitJob) → AreMore ran (behind_flight bounds ran flight) (behind_flight bounds (anew ran) flight)
more-flight bounds ran None = record { kept = refl; calls = sym (append-nil ran.calls); past = refl }
more-flight bounds ran (Some job) = more-commit ran (commit_of bounds ran.kept job.ops)

more-calls : (bounds : Bounds) (ran : Ran) (flight : Option CommitJob) (action : Act) → AreMore ran (on_files bounds ran flight action) (on_files bounds (anew ran) flight action)
more-calls bounds ran flight act.Apply = record { kept = refl; calls = sym (append-nil ran.calls); past = refl }
more-calls bounds ran flight act.Start = record { kept = refl; calls = sym (append-nil ran.calls); past = refl }
more-calls bounds ran flight act.Block = record { kept = refl; calls = sym (append-nil ran.calls); past = refl }
more-calls bounds ran flight act.Began = record { kept = refl; calls = sym (append-nil ran.calls); past = refl }
more-calls bounds ran flight act.Durable = more-flight bounds ran flight

-- a commit that is done
pub run-commit : {D : Type 0} (told : D → Option History) (board : Standing) (now next : Mounted D) (job : CommitJob) (flight : Option CommitJob) → Some job ≡ flight
    → IfSome (told now.disk) (λ h. IsOkAnd (commit_of now.bounds (kept_in (seen h) now) job.ops) (IsDone h (told next.disk) next))
    → IfSome (told now.disk) (λ h. IsRun told h next (behind_flight now.bounds (ran_at board now h) flight))
run-commit told board now next job flight is done = of (told now.disk) done
  where
    by_result : (h : History) (r : Result Done Refused) → IsOkAnd r (IsDone h (told next.disk) next) → IsRun told h next (behind_commit (ran_at board now h) r)
    by_result h (Ok one) done = record { made = record { history = done.history; keeps = done.behind }; within = refl }
    by_result h (Err refused) done = absurd done

    of : (o : Option History) → IfSome o (λ h. IsOkAnd (commit_of now.bounds (kept_in (seen h) now) job.ops) (IsDone h (told next.disk) next))
        → IfSome o (λ h. IsRun told h next (behind_flight now.bounds (ran_at board now h) flight))
    of None done = tt
    of (Some h) done =
        subst (λ o. IsRun told h next (behind_flight now.bounds (ran_at board now h) o)) is
        (by_result h (commit_of now.bounds (kept_in (seen h) now) job.ops) done)

-- an engine of which no call was made
pub run-same : {D : Type 0} (told : D → Option History) (old next : Mounted D) (ran : History → Ran) → next ≡ old
    → ((h : History) → (ran h).calls ≡ []) → ((h : History) → (ran h).kept ≡ kept_in (seen h) old) → ((h : History) → (ran h).past ≡ None)
    → IfSome (told old.disk) (λ h. IsRun told h next (ran h))
run-same told old next ran same none kept within =
    subst (λ engine. IfSome (told old.disk) (λ h. IsRun told h engine (ran h))) (sym same)
    (told-so (told old.disk) (λ h. IsRun told h old (ran h)) (λ h is. record {
      made = record {
        history = is ∙ ap (λ calls. Some (made calls h)) (sym (none h));
        keeps = ap (λ calls. kept_in (seen (made calls h)) old) (none h) ∙ sym (kept h);
      };
      within = within h;
    }))

module _ (given : Given) (opening : Opening) (fresh : Bool) (upto : ℕ) where
  -- where acts lead a life is what they make of its trace and its state
  pub reached-run : (bounds : Bounds) (ran : Ran) (acts : List Act)
      → (fold (run_on given opening fresh bounds upto) ran acts).reached ≡ fold (act_on (to upto given)) ran.reached acts
  reached-run bounds ran [] = refl
  reached-run bounds ran (action ∷ acts) = reached-run bounds (run_on given opening fresh bounds upto ran action) acts

  module _ {D : Type 0} (told : D → Option History) where
    run-step : ((first second : List Call) (h : History) → made (first ++ second) h ≡ made second (made first h))
        → (bounds : Bounds) (ran : Ran) (board : Standing) (now next : Mounted D) (action : Act) (h : History)
        → reached_by board ≡ ran.reached → IsRun told h now ran
        → IfSome (told now.disk) (λ h. IsRun told h next (run_on given opening fresh bounds upto (ran_at board now h) action))
        → IsRun told h next (run_on given opening fresh bounds upto ran action)
    run-step join bounds ran board now next action h reached run more = record {
      made = record {
        history = step.made.history ∙ ap Some (sym (join ran.calls added h) ∙ ap (λ calls. made calls h) (sym grown.calls));
        keeps = ap (λ calls. kept_in (seen (made calls h)) next) grown.calls ∙ ap (λ one. kept_in (seen one) next) (join ran.calls added h) ∙ step.made.keeps ∙ sym grown.kept;
      };
      within = grown.past ∙ step.within;
    }
      where
        flight : Option CommitJob
        flight = job_after given opening fresh ran.reached.trace

        added : List Call
        added = (on_files bounds (anew ran) flight action).calls

        step : IsRun told (made ran.calls h) next (run_on given opening fresh bounds upto (anew ran) action)
        step =
            subst (λ one. IsRun told (made ran.calls h) next (run_on given opening fresh bounds upto one action))
            (λ i. record { reached = reached i; kept = run.made.keeps i; calls = []; past = sym run.within i })
            (subst (λ o. IfSome o (λ h. IsRun told h next (run_on given opening fresh bounds upto (ran_at board now h) action))) run.made.history more)

        grown : AreMore ran (on_files bounds ran flight action) (on_files bounds (anew ran) flight action)
        grown = more-calls bounds ran flight action

    -- one act more
    pub run-more : (old board : Standing) (first now next : Mounted D) (acts : List Act) (action : Act)
        → ((first second : List Call) (h : History) → made (first ++ second) h ≡ made second (made first h))
        → now.bounds ≡ first.bounds → reached_by board ≡ fold (act_on (to upto given)) (reached_by old) acts
        → IfSome (told first.disk) (λ h. IsRun told h now (fold (run_on given opening fresh first.bounds upto) (ran_at old first h) acts))
        → IfSome (told now.disk) (λ h. IsRun told h next (run_on given opening fresh now.bounds upto (ran_at board now h) action))
        → IfSome (told first.disk) (λ h. IsRun told h next (fold (run_on given opening fresh first.bounds upto) (ran_at old first h) (acts ++ action ∷ [])))
    run-more old board first now next acts action join bounds reached ran more = of (told first.disk) ran
      where
        goes_on : Bounds → Ran → Act → Ran
        goes_on bounds = run_on given opening fresh bounds upto

        of : (o : Option History) → IfSome o (λ h. IsRun told h now (fold (goes_on first.bounds) (ran_at old first h) acts))
            → IfSome o (λ h. IsRun told h next (fold (goes_on first.bounds) (ran_at old first h) (acts ++ action ∷ [])))
        of None ran = tt
        of (Some h) ran =
            subst (IsRun told h next) (sym (fold-append (goes_on first.bounds) (ran_at old first h) acts (action ∷ [])))
            (run-step join first.bounds (fold (goes_on first.bounds) (ran_at old first h) acts) board now next action h
            (reached ∙ sym (reached-run first.bounds (ran_at old first h) acts)) ran
            (subst (λ bounds. IfSome (told now.disk) (λ h. IsRun told h next (goes_on bounds (ran_at board now h) action))) bounds more))
