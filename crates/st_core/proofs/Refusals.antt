-- What a refusal leaves.
use Rattle.std.proofs.Common.{◌≡◌, ◌∙◌, ◌⊎◌, ℕ, List, Option, Some, None, Err, inl, inr, refl, sym, ap, subst}
use Rattle.st_core.specs.Refusing.{IsOfCommit, IsRefused, IsWell, refused}
use Rattle.st_course.specs.declared.job.CommitJob.{CommitJob}
use Rattle.st_disk.specs.History.{History}
use Rattle.st_engine.specs.Answers.{Answers, CameTo, Refuses}
use Rattle.st_engine.specs.Engine.{Mounted}
use Rattle.st_fold.specs.declared.plan.Act.TheVariants.{Durable}
use Rattle.st_ops.specs.declared.op.Op.{Op}
use Rattle.st_queue.specs.declared.frame.QueueRefusal.{QueueRefusal}
use Rattle.st_queue.specs.declared.frame.QueueRefusal.TheVariants.{Broken, Damaged, DiskFault, Full, NoMemory}

module _ {D : Type 0} (count : D → ℕ) where
  -- what did nothing is well
  pub well-same : (old new : Mounted D) → new ≡ old → IsWell count old new
  well-same old new same = record {
    faults = ap (λ e. count e.disk) same;
    broken = ap (λ e. e.broken) same;
    bounds = ap (λ e. e.bounds) same;
    idle = λ faults is. same;
  }

  pub well-joined : (old now new : Mounted D) → IsWell count old now → IsWell count now new → IsWell count old new
  well-joined old now new first second = record {
    faults = second.faults ∙ first.faults;
    broken = second.broken ∙ first.broken;
    bounds = second.bounds ∙ first.bounds;
    idle = λ faults is. second.idle faults (first.broken ∙ is) ∙ first.idle faults is;
  }

  -- a refusal of the engine, as it is told
  pub refused-commit : (told : D → Option History) (old new : Mounted D) (flight : Option CommitJob) (refusal : QueueRefusal)
      → IsOfCommit told count old new flight refusal → IsRefused told count old new flight Durable (refused refusal)
  refused-commit told old new flight NoMemory of = inr ((refl, of))
  refused-commit told old new flight (DiskFault faults) of = (refl, tt, of)
  refused-commit told old new flight (Broken faults) of = (refl, tt, of)
  refused-commit told old new flight (Full length limit) of = (refl, tt, of)
  refused-commit told old new flight (Damaged file at) of = absurd (of.whole file at refl)

-- a commit reads no file, so it finds none damaged
pub never-damaged : {D T : Type 0} (told : D → Option History) (ops : List Op) (old new : Mounted D) (refusal : QueueRefusal)
    → Refuses told ops old new refusal → Answers {T = T} ops old (Err refusal) → (file at : ℕ) → refusal ≡ Damaged file at → ⊥
never-damaged told ops old new refusal refuses answers file at is = by_broken old.broken refl
  where
    unlike : (faults : ℕ) → (refusal ≡ Broken faults) ⊎ (refusal ≡ NoMemory) → ⊥
    unlike faults (inl broken) = cc (sym is ∙ broken)
    unlike faults (inr wanting) = cc (sym is ∙ wanting)

    by_broken : (o : Option ℕ) → old.broken ≡ o → ⊥
    by_broken None unbroken = subst (CameTo told ops old (told new.disk)) is (refuses.came_to unbroken)
    by_broken (Some faults) broken = unlike faults (answers.was_broken faults broken)
