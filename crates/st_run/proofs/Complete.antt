-- What is left where nothing failed.
use Rattle.std.proofs.Common.{◌≡◌, ◌≢◌, ◌∙◌, ◌⊎◌, ⊎_elim, inl, inr, ℕ, true, false, List, [], ◌∷◌, Option, Some, None, Result, Ok, Err, IfSome, IsTrue, MatchResult, refl, sym, ap, subst}
use Rattle.std.proofs.lemmas.Bool.{false≢true}
use Rattle.std.specs.Io.KnownBytes.{Appends}
use Rattle.std.specs.Result.{IsOkAnd}
use Rattle.st_disk.specs.History.{Files, History, seen}
use Rattle.st_fold.specs.Endings.{status_of}
use Rattle.st_fold.specs.declared.plan.Kind.{Kind}
use Rattle.st_fold.specs.declared.plan.LifePlan.{LifePlan}
use Rattle.st_fold.specs.declared.plan.Script.{Script}
use Rattle.st_fold.specs.declared.report.Damage.{Damage}
use Rattle.st_fold.specs.declared.report.Fault.{Fault}
use Rattle.st_fold.specs.declared.report.Fault.TheVariants as fault
use Rattle.st_fold.specs.declared.report.ForeignPart.{ForeignPart}
use Rattle.st_fold.specs.declared.report.Life.{Life}
use Rattle.st_io.specs.Faults.{Rose}
use Rattle.st_life.specs.Ended.{WritesWhole, fault_at, is_failure}
use Rattle.st_model.specs.Schedule.{Halt, blown, no_block, past_limit}
use Rattle.st_report.specs.Text.{text_of}
use Rattle.st_report.specs.declared.report.Report.{Report}
use Rattle.st_restart.specs.Agreement.{Agrees}
use Rattle.st_restart.specs.Opened.{opened}
use Rattle.st_restart.specs.Opened.{Opened as Opens}
use Rattle.st_run.specs.Headline.{HasNoLives, HasReadCause, IsComplete, IsConsistent, IsInterruption, IsOfDevice, Reports, Writes, ran_of}
use Rattle.st_run.specs.Opening.{IsForeign}
use Rattle.st_run.specs.Replayed.{AreReplayed, EndsWith, IsReplayed, OnOpened, Runs}
use Rattle.st_run.proofs.Replaying.{agrees-or}
use Rattle.st_script.specs.Reading.{script_of}

-- with which fault lives end that are replayed
abbrev IsOfLives : Option Fault → Type 0
IsOfLives None = Unit {0}
IsOfLives (Some (fault.Device faults)) = Unit {0}
IsOfLives (Some fault.Memory) = Unit {0}
IsOfLives (Some (fault.Full long limit)) = Unit {0}
IsOfLives (Some (fault.Peer faults)) = Unit {0}
IsOfLives (Some fault.Words) = ⊥
IsOfLives (Some (fault.Script line kind)) = ⊥
IsOfLives (Some (fault.Read faults)) = ⊥
IsOfLives (Some (fault.Damaged damage)) = ⊥
IsOfLives (Some (fault.Foreign part)) = ⊥

of-failure : (why : Option Fault) → is_failure why ≡ true → IsOfLives why
of-failure None is = tt
of-failure (Some (fault.Device faults)) is = tt
of-failure (Some fault.Memory) is = tt
of-failure (Some (fault.Full long limit)) is = tt
of-failure (Some (fault.Peer faults)) is = tt
of-failure (Some fault.Words) is = absurd (false≢true is)
of-failure (Some (fault.Script line kind)) is = absurd (false≢true is)
of-failure (Some (fault.Read faults)) is = absurd (false≢true is)
of-failure (Some (fault.Damaged damage)) is = absurd (false≢true is)
of-failure (Some (fault.Foreign part)) is = absurd (false≢true is)

of-halt : (halt : Option Halt) → IsOfLives (fault_at halt)
of-halt None = tt
of-halt (Some blown) = tt
of-halt (Some (past_limit long limit)) = tt
of-halt (Some no_block) = tt

of-lives : (whole : Type 0) (script : Script) (plans : List LifePlan) (before : Files) (lives : List Life) (why : Option Fault) (behind : Files)
    → AreReplayed whole script plans before lives why behind → IsOfLives why
of-lives whole script [] before [] why behind replayed = subst IsOfLives (sym replayed.0) tt
of-lives whole script (plan ∷ plans) before [] why behind replayed = of-failure why replayed.0
of-lives whole script [] before (life ∷ lives) why behind replayed = absurd replayed
of-lives whole script (plan ∷ plans) before (life ∷ lives) why behind (start, starts, lived) =
    ⊎_elim
    (λ played. ends (λ left more. of-lives whole script plans left lives why behind more) (fault_at played.0.0.halt) (of-halt played.0.0.halt) played.1 played.3)
    (λ broken. of-failure why broken.2) lived
  where
    ends : ((left : Files) → AreReplayed whole script plans left lives why behind → IsOfLives why) → (o : Option Fault) → IsOfLives o → (left : Files)
        → EndsWith o (AreReplayed whole script plans left lives why behind) left behind lives why → IsOfLives why
    ends more None of left later = more left later
    ends more (Some full) of left last = subst IsOfLives (sym last.1) of

-- files of the log's store lead to lives
of-store : (whole : Type 0) (script : Script) (before : Files) (lives : List Life) (why : Option Fault) (behind : Files)
    → IsOkAnd (opened script.own before) (Agrees script.own script.log) → IsReplayed whole script before lives why behind → IsOfLives why
of-store whole script before lives why behind agrees replayed =
    ⊎_elim (λ by. of (opened script.own before) agrees by) (λ failed. of-failure why failed.1) replayed
  where
    of : (r : Result Opens Damage) → IsOkAnd r (Agrees script.own script.log)
        → MatchResult r (λ one. OnOpened whole script before one lives why behind) (λ damage. (lives ≡ []) × (why ≡ Some (fault.Damaged damage))) → IsOfLives why
    of (Ok one) agrees by = ⊎_elim
        (λ agreed. of-lives whole script script.lives before lives why behind agreed.1)
        (λ foreign. absurd (agrees-or script one foreign.0 agrees foreign.1)) by
    of (Err damage) agrees by = absurd agrees

module _ {D : Type 0} (told : D → Option History) (count : D → ℕ) (bytes : List ℕ) (source_before source_now : ℕ) (before now : D)
    (held_before held_now : Option (List ℕ)) (sink_before sink_now : ℕ) (report : Report) (status : ℕ)
    (reports : Reports told bytes before now report) (consistent : IsConsistent report) (device : IsOfDevice (count before) (count now) report.fault)
    (read : HasReadCause source_before source_now report.fault) (writes : Writes held_before held_now sink_before sink_now report status) where
  pub complete : IsComplete told count bytes source_before source_now before now held_before held_now sink_before sink_now report status
  complete = record { succeeds = λ script h is tells agrees no_read no_write no_device no_full. of script h is tells agrees no_read no_write no_device no_full report.fault refl }
    where
      Done : Type 0
      Done = ((status ≡ 0) × (report.fault ≡ None) × Appends held_before held_now (text_of report)) ⊎ (status ≡ 9)

      written : ¬ Rose sink_before sink_now → (report.status ≡ 0 → report.fault ≡ None) → ((report.status ≡ 0) ⊎ (report.status ≡ 9)) → Done
      written no_write none by = ⊎_elim
          (λ whole. ⊎_elim (λ zero. inl (whole.0 ∙ zero, none zero, whole.1)) (λ nine. inr (whole.0 ∙ nine)) by)
          (λ part. ⊎_elim (λ five. absurd (no_write five.1)) (λ nine. inr nine) part.1) writes

      -- a fault that only lives have
      lives-of : (script : Script) (h : History) → script_of bytes ≡ Ok script → told before ≡ Some h → IsOkAnd (opened script.own (seen h)) (Agrees script.own script.log)
          → (IsInterruption report.fault → ⊥) → IsOfLives report.fault
      lives-of script h is tells agrees whole = ⊎_elim
          (λ untouched. absurd (whole untouched.1))
          (λ by.
          let runs = subst (λ (t : Option History). IfSome t (λ h. Runs told script h (ran_of report now))) tells
          (subst (λ r. MatchResult r (λ script. IfSome (told before) (λ h. Runs told script h (ran_of report now))) (λ why. (report.lives ≡ []) × (report.fault ≡ Some (fault.Script why.0 why.1)) × (now ≡ before))) is by) in
          of-store (WritesWhole told) script (seen h) report.lives report.fault (seen runs.now) agrees runs.replayed) reports

      of : (script : Script) (h : History) → script_of bytes ≡ Ok script → told before ≡ Some h → IsOkAnd (opened script.own (seen h)) (Agrees script.own script.log)
          → ¬ Rose source_before source_now → ¬ Rose sink_before sink_now → ¬ Rose (count before) (count now) → ((long limit : ℕ) → report.fault ≢ Some (fault.Full long limit))
          → (why : Option Fault) → report.fault ≡ why → Done
      of script h is tells agrees no_read no_write no_device no_full None none = written no_write (λ zero. none) (inl (consistent.status ∙ ap status_of none))
      of script h is tells agrees no_read no_write no_device no_full (Some fault.Memory) some =
          let nine : report.status ≡ 9 = consistent.status ∙ ap status_of some in
          written no_write (λ zero. absurd (cc (zero, nine))) (inr nine)
      of script h is tells agrees no_read no_write no_device no_full (Some (fault.Device faults)) some = absurd (no_device (subst (IsOfDevice (count before) (count now)) some device).0)
      of script h is tells agrees no_read no_write no_device no_full (Some (fault.Read faults)) some = absurd (no_read (subst (HasReadCause source_before source_now) some read).0)
      of script h is tells agrees no_read no_write no_device no_full (Some (fault.Full long limit)) some = absurd (no_full long limit some)
      of script h is tells agrees no_read no_write no_device no_full (Some (fault.Peer faults)) some = absurd (subst (λ f. HasNoLives f report.lives) some consistent.lives)
      of script h is tells agrees no_read no_write no_device no_full (Some fault.Words) some =
          absurd (subst IsOfLives some (lives-of script h is tells agrees (λ broken. subst IsInterruption some broken)))
      of script h is tells agrees no_read no_write no_device no_full (Some (fault.Script line kind)) some =
          absurd (subst IsOfLives some (lives-of script h is tells agrees (λ broken. subst IsInterruption some broken)))
      of script h is tells agrees no_read no_write no_device no_full (Some (fault.Damaged damage)) some =
          absurd (subst IsOfLives some (lives-of script h is tells agrees (λ broken. subst IsInterruption some broken)))
      of script h is tells agrees no_read no_write no_device no_full (Some (fault.Foreign part)) some =
          absurd (subst IsOfLives some (lives-of script h is tells agrees (λ broken. subst IsInterruption some broken)))

-- where bytes are told
pub if-some : {X : Type 0} (o : Option X) (P Q : X → Type 0) → ((x : X) → P x → Q x) → IfSome o P → IfSome o Q
if-some None P Q leads holds = tt
if-some (Some x) P Q leads holds = leads x holds
