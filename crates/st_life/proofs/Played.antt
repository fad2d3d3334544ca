-- A life that is played comes to one end.
use Rattle.std.proofs.Common.{◌≡◌, ◌≤◌, ℕ, zero, suc, List, [], ◌∷◌, length, Option, Some, None, Result, Ok, Err, refl, sym, ◌∙◌, ap, subst, arith}
use Rattle.std.specs.Option.{option_map_or}
use Rattle.st_disk.specs.Calls.{made}
use Rattle.st_disk.specs.FileState.{settled, with_bytes}
use Rattle.st_disk.specs.History.{Files, FileStates, History, counted, of_file, with_file}
use Rattle.st_disk.specs.Recorded.{Call, write, sync, after_call}
use Rattle.st_engine.specs.Store.{Kept, mount_of}
use Rattle.st_fold.specs.declared.plan.LifePlan.{LifePlan}
use Rattle.st_fold.specs.declared.plan.Script.{Script}
use Rattle.st_fold.specs.declared.report.Damage.{Damage}
use Rattle.st_fold.specs.declared.report.Life.{Life}
use Rattle.st_model.specs.Report.{given_by, requests_of}
use Rattle.st_model.specs.Schedule.{AreNumbered, Progress, Stage, begin, ending_by, life_of, next, walk}
use Rattle.st_model.specs.State.{Given}
use Rattle.st_queue.specs.Frames.{Damage as Place}
use Rattle.st_restart.specs.Opened.{Opened, opened}
use Rattle.st_life.specs.Leaving.{leaves}
use Rattle.st_life.specs.Lives.{ArePlayed, IsPlayed}
use Rattle.st_life.specs.Play.{Start, stage_of, start_on, start_with}

-- ---- one end

-- a life that is over stays where it is
stays : {E : Type 0} (stage : Stage E) (steps : ℕ) (progress : Progress E) → next stage progress ≡ None → walk stage steps progress ≡ progress
stays stage zero progress over = refl
stays stage (suc steps) progress over = ap (λ step. option_map_or (walk stage steps) step progress) over

both-go-on : {E : Type 0} (stage : Stage E) (one other : ℕ) (progress : Progress E)
    → ((later : Progress E) → next stage (walk stage one later) ≡ None → next stage (walk stage other later) ≡ None → walk stage one later ≡ walk stage other later)
    → (step : Option (Progress E)) → next stage (option_map_or (walk stage one) step progress) ≡ None
    → next stage (option_map_or (walk stage other) step progress) ≡ None
    → option_map_or (walk stage one) step progress ≡ option_map_or (walk stage other) step progress
both-go-on stage one other progress same None over over_too = refl
both-go-on stage one other progress same (Some later) over over_too = same later over over_too

same-end : {E : Type 0} (stage : Stage E) (one other : ℕ) (progress : Progress E) → next stage (walk stage one progress) ≡ None
    → next stage (walk stage other progress) ≡ None → walk stage one progress ≡ walk stage other progress
same-end stage zero other progress over over_too = sym (stays stage other progress over)
same-end stage (suc one) zero progress over over_too = stays stage (suc one) progress over_too
same-end stage (suc one) (suc other) progress over over_too =
    both-go-on stage one other progress (same-end stage one other) (next stage progress) over over_too

same-last : {E : Type 0} (stage : Stage E) (last other : Progress E) (steps steps_too : ℕ) → last ≡ walk stage steps (begin stage)
    → next stage last ≡ None → other ≡ walk stage steps_too (begin stage) → next stage other ≡ None → last ≡ other
same-last stage last other steps steps_too leads over leads_too over_too =
    leads ∙ same-end stage steps steps_too (begin stage) (ap (next stage) (sym leads) ∙ over) (ap (next stage) (sym leads_too) ∙ over_too)
    ∙ sym leads_too

-- ---- one life

abbrev pub ok-of : {T E : Type 0} → T → Result T E → T
ok-of other (Ok one) = one
ok-of other (Err why) = other

same-start : {E : Type 0} (told : Result Start E) (one other : Start) → told ≡ Ok one → told ≡ Ok other → one ≡ other
same-start told one other is is_too = ap (ok-of one) (sym is ∙ is_too)

module _ (script : Script) (plan : LifePlan) (before behind other_behind : Files) (life other : Life) where
  -- two lives that are played on the same files
  module _ (one : IsPlayed script plan before life behind) (two : IsPlayed script plan before other other_behind) where
    starts : one.start ≡ two.start
    starts = same-start (start_on script plan before) one.start two.start one.starts two.starts

    lasts : one.plays.0 ≡ two.plays.0
    lasts =
        same-last (stage_of two.start) one.plays.0 two.plays.0 one.plays.1.0 two.plays.1.0
        (one.plays.1.1 ∙ ap (λ start. walk (stage_of start) one.plays.1.0 (begin (stage_of start))) starts)
        (ap (λ start. next (stage_of start) one.plays.0) (sym starts) ∙ one.plays.2) two.plays.1.1 two.plays.2

  pub only-life : IsPlayed script plan before life behind → IsPlayed script plan before other other_behind
      → (life ≡ other) × (behind ≡ other_behind)
  only-life one two = (
    one.plays.3
        ∙ ap (λ start. life_of (stage_of start) one.plays.0 (ending_by start.plan one.plays.0.halt)) (starts one two)
        ∙ ap (λ last. life_of (stage_of two.start) last (ending_by two.start.plan last.halt)) (lasts one two)
        ∙ sym two.plays.3,
    one.leaves_them
        ∙ ap (λ start. leaves start one.plays.0) (starts one two)
        ∙ ap (leaves two.start) (lasts one two)
        ∙ sym two.leaves_them,
  )

pub only-lives : (script : Script) (plans : List LifePlan) (before behind other_behind : Files) (lives others : List Life)
    → length lives ≡ length others → ArePlayed script plans before lives behind → ArePlayed script plans before others other_behind
    → (lives ≡ others) × (behind ≡ other_behind)
only-lives script plans before behind other_behind [] [] long one two = (refl, one ∙ sym two)
only-lives script plans before behind other_behind [] (other ∷ others) long one two = cc (long)
only-lives script plans before behind other_behind (life ∷ lives) [] long one two = cc (long)
only-lives script [] before behind other_behind (life ∷ lives) (other ∷ others) long one two = absurd one
only-lives script (plan ∷ plans) before behind other_behind (life ∷ lives) (other ∷ others) long one two =
    let first = only-life script plan before one.0 two.0 life other one.1 two.1 in
    let there = subst (λ files. ArePlayed script plans files others other_behind) (sym first.1) two.3 in
    let rest = only-lives script plans one.0 behind other_behind lives others (omega (arith, long)) one.3 there in
    (ap (λ head. head ∷ lives) first.0 ∙ ap (λ tail. other ∷ tail) rest.0, rest.1)

-- ---- an end

given-of : (own : Given) (plan : LifePlan) (told : Result Opened Damage) (kept : Kept) (start : Start)
    → start_with own plan told (Ok kept) ≡ Ok start
    → (start.given ≡ own) × (start.plan ≡ plan)
given-of own plan (Ok one) kept start is = (ap (λ r. (ok-of start r).given) (sym is), ap (λ r. (ok-of start r).plan) (sym is))
given-of own plan (Err why) kept start is = cc (is)

-- a life on files is of its script and its plan
pub start-given : (given : Given) (plan : LifePlan) (opens : Result Opened Damage) (mount : Result Kept Place) (start : Start)
    → start_with given plan opens mount ≡ Ok start → (start.given ≡ given) × (start.plan ≡ plan)
start-given given plan opens (Ok kept) start is = given-of given plan opens kept start is
start-given given plan opens (Err place) start is = cc (is)

-- where the schedule comes to an end it makes a life
pub plays-out : (script : Script) (plan : LifePlan) (before : Files) (start : Start)
    → ((stage : Stage Kept) → 1 ≤ stage.given.settings.patience → 1 ≤ stage.given.settings.block → AreNumbered (requests_of stage.plan)
    → (steps : ℕ) × (next stage (walk stage steps (begin stage)) ≡ None))
    → 1 ≤ script.settings.patience → 1 ≤ script.settings.block → AreNumbered (requests_of plan) → start_on script plan before ≡ Ok start
    → (life : Life) × (behind : Files) × IsPlayed script plan before life behind
plays-out script plan before start ends patient rows numbered starts =
    let of = start-given (given_by script plan) plan (opened script.own before) (mount_of before) start starts in
    let end =
    ends (stage_of start) (subst (λ (given : Given). 1 ≤ given.settings.patience) (sym of.0) patient)
    (subst (λ (given : Given). 1 ≤ given.settings.block) (sym of.0) rows)
    (subst (λ (one : LifePlan). AreNumbered (requests_of one)) (sym of.1) numbered) in
    let last = walk (stage_of start) end.0 (begin (stage_of start)) in (
      life_of (stage_of start) last (ending_by start.plan last.halt),
      leaves start last,
      record { start = start; starts = starts; plays = (last, (end.0, refl), end.1, refl); leaves_them = refl },
    )

-- ---- calls

same-call : (call : Call) (disk other : History) → disk.now ≡ other.now → (after_call call disk).now ≡ (after_call call other).now
same-call (write file at bytes) disk other same = ap (λ (files : FileStates). with_file file (with_bytes at bytes (of_file file files)) files) same
same-call (sync file) disk other same = ap (λ (files : FileStates). with_file file (settled (of_file file files).seen) files) same

pub same-files : (calls : List Call) (disk other : History) → disk.now ≡ other.now → (made calls disk).now ≡ (made calls other).now
same-files [] disk other same = same
same-files (call ∷ calls) disk other same =
    same-files calls (counted (after_call call disk)) (counted (after_call call other)) (same-call call disk other same)
