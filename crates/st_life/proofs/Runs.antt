-- The lives of a script as they are computed.
use Rattle.std.proofs.Common.{◌≡◌, ℕ, Bool, true, false, List, [], ◌∷◌, Option, Some, None, Result, Ok, Err, refl, subst, if◌then◌else◌, is_none, ◌&&◌}
use Rattle.std.proofs.lemmas.Bool.{and_parts}
use Rattle.std.proofs.lemmas.Option.{same_Some}
use Rattle.std.specs.Option.{option_map}
use Rattle.std.specs.Result.{result_ok}
use Rattle.st_disk.specs.History.{Files}
use Rattle.st_engine.specs.Store.{Kept}
use Rattle.st_fold.specs.declared.plan.LifePlan.{LifePlan}
use Rattle.st_fold.specs.declared.plan.Script.{Script}
use Rattle.st_fold.specs.declared.report.Damage.{Damage}
use Rattle.st_fold.specs.declared.report.Life.{Life}
use Rattle.st_model.specs.Report.{is_faulted}
use Rattle.st_model.specs.Schedule.{Progress, begin, ending_by, life_of, next, walk}
use Rattle.st_life.specs.Leaving.{leaves}
use Rattle.st_life.specs.Lives.{ArePlayed, IsPlayed}
use Rattle.st_life.specs.Play.{Start, stage_of, start_on}

-- lives and the files that they leave, and whether each of them came to its end and none is behind one that faulted
pub record Run : Type 0 where
  pub lives : List Life
  pub behind : Files
  pub whole : Bool

-- a life behind so many steps
abbrev pub last_of : ℕ → Start → Progress Kept
last_of steps start = walk (stage_of start) steps (begin (stage_of start))

abbrev pub life_behind : Start → Progress Kept → Life
life_behind start last = life_of (stage_of start) last (ending_by start.plan last.halt)

abbrev no_run : Files → Run
no_run files = record { lives = []; behind = files; whole = true }

-- what comes behind a life: nothing where it faulted
abbrev rest_of : (faulted : Bool) → (later : Files → Run) → Files → Run
rest_of faulted later files = if faulted then no_run files else later files

-- a life that came so far, and those behind it
abbrev run_last : (later : Files → Run) → Start → Progress Kept → Run
run_last later start last =
    let rest : Run = rest_of (is_faulted (ending_by start.plan last.halt)) later (leaves start last) in
    record { lives = life_behind start last ∷ rest.lives; behind = rest.behind; whole = is_none (next (stage_of start) last) && rest.whole }

abbrev run_start : ℕ → (later : Files → Run) → Result Start Damage → Run
run_start steps later (Err damage) = record { lives = []; behind = ([], []); whole = false }
run_start steps later (Ok start) = run_last later start (last_of steps start)

-- the lives of these plans, each of so many steps at most
abbrev pub run : ℕ → Script → List LifePlan → Files → Run
run steps script [] files = no_run files
run steps script (plan ∷ plans) files = run_start steps (run steps script plans) (start_on script plan files)

-- the lives, where they are whole
abbrev pub lives_of : Run → Option (List Life)
lives_of made = if made.whole then Some made.lives else None

none-is : {X : Type 0} (found : Option X) → is_none found ≡ true → found ≡ None
none-is None is = refl
none-is (Some x) is = cc (is)

-- ---- they are the lives that the schedules make

-- the life that comes so far on files is played, and so are those behind it
module _ (steps : ℕ) (script : Script) (plan : LifePlan) (plans : List LifePlan)
    (later : (files : Files) → (run steps script plans files).whole ≡ true
    → ArePlayed script plans files (run steps script plans files).lives (run steps script plans files).behind) (before : Files) (start : Start)
    (last : Progress Kept) (is_last : last ≡ last_of steps start) (starts : start_on script plan before ≡ Ok start) where
  played-one : is_none (next (stage_of start) last) ≡ true
      → IsPlayed script plan before (life_behind start last) (leaves start last)
  played-one over = record {
    start = start;
    starts = starts;
    plays = (last, (steps, is_last), none-is (next (stage_of start) last) over, refl);
    leaves_them = refl;
  }

  -- by whether it faulted
  played-rest : (faulted : Bool) → is_faulted (ending_by start.plan last.halt) ≡ faulted → is_none (next (stage_of start) last) ≡ true
      → (rest_of faulted (run steps script plans) (leaves start last)).whole ≡ true
      → ArePlayed script (plan ∷ plans) before (life_behind start last ∷ (rest_of faulted (run steps script plans) (leaves start last)).lives)
      (rest_of faulted (run steps script plans) (leaves start last)).behind
  played-rest true is over whole = (leaves start last, played-one over, λ _. refl, refl)
  played-rest false is over whole = (leaves start last, played-one over, λ faulted. cc (is, faulted), later (leaves start last) whole)

played-start : (steps : ℕ) (script : Script) (plan : LifePlan) (plans : List LifePlan)
    → ((files : Files) → (run steps script plans files).whole ≡ true
    → ArePlayed script plans files (run steps script plans files).lives (run steps script plans files).behind)
    → (before : Files) (told : Result Start Damage) → start_on script plan before ≡ told
    → (run_start steps (run steps script plans) told).whole ≡ true
    → ArePlayed script (plan ∷ plans) before (run_start steps (run steps script plans) told).lives (run_start steps (run steps script plans) told).behind
played-start steps script plan plans later before (Err damage) starts whole = cc (whole)
played-start steps script plan plans later before (Ok start) starts whole =
    let last = last_of steps start in
    let faulted = is_faulted (ending_by start.plan last.halt) in
    let both = and_parts (is_none (next (stage_of start) last)) (rest_of faulted (run steps script plans) (leaves start last)).whole whole in
    played-rest steps script plan plans later before start last refl starts faulted refl both.0 both.1

pub run-played : (steps : ℕ) (script : Script) (plans : List LifePlan) (before : Files) → (run steps script plans before).whole ≡ true
    → ArePlayed script plans before (run steps script plans before).lives (run steps script plans before).behind
run-played steps script [] before whole = refl
run-played steps script (plan ∷ plans) before whole =
    played-start steps script plan plans (run-played steps script plans) before (start_on script plan before) refl whole

-- what comes out as whole lives are the lives of the plans
pub are-played : (steps : ℕ) (script : Script) (plans : List LifePlan) (before : Files) (lives : List Life)
    → lives_of (run steps script plans before) ≡ Some lives → ArePlayed script plans before lives (run steps script plans before).behind
are-played steps script plans before lives is = by (run steps script plans before) (run-played steps script plans before) is
  where
    by : (made : Run) → (made.whole ≡ true → ArePlayed script plans before made.lives made.behind) → lives_of made ≡ Some lives
        → ArePlayed script plans before lives made.behind
    by made played is =
        elim made.whole as (λ whole. made.whole ≡ whole → (if whole then Some made.lives else None) ≡ Some lives → ArePlayed script plans before lives made.behind) [
          | true ↦ λ whole told. subst (λ l. ArePlayed script plans before l made.behind) (same_Some made.lives lives told) (played whole)
          | false ↦ λ whole told. cc (told)
        ] refl is

-- how many calls to the disk a life makes, where its files open
abbrev pub calls_in : ℕ → Script → LifePlan → Files → Option ℕ
calls_in steps script plan before = option_map (λ start. (last_of steps start).calls) (result_ok (start_on script plan before))
