-- What a written schedule makes of a plain life is a life that is demanded, and it makes one life.
use Rattle.std.proofs.Common.{◌≡◌, ℕ, zero, suc, ◌+◌, ◌-◌, ◌≤◌, Bool, true, false, nat_le, cond, List, [], ◌∷◌, ◌++◌, Option, Some, None, is_none, option_map, refl, sym, ap, ◌∙◌, subst, inl, inr, arith, add-sub_of_le, le_of_lt}
use Rattle.std.proofs.lemmas.Bool.{cases_Bool, cases_eq, leb-false, leb-true}
use Rattle.std.proofs.lemmas.List.FromFn.{get_or-range_with_len, length-range_with_len}
use Rattle.std.specs.List.{AllByRecursion, find, list_any, range_with_len}
use Rattle.std.specs.Option.{option_map_or}
use Rattle.st_fold.specs.Plain.{IsLast, IsOfReader, IsPlainLife}
use Rattle.st_mutation.specs.declared.batch.Batch.{Batch}
use Rattle.st_fold.specs.declared.plan.Do.{Do}
use Rattle.st_fold.specs.declared.plan.LifePlan.{LifePlan}
use Rattle.st_fold.specs.declared.report.Life.{Life}
use Rattle.st_fold.specs.declared.report.Ending.TheVariants as ending
use Rattle.st_fold.specs.declared.request.Request.{Request}
use Rattle.st_model.specs.State.{Given}
use Rattle.st_model.specs.Plain.{IsPlain, Plainly, apply_plainly, begin_plainly, first_to, fresh_opening, next_plainly, poll_plainly, plain_stage, progress_of, walk_plainly, with_lines}
use Rattle.st_model.specs.Report.{IsLife, requests_of}
use Rattle.st_model.specs.Schedule.{BreaksOff, LeadsTo, Plays, Progress, Session, Stage, begin, ending_by, has_open, is_open, life_of, next, readers_at_end, walk}
use Rattle.st_model.proofs.Lists.{all_at, all_left, all_map, all_merged, all_of_map, all_right}
use Rattle.st_model.proofs.Lives.{all_answered, closed, faulted}
use Rattle.st_model.proofs.Sound.{IsSound}
use Rattle.st_model.proofs.Walks.{next_step, reached}

-- ---- the end of a life

-- where nothing is found, no element passes
none_passes : (test : ℕ → Bool) (xs : List ℕ) → find test xs ≡ None → AllByRecursion (λ x. test x ≡ false) xs
none_passes test [] none = tt
none_passes test (x ∷ xs) none =
    elim (test x) as (λ v. test x ≡ v → cond v (Some x) (find test xs) ≡ None → AllByRecursion (λ y. test y ≡ false) (x ∷ xs))
    [ true ↦ λ _ e. cc | false ↦ λ fails e. (fails, none_passes test xs e) ]
    refl none

-- where no reader that polls at the end has an open request, no reader has
shut : (sessions : List Session) → find (λ reader. has_open reader sessions) readers_at_end ≡ None → (reader : ℕ) → reader ≤ 64
    → list_any (is_open reader) sessions ≡ false
unfolding readers_at_end
shut sessions none reader most =
    elim (cases_eq reader 0) [
      | inl zero_one ↦ subst Shut (sym zero_one) (all_right Shut (range_with_len 1 64) (0 ∷ []) all).0
      | inr some ↦
          let least : 1 ≤ reader = omega arith in
          subst Shut (get_or-range_with_len 1 64 (reader - 1) 0 (omega arith) ∙ add-sub_of_le least)
          (all_at Shut (range_with_len 1 64) (all_left Shut (range_with_len 1 64) (0 ∷ []) all)
          (reader - 1) 0 (omega (arith, length-range_with_len 1 64)))
    ]
  where
    Shut : ℕ → Type 0
    Shut r = list_any (is_open r) sessions ≡ false

    all : AllByRecursion Shut (range_with_len 1 64 ++ 0 ∷ [])
    all = none_passes (λ r. has_open r sessions) (range_with_len 1 64 ++ 0 ∷ []) none

-- a plain life is over where its schedule is done, no batch is left, and no reader has an open request
module _ (given : Given) (plainly : Plainly) where
  ended_by : (o : Option Batch) (r : Option ℕ)
      → option_map_or (λ batch. Some (apply_plainly (with_lines [] plainly) batch)) o (option_map (poll_plainly given (with_lines [] plainly)) r) ≡ None
      → (o ≡ None) × (r ≡ None)
  ended_by None None e = (refl, refl)
  ended_by None (Some reader) e = cc
  ended_by (Some batch) r e = cc

  over : next_plainly given plainly ≡ None
      → (first_to given.upto plainly.left ≡ None) × (find (λ reader. has_open reader plainly.sessions) readers_at_end ≡ None)
  over none = by_lines plainly.lines none
    where
      by_lines : (lines : List (Do × ℕ)) → next_plainly given (with_lines lines plainly) ≡ None
          → (first_to given.upto plainly.left ≡ None) × (find (λ reader. has_open reader plainly.sessions) readers_at_end ≡ None)
      by_lines [] e = ended_by (first_to given.upto plainly.left) (find (λ reader. has_open reader plainly.sessions) readers_at_end) e
      by_lines ((one, zero) ∷ later) e = cc
      by_lines ((one, suc times) ∷ later) e = cc

-- ---- the readers' numbers

abbrev IsNumbered : Request → Type 0
IsNumbered request = request.reader ≤ 64

all_numbered : (plan : LifePlan) → IsPlainLife plan → AllByRecursion IsNumbered (requests_of plan)
all_numbered plan life =
    all_merged IsNumbered plan.asks plan.lasts (all_map IsOfReader IsNumbered (λ _ of_reader. of_reader.most) plan.asks life.asks)
    (all_map IsLast IsNumbered (λ request last. omega (arith, last.last)) plan.lasts life.lasts)

-- ---- lives

nothing_maps : {A B : Type 0} (f : A → B) (o : Option A) → option_map f o ≡ None → o ≡ None
nothing_maps f None e = refl
nothing_maps f (Some a) e = cc

module _ (given : Given) (plan : LifePlan) (plain : IsPlain given) (plain_life : IsPlainLife plan) where
  plays_at : (steps : ℕ) → next (plain_stage given plan) (progress_of (walk_plainly given steps (begin_plainly given plan))) ≡ None
      → IsLife given fresh_opening plan (life_of (plain_stage given plan) (progress_of (walk_plainly given steps (begin_plainly given plan))) ending.Closed)
  plays_at steps none =
      closed given plan so_far plain_life sound ends.0
      (all_answered so_far.sessions
      (all_of_map IsNumbered (λ (session : Session). session.request) so_far.sessions
      (subst (AllByRecursion IsNumbered) (sym sound.requests) (all_numbered plan plain_life)))
      (shut so_far.sessions ends.1))
    where
      so_far : Plainly
      so_far = walk_plainly given steps (begin_plainly given plan)

      sound : IsSound given (requests_of plan) so_far
      sound = (reached given plan plain plain_life steps).1

      ends : (first_to given.upto so_far.left ≡ None) × (find (λ reader. has_open reader so_far.sessions) readers_at_end ≡ None)
      ends = over given so_far
          (nothing_maps progress_of (next_plainly given so_far) (sym (next_step given plan plain plain_life steps) ∙ none))

  stands_at : (last : Progress (Unit {0})) (steps : ℕ) → last ≡ walk (plain_stage given plan) steps (begin (plain_stage given plan))
      → last ≡ progress_of (walk_plainly given steps (begin_plainly given plan))
  stands_at last steps is = is ∙ (reached given plan plain plain_life steps).0

  pub plays : (life : Life) → Plays (plain_stage given plan) life → IsLife given fresh_opening plan life
  plays life played =
      let stage = plain_stage given plan in
      let is = stands_at played.0 played.1.0 played.1.1 in
      let how : ending_by plan played.0.halt ≡ ending.Closed =
      ap (λ (p : Progress (Unit {0})). ending_by plan p.halt) is ∙ ap (λ kill. cond (is_none kill) ending.Closed ending.Killed) plain_life.no_kill in
      let made : life ≡ life_of stage (progress_of (walk_plainly given played.1.0 (begin_plainly given plan))) ending.Closed =
      played.3 ∙ ap (life_of stage played.0) how ∙ ap (λ p. life_of stage p ending.Closed) is in
      subst (IsLife given fresh_opening plan) (sym made) (plays_at played.1.0 (ap (next stage) (sym is) ∙ played.2))

  pub breaks_off : (life : Life) → BreaksOff (plain_stage given plan) life → IsLife given fresh_opening plan life
  breaks_off life broke =
      let is = stands_at broke.0 broke.1.0 broke.1.1 in
      let steps = broke.1.0 in
      subst (IsLife given fresh_opening plan) (sym (broke.3 ∙ ap (λ p. life_of (plain_stage given plan) p ending.Faulted) is))
      (faulted given plan (walk_plainly given steps (begin_plainly given plan)) plain_life (reached given plan plain plain_life steps).1)

-- ---- one life

module _ {E : Type 0} (stage : Stage E) where
  stays_over : (p : Progress E) (n : ℕ) → next stage p ≡ None → walk stage n p ≡ p
  stays_over p zero none = refl
  stays_over p (suc n) none = ap (λ o. option_map_or (walk stage n) o p) none

  walks_on : (first more : ℕ) (progress : Progress E) → walk stage (first + more) progress ≡ walk stage more (walk stage first progress)
  walks_on zero more progress = ap (λ n. walk stage n progress) (omega arith)
  walks_on (suc first) more progress =
      let together : suc first + more ≡ suc (first + more) = omega arith in
      ap (λ n. walk stage n progress) together ∙ elim (next stage progress) as (λ o. next stage progress ≡ o
      → option_map_or (walk stage (first + more)) o progress ≡ walk stage more (option_map_or (walk stage first) o progress)) [
        | None ↦ λ none. sym (stays_over progress more none)
        | Some after ↦ λ _. walks_on first more after
      ]
      refl

  same_end : (start one other : Progress E) → LeadsTo stage start one → LeadsTo stage start other → next stage one ≡ None → next stage other ≡ None
      → one ≡ other
  same_end start one other to_one to_other one_over other_over =
      elim (cases_Bool (nat_le to_one.0 to_other.0)) [
        | inl less ↦ sym (longer one other to_one.0 to_other.0 (leb-true to_one.0 to_other.0 less) to_one.1 to_other.1 one_over)
        | inr more ↦ longer other one to_other.0 to_one.0 (le_of_lt (leb-false to_one.0 to_other.0 more)) to_other.1 to_one.1 other_over
      ]
    where
      longer : (a b : Progress E) (n m : ℕ) → n ≤ m → a ≡ walk stage n start → b ≡ walk stage m start → next stage a ≡ None → b ≡ a
      longer a b n m less is_a is_b over =
          is_b
          ∙ ap (λ k. walk stage k start) (sym (add-sub_of_le less))
          ∙ walks_on n (m - n) start
          ∙ ap (walk stage (m - n)) (sym is_a)
          ∙ stays_over a (m - n) over

  pub one_life : (life other : Life) → Plays stage life → Plays stage other → life ≡ other
  one_life life other plays plays_other =
      let same = same_end (begin stage) plays.0 plays_other.0 plays.1 plays_other.1 plays.2 plays_other.2 in
      plays.3 ∙ ap (λ (p : Progress E). life_of stage p (ending_by stage.plan p.halt)) same ∙ sym plays_other.3
