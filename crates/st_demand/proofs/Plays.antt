-- What a written schedule makes of a served life is a life that is demanded, and leads to the state that it ended in.
use Rattle.std.proofs.Common.{◌≡◌, ℕ, zero, suc, ◌-◌, ◌≤◌, Bool, true, false, not, ◌&&◌, cond, List, [], ◌∷◌, ◌++◌, Option, Some, None, is_none, option_map, refl, sym, ap, ◌∙◌, subst, inl, inr, arith, add-sub_of_le}
use Rattle.std.proofs.lemmas.Bool.{cases_eq}
use Rattle.std.proofs.lemmas.List.FromFn.{get_or-range_with_len, length-range_with_len}
use Rattle.std.specs.List.{AllByRecursion, find, list_any, range_with_len}
use Rattle.st_fold.specs.Plain.{IsLast, IsOfReader}
use Rattle.st_mutation.specs.declared.batch.Batch.{Batch}
use Rattle.st_fold.specs.declared.plan.Act.{Act}
use Rattle.st_fold.specs.declared.plan.Act.TheVariants as act
use Rattle.st_fold.specs.declared.plan.Do.{Do}
use Rattle.st_fold.specs.declared.plan.LifePlan.{LifePlan}
use Rattle.st_fold.specs.declared.report.Life.{Life}
use Rattle.st_fold.specs.declared.report.Ending.TheVariants as ending
use Rattle.st_fold.specs.declared.request.Request.{Request}
use Rattle.st_model.specs.Report.{IsLife, requests_of}
use Rattle.st_model.specs.Schedule.{BreaksOff, Halt, LeadsTo, Plays, Progress, Session, Stage, begin, blown, close_on, do_poll, ending_by, has_open, is_open, life_of, next, no_block, past_limit, readers_at_end}
use Rattle.st_model.specs.Pieces.{wants_block, wants_fetch}
use Rattle.st_model.specs.State.{Given, State, next_batch}
use Rattle.st_model.specs.Trace.{commit_due, due, is_at_rest, state_after}
use Rattle.st_demand.specs.Serving.{CommitsWithin, IsServable, IsServablePlan}
use Rattle.st_demand.proofs.Lists.{all_at, all_left, all_map, all_merged, all_of_map, all_right, none_passes}
use Rattle.st_demand.proofs.Lives.{all_answered, blown_off, closed, ends_there, faulted, killed_at_rest}
use Rattle.st_demand.proofs.Sound.{IsSound, Stands}
use Rattle.st_demand.proofs.Steps.{begins, walk_keeps}

-- ---- the end of a life

-- where no reader that polls at the end has an open request, no reader has
shut : (sessions : List Session) → find (λ reader. has_open reader sessions) readers_at_end ≡ None → (reader : ℕ) → reader ≤ 64
    → list_any (is_open reader) sessions ≡ false
unfolding readers_at_end
shut sessions none reader most =
    elim (cases_eq reader 0) [
      | inl zero_one ↦ subst Shut (sym zero_one) (all_right Shut (range_with_len 1 64) (0 ∷ []) all).0
      | inr some ↦
          let least : 1 ≤ reader = omega arith in
          subst Shut (get_or-range_with_len 1 64 (reader - 1) 0 (omega arith) ∙ add-sub_of_le least)
          (all_at Shut (range_with_len 1 64) (all_left Shut (range_with_len 1 64) (0 ∷ []) all)
          (reader - 1) 0 (omega (arith, length-range_with_len 1 64)))
    ]
  where
    Shut : ℕ → Type 0
    Shut r = list_any (is_open r) sessions ≡ false

    all : AllByRecursion Shut (range_with_len 1 64 ++ 0 ∷ [])
    all = none_passes (λ r. has_open r sessions) (range_with_len 1 64 ++ 0 ∷ []) none

-- a state is at rest where nothing is due
at_rest : (given : Given) (state : State) → due given state ≡ None → is_at_rest given state ≡ true
at_rest given state =
    by_parts (is_none state.flight) (commit_due given state) (list_any wants_block state.pieces)
    (list_any (wants_fetch state.durable) state.pieces) (next_batch given state)
  where
    by_parts : (lands commits blocks fetches : Bool) (next : Option Batch)
        → cond (not lands) (Some act.Durable) (cond commits (Some act.Began) (cond blocks (Some act.Block) (cond fetches (Some act.Start)
        (option_map (λ (batch : Batch). act.Apply) next)))) ≡ None
        → (lands && not commits && not blocks && not fetches && is_none next) ≡ true
    by_parts true false false false None e = refl
    by_parts true false false false (Some batch) e = cc
    by_parts true false false true next e = cc
    by_parts true false true fetches next e = cc
    by_parts true true blocks fetches next e = cc
    by_parts false commits blocks fetches next e = cc

abbrev IsNumbered : Request → Type 0
IsNumbered request = request.reader ≤ 64

all_numbered : (plan : LifePlan) → IsServablePlan plan → AllByRecursion IsNumbered (requests_of plan)
all_numbered plan servable =
    all_merged IsNumbered plan.asks plan.lasts (all_map IsOfReader IsNumbered (λ _ of_reader. of_reader.most) plan.asks servable.asks)
    (all_map IsLast IsNumbered (λ request last. omega (arith, last.last)) plan.lasts servable.lasts)

module _ {E : Type 0} (stage : Stage E) where
  -- a life that goes on is over where nothing is due and no reader has an open request
  module _ (progress : Progress E) where
    over : progress.halt ≡ None → next stage progress ≡ None
        → (due stage.given progress.state ≡ None) × (find (λ reader. has_open reader progress.sessions) readers_at_end ≡ None)
    over going none = by_lines progress.halt progress.lines going none
      where
        by_reader : (o : Option ℕ) → option_map (do_poll stage (record progress { halt = None; lines = [] })) o ≡ None → o ≡ None
        by_reader None e = refl
        by_reader (Some reader) e = cc

        by_due : (o : Option Act) → close_on stage (record progress { halt = None; lines = [] }) o ≡ None
            → (o ≡ None) × (find (λ reader. has_open reader progress.sessions) readers_at_end ≡ None)
        by_due None e = (refl, by_reader (find (λ reader. has_open reader progress.sessions) readers_at_end) e)
        by_due (Some action) e = cc

        by_lines : (halt : Option Halt) (lines : List (Do × ℕ)) → halt ≡ None → next stage (record progress { halt = halt; lines = lines }) ≡ None
            → (due stage.given progress.state ≡ None) × (find (λ reader. has_open reader progress.sessions) readers_at_end ≡ None)
        by_lines (Some halt) lines goes e = cc
        by_lines None [] goes e = by_due (due stage.given progress.state) e
        by_lines None ((one, zero) ∷ later) goes e = cc
        by_lines None ((one, suc times) ∷ later) goes e = cc

  module _ (servable : IsServable stage.given stage.opening) (servable_plan : IsServablePlan stage.plan) (within : CommitsWithin stage) where
    reached : (last : Progress E) → LeadsTo stage (begin stage) last → IsSound stage last
    reached last leads = subst (IsSound stage) (sym leads.1) (walk_keeps stage servable within leads.0 (begin stage) (begins stage servable_plan))

    -- a life that is over is one that is demanded
    over_is_life : (last : Progress E) → IsSound stage last → next stage last ≡ None
        → IsLife stage.given stage.opening stage.plan (life_of stage last (ending_by stage.plan last.halt))
    over_is_life last sound none = by_halt last.halt refl
      where
        by_kill : last.halt ≡ None → (o : Option (ℕ × ℕ)) → stage.plan.kill ≡ o
            → IsLife stage.given stage.opening stage.plan (life_of stage last (cond (is_none o) ending.Closed ending.Killed))
        by_kill going o kills =
            let ends = over last going none in
            let rests = at_rest stage.given last.state ends.0 in
            let all = all_answered last.sessions
            (all_of_map IsNumbered (λ (session : Session). session.request) last.sessions
            (subst (AllByRecursion IsNumbered) (sym sound.requests) (all_numbered stage.plan servable_plan)))
            (shut last.sessions ends.1) in
            (elim o as (λ k. stage.plan.kill ≡ k
            → IsLife stage.given stage.opening stage.plan (life_of stage last (cond (is_none k) ending.Closed ending.Killed))) [
              | None ↦ λ to_close. closed stage servable_plan last sound rests all to_close
              | Some kill ↦ λ to_kill. killed_at_rest stage servable_plan last sound rests all kill to_kill
            ]
            kills)

        by_halt : (halt : Option Halt) → last.halt ≡ halt
            → IsLife stage.given stage.opening stage.plan (life_of stage last (ending_by stage.plan halt))
        by_halt None going = by_kill going stage.plan.kill refl
        by_halt (Some blown) is =
            blown_off stage servable_plan last sound
            (subst (Stands stage.plan last.trace last.state last.calls) is sound.stands)
        by_halt (Some (past_limit length limit)) is = faulted stage servable_plan last sound
        by_halt (Some no_block) is = faulted stage servable_plan last sound

    pub plays : (life : Life) → Plays stage life → IsLife stage.given stage.opening stage.plan life
    plays life played =
        subst (IsLife stage.given stage.opening stage.plan) (sym played.3)
        (over_is_life played.0 (reached played.0 played.1) played.2)

    pub breaks : (life : Life) → BreaksOff stage life → IsLife stage.given stage.opening stage.plan life
    breaks life broke =
        subst (IsLife stage.given stage.opening stage.plan) (sym broke.3) (faulted stage servable_plan broke.0 (reached broke.0 broke.1))

    pub plays_to : (life : Life) (played : Plays stage life) → state_after stage.given stage.opening life.trace ≡ Some played.0.state
    plays_to life played =
        ap (λ (l : Life). state_after stage.given stage.opening l.trace) played.3
        ∙ ends_there stage servable_plan played.0 (reached played.0 played.1) (ending_by stage.plan played.0.halt)

    pub breaks_to : (life : Life) (broke : BreaksOff stage life) → state_after stage.given stage.opening life.trace ≡ Some broke.0.state
    breaks_to life broke =
        ap (λ (l : Life). state_after stage.given stage.opening l.trace) broke.3
        ∙ ends_there stage servable_plan broke.0 (reached broke.0 broke.1) ending.Faulted
