-- Plain lives begin soundly, each step of them keeps them sound, and it is the step that their schedule makes.
use Rattle.std.proofs.Common.{◌≡◌, ℕ, zero, suc, ◌-◌, ◌≤◌, true, false, not, ◌&&◌, ◌||◌, ◌==◌, nat_lt, nat_le, cond, List, [], ◌∷◌, ◌++◌, map, drop, length, Option, Some, None, is_none, IfSome, option_map, refl, sym, ap, ◌∙◌, subst, inl, inr, arith, zero-le, le_refl, length-append}
use Rattle.std.proofs.lemmas.Bool.{cond_both, cond-true, cond-false, and_from, and_parts, or_from, eq-eqb, leb-true}
use Rattle.std.proofs.lemmas.List.Folds.{list_all-append, list_any-append}
use Rattle.std.specs.List.{AllByRecursion, find, fold, list_all, list_any}
use Rattle.std.specs.Option.{option_map_or}
use Rattle.st_fold.specs.Plain.{IsLast, IsOfReader, IsOfSchedule, IsPlainBatch, IsPlainLife}
use Rattle.st_fold.specs.Reading.{is_watch}
use Rattle.st_mutation.specs.declared.batch.Batch.{Batch}
use Rattle.st_fold.specs.declared.plan.Act.TheVariants as act
use Rattle.st_fold.specs.declared.plan.Do.{Do}
use Rattle.st_fold.specs.declared.plan.Do.TheVariants as step_of
use Rattle.st_fold.specs.declared.plan.LifePlan.{LifePlan}
use Rattle.st_fold.specs.declared.report.Event.{Event}
use Rattle.st_fold.specs.declared.report.Event.TheVariants.{Opened, Applied, Began}
use Rattle.st_fold.specs.declared.request.Request.{Request}
use Rattle.st_model.specs.Pieces.{all_keys, first_pieces, inject, move_piece}
use Rattle.st_model.specs.State.{Given, State, next_batch, apply_next, after_batch, assigned, first_state, greatest_to, move_span, step}
use Rattle.st_model.specs.Trace.{commit_due, commit_version, due, is_end}
use Rattle.st_model.specs.Session.{NeverFalls}
use Rattle.st_model.specs.Report.{requests_of}
use Rattle.st_model.specs.Schedule.{Progress, Session, Stage, begin, close_on, do_act, do_poll, event_of, has_open, make, next, on_line, readers_at_end, unpolled, walk, with_event}
use Rattle.st_model.specs.Plain.{IsPlain, IsSplit, Plainly, apply_plainly, begin_plainly, first_to, fresh_opening, line_plainly, next_plainly, plain_stage, plain_state, poll_plainly, progress_of, walk_plainly, with_lines}
use Rattle.st_model.proofs.Lists.{all_append, all_map, all_merged, all_right}
use Rattle.st_model.proofs.Batches.{none_to, next_is, first_is, split_on}
use Rattle.st_model.proofs.Traces.{state_after_push, outcome_grows}
use Rattle.st_model.proofs.Sound.{IsSound, IsSoundSession, LastsWait, TakeTurns, is_plain_event, polls_of}
use Rattle.st_model.proofs.Polls.{poll_makes_no_event, sessions_sound, same_requests}
use Rattle.st_model.proofs.Turns.{falls_push, all_polls, polls_grow, polls_other, turns_kept}

-- ---- the beginning

abbrev IsVersioned : Request → Type 0
IsVersioned request = is_watch request.ask ≡ false

all_versioned : (plan : LifePlan) → IsPlainLife plan → AllByRecursion IsVersioned (requests_of plan)
all_versioned plan life =
    all_merged IsVersioned plan.asks plan.lasts (all_map IsOfReader IsVersioned (λ _ of_reader. of_reader.versioned) plan.asks life.asks)
    (all_map IsLast IsVersioned (λ _ last. last.versioned) plan.lasts life.lasts)

begin_sessions : (given : Given) (trace : List Event) (asks : List Request) → AllByRecursion IsVersioned asks
    → AllByRecursion (IsSoundSession given trace) (map unpolled asks)
begin_sessions given trace [] versioned = tt
begin_sessions given trace (ask ∷ asks) versioned =
    (record { within = tt; gives = refl; answered = λ e. cc; versioned = versioned.0 }, begin_sessions given trace asks versioned.1)

begin_requests : (asks : List Request) → map (λ (session : Session). session.request) (map unpolled asks) ≡ asks
begin_requests [] = refl
begin_requests (ask ∷ asks) = ap (λ later. ask ∷ later) (begin_requests asks)

begin_polls : (reader : ℕ) (asks : List Request) → polls_of reader (map unpolled asks) ≡ []
begin_polls reader [] = refl
begin_polls reader (ask ∷ asks) =
    cond_both (ask.reader == reader) (polls_of reader (map unpolled asks)) (polls_of reader (map unpolled asks)) (λ polls. polls ≡ [])
    (λ _. begin_polls reader asks) (λ _. begin_polls reader asks)

begin_turns : (asks : List Request) → TakeTurns (map unpolled asks)
begin_turns [] = tt
begin_turns (ask ∷ asks) = ((λ _. begin_polls ask.reader asks), begin_turns asks)

begin_state : (given : Given) → IsPlain given → first_state given fresh_opening ≡ plain_state 0
begin_state given plain =
    let own : assigned given.own given.log 0 ≡ all_keys ∷ [] =
    ap (λ batches. fold (λ spans (batch : Batch). fold move_span spans batch.moves) given.own batches) (none_to 0 0 given.log (le_refl 0) plain.rises)
    ∙ plain.own in
    ap (λ spans. record (plain_state 0) { pieces = first_pieces 0 (all_keys ∷ []) spans }) own

begins : (given : Given) (plan : LifePlan) → IsPlain given → IsPlainLife plan → IsSound given (requests_of plan) (begin_plainly given plan)
begins given plan plain life = record {
  state = ap (λ (s : State). Some s) (begin_state given plain);
  split = record { applied = []; whole = refl; below = tt; above = plain.rises };
  kept = zero-le;
  going_on = refl;
  events = refl;
  lines = life.dos;
  requests = begin_requests (requests_of plan);
  sessions = begin_sessions given (Opened 0 ∷ []) (requests_of plan) (all_versioned plan life);
  in_order = λ reader. subst NeverFalls (sym (begin_polls reader (requests_of plan))) tt;
  turns = begin_turns (requests_of plan);
  lasts = inl (begin_polls 0 (requests_of plan));
}

-- ---- one step

-- a session that was sound stays so, however the trace goes on
grown : (given : Given) (trace : List Event) (event : Event) (session : Session) → IsSoundSession given trace session
    → IsSoundSession given (trace ++ event ∷ []) session
grown given trace event session sound = record {
  within = all_map (λ place. place ≤ length trace) (λ place. place ≤ length (trace ++ event ∷ []))
      (λ place within. omega (arith, within, length-append trace (event ∷ []))) session.places sound.within;
  gives = outcome_grows given fresh_opening trace (event ∷ []) session.request.ask 0 session.places sound.within ∙ sound.gives;
  answered = sound.answered;
  versioned = sound.versioned;
}

-- a batch without moves changes the newest version alone
after_plain : (newest : ℕ) (batch : Batch) → batch.moves ≡ [] → after_batch (plain_state newest) batch ≡ plain_state batch.version
after_plain newest batch none =
    ap (λ moves. record (plain_state batch.version) { pieces = map (inject batch.version) (fold (move_piece batch.version) (plain_state newest).pieces moves) }) none

step_plain : (given : Given) (newest : ℕ) (batch : Batch) → next_batch given (plain_state newest) ≡ Some batch → batch.moves ≡ []
    → step given (plain_state newest) (Applied batch.version) ≡ Some (plain_state batch.version)
step_plain given newest batch next none =
    ap (apply_next (plain_state newest) batch.version) next
    ∙ cond-true (batch.version == batch.version) (Some (after_batch (plain_state newest) batch)) None (eq-eqb batch.version batch.version refl)
    ∙ ap (λ (s : State). Some s) (after_plain newest batch none)

-- the window lets no batch go
none_let_go : (log : List Batch) → greatest_to 0 0 log ≡ 0
none_let_go [] = refl
none_let_go (batch ∷ later) =
    ap (λ first. greatest_to 0 first later)
    (cond_both (nat_lt 0 batch.version && nat_le batch.version 0) batch.version 0 (λ first. first ≡ 0)
    (λ h. omega (arith, leb-true batch.version 0 (and_parts (nat_lt 0 batch.version) (nat_le batch.version 0) h).1))
    (λ _. refl))
    ∙ none_let_go later

-- so no commit is due
pub no_commit : (given : Given) (newest : ℕ) → newest ≤ given.settings.window → commit_due given (plain_state newest) ≡ false
no_commit given newest kept =
    ap (λ version. true && (nat_lt 0 version || (false || false))) (ap (λ bound. greatest_to bound 0 given.log) none_below ∙ none_let_go given.log)
  where
    none_below : newest - given.settings.window ≡ 0
    none_below = omega arith

module _ (given : Given) (asks : List Request) (plain : IsPlain given) where
  module _ (plainly : Plainly) (sound : IsSound given asks plainly) where
    -- ---- the batch that comes next

    module _ (batch : Batch) (comes : first_to given.upto plainly.left ≡ Some batch) where
      plain_batch : IsPlainBatch given.settings.window batch
      plain_batch =
          let log_is : given.log ≡ sound.split.applied ++ batch ∷ drop 1 plainly.left =
          sound.split.whole ∙ ap (λ batches. sound.split.applied ++ batches) (first_is given.upto plainly.left batch comes) in
          (all_right (IsPlainBatch given.settings.window) sound.split.applied (batch ∷ drop 1 plainly.left)
          (subst (AllByRecursion (IsPlainBatch given.settings.window)) log_is plain.batches)).0

      steps_to : step given (plain_state plainly.newest) (Applied batch.version) ≡ Some (plain_state batch.version)
      steps_to =
          step_plain given plainly.newest batch (next_is given plainly.newest plainly.left sound.split ∙ comes) plain_batch.no_moves

      -- applying it keeps the life sound
      apply_keeps : (lines : List (Do × ℕ)) → AllByRecursion (λ (line : Do × ℕ). IsOfSchedule line.0) lines
          → IsSound given asks (apply_plainly (with_lines lines plainly) batch)
      apply_keeps lines of_schedule = record {
        state = state_after_push given fresh_opening plainly.trace (plain_state plainly.newest) (Applied batch.version) sound.state sound.going_on ∙ steps_to;
        split = split_on given.log plainly.newest batch (drop 1 plainly.left)
            (subst (IsSplit given.log plainly.newest) (first_is given.upto plainly.left batch comes) sound.split);
        kept = plain_batch.kept;
        going_on = list_any-append is_end plainly.trace (Applied batch.version ∷ []) ∙ or_from (list_any is_end plainly.trace) false sound.going_on refl;
        events = list_all-append is_plain_event plainly.trace (Applied batch.version ∷ [])
            ∙ and_from (list_all is_plain_event plainly.trace) true sound.events refl;
        lines = of_schedule;
        requests = sound.requests;
        sessions = all_map (IsSoundSession given plainly.trace) (IsSoundSession given (plainly.trace ++ Applied batch.version ∷ []))
            (grown given plainly.trace (Applied batch.version)) plainly.sessions sound.sessions;
        in_order = sound.in_order;
        turns = sound.turns;
        lasts = elim sound.lasts [ inl none ↦ inl none | inr late ↦ (let no : None ≡ Some batch = sym late.1 ∙ comes in cc) ];
      }

    -- ---- a poll

    poll_keeps : (reader : ℕ) (lines : List (Do × ℕ)) → AllByRecursion (λ (line : Do × ℕ). IsOfSchedule line.0) lines
        → LastsWait given (poll_plainly given (with_lines lines plainly) reader)
        → IsSound given asks (poll_plainly given (with_lines lines plainly) reader)
    poll_keeps reader lines of_schedule waits = record {
      state = sound.state;
      split = sound.split;
      kept = sound.kept;
      going_on = sound.going_on;
      events = sound.events;
      lines = of_schedule;
      requests = same_requests given reader now place plainly.sessions ∙ sound.requests;
      sessions = sessions_sound given reader now plainly.trace sound.state plainly.sessions sound.sessions;
      in_order = λ of. elim (polls_grow given reader place now of plainly.sessions sound.turns) [
        | inl same ↦ subst NeverFalls (sym same) (sound.in_order of)
        | inr more ↦ subst NeverFalls (sym more) (falls_push (polls_of of plainly.sessions) place (sound.in_order of)
            (all_polls given plainly.trace of plainly.sessions sound.sessions))
      ];
      turns = turns_kept given reader place now plainly.sessions sound.turns;
      lasts = waits;
    }
      where
        now : State
        now = plain_state plainly.newest

        place : ℕ
        place = length plainly.trace

    -- the requests of the end may be polled when nothing else is left
    late_polls : (reader : ℕ) → first_to given.upto plainly.left ≡ None → LastsWait given (poll_plainly given (with_lines [] plainly) reader)
    late_polls reader none =
        inr (
          refl,
          none,
          elim (polls_grow given reader (length plainly.trace) (plain_state plainly.newest) 0 plainly.sessions sound.turns) [
            | inl same ↦ subst (AllByRecursion AtEnd) (sym same) so_far
            | inr more ↦ subst (AllByRecursion AtEnd) (sym more) (all_append AtEnd (polls_of 0 plainly.sessions) (length plainly.trace ∷ []) so_far (refl, tt))
          ],
        )
      where
        AtEnd : ℕ → Type 0
        AtEnd place = place ≡ length plainly.trace

        so_far : AllByRecursion AtEnd (polls_of 0 plainly.sessions)
        so_far = elim sound.lasts [ inl unasked ↦ subst (AllByRecursion AtEnd) (sym unasked) tt | inr late ↦ late.2 ]

    -- ---- the lines of the schedule

    module _ (line : Do × ℕ) (later : List (Do × ℕ)) (here : plainly.lines ≡ line ∷ later) where
      unasked : polls_of 0 plainly.sessions ≡ []
      unasked = elim sound.lasts [ inl none ↦ none | inr late ↦ (let no : [] ≡ line ∷ later = sym late.0 ∙ here in cc) ]

      all_lines : AllByRecursion (λ (l : Do × ℕ). IsOfSchedule l.0) (line ∷ later)
      all_lines = subst (AllByRecursion (λ (l : Do × ℕ). IsOfSchedule l.0)) here sound.lines

      left_keeps : IsSound given asks (with_lines later plainly)
      left_keeps = record {
        state = sound.state;
        split = sound.split;
        kept = sound.kept;
        going_on = sound.going_on;
        events = sound.events;
        lines = all_lines.1;
        requests = sound.requests;
        sessions = sound.sessions;
        in_order = sound.in_order;
        turns = sound.turns;
        lasts = inl unasked;
      }

    line_keeps : (one : Do) (times : ℕ) (later : List (Do × ℕ)) → plainly.lines ≡ (one, suc times) ∷ later
        → IsSound given asks (line_plainly given plainly one times later)
    line_keeps (step_of.Act act.Apply) times later here =
        elim (first_to given.upto plainly.left) as (λ o. first_to given.upto plainly.left ≡ o
        → IsSound given asks
        (option_map_or (apply_plainly (with_lines ((step_of.Act act.Apply, times) ∷ later) plainly)) o (with_lines later plainly))) [
          | None ↦ λ _. left_keeps (step_of.Act act.Apply, suc times) later here
          | Some batch ↦ λ comes. apply_keeps batch comes ((step_of.Act act.Apply, times) ∷ later)
              (tt, (all_lines (step_of.Act act.Apply, suc times) later here).1)
        ]
        refl
    line_keeps (step_of.Act act.Start) times later here = left_keeps (step_of.Act act.Start, suc times) later here
    line_keeps (step_of.Act act.Block) times later here = left_keeps (step_of.Act act.Block, suc times) later here
    line_keeps (step_of.Act act.Began) times later here = left_keeps (step_of.Act act.Began, suc times) later here
    line_keeps (step_of.Act act.Durable) times later here = left_keeps (step_of.Act act.Durable, suc times) later here
    line_keeps step_of.Flush times later here = left_keeps (step_of.Flush, suc times) later here
    line_keeps (step_of.Poll reader) times later here =
        let line : Do × ℕ = (step_of.Poll reader, suc times) in
        let of_schedule = all_lines line later here in
        cond_both (has_open reader plainly.sessions) (poll_plainly given (with_lines ((step_of.Poll reader, times) ∷ later) plainly) reader)
        (with_lines later plainly) (IsSound given asks)
        (λ _. poll_keeps reader ((step_of.Poll reader, times) ∷ later) of_schedule
        (inl (polls_other given reader (length plainly.trace) (plain_state plainly.newest) 0 plainly.sessions (λ e. omega (arith, e, of_schedule.0.0))
        ∙ unasked line later here)))
        (λ _. left_keeps line later here)

    keeps : IfSome (next_plainly given plainly) (IsSound given asks)
    keeps = by_lines plainly.lines refl
      where
        by_reader : first_to given.upto plainly.left ≡ None → (o : Option ℕ)
            → IfSome (option_map (poll_plainly given (with_lines [] plainly)) o) (IsSound given asks)
        by_reader none None = tt
        by_reader none (Some reader) = poll_keeps reader [] tt (late_polls reader none)

        by_batch : (o : Option Batch) → first_to given.upto plainly.left ≡ o
            → IfSome (option_map_or (λ batch. Some (apply_plainly (with_lines [] plainly) batch)) o
            (option_map (poll_plainly given (with_lines [] plainly)) (find (λ reader. has_open reader plainly.sessions) readers_at_end)))
            (IsSound given asks)
        by_batch None none = by_reader none (find (λ reader. has_open reader plainly.sessions) readers_at_end)
        by_batch (Some batch) comes = apply_keeps batch comes [] tt

        by_lines : (lines : List (Do × ℕ)) → plainly.lines ≡ lines → IfSome (next_plainly given (with_lines lines plainly)) (IsSound given asks)
        by_lines [] here = by_batch (first_to given.upto plainly.left) refl
        by_lines ((one, zero) ∷ later) here = left_keeps (one, zero) later here
        by_lines ((one, suc times) ∷ later) here = line_keeps one times later here

    -- ---- the same step by the schedule

    due_is : due given (plain_state plainly.newest) ≡ option_map (λ (batch : Batch). act.Apply) (first_to given.upto plainly.left)
    due_is =
        cond-false (commit_due given (plain_state plainly.newest)) (Some act.Began)
        (option_map (λ (batch : Batch). act.Apply) (next_batch given (plain_state plainly.newest))) (no_commit given plainly.newest sound.kept)
        ∙ ap (option_map (λ (batch : Batch). act.Apply)) (next_is given plainly.newest plainly.left sound.split)

    module _ (plan : LifePlan) where
      abbrev stage : Stage (Unit {0})
      stage = plain_stage given plan

      module _ (lines : List (Do × ℕ)) where
        abbrev so_far : Plainly
        so_far = with_lines lines plainly

        applies_next : event_of stage (progress_of so_far) act.Apply ≡ option_map (λ (batch : Batch). Applied batch.version) (first_to given.upto plainly.left)
        applies_next = ap (option_map (λ (batch : Batch). Applied batch.version)) (next_is given plainly.newest plainly.left sound.split)

        begins_none : event_of stage (progress_of so_far) act.Began ≡ None
        begins_none =
            cond-false (commit_due given (plain_state plainly.newest)) (Some (Began (commit_version given (plain_state plainly.newest)))) None
            (no_commit given plainly.newest sound.kept)

        does_apply : (batch : Batch) → first_to given.upto plainly.left ≡ Some batch
            → do_act stage (progress_of so_far) act.Apply ≡ progress_of (apply_plainly so_far batch)
        does_apply batch comes =
            ap (λ o. option_map_or (make stage (progress_of so_far) act.Apply) o (progress_of so_far))
            (applies_next ∙ ap (option_map (λ (batch : Batch). Applied batch.version)) comes)
            ∙ comes_to (steps_to batch comes)
          where
            comes_to : step given (plain_state plainly.newest) (Applied batch.version) ≡ Some (plain_state batch.version)
                → with_event given (progress_of so_far) (Applied batch.version) ≡ progress_of (apply_plainly so_far batch)
            comes_to e = rw e refl

        does_poll : (reader : ℕ) → do_poll stage (progress_of so_far) reader ≡ progress_of (poll_plainly given so_far reader)
        does_poll reader =
            ap (fold (with_event given) (progress_of (poll_plainly given so_far reader)))
            (poll_makes_no_event given reader (plain_state plainly.newest) plainly.trace plainly.sessions sound.sessions)

      line_is : (lines : List (Do × ℕ)) (one : Do) (times : ℕ) (later : List (Do × ℕ))
          → on_line stage (progress_of (with_lines lines plainly)) one times later ≡ progress_of (line_plainly given plainly one times later)
      line_is lines (step_of.Act act.Apply) times later =
          let again : List (Do × ℕ) = (step_of.Act act.Apply, times) ∷ later in
          ap (λ o. cond (not (is_none o)) (do_act stage (progress_of (with_lines again plainly)) act.Apply) (progress_of (with_lines later plainly)))
          (applies_next lines)
          ∙ (elim (first_to given.upto plainly.left) as (λ o. first_to given.upto plainly.left ≡ o
          → cond (not (is_none (option_map (λ (batch : Batch). Applied batch.version) o))) (do_act stage (progress_of (with_lines again plainly)) act.Apply) (progress_of (with_lines later plainly))
          ≡ progress_of (option_map_or (apply_plainly (with_lines again plainly)) o (with_lines later plainly)))
          [ None ↦ λ _. refl | Some batch ↦ λ comes. does_apply again batch comes ] refl)
      line_is lines (step_of.Act act.Start) times later = refl
      line_is lines (step_of.Act act.Block) times later = refl
      line_is lines (step_of.Act act.Began) times later =
          ap (λ o. cond (not (is_none o)) (do_act stage (progress_of (with_lines ((step_of.Act act.Began, times) ∷ later) plainly)) act.Began) (progress_of (with_lines later plainly)))
          (begins_none lines)
      line_is lines (step_of.Act act.Durable) times later = refl
      line_is lines step_of.Flush times later =
          ap (λ o. cond (not (is_none o) || false)
          (progress_of (with_lines ((step_of.Act act.Began, 1) ∷ (step_of.Act act.Durable, 1) ∷ (step_of.Flush, times) ∷ later) plainly))
          (progress_of (with_lines later plainly))) (begins_none lines)
      line_is lines (step_of.Poll reader) times later =
          let again : List (Do × ℕ) = (step_of.Poll reader, times) ∷ later in
          elim (has_open reader plainly.sessions) as (λ v. cond v (do_poll stage (progress_of (with_lines again plainly)) reader) (progress_of (with_lines later plainly))
          ≡ progress_of (cond v (poll_plainly given (with_lines again plainly) reader) (with_lines later plainly)))
          [ true ↦ does_poll again reader | false ↦ refl ]

      next_is_plain : next stage (progress_of plainly) ≡ option_map progress_of (next_plainly given plainly)
      next_is_plain = by_lines plainly.lines
        where
          by_reader : (o : Option ℕ) → option_map (do_poll stage (progress_of (with_lines [] plainly))) o
              ≡ option_map progress_of (option_map (poll_plainly given (with_lines [] plainly)) o)
          by_reader None = refl
          by_reader (Some reader) = ap (λ (p : Progress (Unit {0})). Some p) (does_poll [] reader)

          by_batch : (o : Option Batch) → first_to given.upto plainly.left ≡ o
              → close_on stage (progress_of (with_lines [] plainly)) (option_map (λ (batch : Batch). act.Apply) o)
              ≡ option_map progress_of (option_map_or (λ batch. Some (apply_plainly (with_lines [] plainly) batch)) o
              (option_map (poll_plainly given (with_lines [] plainly)) (find (λ reader. has_open reader plainly.sessions) readers_at_end)))
          by_batch None none = by_reader (find (λ reader. has_open reader plainly.sessions) readers_at_end)
          by_batch (Some batch) comes = ap (λ (p : Progress (Unit {0})). Some p) (does_apply [] batch comes)

          by_lines : (lines : List (Do × ℕ)) → next stage (progress_of (with_lines lines plainly)) ≡ option_map progress_of (next_plainly given (with_lines lines plainly))
          by_lines [] = ap (close_on stage (progress_of (with_lines [] plainly))) due_is ∙ by_batch (first_to given.upto plainly.left) refl
          by_lines ((one, zero) ∷ later) = refl
          by_lines ((one, suc times) ∷ later) = ap (λ (p : Progress (Unit {0})). Some p) (line_is ((one, suc times) ∷ later) one times later)

  -- ---- many steps

  module _ (plan : LifePlan) where
    pub walk_is : (steps : ℕ) (plainly : Plainly) → IsSound given asks plainly
        → (walk (plain_stage given plan) steps (progress_of plainly) ≡ progress_of (walk_plainly given steps plainly))
        × IsSound given asks (walk_plainly given steps plainly)
    walk_is zero plainly sound = (refl, sound)
    walk_is (suc steps) plainly sound =
        let rest = by_next (walk_is steps) (next_plainly given plainly) (keeps plainly sound) in
        (ap (λ o. option_map_or (walk (plain_stage given plan) steps) o (progress_of plainly)) (next_is_plain plainly sound plan) ∙ rest.0, rest.1)
      where
        by_next : ((after : Plainly) → IsSound given asks after
            → (walk (plain_stage given plan) steps (progress_of after) ≡ progress_of (walk_plainly given steps after))
            × IsSound given asks (walk_plainly given steps after))
            → (o : Option Plainly) → IfSome o (IsSound given asks)
            → (option_map_or (walk (plain_stage given plan) steps) (option_map progress_of o) (progress_of plainly)
            ≡ progress_of (option_map_or (walk_plainly given steps) o plainly))
            × IsSound given asks (option_map_or (walk_plainly given steps) o plainly)
        by_next later None kept = (refl, sound)
        by_next later (Some after) kept = later after kept

-- ---- from the beginning

module _ (given : Given) (plan : LifePlan) (plain : IsPlain given) (life : IsPlainLife plan) where
  begin_is : begin (plain_stage given plan) ≡ progress_of (begin_plainly given plan)
  begin_is = ap (λ state. record (progress_of (begin_plainly given plan)) { state = state }) (begin_state given plain)

  pub reached : (steps : ℕ) → (walk (plain_stage given plan) steps (begin (plain_stage given plan)) ≡ progress_of (walk_plainly given steps (begin_plainly given plan)))
      × IsSound given (requests_of plan) (walk_plainly given steps (begin_plainly given plan))
  reached steps =
      let so = walk_is given (requests_of plan) plain plan steps (begin_plainly given plan) (begins given plan plain life) in
      (ap (walk (plain_stage given plan) steps) begin_is ∙ so.0, so.1)

  pub next_step : (steps : ℕ) → next (plain_stage given plan) (progress_of (walk_plainly given steps (begin_plainly given plan)))
      ≡ option_map progress_of (next_plainly given (walk_plainly given steps (begin_plainly given plan)))
  next_step steps = next_is_plain given (requests_of plan) plain (walk_plainly given steps (begin_plainly given plan)) (reached steps).1 plan
