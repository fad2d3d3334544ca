-- Served lives begin soundly, and each step of them keeps them sound.
use Rattle.std.proofs.Common.{◌≡◌, ℕ, zero, suc, ◌+◌, ◌<◌, ◌≤◌, Bool, true, false, ◌&&◌, ◌||◌, ◌==◌, nat_le, cond, List, [], ◌∷◌, ◌++◌, map, filter, length, Option, Some, None, IfSome, IsSome, option_map, refl, sym, ap, ◌∙◌, subst, inl, inr, arith, zero-le, length-append}
use Rattle.std.proofs.lemmas.Bool.{cond_both, cond-true, and_from, or_from, eq-eqb, leb-true, leb-false, le-leb}
use Rattle.std.proofs.lemmas.List.Elements.{filter-append}
use Rattle.std.proofs.lemmas.List.Folds.{list_all-append, list_any-append}
use Rattle.std.specs.List.{AllByRecursion, find, fold, list_all, list_any}
use Rattle.std.specs.Option.{option_map_or}
use Rattle.st_fold.specs.Plain.{IsLast, IsOfReader, IsOfSchedule}
use Rattle.st_fold.specs.Reading.{is_watch}
use Rattle.st_mutation.specs.declared.batch.Batch.{Batch}
use Rattle.st_fold.specs.declared.plan.Act.{Act}
use Rattle.st_fold.specs.declared.plan.Act.TheVariants as act
use Rattle.st_fold.specs.declared.plan.Do.{Do}
use Rattle.st_fold.specs.declared.plan.Do.TheVariants as step_of
use Rattle.st_fold.specs.declared.plan.LifePlan.{LifePlan}
use Rattle.st_fold.specs.declared.report.Event.{Event}
use Rattle.st_fold.specs.declared.report.Event.TheVariants.{Opened, Applied, FetchStart, Began, Durable}
use Rattle.st_fold.specs.declared.request.Request.{Request}
use Rattle.st_model.specs.Pieces.{wants_block, wants_fetch}
use Rattle.st_model.specs.State.{Given, Opening, State, after_batch, apply_next, began, end_commit, ended, first_state, next_batch, step}
use Rattle.st_model.specs.Trace.{commit_due, commit_version, due, is_end, run_events}
use Rattle.st_model.specs.Session.{NeverFalls}
use Rattle.st_model.specs.Report.{commits, is_commit, requests_of}
use Rattle.st_model.specs.Schedule.{Commit, Halt, Progress, Session, Stage, begin, blown, close_on, do_act, do_poll, event_of_block, finish_commit, full, has_open, lets_through, made, make, may_do, next, on_line, past_limit, poll_first, readers_at_end, unpolled, walk, with_event}
use Rattle.st_demand.specs.Serving.{CommitsWithin, HoldsAllKeys, IsServable, IsServablePlan, IsWithin}
use Rattle.st_demand.proofs.Holding.{trace_holds}
use Rattle.st_demand.proofs.Lists.{all_append, all_map, all_merged}
use Rattle.st_demand.proofs.Traces.{state_after_push, outcome_grows}
use Rattle.st_demand.proofs.Sound.{IsBlown, IsPaid, IsSound, IsSoundSession, LastsWait, Stands, TakeTurns, is_served_event, polls_of}
use Rattle.st_demand.proofs.Polls.{poll_makes_no_event, sessions_sound, same_requests}
use Rattle.st_demand.proofs.Turns.{falls_push, all_polls, polls_grow, polls_other, turns_kept}

-- ---- the beginning

abbrev IsVersioned : Request → Type 0
IsVersioned request = is_watch request.ask ≡ false

all_versioned : (plan : LifePlan) → IsServablePlan plan → AllByRecursion IsVersioned (requests_of plan)
all_versioned plan servable =
    all_merged IsVersioned plan.asks plan.lasts
    (all_map IsOfReader IsVersioned (λ _ of_reader. of_reader.versioned) plan.asks servable.asks)
    (all_map IsLast IsVersioned (λ _ last. last.versioned) plan.lasts servable.lasts)

begin_sessions : (given : Given) (opening : Opening) (trace : List Event) (asks : List Request) → AllByRecursion IsVersioned asks
    → AllByRecursion (IsSoundSession given opening trace) (map unpolled asks)
begin_sessions given opening trace [] versioned = tt
begin_sessions given opening trace (ask ∷ asks) versioned =
    (record { within = tt; gives = refl; answered = λ e. cc; versioned = versioned.0 }, begin_sessions given opening trace asks versioned.1)

begin_requests : (asks : List Request) → map (λ (session : Session). session.request) (map unpolled asks) ≡ asks
begin_requests [] = refl
begin_requests (ask ∷ asks) = ap (λ later. ask ∷ later) (begin_requests asks)

begin_polls : (reader : ℕ) (asks : List Request) → polls_of reader (map unpolled asks) ≡ []
begin_polls reader [] = refl
begin_polls reader (ask ∷ asks) =
    cond_both (ask.reader == reader) (polls_of reader (map unpolled asks)) (polls_of reader (map unpolled asks)) (λ polls. polls ≡ [])
    (λ _. begin_polls reader asks) (λ _. begin_polls reader asks)

begin_turns : (asks : List Request) → TakeTurns (map unpolled asks)
begin_turns [] = tt
begin_turns (ask ∷ asks) = ((λ _. begin_polls ask.reader asks), begin_turns asks)

-- a life that is to be killed makes its opening
lets_none : (kill : Option (ℕ × ℕ)) → option_map_or (λ (k : ℕ × ℕ). nat_le 0 k.0) kill true ≡ true
lets_none None = refl
lets_none (Some kill) = le-leb 0 kill.0 zero-le

pub begins : {E : Type 0} (stage : Stage E) → IsServablePlan stage.plan → IsSound stage (begin stage)
begins stage servable = record {
  state = cond-true (stage.opening.version == stage.opening.version) (run_events stage.given (first_state stage.given stage.opening) []) None
      (eq-eqb stage.opening.version stage.opening.version refl);
  going_on = refl;
  events = refl;
  lines = servable.dos;
  requests = begin_requests (requests_of stage.plan);
  sessions = begin_sessions stage.given stage.opening (Opened stage.opening.version ∷ []) (requests_of stage.plan) (all_versioned stage.plan servable);
  in_order = λ reader. subst NeverFalls (sym (begin_polls reader (requests_of stage.plan))) tt;
  turns = begin_turns (requests_of stage.plan);
  lasts = inl (begin_polls 0 (requests_of stage.plan));
  stands = record { least = omega arith; most = omega arith; let_through = lets_none stage.plan.kill };
}

-- ---- one more event

-- a session that was sound stays so, however the trace goes on
grown : (given : Given) (opening : Opening) (trace : List Event) (event : Event) (session : Session)
    → IsSoundSession given opening trace session → IsSoundSession given opening (trace ++ event ∷ []) session
grown given opening trace event session sound = record {
  within = all_map (λ place. place ≤ length trace) (λ place. place ≤ length (trace ++ event ∷ []))
      (λ place within. omega (arith, within, length-append trace (event ∷ []))) session.places sound.within;
  gives = outcome_grows given opening trace (event ∷ []) session.request.ask 0 session.places sound.within ∙ sound.gives;
  answered = sound.answered;
  versioned = sound.versioned;
}

with_event_is : {E : Type 0} (given : Given) (progress : Progress E) (event : Event) (after : State)
    → step given progress.state event ≡ Some after
    → with_event given progress event ≡ record progress { trace = progress.trace ++ event ∷ []; state = after }
with_event_is given progress event after e = rw e refl

commits_push : (trace : List Event) (event : Event) → commits (trace ++ event ∷ []) ≡ commits trace + commits (event ∷ [])
commits_push trace event =
    ap (λ (events : List Event). length events) (filter-append is_commit trace (event ∷ []))
    ∙ length-append (filter is_commit trace) (filter is_commit (event ∷ []))

-- a life that is killed between some calls and some more
killed_between : (plan : LifePlan) (calls more : ℕ) → lets_through plan calls ≡ true → lets_through plan (calls + more) ≡ false
    → (kill : ℕ × ℕ) × (plan.kill ≡ Some kill) × (calls ≤ kill.0) × (kill.0 < calls + more)
killed_between plan calls more through past = by_kill plan.kill refl through past
  where
    lets : Option (ℕ × ℕ) → ℕ → Bool
    lets kill count = option_map_or (λ (k : ℕ × ℕ). nat_le count k.0) kill true

    by_kill : (o : Option (ℕ × ℕ)) → plan.kill ≡ o → lets o calls ≡ true → lets o (calls + more) ≡ false
        → (kill : ℕ × ℕ) × (plan.kill ≡ Some kill) × (calls ≤ kill.0) × (kill.0 < calls + more)
    by_kill None is t p = cc
    by_kill (Some kill) is t p = (kill, is, leb-true calls kill.0 t, leb-false (calls + more) kill.0 p)

module _ {E : Type 0} (stage : Stage E) (servable : IsServable stage.given stage.opening) (within : CommitsWithin stage) where
  module _ (progress : Progress E) (sound : IsSound stage progress) (going : progress.halt ≡ None) where
    paid : IsPaid stage.plan progress.trace progress.calls
    paid = subst (Stands stage.plan progress.trace progress.state progress.calls) going sound.stands

    holds : HoldsAllKeys progress.state
    holds = trace_holds stage.given stage.opening servable progress.trace progress.state sound.state

    -- ---- acts

    module _ (unasked : polls_of 0 progress.sessions ≡ []) (lines : List (Do × ℕ)) (of_schedule : AllByRecursion (λ (line : Do × ℕ). IsOfSchedule line.0) lines) where
      abbrev here : Progress E
      here = record progress { lines = lines }

      -- a halt that is sound, where no other thing changes
      halted : (calls : ℕ) (halt : Option Halt) → Stands stage.plan progress.trace progress.state calls halt
          → IsSound stage (record here { calls = calls; halt = halt })
      halted calls halt stands = record {
        state = sound.state;
        going_on = sound.going_on;
        events = sound.events;
        lines = of_schedule;
        requests = sound.requests;
        sessions = sound.sessions;
        in_order = sound.in_order;
        turns = sound.turns;
        lasts = inl unasked;
        stands = stands;
      }

      stays : IsSound stage here
      stays = halted progress.calls progress.halt sound.stands

      grows : (event : Event) (after : State) → step stage.given progress.state event ≡ Some after → is_served_event event ≡ true
          → is_end event ≡ false → (engine : E) (calls : ℕ) → IsPaid stage.plan (progress.trace ++ event ∷ []) calls
          → IsSound stage (with_event stage.given (record here { engine = engine; calls = calls }) event)
      grows event after comes is_served no_end engine calls pays =
          subst (IsSound stage) (sym (with_event_is stage.given (record here { engine = engine; calls = calls }) event after comes)) (record {
            state = state_after_push stage.given stage.opening progress.trace progress.state event sound.state sound.going_on ∙ comes;
            going_on = list_any-append is_end progress.trace (event ∷ [])
                ∙ or_from (list_any is_end progress.trace) (list_any is_end (event ∷ [])) sound.going_on (or_from (is_end event) false no_end refl);
            events = list_all-append is_served_event progress.trace (event ∷ [])
                ∙ and_from (list_all is_served_event progress.trace) (list_all is_served_event (event ∷ [])) sound.events
                (and_from (is_served_event event) true is_served refl);
            lines = of_schedule;
            requests = sound.requests;
            sessions = all_map (IsSoundSession stage.given stage.opening progress.trace)
                (IsSoundSession stage.given stage.opening (progress.trace ++ event ∷ []))
                (grown stage.given stage.opening progress.trace event) progress.sessions sound.sessions;
            in_order = sound.in_order;
            turns = sound.turns;
            lasts = inl unasked;
            stands = subst (Stands stage.plan (progress.trace ++ event ∷ []) after calls) (sym going) pays;
          })

      -- an event that isn't a commit's end costs no call
      free : (event : Event) → is_commit event ≡ false → IsPaid stage.plan (progress.trace ++ event ∷ []) progress.calls
      free event no_commit = record {
        least = omega (arith, paid.least, same);
        most = omega (arith, paid.most, same);
        let_through = paid.let_through;
      }
        where
          same : commits (progress.trace ++ event ∷ []) ≡ commits progress.trace + 0
          same = commits_push progress.trace event
              ∙ ap (λ v. commits progress.trace + length (cond v (event ∷ []) [])) no_commit

      -- a commit ends, or one of its calls isn't let through, or it can't be written
      module _ (flight : Opening) (flies : progress.state.flight ≡ Some flight) where
        killed_in : (more : ℕ) → more ≤ 10 → lets_through stage.plan (progress.calls + more) ≡ false
            → IsBlown stage.plan progress.trace progress.state
        killed_in more most past =
            let killed = killed_between stage.plan progress.calls more paid.let_through past in record {
              calls = killed.0.0;
              choice = killed.0.1;
              to_kill = killed.1;
              flies = subst (λ (o : Option Opening). IsSome o) (sym flies) refl;
              ends = (omega (arith, paid.least, killed.2), omega (arith, paid.most, killed.3, most));
            }

        finishes : (commit : Commit E) → IsWithin commit → IsSound stage (finish_commit stage here (Durable flight.version) commit)
        finishes (made calls engine) few =
            cond_both (lets_through stage.plan (progress.calls + calls))
            (with_event stage.given (record here { engine = engine; calls = progress.calls + calls }) (Durable flight.version))
            (record here { halt = Some blown }) (IsSound stage)
            (λ through. grows (Durable flight.version) (ended progress.state flight) comes refl refl engine (progress.calls + calls) (record {
              least = omega (arith, paid.least, few.0, commits_push progress.trace (Durable flight.version));
              most = omega (arith, paid.most, few.1, commits_push progress.trace (Durable flight.version));
              let_through = through;
            }))
            (λ past. halted progress.calls (Some blown) (killed_in calls few.1 past))
          where
            comes : step stage.given progress.state (Durable flight.version) ≡ Some (ended progress.state flight)
            comes =
                ap (end_commit progress.state flight.version) flies
                ∙ cond-true (flight.version == flight.version) (Some (ended progress.state flight)) None
                (eq-eqb flight.version flight.version refl)
        finishes (full calls length limit) few =
            cond_both (lets_through stage.plan (progress.calls + calls))
            (record here { calls = progress.calls + calls; halt = Some (past_limit length limit) })
            (record here { halt = Some blown }) (IsSound stage)
            (λ _. halted (progress.calls + calls) (Some (past_limit length limit)) tt)
            (λ past. halted progress.calls (Some blown) (killed_in calls few past))

      act_keeps : (action : Act) → IsSound stage (do_act stage here action)
      act_keeps act.Apply = by_batch (next_batch stage.given progress.state) refl
        where
          by_batch : (o : Option Batch) → next_batch stage.given progress.state ≡ o
              → IsSound stage (option_map_or (make stage here act.Apply) (option_map (λ batch. Applied batch.version) o) here)
          by_batch None _ = stays
          by_batch (Some batch) comes =
              grows (Applied batch.version) (after_batch progress.state batch)
              (ap (apply_next progress.state batch.version) comes
              ∙ cond-true (batch.version == batch.version) (Some (after_batch progress.state batch)) None
              (eq-eqb batch.version batch.version refl))
              refl refl progress.engine progress.calls (free (Applied batch.version) refl)
      act_keeps act.Start =
          subst (λ o. IsSound stage (option_map_or (make stage here act.Start) o here))
          (sym (ap (λ pieces. option_map (λ piece. FetchStart piece.begin progress.state.newest) (find (wants_fetch progress.state.durable) pieces)) holds.pieces))
          stays
      act_keeps act.Block =
          subst (λ o. IsSound stage (option_map_or (make stage here act.Block) o here))
          (sym (ap (λ pieces. option_map (event_of_block stage.given stage.plan progress.trace progress.state) (find wants_block pieces)) holds.pieces))
          stays
      act_keeps act.Began = by_due (commit_due stage.given progress.state) refl
        where
          version : ℕ
          version = commit_version stage.given progress.state

          by_due : (v : Bool) → commit_due stage.given progress.state ≡ v
              → IsSound stage (option_map_or (make stage here act.Began) (cond v (Some (Began (commit_version stage.given progress.state))) None) here)
          by_due false _ = stays
          by_due true is_due =
              grows (Began version) (began stage.given progress.state version)
              (cond-true (commit_due stage.given progress.state && version == version) (Some (began stage.given progress.state version)) None
              (and_from (commit_due stage.given progress.state) (version == version) is_due (eq-eqb version version refl)))
              refl refl progress.engine progress.calls (free (Began version) refl)
      act_keeps act.Durable = by_flight progress.state.flight refl
        where
          by_flight : (o : Option Opening) → progress.state.flight ≡ o
              → IsSound stage (option_map_or (make stage here act.Durable) (option_map (λ flight. Durable flight.version) o) here)
          by_flight None _ = stays
          by_flight (Some flight) flies = finishes flight flies (stage.commit progress.engine progress.trace) (within progress.engine progress.trace)

    -- ---- polls

    poll_keeps : (reader : ℕ) (lines : List (Do × ℕ)) → AllByRecursion (λ (line : Do × ℕ). IsOfSchedule line.0) lines
        → LastsWait stage (record progress { lines = lines; sessions = poll_first stage.given reader (length progress.trace) progress.state progress.sessions })
        → IsSound stage (do_poll stage (record progress { lines = lines }) reader)
    poll_keeps reader lines of_schedule waits =
        subst (λ events. IsSound stage (fold (with_event stage.given) polled events))
        (sym (poll_makes_no_event stage.given stage.opening reader now progress.trace progress.sessions sound.sessions)) (record {
          state = sound.state;
          going_on = sound.going_on;
          events = sound.events;
          lines = of_schedule;
          requests = same_requests stage.given stage.opening reader now place progress.sessions ∙ sound.requests;
          sessions = sessions_sound stage.given stage.opening reader now progress.trace sound.state progress.sessions sound.sessions;
          in_order = λ of. elim (polls_grow stage.given reader place now of progress.sessions sound.turns) [
            | inl same ↦ subst NeverFalls (sym same) (sound.in_order of)
            | inr more ↦ subst NeverFalls (sym more) (falls_push (polls_of of progress.sessions) place (sound.in_order of)
                (all_polls stage.given stage.opening progress.trace of progress.sessions sound.sessions))
          ];
          turns = turns_kept stage.given reader place now progress.sessions sound.turns;
          lasts = waits;
          stands = sound.stands;
        })
      where
        now : State
        now = progress.state

        place : ℕ
        place = length progress.trace

        polled : Progress E
        polled = record progress { lines = lines; sessions = poll_first stage.given reader (length progress.trace) progress.state progress.sessions }

    -- the requests of the end may be polled when nothing else is left
    late_polls : (reader : ℕ) → due stage.given progress.state ≡ None
        → LastsWait stage (record progress { lines = []; sessions = poll_first stage.given reader (length progress.trace) progress.state progress.sessions })
    late_polls reader none =
        inr (
          refl,
          none,
          elim (polls_grow stage.given reader (length progress.trace) progress.state 0 progress.sessions sound.turns) [
            | inl same ↦ subst (AllByRecursion AtEnd) (sym same) so_far
            | inr more ↦ subst (AllByRecursion AtEnd) (sym more) (all_append AtEnd (polls_of 0 progress.sessions) (length progress.trace ∷ []) so_far (refl, tt))
          ],
        )
      where
        AtEnd : ℕ → Type 0
        AtEnd place = place ≡ length progress.trace

        so_far : AllByRecursion AtEnd (polls_of 0 progress.sessions)
        so_far = elim sound.lasts [ inl unasked ↦ subst (AllByRecursion AtEnd) (sym unasked) tt | inr late ↦ late.2 ]

    -- ---- the lines of the schedule

    module _ (line : Do × ℕ) (later : List (Do × ℕ)) (first : progress.lines ≡ line ∷ later) where
      not_asked : polls_of 0 progress.sessions ≡ []
      not_asked = elim sound.lasts [ inl none ↦ none | inr late ↦ (let no : [] ≡ line ∷ later = sym late.0 ∙ first in cc) ]

      all_lines : AllByRecursion (λ (l : Do × ℕ). IsOfSchedule l.0) (line ∷ later)
      all_lines = subst (AllByRecursion (λ (l : Do × ℕ). IsOfSchedule l.0)) first sound.lines

      left_keeps : IsSound stage (record progress { lines = later })
      left_keeps = stays not_asked later all_lines.1

    line_keeps : (one : Do) (times : ℕ) (later : List (Do × ℕ)) → progress.lines ≡ (one, suc times) ∷ later
        → IsSound stage (on_line stage progress one times later)
    line_keeps (step_of.Act action) times later first =
        let line : Do × ℕ = (step_of.Act action, suc times) in
        let again : List (Do × ℕ) = (step_of.Act action, times) ∷ later in
        cond_both (may_do stage progress action) (do_act stage (record progress { lines = again }) action) (record progress { lines = later })
        (IsSound stage)
        (λ _. act_keeps (not_asked line later first) again (tt, (all_lines line later first).1) action)
        (λ _. left_keeps line later first)
    line_keeps step_of.Flush times later first =
        let line : Do × ℕ = (step_of.Flush, suc times) in
        let both : List (Do × ℕ) = (step_of.Act act.Began, 1) ∷ (step_of.Act act.Durable, 1) ∷ (step_of.Flush, times) ∷ later in
        cond_both (may_do stage progress act.Began || may_do stage progress act.Durable)
        (record progress { lines = both }) (record progress { lines = later }) (IsSound stage)
        (λ _. stays (not_asked line later first) both (tt, (tt, (tt, (all_lines line later first).1))))
        (λ _. left_keeps line later first)
    line_keeps (step_of.Poll reader) times later first =
        let line : Do × ℕ = (step_of.Poll reader, suc times) in
        let again : List (Do × ℕ) = (step_of.Poll reader, times) ∷ later in
        let of_schedule = all_lines line later first in
        cond_both (has_open reader progress.sessions) (do_poll stage (record progress { lines = again }) reader) (record progress { lines = later })
        (IsSound stage)
        (λ _. poll_keeps reader again of_schedule
        (inl (polls_other stage.given reader (length progress.trace) progress.state 0 progress.sessions (λ e. omega (arith, e, of_schedule.0.0))
        ∙ not_asked line later first)))
        (λ _. left_keeps line later first)

    -- ---- the closing

    close_keeps : progress.lines ≡ [] → IfSome (close_on stage (record progress { lines = [] }) (due stage.given progress.state)) (IsSound stage)
    close_keeps done = by_due (due stage.given progress.state) refl
      where
        by_reader : due stage.given progress.state ≡ None → (o : Option ℕ)
            → IfSome (option_map (do_poll stage (record progress { lines = [] })) o) (IsSound stage)
        by_reader none None = tt
        by_reader none (Some reader) = poll_keeps reader [] tt (late_polls reader none)

        by_due : (o : Option Act) → due stage.given progress.state ≡ o
            → IfSome (close_on stage (record progress { lines = [] }) o) (IsSound stage)
        by_due None none = by_reader none (find (λ reader. has_open reader progress.sessions) readers_at_end)
        by_due (Some action) first =
            act_keeps (elim sound.lasts [ inl none ↦ none | inr late ↦ (let no : None ≡ Some action = sym late.1 ∙ first in cc) ]) [] tt action

  -- ---- any step, and many

  pub keeps : (progress : Progress E) → IsSound stage progress → IfSome (next stage progress) (IsSound stage)
  keeps progress sound = by_lines progress.halt progress.lines refl refl
    where
      so : (halt : Option Halt) (lines : List (Do × ℕ)) → progress.halt ≡ halt → progress.lines ≡ lines
          → IsSound stage (record progress { halt = halt; lines = lines })
      so halt lines halts has =
          subst (λ ls. IsSound stage (record progress { halt = halt; lines = ls })) has
          (subst (λ h. IsSound stage (record progress { halt = h })) halts sound)

      by_lines : (halt : Option Halt) (lines : List (Do × ℕ)) → progress.halt ≡ halt → progress.lines ≡ lines
          → IfSome (next stage (record progress { halt = halt; lines = lines })) (IsSound stage)
      by_lines (Some halt) lines halts has = tt
      by_lines None [] going has = close_keeps (record progress { halt = None; lines = [] }) (so None [] going has) refl refl
      by_lines None ((one, zero) ∷ later) going has =
          left_keeps (record progress { halt = None; lines = (one, zero) ∷ later }) (so None ((one, zero) ∷ later) going has) refl
          (one, zero) later refl
      by_lines None ((one, suc times) ∷ later) going has =
          line_keeps (record progress { halt = None; lines = (one, suc times) ∷ later }) (so None ((one, suc times) ∷ later) going has) refl
          one times later refl

  pub walk_keeps : (steps : ℕ) (progress : Progress E) → IsSound stage progress → IsSound stage (walk stage steps progress)
  walk_keeps zero progress sound = sound
  walk_keeps (suc steps) progress sound = by_next (walk_keeps steps) (next stage progress) (keeps progress sound)
    where
      by_next : ((after : Progress E) → IsSound stage after → IsSound stage (walk stage steps after)) → (o : Option (Progress E))
          → IfSome o (IsSound stage) → IsSound stage (option_map_or (walk stage steps) o progress)
      by_next later None kept = sound
      by_next later (Some after) kept = later after kept
