-- The lives that sound runs make.
use Rattle.std.proofs.Common.{◌≡◌, ◌≢◌, ℕ, ◌<◌, ◌≤◌, Bool, true, false, not, ◌&&◌, ◌||◌, ◌==◌, cond, List, [], ◌∷◌, ◌++◌, map, length, All, Option, Some, None, IsSome, unwrap_or, refl, sym, ap, ◌∙◌, subst, inl, inr, ◌⊎◌, append-nil}
use Rattle.std.proofs.lemmas.Bool.{and_parts, and_from, or_parts, eq-eqb}
use Rattle.std.proofs.lemmas.List.Folds.{list_all-append}
use Rattle.std.specs.List.{AllByRecursion, list_all, list_any}
use Rattle.st_fold.specs.declared.report.Answered.{Answered}
use Rattle.st_fold.specs.declared.report.Ending.{Ending}
use Rattle.st_fold.specs.declared.report.Ending.TheVariants as ending
use Rattle.st_fold.specs.declared.report.Event.{Event}
use Rattle.st_fold.specs.declared.report.Event.TheVariants.{Opened, Applied, Began, Durable, Closed, Killed}
use Rattle.st_fold.specs.declared.report.Life.{Life}
use Rattle.st_fold.specs.declared.request.Ask.{Ask}
use Rattle.st_fold.specs.declared.request.Ask.TheVariants as ask
use Rattle.st_fold.specs.declared.request.Request.{Request}
use Rattle.st_fold.specs.Endings.{last_event}
use Rattle.st_fold.specs.Reading.{is_watch}
use Rattle.st_fold.specs.declared.request.Answer.{Answer}
use Rattle.st_fold.specs.declared.request.Answer.TheVariants.{Stopped}
use Rattle.st_model.specs.State.{Given, Opening, State}
use Rattle.st_model.specs.Trace.{is_end, state_after, is_at_rest}
use Rattle.st_model.specs.Session.{Answers, NeverFalls, outcome}
use Rattle.st_model.specs.Watching.{Demanded, led_to}
use Rattle.st_model.specs.Report.{AreAnswered, Ends, IsLife, all_behind, blocks, is_cut_short, is_of_watch, may_split, places_of, requests_of, some_names}
use Rattle.st_model.specs.Schedule.{Progress, Session, Stage, answered_by, is_open, life_of}
use Rattle.st_demand.specs.Serving.{IsServablePlan}
use Rattle.st_demand.proofs.Sound.{IsBlown, IsSound, IsSoundSession, is_answered, is_served_event, outcome_of, polls_of}
use Rattle.st_demand.proofs.Lists.{all_at}
use Rattle.st_demand.proofs.Traces.{outcome_grows, state_after_push}

-- ---- answers

-- the session's answer, where it has one
has_answer : (session : Session) → is_answered session ≡ true → (answer : Answer) × (session.answer ≡ Some answer)
has_answer session h = by_answer session.answer h
  where
    by_answer : (o : Option Answer) → is_answered (record session { answer = o }) ≡ true → (answer : Answer) × (o ≡ Some answer)
    by_answer None e = cc
    by_answer (Some answer) e = (answer, refl)

shut_is_answered : (session : Session) → is_open session.request.reader session ≡ false → is_answered session ≡ true
shut_is_answered session h = by_answer session.answer h
  where
    by_answer : (o : Option Answer) → is_open session.request.reader (record session { answer = o }) ≡ false
        → is_answered (record session { answer = o }) ≡ true
    by_answer None e =
        let o = and_from (session.request.reader == session.request.reader) true (eq-eqb session.request.reader session.request.reader refl) refl in
        cc
    by_answer (Some answer) e = refl

pub all_answered : (sessions : List Session) → AllByRecursion (λ (session : Session). session.request.reader ≤ 64) sessions
    → ((reader : ℕ) → reader ≤ 64 → list_any (is_open reader) sessions ≡ false)
    → list_all is_answered sessions ≡ true
all_answered [] readers shut = refl
all_answered (session ∷ later) readers shut =
    and_from (is_answered session) (list_all is_answered later)
    (shut_is_answered session
    (or_parts (is_open session.request.reader session) (list_any (is_open session.request.reader) later)
    (shut session.request.reader readers.0)).0)
    (all_answered later readers.1
    (λ reader most. (or_parts (is_open reader session) (list_any (is_open reader) later) (shut reader most)).1))

-- a request at a version is judged by the replies at its polls
led_versioned : (given : Given) (opening : Opening) (trace : List Event) (request : Request) (places : List ℕ) → is_watch request.ask ≡ false
    → led_to given opening trace request places ≡ outcome given opening trace request.ask 0 places
led_versioned given opening trace request places versioned = by_ask request.ask versioned
  where
    by_ask : (asked : Ask) → is_watch asked ≡ false
        → led_to given opening trace (record request { ask = asked }) places ≡ outcome given opening trace asked 0 places
    by_ask (ask.Get key version) e = refl
    by_ask (ask.Rows range rows bytes backward version) e = refl
    by_ask (ask.Select key or_equal offset range version) e = refl
    by_ask (ask.Watch key value) e = cc

one_answer : (given : Given) (opening : Opening) (trace : List Event) (how : Ending) (session : Session)
    → IsSoundSession given opening trace session → (is_cut_short how ≡ true) ⊎ (is_answered session ≡ true)
    → Demanded (is_cut_short how) given opening (trace ++ last_event how) session.request session.places (unwrap_or session.answer Stopped)
one_answer given opening trace how session sound may =
    subst (λ o. Answers (is_cut_short how) o (unwrap_or session.answer Stopped))
    (sym (led_versioned given opening (trace ++ last_event how) session.request session.places sound.versioned
    ∙ outcome_grows given opening trace (last_event how) session.request.ask 0 session.places sound.within ∙ sound.gives))
    (by_answer session.answer (is_cut_short how) (by_end may))
  where
    by_end : (is_cut_short how ≡ true) ⊎ (is_answered session ≡ true)
        → (is_cut_short how ≡ true) ⊎ ((answer : Answer) × (session.answer ≡ Some answer))
    by_end (inl short) = inl short
    by_end (inr answered) = inr (has_answer session answered)

    by_answer : (o : Option Answer) (short : Bool) → (short ≡ true) ⊎ ((answer : Answer) × (o ≡ Some answer))
        → Answers short (outcome_of o) (unwrap_or o Stopped)
    by_answer (Some answer) short end = refl
    by_answer None true end = refl
    by_answer None false (inl short) = cc
    by_answer None false (inr answered) = let e = answered.1 in cc

answered_all : (given : Given) (opening : Opening) (trace : List Event) (how : Ending) (life : Life) → life.trace ≡ trace ++ last_event how
    → life.ending ≡ how → (sessions : List Session) → AllByRecursion (IsSoundSession given opening trace) sessions
    → (is_cut_short how ≡ true) ⊎ (list_all is_answered sessions ≡ true)
    → AreAnswered given opening life (map (λ (session : Session). session.request) sessions) (map answered_by sessions)
answered_all given opening trace how life whole ends [] sound may = tt
answered_all given opening trace how life whole ends (session ∷ later) sound may = (
  refl,
  subst (λ e. Demanded (is_cut_short e) given opening life.trace session.request session.places (unwrap_or session.answer Stopped)) (sym ends)
      (subst (λ t. Demanded (is_cut_short how) given opening t session.request session.places (unwrap_or session.answer Stopped)) (sym whole)
      (one_answer given opening trace how session sound.0 (first may))),
  answered_all given opening trace how life whole ends later sound.1 (others may),
)
  where
    first : (is_cut_short how ≡ true) ⊎ ((is_answered session && list_all is_answered later) ≡ true)
        → (is_cut_short how ≡ true) ⊎ (is_answered session ≡ true)
    first (inl short) = inl short
    first (inr all) = inr (and_parts (is_answered session) (list_all is_answered later) all).0

    others : (is_cut_short how ≡ true) ⊎ ((is_answered session && list_all is_answered later) ≡ true)
        → (is_cut_short how ≡ true) ⊎ (list_all is_answered later ≡ true)
    others (inl short) = inl short
    others (inr all) = inr (and_parts (is_answered session) (list_all is_answered later) all).1

none_stopped : (given : Given) (opening : Opening) (trace : List Event) (sessions : List Session)
    → AllByRecursion (IsSoundSession given opening trace) sessions → list_all is_answered sessions ≡ true
    → AllByRecursion (λ (answered : Answered). answered.answer ≢ Stopped) (map answered_by sessions)
none_stopped given opening trace [] sound all = tt
none_stopped given opening trace (session ∷ later) sound all =
    let each = and_parts (is_answered session) (list_all is_answered later) all in
    let mine = has_answer session each.0 in (
      (λ stopped. sound.0.answered (mine.1 ∙ ap (λ (a : Answer). Some a) (ap (λ o. unwrap_or o Stopped) (sym mine.1) ∙ stopped))),
      none_stopped given opening trace later sound.1 each.1,
    )

-- ---- places

places_are : (reader : ℕ) (sessions : List Session)
    → places_of reader (map (λ (session : Session). session.request) sessions) (map answered_by sessions) ≡ polls_of reader sessions
places_are reader [] = refl
places_are reader (session ∷ later) =
    ap (λ places. cond (session.request.reader == reader) (session.places ++ places) places) (places_are reader later)

-- ---- the events

-- what passes the second test wherever it passes the first one
all_pass : (test : List Event → Event → Bool) (still : Event → Bool)
    → ((before : List Event) (event : Event) → still event ≡ true → test before event ≡ true)
    → (before events : List Event) → list_all still events ≡ true → all_behind test before events ≡ true
all_pass test still each before [] all = refl
all_pass test still each before (event ∷ events) all =
    let parts = and_parts (still event) (list_all still events) all in
    and_from (test before event) (all_behind test (before ++ event ∷ []) events) (each before event parts.0)
    (all_pass test still each (before ++ event ∷ []) events parts.1)

no_watch : (requests : List Request) (life : Life) (before : List Event) (event : Event) → is_served_event event ≡ true
    → (not (is_of_watch event) || some_names requests life.answers (length before) event) ≡ true
no_watch requests life before (Opened version) h = refl
no_watch requests life before (Applied version) h = refl
no_watch requests life before (Began version) h = refl
no_watch requests life before (Durable version) h = refl
no_watch requests life before Closed h = refl
no_watch requests life before Killed h = refl
no_watch requests life before event h = cc

no_split : (given : Given) (opening : Opening) (cuts : List ℕ) (before : List Event) (event : Event) → is_served_event event ≡ true
    → may_split given opening cuts before event ≡ true
no_split given opening cuts before (Opened version) h = refl
no_split given opening cuts before (Applied version) h = refl
no_split given opening cuts before (Began version) h = refl
no_split given opening cuts before (Durable version) h = refl
no_split given opening cuts before Closed h = refl
no_split given opening cuts before Killed h = refl
no_split given opening cuts before event h = cc

-- ---- lives

module _ {E : Type 0} (stage : Stage E) (servable : IsServablePlan stage.plan) (progress : Progress E) (sound : IsSound stage progress) where
  -- the life that is made, ended so
  abbrev made_life : Ending → Life
  made_life how = life_of stage progress how

  answers_are : (how : Ending) → (is_cut_short how ≡ true) ⊎ (list_all is_answered progress.sessions ≡ true)
      → AreAnswered stage.given stage.opening (made_life how) (requests_of stage.plan) (map answered_by progress.sessions)
  answers_are how may =
      subst (λ requests. AreAnswered stage.given stage.opening (made_life how) requests (map answered_by progress.sessions))
      sound.requests
      (answered_all stage.given stage.opening progress.trace how (made_life how) refl refl progress.sessions sound.sessions may)

  polled_at : (reader : ℕ) → places_of reader (requests_of stage.plan) (map answered_by progress.sessions) ≡ polls_of reader progress.sessions
  polled_at reader =
      ap (λ requests. places_of reader requests (map answered_by progress.sessions)) (sym sound.requests) ∙ places_are reader progress.sessions

  -- an ending adds no other event
  ends_served : (how : Ending) → list_all is_served_event (progress.trace ++ last_event how) ≡ true
  ends_served how =
      list_all-append is_served_event progress.trace (last_event how)
      ∙ and_from (list_all is_served_event progress.trace) (list_all is_served_event (last_event how)) sound.events (by_end how)
    where
      by_end : (e : Ending) → list_all is_served_event (last_event e) ≡ true
      by_end ending.Closed = refl
      by_end ending.Killed = refl
      by_end ending.Faulted = refl

  -- the whole trace leads to the state that was reached
  pub ends_there : (how : Ending) → state_after stage.given stage.opening (progress.trace ++ last_event how) ≡ Some progress.state
  ends_there ending.Closed = state_after_push stage.given stage.opening progress.trace progress.state Closed sound.state sound.going_on
  ends_there ending.Killed = state_after_push stage.given stage.opening progress.trace progress.state Killed sound.state sound.going_on
  ends_there ending.Faulted = ap (state_after stage.given stage.opening) (append-nil progress.trace) ∙ sound.state

  lives : (how : Ending) → (is_cut_short how ≡ true) ⊎ (list_all is_answered progress.sessions ≡ true)
      → Ends stage.given stage.opening stage.plan (made_life how) how → IsLife stage.given stage.opening stage.plan (made_life how)
  lives how may ends = record {
    opened = refl;
    legal = subst (λ (o : Option State). IsSome o) (sym (ends_there how)) refl;
    answered = answers_are how may;
    named =
        all_pass (λ before event. not (is_of_watch event) || some_names (requests_of stage.plan) (map answered_by progress.sessions) (length before) event)
        is_served_event (no_watch (requests_of stage.plan) (made_life how)) [] (progress.trace ++ last_event how) (ends_served how);
    in_order = λ reader. subst NeverFalls (sym (polled_at reader)) (sound.in_order reader);
    split =
        all_pass (may_split stage.given stage.opening stage.plan.cuts) is_served_event (no_split stage.given stage.opening stage.plan.cuts) []
        (progress.trace ++ last_event how) (ends_served how);
    fetched = subst (All (λ fails. blocks (progress.trace ++ last_event how) < fails)) (sym servable.no_fails)
        (all_at (λ fails. blocks (progress.trace ++ last_event how) < fails) [] tt);
    ends = ends;
  }

  pub faulted : IsLife stage.given stage.opening stage.plan (made_life ending.Faulted)
  faulted = lives ending.Faulted (inl refl) (ap (list_any is_end) (append-nil progress.trace) ∙ sound.going_on)

  pub blown_off : IsBlown stage.plan progress.trace progress.state → IsLife stage.given stage.opening stage.plan (made_life ending.Killed)
  blown_off killed = lives ending.Killed (inl refl) (record {
    events = progress.trace;
    state = progress.state;
    calls = killed.calls;
    choice = killed.choice;
    trace = refl;
    after = sound.state;
    to_kill = killed.to_kill;
    by = inr (killed.flies, killed.ends);
  })

  -- a life that has come to rest, and whose requests all have an answer
  module _ (rests : is_at_rest stage.given progress.state ≡ true) (all : list_all is_answered progress.sessions ≡ true) where
    none_stops : AllByRecursion (λ (answered : Answered). answered.answer ≢ Stopped) (map answered_by progress.sessions)
    none_stops = none_stopped stage.given stage.opening progress.trace progress.sessions sound.sessions all

    pub killed_at_rest : (kill : ℕ × ℕ) → stage.plan.kill ≡ Some kill → IsLife stage.given stage.opening stage.plan (made_life ending.Killed)
    killed_at_rest kill to_kill = lives ending.Killed (inl refl) (record {
      events = progress.trace;
      state = progress.state;
      calls = kill.0;
      choice = kill.1;
      trace = refl;
      after = sound.state;
      to_kill = to_kill;
      by = inl (rests, all_at (λ (answered : Answered). answered.answer ≢ Stopped) (map answered_by progress.sessions) none_stops);
    })

    pub closed : stage.plan.kill ≡ None → IsLife stage.given stage.opening stage.plan (made_life ending.Closed)
    closed to_close = lives ending.Closed (inr all) (record {
      events = progress.trace;
      state = progress.state;
      trace = refl;
      after = sound.state;
      at_rest = rests;
      to_close = to_close;
      all_answered = all_at (λ (answered : Answered). answered.answer ≢ Stopped) (map answered_by progress.sessions) none_stops;
      lasts = subst (All AtEnd) (sym (polled_at 0)) (all_at AtEnd (polls_of 0 progress.sessions) at_the_end);
    })
      where
        AtEnd : ℕ → Type 0
        AtEnd place = place ≡ length progress.trace

        at_the_end : AllByRecursion AtEnd (polls_of 0 progress.sessions)
        at_the_end = elim sound.lasts [ inl unasked ↦ subst (AllByRecursion AtEnd) (sym unasked) tt | inr late ↦ late.2 ]
