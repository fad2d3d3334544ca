-- The lives that sound runs make.
use Rattle.std.proofs.Common.{◌≡◌, ◌≢◌, ℕ, ◌<◌, ◌≤◌, Bool, true, false, not, ◌&&◌, ◌||◌, ◌==◌, cond, List, [], ◌∷◌, ◌++◌, map, length, All, Option, Some, None, is_none, IsSome, unwrap_or, refl, sym, ap, ap₂, ◌∙◌, subst, inl, inr, ◌⊎◌, append-nil}
use Rattle.std.proofs.lemmas.Bool.{and_parts, and_from, or_parts, eq-eqb}
use Rattle.std.proofs.lemmas.List.Folds.{list_all-append}
use Rattle.std.specs.List.{AllByRecursion, list_all, list_any}
use Rattle.st_fold.specs.Plain.{IsPlainLife}
use Rattle.st_mutation.specs.declared.batch.Batch.{Batch}
use Rattle.st_fold.specs.declared.plan.LifePlan.{LifePlan}
use Rattle.st_fold.specs.declared.report.Answered.{Answered}
use Rattle.st_fold.specs.declared.report.Ending.{Ending}
use Rattle.st_fold.specs.declared.report.Ending.TheVariants as ending
use Rattle.st_fold.specs.declared.report.Event.{Event}
use Rattle.st_fold.specs.declared.report.Event.TheVariants.{Opened, Applied, Closed}
use Rattle.st_fold.specs.declared.report.Life.{Life}
use Rattle.st_fold.specs.declared.request.Ask.{Ask}
use Rattle.st_fold.specs.declared.request.Ask.TheVariants as ask
use Rattle.st_fold.specs.declared.request.Request.{Request}
use Rattle.st_fold.specs.Endings.{last_event}
use Rattle.st_fold.specs.Reading.{is_watch}
use Rattle.st_fold.specs.declared.request.Answer.{Answer}
use Rattle.st_fold.specs.declared.request.Answer.TheVariants.{Stopped}
use Rattle.st_model.specs.State.{Given, Opening, State, next_batch}
use Rattle.st_model.specs.Trace.{is_end, state_after, is_at_rest}
use Rattle.st_model.specs.Session.{Answers, NeverFalls, outcome}
use Rattle.st_model.specs.Watching.{Demanded, led_to}
use Rattle.st_model.specs.Report.{AreAnswered, IsLife, all_behind, are_named, blocks, is_cut_short, is_of_watch, may_split, places_of, requests_of, some_names}
use Rattle.st_model.specs.Schedule.{Session, answered_by, is_open, life_of}
use Rattle.st_model.specs.Plain.{Plainly, first_to, fresh_opening, plain_stage, plain_state, progress_of}
use Rattle.st_model.proofs.Batches.{next_is}
use Rattle.st_model.proofs.Sound.{IsSound, IsSoundSession, is_answered, is_plain_event, outcome_of, polls_of}
use Rattle.st_model.proofs.Walks.{no_commit}
use Rattle.st_model.proofs.Lists.{all_at}
use Rattle.st_model.proofs.Traces.{outcome_grows, state_after_push}

-- ---- answers

-- the session's answer, where it has one
has_answer : (session : Session) → is_answered session ≡ true → (answer : Answer) × (session.answer ≡ Some answer)
has_answer session h = by_answer session.answer h
  where
    by_answer : (o : Option Answer) → is_answered (record session { answer = o }) ≡ true → (answer : Answer) × (o ≡ Some answer)
    by_answer None e = cc
    by_answer (Some answer) e = (answer, refl)

shut_is_answered : (session : Session) → is_open session.request.reader session ≡ false → is_answered session ≡ true
shut_is_answered session h = by_answer session.answer h
  where
    by_answer : (o : Option Answer) → is_open session.request.reader (record session { answer = o }) ≡ false
        → is_answered (record session { answer = o }) ≡ true
    by_answer None e =
        let o = and_from (session.request.reader == session.request.reader) true (eq-eqb session.request.reader session.request.reader refl) refl in
        cc
    by_answer (Some answer) e = refl

pub all_answered : (sessions : List Session) → AllByRecursion (λ (session : Session). session.request.reader ≤ 64) sessions
    → ((reader : ℕ) → reader ≤ 64 → list_any (is_open reader) sessions ≡ false)
    → list_all is_answered sessions ≡ true
all_answered [] readers shut = refl
all_answered (session ∷ later) readers shut =
    and_from (is_answered session) (list_all is_answered later)
    (shut_is_answered session
    (or_parts (is_open session.request.reader session) (list_any (is_open session.request.reader) later)
    (shut session.request.reader readers.0)).0)
    (all_answered later readers.1
    (λ reader most. (or_parts (is_open reader session) (list_any (is_open reader) later) (shut reader most)).1))

-- a request at a version is judged by the replies at its polls
led_versioned : (given : Given) (opening : Opening) (trace : List Event) (request : Request) (places : List ℕ) → is_watch request.ask ≡ false
    → led_to given opening trace request places ≡ outcome given opening trace request.ask 0 places
led_versioned given opening trace request places versioned = by_ask request.ask versioned
  where
    by_ask : (asked : Ask) → is_watch asked ≡ false
        → led_to given opening trace (record request { ask = asked }) places ≡ outcome given opening trace asked 0 places
    by_ask (ask.Get key version) e = refl
    by_ask (ask.Rows range rows bytes backward version) e = refl
    by_ask (ask.Select key or_equal offset range version) e = refl
    by_ask (ask.Watch key value) e = cc

one_answer : (given : Given) (trace : List Event) (how : Ending) (session : Session) → IsSoundSession given trace session
    → (is_cut_short how ≡ true) ⊎ (is_answered session ≡ true)
    → Demanded (is_cut_short how) given fresh_opening (trace ++ last_event how) session.request session.places (unwrap_or session.answer Stopped)
one_answer given trace how session sound may =
    subst (λ o. Answers (is_cut_short how) o (unwrap_or session.answer Stopped))
    (sym (led_versioned given fresh_opening (trace ++ last_event how) session.request session.places sound.versioned
    ∙ outcome_grows given fresh_opening trace (last_event how) session.request.ask 0 session.places sound.within ∙ sound.gives))
    (by_answer session.answer (is_cut_short how) (by_end may))
  where
    by_end : (is_cut_short how ≡ true) ⊎ (is_answered session ≡ true)
        → (is_cut_short how ≡ true) ⊎ ((answer : Answer) × (session.answer ≡ Some answer))
    by_end (inl short) = inl short
    by_end (inr answered) = inr (has_answer session answered)

    by_answer : (o : Option Answer) (short : Bool) → (short ≡ true) ⊎ ((answer : Answer) × (o ≡ Some answer))
        → Answers short (outcome_of o) (unwrap_or o Stopped)
    by_answer (Some answer) short end = refl
    by_answer None true end = refl
    by_answer None false (inl short) = cc
    by_answer None false (inr answered) = let e = answered.1 in cc

answered_all : (given : Given) (trace : List Event) (how : Ending) (life : Life) → life.trace ≡ trace ++ last_event how → life.ending ≡ how
    → (sessions : List Session) → AllByRecursion (IsSoundSession given trace) sessions
    → (is_cut_short how ≡ true) ⊎ (list_all is_answered sessions ≡ true)
    → AreAnswered given fresh_opening life (map (λ (session : Session). session.request) sessions) (map answered_by sessions)
answered_all given trace how life whole ends [] sound may = tt
answered_all given trace how life whole ends (session ∷ later) sound may = (
  refl,
  subst (λ e. Demanded (is_cut_short e) given fresh_opening life.trace session.request session.places (unwrap_or session.answer Stopped)) (sym ends)
      (subst (λ t. Demanded (is_cut_short how) given fresh_opening t session.request session.places (unwrap_or session.answer Stopped)) (sym whole)
      (one_answer given trace how session sound.0 (first may))),
  answered_all given trace how life whole ends later sound.1 (others may),
)
  where
    first : (is_cut_short how ≡ true) ⊎ ((is_answered session && list_all is_answered later) ≡ true)
        → (is_cut_short how ≡ true) ⊎ (is_answered session ≡ true)
    first (inl short) = inl short
    first (inr all) = inr (and_parts (is_answered session) (list_all is_answered later) all).0

    others : (is_cut_short how ≡ true) ⊎ ((is_answered session && list_all is_answered later) ≡ true)
        → (is_cut_short how ≡ true) ⊎ (list_all is_answered later ≡ true)
    others (inl short) = inl short
    others (inr all) = inr (and_parts (is_answered session) (list_all is_answered later) all).1

-- ---- places

places_are : (reader : ℕ) (sessions : List Session)
    → places_of reader (map (λ (session : Session). session.request) sessions) (map answered_by sessions) ≡ polls_of reader sessions
places_are reader [] = refl
places_are reader (session ∷ later) =
    ap (λ places. cond (session.request.reader == reader) (session.places ++ places) places) (places_are reader later)

-- ---- the events

-- what passes the second test wherever it passes the first one
all_pass : (test : List Event → Event → Bool) (still : Event → Bool)
    → ((before : List Event) (event : Event) → still event ≡ true → test before event ≡ true)
    → (before events : List Event) → list_all still events ≡ true → all_behind test before events ≡ true
all_pass test still each before [] all = refl
all_pass test still each before (event ∷ events) all =
    let parts = and_parts (still event) (list_all still events) all in
    and_from (test before event) (all_behind test (before ++ event ∷ []) events) (each before event parts.0)
    (all_pass test still each (before ++ event ∷ []) events parts.1)

no_watch : (requests : List Request) (life : Life) (before : List Event) (event : Event) → is_plain_event event ≡ true
    → (not (is_of_watch event) || some_names requests life.answers (length before) event) ≡ true
no_watch requests life before (Opened version) h = refl
no_watch requests life before (Applied version) h = refl
no_watch requests life before Closed h = refl
no_watch requests life before event h = cc

no_split : (given : Given) (cuts : List ℕ) (before : List Event) (event : Event) → is_plain_event event ≡ true
    → may_split given fresh_opening cuts before event ≡ true
no_split given cuts before (Opened version) h = refl
no_split given cuts before (Applied version) h = refl
no_split given cuts before Closed h = refl
no_split given cuts before event h = cc

-- an ending adds no other event
ends_plainly : (trace : List Event) (how : Ending) → how ≢ ending.Killed → list_all is_plain_event trace ≡ true
    → list_all is_plain_event (trace ++ last_event how) ≡ true
ends_plainly trace how alive all =
    list_all-append is_plain_event trace (last_event how)
    ∙ and_from (list_all is_plain_event trace) (list_all is_plain_event (last_event how)) all (by_end how alive)
  where
    by_end : (e : Ending) → e ≢ ending.Killed → list_all is_plain_event (last_event e) ≡ true
    by_end ending.Closed alive = refl
    by_end ending.Killed alive = absurd (alive refl)
    by_end ending.Faulted alive = refl

-- ---- the end

at_rest : (given : Given) (newest : ℕ) → newest ≤ given.settings.window → next_batch given (plain_state newest) ≡ None
    → is_at_rest given (plain_state newest) ≡ true
at_rest given newest kept last =
    ap₂ (λ commits (next : Option Batch). true && not commits && not (false || false) && not (false || false) && is_none next)
    (no_commit given newest kept) last

none_stopped : (given : Given) (trace : List Event) (sessions : List Session) → AllByRecursion (IsSoundSession given trace) sessions
    → list_all is_answered sessions ≡ true → AllByRecursion (λ (answered : Answered). answered.answer ≢ Stopped) (map answered_by sessions)
none_stopped given trace [] sound all = tt
none_stopped given trace (session ∷ later) sound all =
    let each = and_parts (is_answered session) (list_all is_answered later) all in
    let mine = has_answer session each.0 in (
      (λ stopped. sound.0.answered (mine.1 ∙ ap (λ (a : Answer). Some a) (ap (λ o. unwrap_or o Stopped) (sym mine.1) ∙ stopped))),
      none_stopped given trace later sound.1 each.1,
    )

-- ---- lives

module _ (given : Given) (plan : LifePlan) (plainly : Plainly) (plain : IsPlainLife plan) (sound : IsSound given (requests_of plan) plainly) where
  -- the life that is made, ended so
  abbrev ended : Ending → Life
  ended how = life_of (plain_stage given plan) (progress_of plainly) how

  answers_are : (how : Ending) → (is_cut_short how ≡ true) ⊎ (list_all is_answered plainly.sessions ≡ true)
      → AreAnswered given fresh_opening (ended how) (requests_of plan) (map answered_by plainly.sessions)
  answers_are how may =
      subst (λ requests. AreAnswered given fresh_opening (ended how) requests (map answered_by plainly.sessions))
      sound.requests (answered_all given plainly.trace how (ended how) refl refl plainly.sessions sound.sessions may)

  polled_at : (reader : ℕ) → places_of reader (requests_of plan) (map answered_by plainly.sessions) ≡ polls_of reader plainly.sessions
  polled_at reader =
      ap (λ requests. places_of reader requests (map answered_by plainly.sessions)) (sym sound.requests) ∙ places_are reader plainly.sessions

  orders : (reader : ℕ) → NeverFalls (places_of reader (requests_of plan) (map answered_by plainly.sessions))
  orders reader = subst NeverFalls (sym (polled_at reader)) (sound.in_order reader)

  named : (how : Ending) → how ≢ ending.Killed → are_named (requests_of plan) (ended how) ≡ true
  named how alive =
      all_pass (λ before event. not (is_of_watch event) || some_names (requests_of plan) (map answered_by plainly.sessions) (length before) event)
      is_plain_event (no_watch (requests_of plan) (ended how)) [] (plainly.trace ++ last_event how)
      (ends_plainly plainly.trace how alive sound.events)

  split : (how : Ending) → how ≢ ending.Killed → all_behind (may_split given fresh_opening plan.cuts) [] (plainly.trace ++ last_event how) ≡ true
  split how alive =
      all_pass (may_split given fresh_opening plan.cuts) is_plain_event (no_split given plan.cuts) [] (plainly.trace ++ last_event how)
      (ends_plainly plainly.trace how alive sound.events)

  fetched : (trace : List Event) → All (λ fails. blocks trace < fails) plan.peerfails
  fetched trace = subst (All (λ fails. blocks trace < fails)) (sym plain.no_fails) (all_at (λ fails. blocks trace < fails) [] tt)

  pub faulted : IsLife given fresh_opening plan (ended ending.Faulted)
  faulted = record {
    opened = refl;
    legal = subst (λ (o : Option State). IsSome o) (sym (ap (state_after given fresh_opening) (append-nil plainly.trace) ∙ sound.state)) refl;
    answered = answers_are ending.Faulted (inl refl);
    named = named ending.Faulted (λ e. cc);
    in_order = orders;
    split = split ending.Faulted (λ e. cc);
    fetched = fetched (plainly.trace ++ []);
    ends = ap (list_any is_end) (append-nil plainly.trace) ∙ sound.going_on;
  }

  pub closed : first_to given.upto plainly.left ≡ None → list_all is_answered plainly.sessions ≡ true
      → IsLife given fresh_opening plan (ended ending.Closed)
  closed none all = record {
    opened = refl;
    legal = subst (λ (o : Option State). IsSome o)
        (sym (state_after_push given fresh_opening plainly.trace (plain_state plainly.newest) Closed sound.state sound.going_on)) refl;
    answered = answers_are ending.Closed (inr all);
    named = named ending.Closed (λ e. cc);
    in_order = orders;
    split = split ending.Closed (λ e. cc);
    fetched = fetched (plainly.trace ++ Closed ∷ []);
    ends = record {
      events = plainly.trace;
      state = plain_state plainly.newest;
      trace = refl;
      after = sound.state;
      at_rest = at_rest given plainly.newest sound.kept (next_is given plainly.newest plainly.left sound.split ∙ none);
      to_close = plain.no_kill;
      all_answered = all_at (λ (answered : Answered). answered.answer ≢ Stopped) (map answered_by plainly.sessions)
          (none_stopped given plainly.trace plainly.sessions sound.sessions all);
      lasts = subst (All AtEnd) (sym (polled_at 0)) (all_at AtEnd (polls_of 0 plainly.sessions) at_the_end);
    };
  }
    where
      AtEnd : ℕ → Type 0
      AtEnd place = place ≡ length plainly.trace

      at_the_end : AllByRecursion AtEnd (polls_of 0 plainly.sessions)
      at_the_end = elim sound.lasts [ inl unasked ↦ subst (AllByRecursion AtEnd) (sym unasked) tt | inr late ↦ late.2 ]
