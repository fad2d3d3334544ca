-- What a poll adds to a session.
use Rattle.std.proofs.Common.{◌≡◌, ◌≢◌, ℕ, ◌+◌, ◌≤◌, Bool, true, false, ◌==◌, nat_lt, cond, List, [], ◌∷◌, ◌++◌, map, length, Option, Some, None, is_none, refl, sym, ap, ◌∙◌, subst, arith, le_refl}
use Rattle.std.proofs.lemmas.Bool.{cond_both, and_parts, eqb-true}
use Rattle.std.specs.List.{AllByRecursion, find}
use Rattle.std.specs.Option.{option_map_or}
use Rattle.st_fold.specs.Map.{Map, folded, value_at}
use Rattle.st_fold.specs.Reading.{is_watch, version_of, span_of, plain}
use Rattle.st_mutation.specs.declared.batch.Batch.{Batch}
use Rattle.st_fold.specs.declared.report.Event.{Event}
use Rattle.st_fold.specs.declared.request.Answer.{Answer}
use Rattle.st_fold.specs.declared.request.Answer.TheVariants.{Value, Absent, FutureVersion, Stopped}
use Rattle.st_fold.specs.declared.request.Ask.{Ask}
use Rattle.st_fold.specs.declared.request.Ask.TheVariants.{Get, Rows, Select, Watch}
use Rattle.st_model.specs.State.{Given, Opening, State}
use Rattle.st_model.specs.Trace.{state_after, state_at}
use Rattle.st_model.specs.Reply.{Reply, too_old, not_yet, found, first_unreadable, reply_unless, reply}
use Rattle.st_model.specs.Session.{Outcome, open_yet, never, outcome, answer_to, after_answer, is_empty}
use Rattle.st_model.specs.Schedule.{Polled, Session, events_of_poll, is_open, poll, poll_first, poll_of}
use Rattle.st_demand.proofs.Sound.{IsSoundSession, outcome_of}
use Rattle.st_demand.proofs.Lists.{all_append}
use Rattle.st_demand.proofs.Traces.{at_end, outcome_none, outcome_some}

pub none_is : {A : Type 0} (o : Option A) → is_none o ≡ true → o ≡ None
none_is None h = refl
none_is (Some a) h = cc

-- an open session is the reader's, and has no answer
pub open_is : (reader : ℕ) (session : Session) → is_open reader session ≡ true
    → (session.request.reader ≡ reader) × (session.answer ≡ None)
open_is reader session h =
    let parts = and_parts (session.request.reader == reader) (is_none session.answer) h in
    (eqb-true session.request.reader reader parts.0, none_is session.answer parts.1)

-- ---- a poll stops no request

abbrev IsNotStopped : ℕ → ℕ → Reply → Type 0
IsNotStopped patience polls told = answer_to patience polls told ≢ Some Stopped

found_one : (patience polls : ℕ) (pairs : Map) (ask : Ask) → IsNotStopped patience polls (found (plain pairs ask))
found_one patience polls pairs (Get key version) =
    elim (value_at pairs key) as (λ o. Some (option_map_or Value o Absent) ≡ Some Stopped → ⊥)
    [ None ↦ λ e. cc | Some value ↦ λ e. cc ]
found_one patience polls pairs (Rows range rows bytes backward version) = λ e. cc
found_one patience polls pairs (Select key or_equal offset range version) = λ e. cc
found_one patience polls pairs (Watch key value) = λ e. cc

not_stopped : (patience polls : ℕ) (log : List Batch) (state : State) (ask : Ask)
    → IsNotStopped patience polls (reply log state ask)
not_stopped patience polls log state ask =
    let version = version_of ask in
    let served = reply_unless (first_unreadable state.pieces (span_of ask)) (plain (folded log version) ask) in
    cond_both (nat_lt version state.oldest) (too_old state.oldest) (cond (nat_lt state.newest version) (not_yet state.newest) served)
    (IsNotStopped patience polls) (λ _ e. cc)
    (λ _. cond_both (nat_lt state.newest version) (not_yet state.newest) served (IsNotStopped patience polls)
    (λ _. cond_both (polls == patience) (Some (FutureVersion state.newest polls)) None (λ o. o ≢ Some Stopped) (λ _ e. cc) (λ _ e. cc))
    (λ _. serves (first_unreadable state.pieces (span_of ask))))
  where
    serves : (o : Option (List ℕ)) → IsNotStopped patience polls (reply_unless o (plain (folded log (version_of ask)) ask))
    serves (Some key) = λ e. cc
    serves None = found_one patience polls (folded log (version_of ask)) ask

-- ---- what the polls led to before and after one more

still_open : (o : Option Answer) (last : Bool) (rest : Outcome) → after_answer o last rest ≡ open_yet → (o ≡ None) × (rest ≡ open_yet)
still_open None last rest h = (refl, h)
still_open (Some answer) true rest h = cc
still_open (Some answer) false rest h = cc

last_poll : (o : Option Answer) → after_answer o true open_yet ≡ outcome_of o
last_poll None = refl
last_poll (Some answer) = refl

module _ (given : Given) (opening : Opening) (trace : List Event) (ask : Ask) where
  abbrev answer_in : ℕ → State → Option Answer
  answer_in polls state = answer_to given.settings.patience polls (reply given.log state ask)

  -- where polls left a request open, each was made in a state, whose answer it isn't
  first_open : (polls place : ℕ) (places : List ℕ) → outcome given opening trace ask polls (place ∷ places) ≡ open_yet
      → (state : State) × (state_at given opening trace place ≡ Some state) × (answer_in (polls + 1) state ≡ None)
      × (outcome given opening trace ask (polls + 1) places ≡ open_yet)
  first_open polls place places h = found_state (state_at given opening trace place) refl
    where
      found_state : (o : Option State) → state_at given opening trace place ≡ o
          → (state : State) × (state_at given opening trace place ≡ Some state) × (answer_in (polls + 1) state ≡ None)
          × (outcome given opening trace ask (polls + 1) places ≡ open_yet)
      found_state None e = let n : never ≡ open_yet = sym (outcome_none given opening trace ask polls place places e) ∙ h in cc
      found_state (Some state) e =
          let s = still_open (answer_in (polls + 1) state) (is_empty places) (outcome given opening trace ask (polls + 1) places)
          (sym (outcome_some given opening trace ask polls place places state e) ∙ h) in
          (state, e, s.0, s.1)

  pub outcome_push : (polls : ℕ) (places : List ℕ) (place : ℕ) (state : State) → state_at given opening trace place ≡ Some state
      → outcome given opening trace ask polls places ≡ open_yet
      → outcome given opening trace ask polls (places ++ place ∷ []) ≡ outcome_of (answer_in (polls + length places + 1) state)
  outcome_push polls [] place state e h =
      outcome_some given opening trace ask polls place [] state e
      ∙ last_poll (answer_in (polls + 1) state)
      ∙ ap (λ n. outcome_of (answer_in n state)) (omega arith)
  outcome_push polls (first ∷ places) place state e h =
      let f = first_open polls first places h in
      outcome_some given opening trace ask polls first (places ++ place ∷ []) f.0 f.1
      ∙ ap (λ o. after_answer o (is_empty (places ++ place ∷ [])) (outcome given opening trace ask (polls + 1) (places ++ place ∷ []))) f.2
      ∙ outcome_push (polls + 1) places place state e f.3
      ∙ ap (λ n. outcome_of (answer_in n state)) (omega arith)

-- ---- sessions

-- what a poll of a request at a version leads to
abbrev pub told : Given → State → Session → Option Answer
told given state session = answer_to given.settings.patience (length session.places + 1) (reply given.log state session.request.ask)

pub poll_versioned : (given : Given) (state : State) (session : Session) → is_watch session.request.ask ≡ false
    → poll_of given state session ≡ record { answer = told given state session; events = [] }
poll_versioned given state session versioned = by_ask session.request.ask versioned
  where
    by_ask : (asked : Ask) → is_watch asked ≡ false
        → poll_of given state (record session { request = record session.request { ask = asked } })
        ≡ record { answer = told given state (record session { request = record session.request { ask = asked } }); events = [] }
    by_ask (Get key version) e = refl
    by_ask (Rows range rows bytes backward version) e = refl
    by_ask (Select key or_equal offset range version) e = refl
    by_ask (Watch key value) e = cc

sound_poll : (given : Given) (opening : Opening) (trace : List Event) (state : State) (session : Session)
    → state_after given opening trace ≡ Some state → session.answer ≡ None → IsSoundSession given opening trace session
    → IsSoundSession given opening trace (poll given (length trace) state session)
sound_poll given opening trace state session after none sound =
    subst (λ (led : Polled). IsSoundSession given opening trace (record session { places = session.places ++ length trace ∷ []; answer = led.answer }))
    (sym (poll_versioned given state session sound.versioned)) (record {
      within = all_append (λ place. place ≤ length trace) session.places (length trace ∷ []) sound.within (le_refl (length trace), tt);
      gives =
          outcome_push given opening trace session.request.ask 0 session.places (length trace) state
          (at_end given opening trace ∙ after) (sound.gives ∙ ap outcome_of none)
          ∙ ap (λ n. outcome_of (answer_to given.settings.patience n (reply given.log state session.request.ask))) (omega arith);
      answered = not_stopped given.settings.patience (length session.places + 1) given.log state session.request.ask;
      versioned = sound.versioned;
    })

module _ (given : Given) (opening : Opening) (reader : ℕ) (state : State) where
  pub sessions_sound : (trace : List Event) → state_after given opening trace ≡ Some state → (sessions : List Session)
      → AllByRecursion (IsSoundSession given opening trace) sessions
      → AllByRecursion (IsSoundSession given opening trace) (poll_first given reader (length trace) state sessions)
  sessions_sound trace after [] sound = tt
  sessions_sound trace after (session ∷ later) sound =
      cond_both (is_open reader session) (poll given (length trace) state session ∷ later)
      (session ∷ poll_first given reader (length trace) state later) (AllByRecursion (IsSoundSession given opening trace))
      (λ here. (sound_poll given opening trace state session after (open_is reader session here).1 sound.0, sound.1))
      (λ _. (sound.0, sessions_sound trace after later sound.1))

  pub poll_makes_no_event : (trace : List Event) (sessions : List Session) → AllByRecursion (IsSoundSession given opening trace) sessions
      → events_of_poll given reader state sessions ≡ []
  poll_makes_no_event trace [] sound = refl
  poll_makes_no_event trace (session ∷ later) sound =
      cond_both (is_open reader session) (Some session) (find (is_open reader) later)
      (λ o. option_map_or (λ s. (poll_of given state s).events) o [] ≡ [])
      (λ _. ap (λ (led : Polled). led.events) (poll_versioned given state session sound.0.versioned))
      (λ _. poll_makes_no_event trace later sound.1)

  pub same_requests : (place : ℕ) (sessions : List Session)
      → map (λ (session : Session). session.request) (poll_first given reader place state sessions)
      ≡ map (λ (session : Session). session.request) sessions
  same_requests place [] = refl
  same_requests place (session ∷ later) =
      cond_both (is_open reader session) (poll given place state session ∷ later) (session ∷ poll_first given reader place state later)
      (λ polled. map (λ (s : Session). s.request) polled ≡ map (λ (s : Session). s.request) (session ∷ later))
      (λ _. refl)
      (λ _. ap (λ requests. session.request ∷ requests) (same_requests place later))
