-- Polls come to an end: each leaves fewer to make.
use Rattle.std.proofs.Common.{◌≡◌, ℕ, ◌+◌, ◌-◌, ◌<◌, ◌≤◌, Bool, true, false, not, ◌&&◌, ◌||◌, ◌==◌, nat_lt, cond, List, [], ◌∷◌, ◌++◌, map, filter, length, Option, Some, None, is_none, refl, sym, ap, ◌∙◌, subst, inl, inr, arith, length-append}
use Rattle.std.proofs.lemmas.Bool.{cond_both, cond-true, and_from, eqb-true, eqb-false, eq-eqb, ne_eqb, not-false, cases_eq, true≢false}
use Rattle.std.proofs.lemmas.List.Folds.{list_any-append}
use Rattle.std.specs.List.{AllByRecursion, find, fold}
use Rattle.std.specs.Option.{option_map_or}
use Rattle.st_fold.specs.Reading.{is_watch}
use Rattle.st_fold.specs.declared.report.Event.{Event}
use Rattle.st_fold.specs.declared.report.Event.TheVariants.{Watched, Unwatched}
use Rattle.st_fold.specs.declared.request.Answer.{Answer}
use Rattle.st_fold.specs.declared.request.Answer.TheVariants as answer
use Rattle.st_fold.specs.declared.request.Ask.{Ask}
use Rattle.st_fold.specs.declared.request.Ask.TheVariants as ask
use Rattle.st_fold.specs.declared.request.Request.{Request}
use Rattle.st_model.specs.declared.watch.WatchState.{WatchState}
use Rattle.st_model.specs.declared.watch.WatchState.TheVariants as watch
use Rattle.st_model.specs.Pieces.{serves}
use Rattle.st_model.specs.Reply.{Reply, too_old, not_yet, wrong_shard, found, reply}
use Rattle.st_model.specs.Report.{is_of_watch}
use Rattle.st_model.specs.Schedule.{AreNumbered, ArePatient, IsPatient, Polled, Progress, Session, Stage, do_poll, events_of_poll, first_look, has_open, is_open, look_at, poll, poll_first, poll_of, polls_left, polls_to_come, release_with, with_event}
use Rattle.st_model.specs.Session.{answer_to}
use Rattle.st_model.specs.State.{Given, State, Watch, is_registered, step}
use Rattle.st_model.specs.Watching.{watch_answer, watch_state}
use Rattle.st_model.proofs.Counts.{only_if}
use Rattle.st_model.proofs.Cuts.{all_both}
use Rattle.st_model.proofs.Lists.{found_any, found_has, found_passes, none_found, some_found, all_map, all_of_map}
use Rattle.st_model.proofs.Polls.{open_is, poll_versioned, same_requests}

-- ---- fewer polls are left

-- the answer that a reply gives comes with the last of `patience` polls at the latest
waits_within : (patience polls : ℕ) (told : Reply) → polls ≤ patience → answer_to patience polls told ≡ None → polls < patience
waits_within patience polls (too_old oldest) within e = cc
waits_within patience polls (not_yet newest) within e =
    elim (polls == patience) as (λ v. polls == patience ≡ v → cond v (Some (answer.FutureVersion newest polls)) None ≡ None → polls < patience)
    [ true ↦ λ _ last. cc | false ↦ λ early _. (let other = eqb-false polls patience early in omega arith) ]
    refl e
waits_within patience polls (wrong_shard key) within e = cc
waits_within patience polls (found answer) within e = cc

looks_within : (patience polls : ℕ) (key : List ℕ) (became : WatchState) → polls ≤ patience → watch_answer patience polls key became ≡ None → polls < patience
looks_within patience polls key watch.Waiting within e =
    elim (polls == patience) as (λ v. polls == patience ≡ v → cond v (Some answer.Waiting) None ≡ None → polls < patience)
    [ true ↦ λ _ last. cc | false ↦ λ early _. (let other = eqb-false polls patience early in omega arith) ]
    refl e
looks_within patience polls key (watch.Fired version) within e = cc
looks_within patience polls key (watch.Lost version) within e = cc

-- what a poll of a watch is: the first look at it, or a look at one that stands
of_none : (given : Given) (state : State) (session : Session) (key : List ℕ) (value : Option (List ℕ))
    → session.request.ask ≡ ask.Watch key value → find (λ watch. watch.number == session.request.number) state.watches ≡ None
    → poll_of given state session ≡ first_look given state session.request.number key value
of_none given state session key value is none = rw (is, none) refl

of_some : (given : Given) (state : State) (session : Session) (key : List ℕ) (value : Option (List ℕ)) (stands : Watch)
    → session.request.ask ≡ ask.Watch key value → find (λ watch. watch.number == session.request.number) state.watches ≡ Some stands
    → poll_of given state session ≡ look_at given state.newest (length session.places + 1) [] stands
of_some given state session key value stands is some = rw (is, some) refl

-- ---- the watches that stand behind a poll

-- the events by which the watch of a number comes and goes
abbrev IsOf : ℕ → Event → Type 0
IsOf number (Watched other key value) = other ≡ number
IsOf number (Unwatched other) = other ≡ number
IsOf number event = ⊥

or_none : (b : Bool) → (b || false) ≡ b
or_none true = refl
or_none false = refl

or_all : (b : Bool) → (b || true) ≡ true
or_all true = refl
or_all false = refl

-- one more watch is registered, and the others as before
with_watch : (other : ℕ) (watches : List Watch) (one : Watch)
    → is_registered other (watches ++ one ∷ []) ≡ (is_registered other watches || (one.number == other))
with_watch other watches one =
    list_any-append (λ watch. watch.number == other) watches (one ∷ [])
    ∙ ap (λ b. is_registered other watches || b) (or_none (one.number == other))

others_stay : (number other : ℕ) → (other ≡ number → ⊥) → (watches : List Watch)
    → is_registered other (filter (λ watch. not (watch.number == number)) watches) ≡ is_registered other watches
others_stay number other apart [] = refl
others_stay number other apart (watch ∷ watches) =
    elim (watch.number == number) as (λ v. watch.number == number ≡ v
    → is_registered other (cond (not v) (watch ∷ filter (λ w. not (w.number == number)) watches) (filter (λ w. not (w.number == number)) watches))
    ≡ (watch.number == other || is_registered other watches)) [
      | true ↦ λ same. others_stay number other apart watches
          ∙ ap (λ b. b || is_registered other watches)
          (sym (ne_eqb watch.number other (λ e. apart (sym e ∙ eqb-true watch.number number same))))
      | false ↦ λ _. ap (λ b. watch.number == other || b) (others_stay number other apart watches)
    ]
    refl

-- the watches of other numbers stand as before
others_step : (given : Given) (state : State) (event : Event) (next : State) (number other : ℕ) → IsOf number event → (other ≡ number → ⊥)
    → step given state event ≡ Some next → is_registered other next.watches ≡ is_registered other state.watches
others_step given state (Watched n key value) next number other of_it apart e =
    ap (λ (s : State). is_registered other s.watches) (sym (only_if _ _ next e).1)
    ∙ with_watch other state.watches (record { number = n; key = key; value = value; since = state.newest })
    ∙ ap (λ b. is_registered other state.watches || b) (ne_eqb n other (λ same. apart (sym same ∙ of_it)))
    ∙ or_none (is_registered other state.watches)
others_step given state (Unwatched n) next number other of_it apart e =
    ap (λ (s : State). is_registered other s.watches) (sym (only_if _ _ next e).1)
    ∙ others_stay n other (λ same. apart (same ∙ of_it)) state.watches
others_step given state event next number other of_it apart e = absurd of_it

module _ {E : Type 0} (given : Given) where
  pub with_none : (p : Progress E) (event : Event) → step given p.state event ≡ None → with_event given p event ≡ p
  with_none p event none = rw none refl

  pub with_some : (p : Progress E) (event : Event) (next : State) → step given p.state event ≡ Some next
      → with_event given p event ≡ record p { trace = p.trace ++ event ∷ []; state = next }
  with_some p event next some = rw some refl

  pub same_sessions : (p : Progress E) (event : Event) → (with_event given p event).sessions ≡ p.sessions
  same_sessions p event = by_step (step given p.state event) refl
    where
      by_step : (o : Option State) → step given p.state event ≡ o → (with_event given p event).sessions ≡ p.sessions
      by_step None none = ap (λ (q : Progress E). q.sessions) (with_none p event none)
      by_step (Some next) some = ap (λ (q : Progress E). q.sessions) (with_some p event next some)

  pub all_same_sessions : (p : Progress E) (events : List Event) → (fold (with_event given) p events).sessions ≡ p.sessions
  all_same_sessions p [] = refl
  all_same_sessions p (event ∷ events) = all_same_sessions (with_event given p event) events ∙ same_sessions p event

  others_one : (p : Progress E) (event : Event) (number other : ℕ) → IsOf number event → (other ≡ number → ⊥)
      → is_registered other (with_event given p event).state.watches ≡ is_registered other p.state.watches
  others_one p event number other of_it apart = by_step (step given p.state event) refl
    where
      by_step : (o : Option State) → step given p.state event ≡ o
          → is_registered other (with_event given p event).state.watches ≡ is_registered other p.state.watches
      by_step None none = ap (λ (q : Progress E). is_registered other q.state.watches) (with_none p event none)
      by_step (Some next) some =
          ap (λ (q : Progress E). is_registered other q.state.watches) (with_some p event next some)
          ∙ others_step given p.state event next number other of_it apart some

  others_all : (p : Progress E) (events : List Event) (number other : ℕ) → AllByRecursion (IsOf number) events → (other ≡ number → ⊥)
      → is_registered other (fold (with_event given) p events).state.watches ≡ is_registered other p.state.watches
  others_all p [] number other of_it apart = refl
  others_all p (event ∷ events) number other of_it apart =
      others_all (with_event given p event) events number other of_it.1 apart ∙ others_one p event number other of_it.0 apart

  -- a watch that may be registered stands then
  stands_then : (p : Progress E) (number : ℕ) (key : List ℕ) (value : Option (List ℕ)) → serves p.state.pieces key ≡ true
      → nat_lt (length p.state.watches) given.settings.watches ≡ true → is_registered number p.state.watches ≡ false
      → is_registered number (with_event given p (Watched number key value)).state.watches ≡ true
  stands_then p number key value served room new =
      ap (λ (q : Progress E). is_registered number q.state.watches)
      (with_some p (Watched number key value) (record p.state { watches = p.state.watches ++ one ∷ [] }) (cond-true _ _ None may))
      ∙ with_watch number p.state.watches one
      ∙ ap (λ b. is_registered number p.state.watches || b) (eq-eqb number number refl)
      ∙ or_all (is_registered number p.state.watches)
    where
      one : Watch
      one = record { number = number; key = key; value = value; since = p.state.newest }

      may : (serves p.state.pieces key && nat_lt (length p.state.watches) given.settings.watches && not (is_registered number p.state.watches)) ≡ true
      may = and_from (serves p.state.pieces key && nat_lt (length p.state.watches) given.settings.watches) (not (is_registered number p.state.watches))
          (and_from (serves p.state.pieces key) (nat_lt (length p.state.watches) given.settings.watches) served room) (ap not new)

  -- ---- what a poll of an open session leads to

  module _ (p : Progress E) (session : Session) (unanswered : session.answer ≡ None)
      (patient : IsPatient given.settings.patience p.state.watches session) where
    -- no answer comes with the last poll that may be made, events are of the session's watch, and this stands until then
    record Leads (led : Polled) : Type 0 where
      fewer : led.answer ≡ None → length session.places + 1 < given.settings.patience
      of_it : AllByRecursion (IsOf session.request.number) led.events
      stands : led.answer ≡ None → is_watch session.request.ask ≡ true
          → is_registered session.request.number (fold (with_event given) p led.events).state.watches ≡ true

    within : length session.places + 1 ≤ given.settings.patience
    within = let fewer = patient.fewer unanswered in omega arith

    answered : (told : Answer) → Leads (record { answer = Some told; events = [] })
    answered told = record { fewer = λ e. cc; of_it = tt; stands = λ e _. cc }

    versioned : is_watch session.request.ask ≡ false → Leads (poll_of given p.state session)
    versioned e =
        subst Leads (sym (poll_versioned given p.state session e)) (record {
          fewer = waits_within given.settings.patience (length session.places + 1) (reply given.log p.state session.request.ask) within;
          of_it = tt;
          stands = λ _ watches. absurd (true≢false (sym watches ∙ e));
        })

    -- where its watch doesn't stand, it wasn't polled before
    unpolled_yet : is_watch session.request.ask ≡ true → is_registered session.request.number p.state.watches ≡ false → length session.places ≡ 0
    unpolled_yet watches new =
        elim (cases_eq (length session.places) 0) [
          | inl none ↦ none
          | inr some ↦ absurd (true≢false (sym (patient.stands unanswered watches (omega arith)) ∙ new))
        ]

    first : (key : List ℕ) (value : Option (List ℕ)) → is_watch session.request.ask ≡ true
        → is_registered session.request.number p.state.watches ≡ false → Leads (first_look given p.state session.request.number key value)
    first key value watches new =
        cond_both (not (serves p.state.pieces key)) (record { answer = Some (answer.WrongShard key); events = [] })
        (cond (not (nat_lt (length p.state.watches) given.settings.watches))
        (record { answer = Some (answer.TooManyWatches given.settings.watches); events = [] }) look)
        Leads (λ _. answered (answer.WrongShard key))
        (λ served. cond_both (not (nat_lt (length p.state.watches) given.settings.watches))
        (record { answer = Some (answer.TooManyWatches given.settings.watches); events = [] }) look
        Leads (λ _. answered (answer.TooManyWatches given.settings.watches))
        (λ room. told (watch_answer given.settings.patience 1 key (watch_state given.log one p.state.newest)) refl
        (not-false (serves p.state.pieces key) served) (not-false (nat_lt (length p.state.watches) given.settings.watches) room)))
      where
        one : Watch
        one = record { number = session.request.number; key = key; value = value; since = p.state.newest }

        look : Polled
        look = look_at given p.state.newest 1 (Watched session.request.number key value ∷ []) one

        told : (o : Option Answer) → watch_answer given.settings.patience 1 key (watch_state given.log one p.state.newest) ≡ o
            → serves p.state.pieces key ≡ true → nat_lt (length p.state.watches) given.settings.watches ≡ true → Leads look
        told o is served room =
            subst (λ o. Leads (release_with session.request.number (Watched session.request.number key value ∷ []) o)) (sym is) (by o is)
          where
            by : (o : Option Answer) → watch_answer given.settings.patience 1 key (watch_state given.log one p.state.newest) ≡ o
                → Leads (release_with session.request.number (Watched session.request.number key value ∷ []) o)
            by None is = record {
              fewer = λ _. (
                  let none = unpolled_yet watches new in
                  let early = looks_within given.settings.patience 1 key (watch_state given.log one p.state.newest) (omega (arith, within)) is in
                  omega arith);
              of_it = (refl, tt);
              stands = λ _ _. stands_then p session.request.number key value served room new;
            }
            by (Some told) is = record { fewer = λ e. cc; of_it = (refl, (refl, tt)); stands = λ e _. cc }

    again : (stands : Watch) → find (λ watch. watch.number == session.request.number) p.state.watches ≡ Some stands
        → Leads (look_at given p.state.newest (length session.places + 1) [] stands)
    again stands is_there = by told refl
      where
        told : Option Answer
        told = watch_answer given.settings.patience (length session.places + 1) stands.key (watch_state given.log stands p.state.newest)

        by : (o : Option Answer) → told ≡ o → Leads (release_with stands.number [] o)
        by None is = record {
          fewer = λ _. looks_within given.settings.patience (length session.places + 1) stands.key (watch_state given.log stands p.state.newest) within is;
          of_it = tt;
          stands = λ _ _. found_any (λ watch. watch.number == session.request.number) p.state.watches stands is_there;
        }
        by (Some given_now) is = record {
          fewer = λ e. cc;
          of_it = (eqb-true stands.number session.request.number (found_passes (λ watch. watch.number == session.request.number) p.state.watches stands is_there), tt);
          stands = λ e _. cc;
        }

    leads : Leads (poll_of given p.state session)
    leads = by_ask session.request.ask refl
      where
        by_found : (key : List ℕ) (value : Option (List ℕ)) → session.request.ask ≡ ask.Watch key value
            → (o : Option Watch) → find (λ watch. watch.number == session.request.number) p.state.watches ≡ o → Leads (poll_of given p.state session)
        by_found key value is None none =
            subst Leads (sym (of_none given p.state session key value is none))
            (first key value (ap is_watch is) (none_found (λ watch. watch.number == session.request.number) p.state.watches none))
        by_found key value is (Some stands) some =
            subst Leads (sym (of_some given p.state session key value stands is some)) (again stands some)

        by_ask : (asked : Ask) → session.request.ask ≡ asked → Leads (poll_of given p.state session)
        by_ask (ask.Get key version) is = versioned (ap is_watch is)
        by_ask (ask.Rows range rows bytes backward version) is = versioned (ap is_watch is)
        by_ask (ask.Select key or_equal offset range version) is = versioned (ap is_watch is)
        by_ask (ask.Watch key value) is = by_found key value is (find (λ watch. watch.number == session.request.number) p.state.watches) refl

    -- the session keeps what it is, with any watches among which its own stands or doesn't as these polls leave it
    polled_patient : (place : ℕ) → IsPatient given.settings.patience
        (fold (with_event given) p (poll_of given p.state session).events).state.watches (poll given place p.state session)
    polled_patient place = record {
      fewer = λ none. (let fewer = leads.fewer none in omega (arith, length-append session.places (place ∷ [])));
      stands = λ none watches _. leads.stands none watches;
    }

    takes_one : (place : ℕ)
        → polls_to_come given.settings.patience (poll given place p.state session) < polls_to_come given.settings.patience session
    takes_one place =
        subst (λ o. polls_to_come given.settings.patience (poll given place p.state session)
        < cond (is_none o) (given.settings.patience - length session.places) 0) (sym unanswered)
        (cond_both (is_none (poll_of given p.state session).answer) (given.settings.patience - length (session.places ++ place ∷ [])) 0
        (λ n. n < given.settings.patience - length session.places)
        (λ _. omega (arith, within, length-append session.places (place ∷ []))) (λ _. omega (arith, within)))

-- ---- all sessions

numbered_apart : (later : List Session) (request : Request) (session : Session) (test : Session → Bool) → find test later ≡ Some session
    → AllByRecursion (λ other. request.number == other.number ≡ false) (map (λ (s : Session). s.request) later)
    → request.number ≡ session.request.number → ⊥
numbered_apart later request session test is apart =
    eqb-false request.number session.request.number
    (found_has test (λ (s : Session). request.number == s.request.number ≡ false) later session is
    (all_of_map (λ other. request.number == other.number ≡ false) (λ (s : Session). s.request) later apart))

module _ (given : Given) (reader place : ℕ) (state : State) (session : Session) where
  -- where a poll lets the sessions of other numbers be
  first_kept : (after : List Watch) → IsPatient given.settings.patience after (poll given place state session)
      → ((other : ℕ) → (other ≡ session.request.number → ⊥) → is_registered other after ≡ is_registered other state.watches)
      → (sessions : List Session) → find (is_open reader) sessions ≡ Some session
      → AllByRecursion (IsPatient given.settings.patience state.watches) sessions
      → AreNumbered (map (λ (s : Session). s.request) sessions)
      → AllByRecursion (IsPatient given.settings.patience after) (poll_first given reader place state sessions)
  first_kept after polled others [] is each apart = tt
  first_kept after polled others (one ∷ later) is each apart =
      elim (is_open reader one) as (λ v. cond v (Some one) (find (is_open reader) later) ≡ Some session
      → AllByRecursion (IsPatient given.settings.patience after)
      (cond v (poll given place state one ∷ later) (one ∷ poll_first given reader place state later))) [
        | true ↦ λ here.
            let same : session ≡ one = cc in (
              subst (λ s. IsPatient given.settings.patience after (poll given place state s)) same polled,
              all_map (λ s. IsPatient given.settings.patience state.watches s × (one.request.number == s.request.number ≡ false))
                  (IsPatient given.settings.patience after)
                  (λ s both. other_kept s both.0 (λ e. eqb-false one.request.number s.request.number both.1
                  (sym (e ∙ ap (λ (t : Session). t.request.number) same)))) later
                  (all_both (IsPatient given.settings.patience state.watches) (λ s. one.request.number == s.request.number ≡ false) later each.1
                  (all_of_map (λ other. one.request.number == other.number ≡ false) (λ (s : Session). s.request) later apart.0)),
            )
        | false ↦ λ further. (
          other_kept one each.0 (numbered_apart later one.request session (is_open reader) further apart.0),
          first_kept after polled others later further each.1 apart.1,
        )
      ]
      is
    where
      other_kept : (s : Session) → IsPatient given.settings.patience state.watches s → (s.request.number ≡ session.request.number → ⊥)
          → IsPatient given.settings.patience after s
      other_kept s patient apart = record {
        fewer = patient.fewer;
        stands = λ none watches polls. others s.request.number apart ∙ patient.stands none watches polls;
      }

  first_fewer : polls_to_come given.settings.patience (poll given place state session) < polls_to_come given.settings.patience session
      → (sessions : List Session) → find (is_open reader) sessions ≡ Some session
      → polls_left given.settings.patience (poll_first given reader place state sessions) < polls_left given.settings.patience sessions
  first_fewer less [] is = cc
  first_fewer less (one ∷ later) is =
      elim (is_open reader one) as (λ v. cond v (Some one) (find (is_open reader) later) ≡ Some session
      → polls_left given.settings.patience (cond v (poll given place state one ∷ later) (one ∷ poll_first given reader place state later))
      < polls_left given.settings.patience (one ∷ later)) [
        | true ↦ λ here.
            let same : session ≡ one = cc in
            let here_less = subst (λ s. polls_to_come given.settings.patience (poll given place state s) < polls_to_come given.settings.patience s) same less in
            omega arith
        | false ↦ λ further. (let later_less = first_fewer less later further in omega arith)
      ]
      is

-- a life of which these are the sessions, in this state
abbrev at_state : State → List Session → Progress (Unit {0})
at_state state sessions =
    record { lines = []; trace = []; state = state; sessions = sessions; engine = tt; calls = 0; halt = None }

of_watch : (number : ℕ) (event : Event) → IsOf number event → is_of_watch event ≡ true
of_watch number (Watched other key value) of_it = refl
of_watch number (Unwatched other) of_it = refl
of_watch number event of_it = absurd of_it

-- a poll makes events of watches alone
pub poll_events : {E : Type 0} (stage : Stage E) (progress : Progress E) (reader : ℕ)
    → ArePatient stage.given.settings.patience progress.state.watches progress.sessions → has_open reader progress.sessions ≡ true
    → AllByRecursion (λ event. is_of_watch event ≡ true) (events_of_poll stage.given reader progress.state progress.sessions)
poll_events {E = E} stage progress reader patient has =
    let one = some_found (is_open reader) progress.sessions has in
    subst (λ o. AllByRecursion (λ event. is_of_watch event ≡ true) (option_map_or (λ s. (poll_of stage.given progress.state s).events) o []))
    (sym one.1)
    (all_map (IsOf one.0.request.number) (λ event. is_of_watch event ≡ true) (of_watch one.0.request.number)
    (poll_of stage.given progress.state one.0).events
    (leads stage.given progress one.0 (open_is reader one.0 (found_passes (is_open reader) progress.sessions one.0 one.1)).1
    (found_has (is_open reader) (IsPatient stage.given.settings.patience progress.state.watches) progress.sessions one.0 one.1 patient.each)).of_it)

pub fewer_left : (given : Given) (reader place : ℕ) (state : State) (sessions : List Session) → ArePatient given.settings.patience state.watches sessions
    → has_open reader sessions ≡ true
    → polls_left given.settings.patience (poll_first given reader place state sessions) < polls_left given.settings.patience sessions
fewer_left given reader place state sessions patient has =
    let one = some_found (is_open reader) sessions has in
    first_fewer given reader place state one.0
    (takes_one given (at_state state sessions) one.0 (open_is reader one.0 (found_passes (is_open reader) sessions one.0 one.1)).1
    (found_has (is_open reader) (IsPatient given.settings.patience state.watches) sessions one.0 one.1 patient.each) place)
    sessions one.1

pub kept_patient : {E : Type 0} (stage : Stage E) (progress : Progress E) (reader : ℕ)
    → ArePatient stage.given.settings.patience progress.state.watches progress.sessions → has_open reader progress.sessions ≡ true
    → ArePatient stage.given.settings.patience (do_poll stage progress reader).state.watches (do_poll stage progress reader).sessions
kept_patient {E = E} stage progress reader patient has =
    subst (λ events. ArePatient given.settings.patience (fold (with_event given) polled events).state.watches (fold (with_event given) polled events).sessions)
    (sym (ap (λ o. option_map_or (λ s. (poll_of given progress.state s).events) o []) one.1))
    (record {
      each = subst (AllByRecursion (IsPatient given.settings.patience after)) (sym (all_same_sessions given polled events))
          (first_kept given reader place progress.state one.0 after (polled_patient given polled one.0 unanswered one_patient place)
          (λ other apart. others_all given polled events one.0.request.number other (leads given polled one.0 unanswered one_patient).of_it apart)
          progress.sessions one.1 patient.each patient.apart);
      apart = subst AreNumbered (sym (ap (map (λ (s : Session). s.request)) (all_same_sessions given polled events)
          ∙ same_requests given reader progress.state place progress.sessions)) patient.apart;
    })
  where
    given : Given
    given = stage.given

    place : ℕ
    place = length progress.trace

    one : (s : Session) × (find (is_open reader) progress.sessions ≡ Some s)
    one = some_found (is_open reader) progress.sessions has

    unanswered : one.0.answer ≡ None
    unanswered = (open_is reader one.0 (found_passes (is_open reader) progress.sessions one.0 one.1)).1

    one_patient : IsPatient stage.given.settings.patience progress.state.watches one.0
    one_patient = found_has (is_open reader) (IsPatient stage.given.settings.patience progress.state.watches) progress.sessions one.0 one.1 patient.each

    polled : Progress E
    polled = record progress { sessions = poll_first given reader place progress.state progress.sessions }

    events : List Event
    events = (poll_of given progress.state one.0).events

    after : List Watch
    after = (fold (with_event given) polled events).state.watches
