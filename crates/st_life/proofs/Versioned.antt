-- What a poll of a request at a version leads to.
use Rattle.std.proofs.Common.{◌≡◌, ◌∙◌, ℕ, ◌+◌, ◌-◌, ◌<◌, ◌==◌, true, false, cond, [], ◌∷◌, ◌++◌, length, length-append, is_none, refl, sym, ap, subst, arith}
use Rattle.std.proofs.lemmas.Bool.{eqb-false}
use Rattle.std.specs.Prelude.{Option, Some, None}
use Rattle.st_fold.specs.declared.request.Answer.{Answer}
use Rattle.st_fold.specs.declared.request.Answer.TheVariants.{FutureVersion}
use Rattle.st_fold.specs.declared.request.Ask.{Ask}
use Rattle.st_fold.specs.declared.request.Ask.TheVariants as ask
use Rattle.st_fold.specs.Reading.{is_watch}
use Rattle.st_model.specs.Reply.{Reply, too_old, not_yet, wrong_shard, found, reply}
use Rattle.st_model.specs.Session.{answer_to}
use Rattle.st_model.specs.State.{Given, State}
use Rattle.st_model.specs.Schedule.{Polled, Session, poll, poll_of, polls_to_come}
use Rattle.st_session.specs.Asking.{Asking}
use Rattle.st_session.specs.Polling.{told}
use Rattle.st_life.specs.declared.asked.Asked.{Asked}
use Rattle.st_life.specs.Waiting.{IsWaiting, session_of}

-- the answer that it gives, if it gives one
abbrev pub answer_at : Given → State → Session → Option Answer
answer_at given state session = answer_to given.settings.patience (length session.places + 1) (reply given.log state session.request.ask)

pub versioned_poll : (given : Given) (state : State) (session : Session) → is_watch session.request.ask ≡ false
    → poll_of given state session ≡ record { answer = answer_at given state session; events = [] }
versioned_poll given state session versioned = at session.request.ask versioned
  where
    at : (asked : Ask) → is_watch asked ≡ false
        → poll_of given state (record session { request = record session.request { ask = asked } })
        ≡ record { answer = answer_at given state (record session { request = record session.request { ask = asked } }); events = [] }
    at (ask.Get key version) e = refl
    at (ask.Rows range rows bytes backward version) e = refl
    at (ask.Select key or_equal offset range version) e = refl
    at (ask.Watch key value) e = cc

-- it is open afterwards only where more polls are waited for
pub waits_on : (patience polls : ℕ) (given : Reply) → answer_to patience polls given ≡ None → (polls == patience) ≡ false
waits_on patience polls (too_old oldest) e = cc
waits_on patience polls (not_yet newest) e =
    elim (polls == patience) as (λ b. cond b (Some (FutureVersion newest polls)) None ≡ None → b ≡ false) [
      | true ↦ λ f. cc
      | false ↦ λ f. refl
    ] e
waits_on patience polls (wrong_shard key) e = cc
waits_on patience polls (found answer) e = cc

-- a request that is open and waits is polled
module _ (given : Given) (state : State) (at : ℕ) (old : Asked) (waiting : IsWaiting given.settings.patience old) (open_yet : old.answer ≡ None)
    (session : Asking) (answer : Option Answer) (place : session ≡ record old.session { places = old.session.places ++ at ∷ [] })
    (gives : told given.log state old.session ≡ answer) where
  gives_by : answer_to given.settings.patience (length old.session.places + 1) (reply given.log state old.session.request.ask) ≡ answer
  gives_by = ap (λ (n : ℕ). answer_to n (length old.session.places + 1) (reply given.log state old.session.request.ask)) (sym waiting.given) ∙ gives

  answered : answer ≡ (poll_of given state (session_of old)).answer
  answered = sym gives_by ∙ sym (ap (λ (led : Polled). led.answer) (versioned_poll given state (session_of old) waiting.versioned))

  pub is_polled : session_of (record { session = session; answer = answer }) ≡ poll given at state (session_of old)
  is_polled = λ i. record { request = (place i).request; places = (place i).places; answer = answered i }

  pub waits : IsWaiting given.settings.patience (record { session = session; answer = answer })
  waits = record {
    versioned = subst (λ (asking : Asking). is_watch asking.request.ask ≡ false) (sym place) waiting.versioned;
    given = subst (λ (asking : Asking). asking.patience ≡ given.settings.patience) (sym place) waiting.given;
    fewer = λ none.
        let more =
        eqb-false _ _ (waits_on given.settings.patience (length old.session.places + 1) (reply given.log state old.session.request.ask) (gives_by ∙ none)) in
        let below = waiting.fewer open_yet in
        subst (λ (asking : Asking). length asking.places < given.settings.patience) (sym place)
        (omega (arith, length-append old.session.places (at ∷ []), more));
  }

  pub has_fewer : polls_to_come given.settings.patience (session_of (record { session = session; answer = answer })) < polls_to_come given.settings.patience (session_of old)
  has_fewer =
      let below = waiting.fewer open_yet in
      let before : polls_to_come given.settings.patience (session_of old) ≡ given.settings.patience - length old.session.places =
      ap (λ (o : Option Answer). cond (is_none o) (given.settings.patience - length old.session.places) 0) open_yet in
      let less : polls_to_come given.settings.patience (record { request = old.session.request; places = old.session.places ++ at ∷ []; answer = answer }) < given.settings.patience - length old.session.places =
      elim (is_none answer) as (λ b. cond b (given.settings.patience - length (old.session.places ++ at ∷ [])) 0 < given.settings.patience - length old.session.places) [
        | true ↦ omega (arith, length-append old.session.places (at ∷ []))
        | false ↦ omega arith
      ] in
      subst (λ (n : ℕ). polls_to_come given.settings.patience (session_of (record { session = session; answer = answer })) < n) (sym before)
      (subst (λ (asking : Asking). polls_to_come given.settings.patience (record { request = asking.request; places = asking.places; answer = answer }) < given.settings.patience - length old.session.places)
      (sym place) less)
