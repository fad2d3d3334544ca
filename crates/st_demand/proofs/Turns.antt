-- The polls of each reader, before and after one more poll.
use Rattle.std.proofs.Common.{◌≡◌, ◌≢◌, ℕ, ◌≤◌, Bool, true, false, ◌==◌, cond, List, [], ◌∷◌, ◌++◌, length, is_none, refl, sym, ap, ◌∙◌, inl, inr, ◌⊎◌, append-nil, append_assoc}
use Rattle.std.proofs.lemmas.Bool.{cond_both, cond-false, and_from, eqb-true, eq-eqb, ne_eqb, both_ways}
use Rattle.std.specs.List.{AllByRecursion}
use Rattle.st_fold.specs.declared.report.Event.{Event}
use Rattle.st_model.specs.State.{Given, Opening, State}
use Rattle.st_model.specs.Session.{NeverFalls}
use Rattle.st_model.specs.Schedule.{Session, poll, poll_first, is_open}
use Rattle.st_demand.proofs.Sound.{IsSoundSession, TakeTurns, polls_of}
use Rattle.st_demand.proofs.Lists.{all_append}
use Rattle.st_demand.proofs.Polls.{open_is}

pub falls_push : (places : List ℕ) (place : ℕ) → NeverFalls places → AllByRecursion (λ p. p ≤ place) places
    → NeverFalls (places ++ place ∷ [])
falls_push [] place falls below = (tt, tt)
falls_push (first ∷ []) place falls below = (below.0, (tt, tt))
falls_push (first ∷ second ∷ places) place falls below = (falls.0, falls_push (second ∷ places) place falls.1 below.1)

pub all_polls : (given : Given) (opening : Opening) (trace : List Event) (reader : ℕ) (sessions : List Session) → AllByRecursion (IsSoundSession given opening trace) sessions
    → AllByRecursion (λ place. place ≤ length trace) (polls_of reader sessions)
all_polls given opening trace reader [] sound = tt
all_polls given opening trace reader (session ∷ later) sound =
    let rest = all_polls given opening trace reader later sound.1 in
    cond_both (session.request.reader == reader) (session.places ++ polls_of reader later) (polls_of reader later)
    (AllByRecursion (λ place. place ≤ length trace))
    (λ _. all_append (λ place. place ≤ length trace) session.places (polls_of reader later) sound.0.within rest)
    (λ _. rest)

module _ (given : Given) (reader place : ℕ) (state : State) where
  -- the polls of another reader stay
  pub polls_other : (other : ℕ) (sessions : List Session) → other ≢ reader
      → polls_of other (poll_first given reader place state sessions) ≡ polls_of other sessions
  polls_other other [] apart = refl
  polls_other other (session ∷ later) apart =
      cond_both (is_open reader session) (poll given place state session ∷ later) (session ∷ poll_first given reader place state later)
      (λ polled. polls_of other polled ≡ polls_of other (session ∷ later))
      (λ here.
      let not_other : session.request.reader == other ≡ false =
      ne_eqb session.request.reader other (λ e. apart (sym e ∙ (open_is reader session here).0)) in
      cond-false (session.request.reader == other) ((session.places ++ place ∷ []) ++ polls_of other later) (polls_of other later) not_other
      ∙ sym (cond-false (session.request.reader == other) (session.places ++ polls_of other later) (polls_of other later) not_other))
      (λ _. ap (λ polls. cond (session.request.reader == other) (session.places ++ polls) polls) (polls_other other later apart))

  -- those of any reader stay, or get the new place at their end
  pub polls_grow : (of : ℕ) (sessions : List Session) → TakeTurns sessions
      → (polls_of of (poll_first given reader place state sessions) ≡ polls_of of sessions)
      ⊎ (polls_of of (poll_first given reader place state sessions) ≡ polls_of of sessions ++ place ∷ [])
  polls_grow of [] turns = inl refl
  polls_grow of (session ∷ later) turns =
      cond_both (is_open reader session) (poll given place state session ∷ later) (session ∷ poll_first given reader place state later)
      (λ polled. (polls_of of polled ≡ polls_of of (session ∷ later)) ⊎ (polls_of of polled ≡ polls_of of (session ∷ later) ++ place ∷ []))
      (λ here. elim (session.request.reader == of) as (λ v. session.request.reader == of ≡ v
      → (cond v ((session.places ++ place ∷ []) ++ polls_of of later) (polls_of of later) ≡ cond v (session.places ++ polls_of of later) (polls_of of later))
      ⊎ (cond v ((session.places ++ place ∷ []) ++ polls_of of later) (polls_of of later) ≡ cond v (session.places ++ polls_of of later) (polls_of of later) ++ place ∷ [])) [
        | true ↦ λ same.
            let idle : polls_of of later ≡ [] =
            ap (λ r. polls_of r later) (sym (eqb-true session.request.reader of same)) ∙ turns.0 (open_is reader session here).1 in
            inr (ap (λ polls. (session.places ++ place ∷ []) ++ polls) idle
            ∙ append-nil (session.places ++ place ∷ [])
            ∙ sym (ap (λ polls. (session.places ++ polls) ++ place ∷ []) idle
            ∙ ap (λ polls. polls ++ place ∷ []) (append-nil session.places)))
        | false ↦ λ _. inl refl
      ]
      refl)
      (λ _. elim (polls_grow of later turns.1) [
        | inl same ↦ inl (ap (λ polls. cond (session.request.reader == of) (session.places ++ polls) polls) same)
        | inr more ↦ inr (
            ap (λ polls. cond (session.request.reader == of) (session.places ++ polls) polls) more
            ∙ pushed (session.request.reader == of) session.places (polls_of of later))
      ])
    where
      pushed : (b : Bool) (xs ys : List ℕ) → cond b (xs ++ (ys ++ place ∷ [])) (ys ++ place ∷ []) ≡ cond b (xs ++ ys) ys ++ place ∷ []
      pushed true xs ys = sym (append_assoc xs ys (place ∷ []))
      pushed false xs ys = refl

  pub turns_kept : (sessions : List Session) → TakeTurns sessions → TakeTurns (poll_first given reader place state sessions)
  turns_kept [] turns = tt
  turns_kept (session ∷ later) turns =
      cond_both (is_open reader session) (poll given place state session ∷ later) (session ∷ poll_first given reader place state later) TakeTurns
      (λ here. ((λ _. turns.0 (open_is reader session here).1), turns.1))
      (λ shut. (
        (λ none. polls_other session.request.reader later
            (λ same. both_ways (is_open reader session) shut
            (and_from (session.request.reader == reader) (is_none session.answer)
            (eq-eqb session.request.reader reader same) (ap is_none none)))
            ∙ turns.0 none),
        turns_kept later turns.1,
      ))
