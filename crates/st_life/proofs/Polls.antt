-- Polls of a reader's first open session, in any state.
use Rattle.std.proofs.Common.{◌≡◌, ℕ, zero, suc, ◌+◌, ◌<◌, Bool, true, false, ◌&&◌, ◌||◌, ◌==◌, cond, List, [], ◌∷◌, length, map, take, refl, sym, ap, ◌∙◌, arith, add-one, subst, get_or, set, is_none}
use Rattle.std.proofs.Math.ListN.{get_or-map}
use Rattle.std.proofs.lemmas.List.{length-map, map-set}
use Rattle.std.proofs.lemmas.List.Folds.{list_any_more}
use Rattle.std.specs.Prelude.{Option, Some, None}
use Rattle.std.specs.List.{AllByRecursion, find, list_any}
use Rattle.std.specs.Option.{option_map_or}
use Rattle.st_fold.specs.declared.request.Answer.{Answer}
use Rattle.st_model.specs.State.{Given, State}
use Rattle.st_model.specs.Schedule.{Polled, Session, events_of_poll, has_open, is_open, poll, poll_first, poll_of, polls_left, polls_to_come}
use Rattle.st_life.specs.declared.asked.Asked.{Asked}
use Rattle.st_life.specs.Waiting.{AreSought, IsFirstOpen, IsWaiting, session_of}
use Rattle.st_life.proofs.Versioned.{versioned_poll}

none_is : (o : Option Answer) → is_none o ≡ true → o ≡ None
none_is None e = refl
none_is (Some answer) e = cc

both_true : (a b : Bool) → (a && b) ≡ true → (a ≡ true) × (b ≡ true)
both_true true b e = (refl, e)
both_true false b e = cc

first_false : (a b : Bool) → (a && b) ≡ false → b ≡ true → a ≡ false
first_false true b e f = cc
first_false false b e f = refl

neither : (a b : Bool) → (a || b) ≡ false → (a ≡ false) × (b ≡ false)
neither true b e = cc
neither false b e = (refl, e)

alone : (b : Bool) → (b || false) ≡ true → b ≡ true
alone true e = refl
alone false e = e

of_reader : (reader : ℕ) (session : Session) → is_open reader session ≡ true → (session.request.reader == reader ≡ true) × (is_none session.answer ≡ true)
of_reader reader session h = both_true (session.request.reader == reader) (is_none session.answer) h

-- ---- the first open session

-- some item of a front is some item
any_of_front : {A : Type 0} (p : A → Bool) (xs : List A) (n : ℕ) → list_any p (take n xs) ≡ true → list_any p xs ≡ true
any_of_front p xs zero h = cc
any_of_front p [] (suc n) h = h
any_of_front p (x ∷ xs) (suc n) h =
    elim (p x) as (λ b. (b || list_any p (take n xs)) ≡ true → (b || list_any p xs) ≡ true) [
      | true ↦ λ e. refl
      | false ↦ λ e. any_of_front p xs n e
    ] h

-- where the first open session is, the reader has one
pub has_first : (reader place : ℕ) (sessions : List Session) → IsFirstOpen reader place sessions → has_open reader sessions ≡ true
has_first reader place sessions first = any_of_front (is_open reader) sessions (place + 1) first.2

-- the session there is open
open_at : (reader place : ℕ) (sessions : List Session) (d : Session) → place < length sessions → has_open reader (take place sessions) ≡ false
    → has_open reader (take (suc place) sessions) ≡ true → is_open reader (get_or sessions place d) ≡ true
open_at reader place [] d below before here = absurd (omega arith)
open_at reader zero (s ∷ ss) d below before here = alone (is_open reader s) here
open_at reader (suc place) (s ∷ ss) d below before here =
    elim (is_open reader s) as (λ b. (b || list_any (is_open reader) (take place ss)) ≡ false → (b || list_any (is_open reader) (take (suc place) ss)) ≡ true → is_open reader (get_or ss place d) ≡ true) [
      | true ↦ λ e f. cc
      | false ↦ λ e f. open_at reader place ss d (omega arith) e f
    ] before here

module _ (given : Given) (reader at : ℕ) (state : State) where
  -- a reader with no open session changes nothing
  pub poll_first-none : (sessions : List Session) → has_open reader sessions ≡ false → poll_first given reader at state sessions ≡ sessions
  poll_first-none [] h = refl
  poll_first-none (s ∷ ss) h =
      elim (is_open reader s) as (λ b. (b || list_any (is_open reader) ss) ≡ false → cond b (poll given at state s ∷ ss) (s ∷ poll_first given reader at state ss) ≡ s ∷ ss) [
        | true ↦ λ e. cc
        | false ↦ λ e. ap (λ rest. s ∷ rest) (poll_first-none ss e)
      ] h

  -- the session at a place is polled, where it is the first that is open
  poll_first-at : (sessions : List Session) (i : ℕ) (d : Session) → i < length sessions → has_open reader (take i sessions) ≡ false → has_open reader (take (suc i) sessions) ≡ true
      → poll_first given reader at state sessions ≡ set sessions i (poll given at state (get_or sessions i d))
  poll_first-at [] i d below before here = refl
  poll_first-at (s ∷ ss) zero d below before here =
      elim (is_open reader s) as (λ b. (b || false) ≡ true → cond b (poll given at state s ∷ ss) (s ∷ poll_first given reader at state ss) ≡ poll given at state s ∷ ss) [
        | true ↦ λ e. refl
        | false ↦ λ e. cc
      ] here
  poll_first-at (s ∷ ss) (suc i) d below before here =
      elim (is_open reader s) as (λ b. (b || list_any (is_open reader) (take i ss)) ≡ false → (b || list_any (is_open reader) (take (suc i) ss)) ≡ true → cond b (poll given at state s ∷ ss) (s ∷ poll_first given reader at state ss) ≡ s ∷ set ss i (poll given at state (get_or ss i d))) [
        | true ↦ λ e f. cc
        | false ↦ λ e f. ap (λ rest. s ∷ rest) (poll_first-at ss i d (omega arith) e f)
      ] before here

  -- a reader with no open session up to a place gets none there by a poll
  shut_to : (other place : ℕ) (sessions : List Session) → has_open other (take place sessions) ≡ false
      → has_open other (take place (poll_first given reader at state sessions)) ≡ false
  shut_to other zero sessions h = refl
  shut_to other (suc place) [] h = refl
  shut_to other (suc place) (s ∷ ss) h =
      elim (is_open reader s) as (λ b. is_open reader s ≡ b
      → has_open other (take (suc place) (cond b (poll given at state s ∷ ss) (s ∷ poll_first given reader at state ss))) ≡ false) [
        | true ↦ λ e.
            let shut = neither (is_open other s) (list_any (is_open other) (take place ss)) h in
            let of_other : (s.request.reader == other) ≡ false =
            first_false (s.request.reader == other) (is_none s.answer) shut.0 (of_reader reader s e).1 in
            rw of_other shut.1
        | false ↦ λ e.
            let shut = neither (is_open other s) (list_any (is_open other) (take place ss)) h in
            rw shut.0 (shut_to other place ss shut.1)
      ] refl

  -- nor at all
  pub stays_shut : (other : ℕ) (sessions : List Session) → has_open other sessions ≡ false → has_open other (poll_first given reader at state sessions) ≡ false
  stays_shut other [] h = refl
  stays_shut other (s ∷ ss) h =
      elim (is_open reader s) as (λ b. is_open reader s ≡ b
      → has_open other (cond b (poll given at state s ∷ ss) (s ∷ poll_first given reader at state ss)) ≡ false) [
        | true ↦ λ e.
            let shut = neither (is_open other s) (list_any (is_open other) ss) h in
            let of_other : (s.request.reader == other) ≡ false =
            first_false (s.request.reader == other) (is_none s.answer) shut.0 (of_reader reader s e).1 in
            rw of_other shut.1
        | false ↦ λ e.
            let shut = neither (is_open other s) (list_any (is_open other) ss) h in
            rw shut.0 (stays_shut other ss shut.1)
      ] refl

  -- each reader's place stays
  pub sought_after : (places : List ℕ) (sessions : List Session) → AreSought places sessions → AreSought places (poll_first given reader at state sessions)
  sought_after places sessions sought = λ other. shut_to other (get_or places other 0) sessions (sought other)

-- ---- events

-- a poll of a reader with no open session makes none
module _ (given : Given) (reader : ℕ) (state : State) where
  pub none_polled : (sessions : List Session) → has_open reader sessions ≡ false → events_of_poll given reader state sessions ≡ []
  none_polled [] h = refl
  none_polled (s ∷ ss) h =
      elim (is_open reader s) as (λ b. (b || list_any (is_open reader) ss) ≡ false → option_map_or (λ (one : Session). (poll_of given state one).events) (cond b (Some s) (find (is_open reader) ss)) [] ≡ []) [
        | true ↦ λ e. cc
        | false ↦ λ e. none_polled ss e
      ] h

-- a poll of requests at versions makes none
module _ (given : Given) (reader : ℕ) (state : State) (patience : ℕ) where
  pub no_events : (xs : List Asked) → AllByRecursion (IsWaiting patience) xs → events_of_poll given reader state (map session_of xs) ≡ []
  no_events [] all = refl
  no_events (x ∷ xs) all =
      elim (is_open reader (session_of x)) as (λ b. option_map_or (λ (s : Session). (poll_of given state s).events) (cond b (Some (session_of x)) (find (is_open reader) (map session_of xs))) [] ≡ []) [
        | true ↦ ap (λ (led : Polled). led.events) (versioned_poll given state (session_of x) all.0.versioned)
        | false ↦ no_events xs all.1
      ]

-- ---- one of many

pub all_set : {A : Type 0} (P : A → Type 0) (xs : List A) (i : ℕ) (x : A) → AllByRecursion P xs → P x → AllByRecursion P (set xs i x)
all_set P [] i x all here = tt
all_set P (y ∷ ys) zero x all here = (here, all.1)
all_set P (y ∷ ys) (suc i) x all here = (all.0, all_set P ys i x all.1 here)

-- where one session has fewer polls to come, all have
fewer_left : (patience : ℕ) (sessions : List Session) (i : ℕ) (d new : Session) → i < length sessions → polls_to_come patience new < polls_to_come patience (get_or sessions i d)
    → polls_left patience (set sessions i new) < polls_left patience sessions
fewer_left patience [] i d new below less = absurd (omega arith)
fewer_left patience (s ∷ ss) zero d new below less = omega (arith, less)
fewer_left patience (s ∷ ss) (suc i) d new below less = omega (arith, fewer_left patience ss i d new (omega arith) less)

-- one session more
module _ (reader : ℕ) (xs : List Asked) (place : ℕ) (one : Asked) (below : place < length xs) (is : one ≡ get_or xs place one) where
  open_to : has_open reader (take (place + 1) (map session_of xs)) ≡ (has_open reader (take place (map session_of xs)) || is_open reader (session_of one))
  open_to =
      list_any_more (is_open reader) (map session_of xs) place (session_of one) (omega (arith, length-map xs session_of))
      ∙ ap (λ session. has_open reader (take place (map session_of xs)) || is_open reader session) (get_or-map session_of xs place one ∙ ap session_of (sym is))

  -- the first that is open
  pub found_open : has_open reader (take place (map session_of xs)) ≡ false → is_open reader (session_of one) ≡ true → IsFirstOpen reader place (map session_of xs)
  found_open shut opens =
      (omega (arith, length-map xs session_of), shut, open_to ∙ (λ k. shut k || opens k))

  -- or none yet
  pub still_shut : has_open reader (take place (map session_of xs)) ≡ false → is_open reader (session_of one) ≡ false → has_open reader (take (place + 1) (map session_of xs)) ≡ false
  still_shut shut closed = open_to ∙ (λ k. shut k || closed k)

-- the first open session, and what takes its place
module _ (reader place : ℕ) (xs : List Asked) (one : Asked) (first : IsFirstOpen reader place (map session_of xs)) (is : one ≡ get_or xs place one) where
  here : get_or (map session_of xs) place (session_of one) ≡ session_of one
  here = get_or-map session_of xs place one ∙ ap session_of (sym is)

  next : has_open reader (take (suc place) (map session_of xs)) ≡ true
  next = ap (λ n. has_open reader (take n (map session_of xs))) (sym (add-one place)) ∙ first.2

  pub first_is_open : one.answer ≡ None
  first_is_open =
      let opens = open_at reader place (map session_of xs) (session_of one) first.0 first.1 next in
      none_is one.answer (of_reader reader (session_of one) (ap (is_open reader) (sym here) ∙ opens)).1

  pub first_polled : (given : Given) (at : ℕ) (state : State) (new : Asked) → session_of new ≡ poll given at state (session_of one)
      → map session_of (set xs place new) ≡ poll_first given reader at state (map session_of xs)
  first_polled given at state new polled =
      map-set session_of xs place new
      ∙ ap (set (map session_of xs) place) (polled ∙ ap (poll given at state) (sym here))
      ∙ sym (poll_first-at given reader at state (map session_of xs) place (session_of one) first.0 first.1 next)

  pub first_fewer : (patience : ℕ) (new : Asked) → polls_to_come patience (session_of new) < polls_to_come patience (session_of one)
      → polls_left patience (map session_of (set xs place new)) < polls_left patience (map session_of xs)
  first_fewer patience new less =
      let less_here = subst (λ session. polls_to_come patience (session_of new) < polls_to_come patience session) (sym here) less in
      subst (λ sessions. polls_left patience sessions < polls_left patience (map session_of xs)) (sym (map-set session_of xs place new))
      (fewer_left patience (map session_of xs) place (session_of one) (session_of new) first.0 less_here)
