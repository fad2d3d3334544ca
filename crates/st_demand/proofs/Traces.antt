-- Traces that go on: the state after one more event, and what polls within the old trace led to.
use Rattle.std.proofs.Common.{◌≡◌, ℕ, ◌+◌, ◌≤◌, true, false, ◌&&◌, ◌==◌, nat_lt, nat_le, cond, List, [], ◌∷◌, ◌++◌, length, take, Option, Some, None, option_and_then, refl, sym, ap, ◌∙◌, arith, length-append, take_all, le_refl}
use Rattle.std.proofs.lemmas.Bool.{cond-true, cond-false, or_parts, and_right, and_left, le-leb, eqb-true, eq-eqb}
use Rattle.std.proofs.lemmas.List.{take-append-le}
use Rattle.std.specs.List.{AllByRecursion, list_any}
use Rattle.st_fold.specs.declared.report.Event.{Event}
use Rattle.st_fold.specs.declared.report.Event.TheVariants.{Opened}
use Rattle.st_fold.specs.declared.request.Ask.{Ask}
use Rattle.st_model.specs.State.{Given, Opening, State, first_state, step}
use Rattle.st_model.specs.Trace.{is_end, run_events, state_after, state_at}
use Rattle.st_model.specs.Session.{outcome, never, after_answer, answer_to, is_empty}
use Rattle.st_model.specs.Reply.{reply}

and_then_Some : {A : Type 0} (o : Option A) → option_and_then (λ x. Some x) o ≡ o
and_then_Some None = refl
and_then_Some (Some x) = refl

steps_on : {A : Type 0} (whole last before : A → Option A) → ((a : A) → whole a ≡ option_and_then last (before a)) → (o : Option A)
    → option_and_then whole o ≡ option_and_then last (option_and_then before o)
steps_on whole last before each None = refl
steps_on whole last before each (Some a) = each a

goes_on : (given : Given) (state : State) (events : List Event) (event : Event) → list_any is_end events ≡ false
    → run_events given state (events ++ event ∷ []) ≡ option_and_then (λ next. step given next event) (run_events given state events)
goes_on given state [] event none =
    cond-false (is_end event && nat_lt 0 0) None (option_and_then (λ next. Some next) (step given state event))
    (and_right (is_end event) (nat_lt 0 0) refl)
    ∙ and_then_Some (step given state event)
goes_on given state (first ∷ events) event none =
    let ends = or_parts (is_end first) (list_any is_end events) none in
    cond-false (is_end first && nat_lt 0 (length (events ++ event ∷ []))) None
    (option_and_then (λ next. run_events given next (events ++ event ∷ [])) (step given state first))
    (and_left (is_end first) (nat_lt 0 (length (events ++ event ∷ []))) ends.0)
    ∙ steps_on (λ next. run_events given next (events ++ event ∷ [])) (λ next. step given next event)
    (λ next. run_events given next events) (λ next. goes_on given next events event ends.1) (step given state first)
    ∙ ap (option_and_then (λ next. step given next event))
    (sym (cond-false (is_end first && nat_lt 0 (length events)) None
    (option_and_then (λ next. run_events given next events) (step given state first))
    (and_left (is_end first) (nat_lt 0 (length events)) ends.0)))

-- a legal trace begins with its opening
pub opens : (given : Given) (opening : Opening) (trace : List Event) (state : State) → state_after given opening trace ≡ Some state
    → (events : List Event) × (trace ≡ Opened opening.version ∷ events) × (run_events given (first_state given opening) events ≡ Some state)
opens given opening [] state h = cc
opens given opening (Opened version ∷ events) state h =
    elim (version == opening.version) as (λ v. version == opening.version ≡ v
    → cond v (run_events given (first_state given opening) events) None ≡ Some state
    → (rest : List Event) × ((Opened version ∷ events) ≡ Opened opening.version ∷ rest)
    × (run_events given (first_state given opening) rest ≡ Some state)) [
      | true ↦ λ same after. (events, ap (λ v. Opened v ∷ events) (eqb-true version opening.version same), after)
      | false ↦ λ other none. cc
    ]
    refl h
opens given opening (event ∷ events) state h = cc

pub state_after_push : (given : Given) (opening : Opening) (trace : List Event) (state : State) (event : Event)
    → state_after given opening trace ≡ Some state → list_any is_end trace ≡ false
    → state_after given opening (trace ++ event ∷ []) ≡ step given state event
state_after_push given opening trace state event h none =
    let o = opens given opening trace state h in
    let ends : list_any is_end o.0 ≡ false = ap (list_any is_end) (sym o.1) ∙ none in
    ap (λ t. state_after given opening (t ++ event ∷ [])) o.1
    ∙ cond-true (opening.version == opening.version) (run_events given (first_state given opening) (o.0 ++ event ∷ [])) None (eq opening.version)
    ∙ goes_on given (first_state given opening) o.0 event ends
    ∙ ap (option_and_then (λ next. step given next event)) o.2
  where
    eq : (n : ℕ) → n == n ≡ true
    eq n = eq-eqb n n refl

-- the state at the end of a trace
pub at_end : (given : Given) (opening : Opening) (trace : List Event) → state_at given opening trace (length trace) ≡ state_after given opening trace
at_end given opening trace =
    cond-true (nat_le (length trace) (length trace)) (state_after given opening (take (length trace) trace)) None
    (le-leb (length trace) (length trace) (le_refl (length trace)))
    ∙ ap (state_after given opening) (take_all (length trace) trace (le_refl (length trace)))

-- the state at a place stays, however the trace goes on
at_grows : (given : Given) (opening : Opening) (trace more : List Event) (place : ℕ) → place ≤ length trace
    → state_at given opening (trace ++ more) place ≡ state_at given opening trace place
at_grows given opening trace more place within =
    cond-true (nat_le place (length (trace ++ more))) (state_after given opening (take place (trace ++ more))) None
    (le-leb place (length (trace ++ more)) (omega (arith, length-append trace more)))
    ∙ ap (state_after given opening) (take-append-le place trace more within)
    ∙ sym (cond-true (nat_le place (length trace)) (state_after given opening (take place trace)) None (le-leb place (length trace) within))

-- what a poll leads to: the state at its place, its answer and the polls after it decide
pub outcome_none : (given : Given) (opening : Opening) (trace : List Event) (ask : Ask) (polls place : ℕ) (places : List ℕ)
    → state_at given opening trace place ≡ None → outcome given opening trace ask polls (place ∷ places) ≡ never
outcome_none given opening trace ask polls place places e = rw e refl

pub outcome_some : (given : Given) (opening : Opening) (trace : List Event) (ask : Ask) (polls place : ℕ) (places : List ℕ) (state : State)
    → state_at given opening trace place ≡ Some state
    → outcome given opening trace ask polls (place ∷ places)
    ≡ after_answer (answer_to given.settings.patience (polls + 1) (reply given.log state ask)) (is_empty places)
    (outcome given opening trace ask (polls + 1) places)
outcome_some given opening trace ask polls place places state e = rw e refl

-- what polls led to stays, however the trace goes on
pub outcome_grows : (given : Given) (opening : Opening) (trace more : List Event) (ask : Ask) (polls : ℕ) (places : List ℕ)
    → AllByRecursion (λ place. place ≤ length trace) places
    → outcome given opening (trace ++ more) ask polls places ≡ outcome given opening trace ask polls places
outcome_grows given opening trace more ask polls [] within = refl
outcome_grows given opening trace more ask polls (place ∷ places) within =
    let rest = outcome_grows given opening trace more ask (polls + 1) places within.1 in
    elim (state_at given opening trace place) as (λ o. state_at given opening trace place ≡ o
    → outcome given opening (trace ++ more) ask polls (place ∷ places) ≡ outcome given opening trace ask polls (place ∷ places)) [
      | None ↦ λ e. outcome_none given opening (trace ++ more) ask polls place places (at_grows given opening trace more place within.0 ∙ e)
          ∙ sym (outcome_none given opening trace ask polls place places e)
      | Some state ↦ λ e.
          outcome_some given opening (trace ++ more) ask polls place places state (at_grows given opening trace more place within.0 ∙ e)
          ∙ ap (after_answer (answer_to given.settings.patience (polls + 1) (reply given.log state ask)) (is_empty places)) rest
          ∙ sym (outcome_some given opening trace ask polls place places state e)
    ]
    refl
