-- The numbers of the states that a trace reaches, and traces cut short.
use Rattle.std.proofs.Common.{◌≡◌, ℕ, ◌-◌, ◌<◌, ◌≤◌, Bool, true, false, ◌&&◌, ◌||◌, ◌==◌, nat_lt, nat_le, cond, List, [], ◌∷◌, ◌++◌, length, take, drop, Option, Some, None, is_none, option_and_then, IfSome, refl, sym, ap, subst, ◌∙◌, arith, length-append, le_refl, le_trans, suc}
use Rattle.std.proofs.lemmas.List.{take-append-drop, take-append-le, length-take-le}
use Rattle.std.proofs.lemmas.Bool.{eq-eqb, cond-true, cond-false, cond_both, and_parts, ltb-true, ltb-false, leb-true, le-leb, le-ltb, eqb-true}
use Rattle.std.specs.List.{list_any}
use Rattle.st_mutation.specs.declared.batch.Batch.{Batch}
use Rattle.st_fold.specs.declared.report.Event.{Event}
use Rattle.st_fold.specs.declared.report.Event.TheVariants.{Opened, Applied, FetchStart, Block, Split, Began, Durable, Watched, Unwatched, Closed, Killed}
use Rattle.st_fold.specs.Map.{batches_to}
use Rattle.st_model.specs.Facts.{IsCounted, NeverFell}
use Rattle.st_model.specs.declared.piece.Piece.{Piece}
use Rattle.st_model.specs.Pieces.{has_rows}
use Rattle.st_model.specs.State.{Given, Opening, State, Watch, first_state, next_batch, apply_next, after_batch, begin_commit, began, end_commit, ended, greatest_to, commit_version, commit_due, step}
use Rattle.st_model.specs.Trace.{is_end, run_events, state_after, state_at}
use Rattle.st_model.proofs.Lists.{found_passes}
use Rattle.st_model.proofs.Traces.{opens}

-- what is answered only where a test passes
pub only_if : {A : Type 0} (test : Bool) (x y : A) → cond test (Some x) None ≡ Some y → (test ≡ true) × (x ≡ y)
only_if true x y e = let same : x ≡ y = cc in (refl, same)
only_if false x y e = cc

pub and_then_is : {A B : Type 0} (f : A → Option B) (o : Option A) (y : B) → option_and_then f o ≡ Some y → (x : A) × (o ≡ Some x) × (f x ≡ Some y)
and_then_is f None y e = cc
and_then_is f (Some x) y e = (x, refl, e)

-- ---- one step and the others

pub first_step : (given : Given) (state : State) (event : Event) (events : List Event) (last : State) → run_events given state (event ∷ events) ≡ Some last
    → (next : State) × (step given state event ≡ Some next) × (run_events given next events ≡ Some last)
    × ((is_end event && nat_lt 0 (length events)) ≡ false)
first_step given state event events last run =
    elim (is_end event && nat_lt 0 (length events)) as (λ v. (is_end event && nat_lt 0 (length events)) ≡ v
    → cond v None (option_and_then (λ next. run_events given next events) (step given state event)) ≡ Some last
    → (next : State) × (step given state event ≡ Some next) × (run_events given next events ≡ Some last)
    × ((is_end event && nat_lt 0 (length events)) ≡ false)) [
      | true ↦ λ ends e. cc
      | false ↦ λ goes_on e.
          let next = and_then_is (λ next. run_events given next events) (step given state event) last e in
          (next.0, next.1, next.2, goes_on)
    ]
    refl run

-- what each step keeps holds of each state that is reached
pub by_steps : (given : Given) (P : State → Type 0)
    → ((state : State) (event : Event) (next : State) → P state → step given state event ≡ Some next → P next)
    → (state : State) (events : List Event) (last : State) → P state → run_events given state events ≡ Some last → P last
by_steps given P keeps state [] last holds run = let same : state ≡ last = cc in subst P same holds
by_steps given P keeps state (event ∷ events) last holds run =
    let one = first_step given state event events last run in
    by_steps given P keeps one.0 events last (keeps state event one.0 holds one.1) one.2

pub by_trace : (given : Given) (opening : Opening) (P : State → Type 0) → P (first_state given opening)
    → ((state : State) (event : Event) (next : State) → P state → step given state event ≡ Some next → P next)
    → (trace : List Event) (last : State) → state_after given opening trace ≡ Some last → P last
by_trace given opening P first keeps trace last legal =
    let o = opens given opening trace last legal in
    by_steps given P keeps (first_state given opening) o.0 last first o.2

-- ---- traces cut short

ends_with : (first : Bool) (events more : List Event) → (first && nat_lt 0 (length (events ++ more))) ≡ false → (first && nat_lt 0 (length events)) ≡ false
ends_with false events more e = refl
ends_with true events more e =
    le-ltb 0 (length events) (omega (arith, ltb-false 0 (length (events ++ more)) e, length-append events more))

pub parted : (given : Given) (state : State) (events more : List Event) (last : State) → run_events given state (events ++ more) ≡ Some last
    → (between : State) × (run_events given state events ≡ Some between) × (run_events given between more ≡ Some last)
parted given state [] more last run = (state, refl, run)
parted given state (event ∷ events) more last run =
    let one = first_step given state event (events ++ more) last run in
    let rest = parted given one.0 events more last one.2 in (
      rest.0,
      cond-false (is_end event && nat_lt 0 (length events)) None
          (option_and_then (λ next. run_events given next events) (step given state event))
          (ends_with (is_end event) events more one.3)
          ∙ ap (option_and_then (λ next. run_events given next events)) one.1 ∙ rest.1,
      rest.2,
    )

-- ---- the numbers

pub next_is_above : (given : Given) (state : State) (batch : Batch) → next_batch given state ≡ Some batch → state.newest < batch.version
next_is_above given state batch e =
    ltb-true state.newest batch.version (found_passes (λ batch. nat_lt state.newest batch.version) (batches_to given.upto given.log) batch e)

-- what an Applied event does
pub applied_is : (given : Given) (state : State) (version : ℕ) (found : Option Batch) (next : State) → apply_next state version found ≡ Some next
    → (batch : Batch) × (found ≡ Some batch) × (batch.version ≡ version) × (after_batch state batch ≡ next)
applied_is given state version None next e = cc
applied_is given state version (Some batch) next e =
    let parts = only_if (batch.version == version) (after_batch state batch) next e in
    (batch, refl, eqb-true batch.version version parts.0, parts.1)

pub greatest_reaches : (bound first : ℕ) (log : List Batch) → first ≤ greatest_to bound first log
greatest_reaches bound first [] = le_refl first
greatest_reaches bound first (batch ∷ log) =
    cond_both (nat_lt first batch.version && nat_le batch.version bound) batch.version first (λ n. first ≤ greatest_to bound n log)
    (λ above. le_trans (omega (arith, ltb-true first batch.version (and_parts (nat_lt first batch.version) (nat_le batch.version bound) above).0))
    (greatest_reaches bound batch.version log))
    (λ _. greatest_reaches bound first log)

greatest_within : (bound first most : ℕ) (log : List Batch) → bound ≤ most → first ≤ most → greatest_to bound first log ≤ most
greatest_within bound first most [] within low = low
greatest_within bound first most (batch ∷ log) within low =
    cond_both (nat_lt first batch.version && nat_le batch.version bound) batch.version first (λ n. greatest_to bound n log ≤ most)
    (λ above. greatest_within bound batch.version most log within
    (le_trans (leb-true batch.version bound (and_parts (nat_lt first batch.version) (nat_le batch.version bound) above).1) within))
    (λ _. greatest_within bound first most log within low)

-- a commit's version lies between the durable one and the newest
pub commit_between : (given : Given) (state : State) → state.durable ≤ state.newest
    → (state.durable ≤ commit_version given state) × (commit_version given state ≤ state.newest)
commit_between given state low = (
  greatest_reaches (state.newest - given.settings.window) state.durable given.log,
  greatest_within (state.newest - given.settings.window) state.durable state.newest given.log (omega arith) low,
)

-- what a Began event does
pub began_is : (given : Given) (state : State) (version : ℕ) (next : State) → begin_commit given state version ≡ Some next
    → (state.flight ≡ None) × (version ≡ commit_version given state) × (began given state version ≡ next)
began_is given state version next e =
    let parts = only_if (commit_due given state && version == commit_version given state) (began given state version) next e in
    let tests = and_parts (commit_due given state) (version == commit_version given state) parts.0 in (
      none_of state.flight (and_parts (is_none state.flight) (nat_lt state.durable (commit_version given state) || list_any has_rows state.pieces) tests.0).0,
      eqb-true version (commit_version given state) tests.1,
      parts.1,
    )
  where
    none_of : {A : Type 0} (o : Option A) → is_none o ≡ true → o ≡ None
    none_of None e = refl
    none_of (Some x) e = cc

-- what a Durable event does
pub ended_is : (state : State) (version : ℕ) (found : Option Opening) (next : State) → end_commit state version found ≡ Some next
    → (flight : Opening) × (found ≡ Some flight) × (flight.version ≡ version) × (ended state flight ≡ next)
ended_is state version None next e = cc
ended_is state version (Some flight) next e =
    let parts = only_if (flight.version == version) (ended state flight) next e in
    (flight, refl, eqb-true flight.version version parts.0, parts.1)

-- the numbers of a state where its newest version rose, and nothing of commits changed
same_counts : (state : State) → NeverFell state state
same_counts state = record { newest = le_refl state.newest; oldest = le_refl state.oldest; durable = le_refl state.durable }

pub fell_never : (a b c : State) → NeverFell a b → NeverFell b c → NeverFell a c
fell_never a b c first second = record {
  newest = le_trans first.newest second.newest;
  oldest = le_trans first.oldest second.oldest;
  durable = le_trans first.durable second.durable;
}

if_some : {A : Type 0} (P Q : A → Type 0) (o : Option A) → ((x : A) → P x → Q x) → IfSome o P → IfSome o Q
if_some P Q None f h = h
if_some P Q (Some x) f h = f x h

-- where an event changes neither the versions nor the flight
abbrev KeepsCounts : State → State → Type 0
KeepsCounts state next = (IsCounted next) × NeverFell state next

counted_applied : (state : State) (batch : Batch) → IsCounted state → state.newest < batch.version → KeepsCounts state (after_batch state batch)
counted_applied state batch counted above = (
  record {
    oldest = counted.oldest;
    durable = le_trans counted.durable (omega arith);
    flight = if_some (λ flight. (state.durable ≤ flight.version) × (flight.version ≤ state.newest))
        (λ flight. (state.durable ≤ flight.version) × (flight.version ≤ batch.version)) state.flight
        (λ flight h. (h.0, le_trans h.1 (omega arith))) counted.flight;
  },
  record { newest = omega arith; oldest = le_refl state.oldest; durable = le_refl state.durable },
)

counted_began : (given : Given) (state : State) → IsCounted state → KeepsCounts state (began given state (commit_version given state))
counted_began given state counted = (
  record {
    oldest = counted.oldest;
    durable = counted.durable;
    flight = commit_between given state counted.durable;
  },
  record { newest = le_refl state.newest; oldest = le_refl state.oldest; durable = le_refl state.durable },
)

flight_is : (P : Opening → Type 0) (found : Option Opening) (flight : Opening) → found ≡ Some flight → IfSome found P → P flight
flight_is P found flight e h = subst (λ o. IfSome o P) e h

counted_ended : (state : State) (flight : Opening) → IsCounted state → state.flight ≡ Some flight → KeepsCounts state (ended state flight)
counted_ended state flight counted flies =
    let between = flight_is (λ flight. (state.durable ≤ flight.version) × (flight.version ≤ state.newest)) state.flight flight flies counted.flight in (
      record { oldest = refl; durable = between.1; flight = tt },
      record { newest = le_refl state.newest; oldest = subst (λ n. n ≤ flight.version) (sym counted.oldest) between.0; durable = between.0 },
    )

by_pieces : (state next : State) (pieces : List Piece) → IsCounted state → record state { pieces = pieces } ≡ next → KeepsCounts state next
by_pieces state next pieces counted e =
    subst (KeepsCounts state) e (
      record { oldest = counted.oldest; durable = counted.durable; flight = counted.flight },
      record { newest = le_refl state.newest; oldest = le_refl state.oldest; durable = le_refl state.durable },
    )

by_watches : (state next : State) (watches : List Watch) → IsCounted state → record state { watches = watches } ≡ next → KeepsCounts state next
by_watches state next watches counted e =
    subst (KeepsCounts state) e (
      record { oldest = counted.oldest; durable = counted.durable; flight = counted.flight },
      record { newest = le_refl state.newest; oldest = le_refl state.oldest; durable = le_refl state.durable },
    )

pub counted_step : (given : Given) (state : State) (event : Event) (next : State) → IsCounted state → step given state event ≡ Some next
    → KeepsCounts state next
counted_step given state (Opened version) next counted e = cc
counted_step given state (Applied version) next counted e =
    let is = applied_is given state version (next_batch given state) next e in
    subst (KeepsCounts state) is.3 (counted_applied state is.0 counted (next_is_above given state is.0 is.1))
counted_step given state (FetchStart begin at) next counted e =
    by_pieces state next _ counted (only_if _ _ next e).1
counted_step given state (Block begin upto) next counted e = by_pieces state next _ counted (only_if _ _ next e).1
counted_step given state (Split begin key) next counted e = by_pieces state next _ counted (only_if _ _ next e).1
counted_step given state (Began version) next counted e =
    let is = began_is given state version next e in
    subst (KeepsCounts state) (ap (began given state) (sym is.1) ∙ is.2) (counted_began given state counted)
counted_step given state (Durable version) next counted e =
    let is = ended_is state version state.flight next e in
    subst (KeepsCounts state) is.3 (counted_ended state is.0 counted is.1)
counted_step given state (Watched number key value) next counted e = by_watches state next _ counted (only_if _ _ next e).1
counted_step given state (Unwatched number) next counted e = by_watches state next _ counted (only_if _ _ next e).1
counted_step given state Closed next counted e = let same : state ≡ next = cc in subst (KeepsCounts state) same (counted, same_counts state)
counted_step given state Killed next counted e = let same : state ≡ next = cc in subst (KeepsCounts state) same (counted, same_counts state)

pub counted_first : (given : Given) (opening : Opening) → IsCounted (first_state given opening)
counted_first given opening = record { oldest = refl; durable = le_refl opening.version; flight = tt }

pub counted : (given : Given) (opening : Opening) (trace : List Event) (last : State) → state_after given opening trace ≡ Some last → IsCounted last
counted given opening trace last legal =
    by_trace given opening IsCounted (counted_first given opening)
    (λ state event next is e. (counted_step given state event next is e).0) trace last legal

-- ---- places of one trace

pub state_then : (given : Given) (opening : Opening) (trace : List Event) (place : ℕ) (last : State) → state_at given opening trace place ≡ Some last
    → (place ≤ length trace) × (state_after given opening (take place trace) ≡ Some last)
state_then given opening trace place last e =
    let parts = within (nat_le place (length trace)) (state_after given opening (take place trace)) last e in
    (leb-true place (length trace) parts.0, parts.1)
  where
    within : (test : Bool) (o : Option State) (last : State) → cond test o None ≡ Some last → (test ≡ true) × (o ≡ Some last)
    within true o last e = (refl, e)
    within false o last e = cc

-- the state after a part of a trace
pub state_before : (given : Given) (opening : Opening) (events more : List Event) (last before : State)
    → state_after given opening (events ++ more) ≡ Some last → state_after given opening events ≡ Some before
    → run_events given before more ≡ Some last
state_before given opening [] more last before legal h = cc
state_before given opening (event ∷ events) more last before legal h =
    let whole = opens given opening (event ∷ (events ++ more)) last legal in
    let part = opens given opening (event ∷ events) before h in
    let rest : events ++ more ≡ whole.0 = cons_inj whole.1 in
    let same : events ≡ part.0 = cons_inj part.1 in
    let both = parted given (first_state given opening) events more last (subst (λ es. run_events given (first_state given opening) es ≡ Some last) (sym rest) whole.2) in
    let between : Some both.0 ≡ Some before = sym both.1 ∙ ap (run_events given (first_state given opening)) same ∙ part.2 in
    let is : both.0 ≡ before = cc in
    subst (λ state. run_events given state more ≡ Some last) is both.2
  where
    cons_inj : {A : Type 0} {x y : A} {xs ys : List A} → (x ∷ xs) ≡ (y ∷ ys) → xs ≡ ys
    cons_inj e = cc

pub fell_never_since : (given : Given) (before : State) (more : List Event) (last : State) → IsCounted before → run_events given before more ≡ Some last
    → NeverFell before last
fell_never_since given before more last is run =
    (by_steps given (λ state. IsCounted state × NeverFell before state)
    (λ state event next h e.
    let step = counted_step given state event next h.0 e in
    (step.0, fell_never before state next h.1 step.1)) before more last (is, same_counts before) run).1

-- the events up to a place are those up to an earlier one and others
cut_at : {A : Type 0} (xs : List A) (early late : ℕ) → early ≤ late → late ≤ length xs → take late xs ≡ take early xs ++ drop early (take late xs)
cut_at xs early late low within =
    let is : length (take late xs) ≡ late = length-take-le late xs within in
    let short : early ≤ length (take late xs) = omega arith in
    sym (ap (λ ys. ys ++ drop early (take late xs))
    (ap (take early) (sym (take-append-drop late xs)) ∙ take-append-le early (take late xs) (drop late xs) short)
    ∙ take-append-drop early (take late xs))

pub never_fell : (given : Given) (opening : Opening) (trace : List Event) (early late : ℕ) (before after : State) → early ≤ late
    → state_at given opening trace early ≡ Some before → state_at given opening trace late ≡ Some after → NeverFell before after
never_fell given opening trace early late before after low first second =
    let early_is = state_then given opening trace early before first in
    let late_is = state_then given opening trace late after second in
    fell_never_since given before (drop early (take late trace)) after
    (counted given opening (take early trace) before early_is.1)
    (state_before given opening (take early trace) (drop early (take late trace)) after before
    (ap (state_after given opening) (sym (cut_at trace early late low late_is.0)) ∙ late_is.1) early_is.1)

-- the events before a place of a legal trace are a legal trace
pub is_legal_to : (given : Given) (opening : Opening) (trace : List Event) (last : State) (place : ℕ) → state_after given opening trace ≡ Some last
    → 1 ≤ place → place ≤ length trace → (state : State) × (state_at given opening trace place ≡ Some state)
is_legal_to given opening trace last place legal least most =
    let whole = opens given opening trace last legal in
    let long : suc (length whole.0) ≡ length trace = ap length (sym whole.1) in
    let split : take (place - 1) whole.0 ++ drop (place - 1) whole.0 ≡ whole.0 = take-append-drop (place - 1) whole.0 in
    let part = parted given (first_state given opening) (take (place - 1) whole.0) (drop (place - 1) whole.0) last
    (ap (run_events given (first_state given opening)) split ∙ whole.2) in
    let begins : take place trace ≡ Opened opening.version ∷ take (place - 1) whole.0 =
    ap (take place) whole.1 ∙ ap (λ n. take n (Opened opening.version ∷ whole.0)) from_one in (
      part.0,
      cond-true (nat_le place (length trace)) (state_after given opening (take place trace)) None (le-leb place (length trace) most)
          ∙ ap (state_after given opening) begins
          ∙ cond-true (opening.version == opening.version) (run_events given (first_state given opening) (take (place - 1) whole.0)) None
          (eq-eqb opening.version opening.version refl)
          ∙ part.1,
    )
  where
    from_one : place ≡ suc (place - 1)
    from_one = omega arith
