-- Lives and reports that are demanded, by tests that compute.
use Rattle.std.proofs.Common.{◌≡◌, ◌≢◌, ℕ, ◌+◌, ◌*◌, ◌<◌, Bool, true, false, ◌&&◌, nat_lt, nat_le, ◌==◌, List, [], ◌∷◌, ◌++◌, length, All, Option, Some, None, is_some, refl, sym, ap, ◌∙◌, subst, inl, inr, ◌⊎◌, arith, le_refl}
use Rattle.std.proofs.lemmas.List.{same_from_push}
use Rattle.std.proofs.lemmas.Bool.{and_parts, cases_Bool, cond-false, eqb-true, leb-true, ltb-true, or_cases, or_parts}
use Rattle.std.specs.List.{AllByRecursion, list_all, list_any}
use Rattle.std.specs.Option.{option_map_or}
use Rattle.st_fold.specs.declared.plan.LifePlan.{LifePlan}
use Rattle.st_fold.specs.declared.plan.Script.{Script}
use Rattle.st_fold.specs.declared.report.Answered.{Answered}
use Rattle.st_fold.specs.declared.report.Ending.TheVariants as ending
use Rattle.st_fold.specs.declared.report.Event.{Event}
use Rattle.st_fold.specs.declared.report.Event.TheVariants.{Closed, Killed}
use Rattle.st_fold.specs.declared.report.Fault.{Fault}
use Rattle.st_fold.specs.declared.report.Life.{Life}
use Rattle.st_fold.specs.declared.request.Answer.{Answer}
use Rattle.st_fold.specs.declared.request.Answer.TheVariants as answer
use Rattle.st_fold.specs.declared.request.Request.{Request}
use Rattle.st_fold.specs.Endings.{status_of}
use Rattle.st_model.specs.Report.{AllAnswered, AreAnswered, AreLives, Begun, HasCause, EndsWithin, IsClosed, IsDemanded, IsKilled, IsLife, MayFollow, Ends, all_behind, are_named, blocks, commits, ends_life, fresh, given_by, is_faulted, may_split, places_of, requests_of}
use Rattle.st_model.specs.Session.{NeverFalls}
use Rattle.st_model.specs.State.{Given, Opening, State}
use Rattle.st_model.specs.Trace.{is_at_rest, is_end, state_after}
use Rattle.st_model.proofs.Lists.{all_at}
use Rattle.st_model.proofs.Reports.{closed_alone}
use Rattle.st_model.proofs.RowParts.{life}

-- ---- tests of lists

pub all_by_test : {A : Type 0} (P : A → Type 0) (test : A → Bool) → ((x : A) → test x ≡ true → P x) → (xs : List A)
    → list_all test xs ≡ true → All P xs
all_by_test {A = A} P test each xs all = all_at P xs (by xs all)
  where
    by : (ys : List A) → list_all test ys ≡ true → AllByRecursion P ys
    by [] passed = tt
    by (y ∷ ys) passed =
        let parts = and_parts (test y) (list_all test ys) passed in
        (each y parts.0, by ys parts.1)

abbrev pub never_falls : List ℕ → Bool
never_falls [] = true
never_falls (place ∷ []) = true
never_falls (place ∷ next ∷ places) = nat_le place next && never_falls (next ∷ places)

falls_nowhere : (places : List ℕ) → never_falls places ≡ true → NeverFalls places
falls_nowhere [] passed = tt
falls_nowhere (place ∷ []) passed = (tt, tt)
falls_nowhere (place ∷ next ∷ places) passed =
    let parts = and_parts (nat_le place next) (never_falls (next ∷ places)) passed in
    (leb-true place next parts.0, falls_nowhere (next ∷ places) parts.1)

-- a reader that asked nothing polled nowhere
not_polled : (reader : ℕ) (requests : List Request) (answers : List Answered)
    → list_any (λ request. request.reader == reader) requests ≡ false → places_of reader requests answers ≡ []
not_polled reader [] answers none = refl
not_polled reader (request ∷ requests) [] none = refl
not_polled reader (request ∷ requests) (answered ∷ answers) none =
    let parts = or_parts (request.reader == reader) (list_any (λ other. other.reader == reader) requests) none in
    cond-false (request.reader == reader) (answered.places ++ places_of reader requests answers) (places_of reader requests answers) parts.0
    ∙ not_polled reader requests answers parts.1

-- what each reader passes that asked something
passes : (test : ℕ → Bool) (reader : ℕ) (requests : List Request) → list_any (λ request. request.reader == reader) requests ≡ true
    → list_all (λ request. test request.reader) requests ≡ true → test reader ≡ true
passes test reader [] some all = cc
passes test reader (request ∷ requests) some all =
    let parts = and_parts (test request.reader) (list_all (λ other. test other.reader) requests) all in
    elim (or_cases (request.reader == reader) (list_any (λ other. other.reader == reader) requests) some) [
      | inl here ↦ subst (λ r. test r ≡ true) (eqb-true request.reader reader here) parts.0
      | inr there ↦ passes test reader requests there parts.1
    ]

-- the places of no reader fall
abbrev pub none_falls : List Request → List Answered → Bool
none_falls requests answers = list_all (λ request. never_falls (places_of request.reader requests answers)) requests

in_order : (requests : List Request) (answers : List Answered) → none_falls requests answers ≡ true
    → (reader : ℕ) → NeverFalls (places_of reader requests answers)
in_order requests answers passed reader =
    elim (cases_Bool (list_any (λ request. request.reader == reader) requests)) [
      | inl some ↦ falls_nowhere (places_of reader requests answers)
          (passes (λ r. never_falls (places_of r requests answers)) reader requests some passed)
      | inr none ↦ subst NeverFalls (sym (not_polled reader requests answers none)) tt
    ]

-- ---- lives

abbrev not_stopped : Answer → Bool
not_stopped answer.Stopped = false
not_stopped other = true

-- no answer is that the request was stopped
abbrev pub none_stopped : List Answered → Bool
none_stopped answers = list_all (λ answered. not_stopped answered.answer) answers

all_answered : (life : Life) → none_stopped life.answers ≡ true → AllAnswered life
all_answered life passed =
    all_by_test (λ answered. answered.answer ≢ answer.Stopped) (λ answered. not_stopped answered.answer)
    (λ answered is stopped. let e : false ≡ true = sym (ap not_stopped stopped) ∙ is in cc) life.answers passed

-- the state where one is there and passes the test
found : (test : State → Bool) (o : Option State) → option_map_or test o false ≡ true
    → (state : State) × (o ≡ Some state) × (test state ≡ true)
found test None passed = cc
found test (Some state) passed = (state, refl, passed)

-- a life that came to rest after these events, and was closed there
pub closed : (given : Given) (opening : Opening) (plan : LifePlan) (life : Life) (events : List Event) → life.trace ≡ events ++ Closed ∷ []
    → option_map_or (is_at_rest given) (state_after given opening events) false ≡ true
    → plan.kill ≡ None → none_stopped life.answers ≡ true
    → list_all (λ place. place == length events) (places_of 0 (requests_of plan) life.answers) ≡ true
    → IsClosed given opening plan life
closed given opening plan life events trace rests to_close answered lasts =
    let at = found (is_at_rest given) (state_after given opening events) rests in
    record {
      events = events;
      state = at.0;
      trace = trace;
      after = at.1;
      at_rest = at.2;
      to_close = to_close;
      all_answered = all_answered life answered;
      lasts = all_by_test (λ place. place ≡ length events) (λ place. place == length events)
          (λ place. eqb-true place (length events)) (places_of 0 (requests_of plan) life.answers) lasts;
    }

-- one that came to rest, and was killed there
pub killed_at_rest : (given : Given) (opening : Opening) (plan : LifePlan) (life : Life) (events : List Event) (calls choice : ℕ)
    → life.trace ≡ events ++ Killed ∷ [] → plan.kill ≡ Some (calls, choice)
    → option_map_or (is_at_rest given) (state_after given opening events) false ≡ true
    → none_stopped life.answers ≡ true → IsKilled given opening plan life
killed_at_rest given opening plan life events calls choice trace to_kill rests answered =
    let at = found (is_at_rest given) (state_after given opening events) rests in
    record {
      events = events;
      state = at.0;
      calls = calls;
      choice = choice;
      trace = trace;
      after = at.1;
      to_kill = to_kill;
      by = inl (at.2, all_answered life answered);
    }

-- one that was killed in the middle of a commit, between as many calls as it may have made by then
pub killed_in_flight : (given : Given) (opening : Opening) (plan : LifePlan) (life : Life) (events : List Event) (calls choice : ℕ)
    → life.trace ≡ events ++ Killed ∷ [] → plan.kill ≡ Some (calls, choice)
    → option_map_or (λ state. is_some state.flight) (state_after given opening events) false ≡ true
    → nat_le (4 * commits events) calls ≡ true → nat_lt calls (10 * (commits events + 1)) ≡ true
    → IsKilled given opening plan life
killed_in_flight given opening plan life events calls choice trace to_kill flies least most =
    let at = found (λ state. is_some state.flight) (state_after given opening events) flies in
    record {
      events = events;
      state = at.0;
      calls = calls;
      choice = choice;
      trace = trace;
      after = at.1;
      to_kill = to_kill;
      by = inr (at.2, (leb-true (4 * commits events) calls least, ltb-true calls (10 * (commits events + 1)) most));
    }

-- a life whose parts pass each its test
pub is_life : (given : Given) (opening : Opening) (plan : LifePlan) (life : Life) → life.opened ≡ opening.version
    → is_some (state_after given opening life.trace) ≡ true
    → AreAnswered given opening life (requests_of plan) life.answers
    → are_named (requests_of plan) life ≡ true
    → none_falls (requests_of plan) life.answers ≡ true
    → all_behind (may_split given opening plan.cuts) [] life.trace ≡ true
    → list_all (λ fails. nat_lt (blocks life.trace) fails) plan.peerfails ≡ true
    → Ends given opening plan life life.ending
    → IsLife given opening plan life
is_life given opening plan life opened legal answered named falls split fetched ends = record {
  opened = opened;
  legal = legal;
  answered = answered;
  named = named;
  in_order = in_order (requests_of plan) life.answers falls;
  split = split;
  fetched = all_by_test (λ fails. blocks life.trace < fails) (λ fails. nat_lt (blocks life.trace) fails)
      (λ fails. ltb-true (blocks life.trace) fails) plan.peerfails fetched;
  ends = ends;
}

-- a life that came to rest after these events, and was closed there
pub closes : (given : Given) (opening : Opening) (plan : LifePlan) (events : List Event) (answers : List Answered)
    → AreAnswered given opening (life opening.version events answers ending.Closed) (requests_of plan) answers
    → is_some (state_after given opening (events ++ Closed ∷ [])) ≡ true
    → are_named (requests_of plan) (life opening.version events answers ending.Closed) ≡ true
    → none_falls (requests_of plan) answers ≡ true
    → all_behind (may_split given opening plan.cuts) [] (events ++ Closed ∷ []) ≡ true
    → list_all (λ fails. nat_lt (blocks (events ++ Closed ∷ [])) fails) plan.peerfails ≡ true
    → option_map_or (is_at_rest given) (state_after given opening events) false ≡ true
    → plan.kill ≡ None → none_stopped answers ≡ true
    → list_all (λ place. place == length events) (places_of 0 (requests_of plan) answers) ≡ true
    → IsLife given opening plan (life opening.version events answers ending.Closed)
closes given opening plan events answers answered legal named falls split fetched rests to_close all lasts =
    is_life given opening plan (life opening.version events answers ending.Closed) refl legal answered named falls split fetched
    (closed given opening plan (life opening.version events answers ending.Closed) events refl rests to_close all lasts)

-- a life that a fault ended after these events
pub faults : (given : Given) (opening : Opening) (plan : LifePlan) (events : List Event) (answers : List Answered)
    → AreAnswered given opening (life opening.version events answers ending.Faulted) (requests_of plan) answers
    → is_some (state_after given opening (events ++ [])) ≡ true
    → are_named (requests_of plan) (life opening.version events answers ending.Faulted) ≡ true
    → none_falls (requests_of plan) answers ≡ true
    → all_behind (may_split given opening plan.cuts) [] (events ++ []) ≡ true
    → list_all (λ fails. nat_lt (blocks (events ++ [])) fails) plan.peerfails ≡ true
    → list_any is_end (events ++ []) ≡ false
    → IsLife given opening plan (life opening.version events answers ending.Faulted)
faults given opening plan events answers answered legal named falls split fetched no_end =
    is_life given opening plan (life opening.version events answers ending.Faulted) refl legal answered named falls split fetched no_end

-- a life that came to rest after these events, and was killed there
pub dies_at_rest : (given : Given) (opening : Opening) (plan : LifePlan) (events : List Event) (answers : List Answered) (calls choice : ℕ)
    → AreAnswered given opening (life opening.version events answers ending.Killed) (requests_of plan) answers
    → is_some (state_after given opening (events ++ Killed ∷ [])) ≡ true
    → are_named (requests_of plan) (life opening.version events answers ending.Killed) ≡ true
    → none_falls (requests_of plan) answers ≡ true
    → all_behind (may_split given opening plan.cuts) [] (events ++ Killed ∷ []) ≡ true
    → list_all (λ fails. nat_lt (blocks (events ++ Killed ∷ [])) fails) plan.peerfails ≡ true
    → plan.kill ≡ Some (calls, choice)
    → option_map_or (is_at_rest given) (state_after given opening events) false ≡ true → none_stopped answers ≡ true
    → IsLife given opening plan (life opening.version events answers ending.Killed)
dies_at_rest given opening plan events answers calls choice answered legal named falls split fetched to_kill rests all =
    is_life given opening plan (life opening.version events answers ending.Killed) refl legal answered named falls split fetched
    (killed_at_rest given opening plan (life opening.version events answers ending.Killed) events calls choice refl to_kill rests all)

-- a life that was killed after these events, in the middle of a commit
pub dies_in_flight : (given : Given) (opening : Opening) (plan : LifePlan) (events : List Event) (answers : List Answered) (calls choice : ℕ)
    → AreAnswered given opening (life opening.version events answers ending.Killed) (requests_of plan) answers
    → is_some (state_after given opening (events ++ Killed ∷ [])) ≡ true
    → are_named (requests_of plan) (life opening.version events answers ending.Killed) ≡ true
    → none_falls (requests_of plan) answers ≡ true
    → all_behind (may_split given opening plan.cuts) [] (events ++ Killed ∷ []) ≡ true
    → list_all (λ fails. nat_lt (blocks (events ++ Killed ∷ [])) fails) plan.peerfails ≡ true
    → plan.kill ≡ Some (calls, choice)
    → option_map_or (λ state. is_some state.flight) (state_after given opening events) false ≡ true
    → nat_le (4 * commits events) calls ≡ true → nat_lt calls (10 * (commits events + 1)) ≡ true
    → IsLife given opening plan (life opening.version events answers ending.Killed)
dies_in_flight given opening plan events answers calls choice answered legal named falls split fetched to_kill flies least most =
    is_life given opening plan (life opening.version events answers ending.Killed) refl legal answered named falls split fetched
    (killed_in_flight given opening plan (life opening.version events answers ending.Killed) events calls choice refl to_kill flies least
    most)

-- what a life was killed in
pub how_killed : (given : Given) (opening : Opening) (plan : LifePlan) (events : List Event) (answers : List Answered) (calls choice : ℕ)
    → plan.kill ≡ Some (calls, choice) → IsLife given opening plan (life opening.version events answers ending.Killed)
    → ((option_map_or (is_at_rest given) (state_after given opening events) false ≡ true)
    × AllAnswered (life opening.version events answers ending.Killed))
    ⊎ ((option_map_or (λ state. is_some state.flight) (state_after given opening events) false ≡ true) × EndsWithin (commits events) calls)
how_killed given opening plan events answers calls choice to_kill is_life =
    elim is_life.ends.by [
      | inl rest ↦ inl (ap (λ o. option_map_or (is_at_rest given) o false) after ∙ rest.0, rest.1)
      | inr flight ↦ inr (
        ap (λ o. option_map_or (λ state. is_some state.flight) o false) after ∙ flight.0,
        subst (EndsWithin (commits events)) (ap (λ o. option_map_or (λ (kill : ℕ × ℕ). kill.0) o 0) (sym is_life.ends.to_kill ∙ to_kill))
            (subst (λ es. EndsWithin (commits es) is_life.ends.calls) (sym same) flight.1),
      )
    ]
  where
    same : events ≡ is_life.ends.events
    same = (same_from_push events is_life.ends.events Killed Killed is_life.ends.trace).0

    after : state_after given opening events ≡ Some is_life.ends.state
    after = ap (state_after given opening) same ∙ is_life.ends.after

-- how many events came before the end where a life was closed that answered one request there, and where this was
pub last_place : (given : Given) (opening : Opening) (plan : LifePlan) (events : List Event) (answers : List Answered) (place : ℕ)
    → places_of 0 (requests_of plan) answers ≡ place ∷ []
    → IsLife given opening plan (life opening.version events answers ending.Closed) → place ≡ length events
last_place given opening plan events answers place one is_life =
    subst (λ places. All (λ (p : ℕ). p ≡ length is_life.ends.events) places) one is_life.ends.lasts 0 0 (le_refl 1)
    ∙ ap length (sym (same_from_push events is_life.ends.events Closed Closed is_life.ends.trace).0)

-- ---- reports

abbrev pub begun : LifePlan → Opening → Life → Begun
begun plan opening life = record { plan = plan; opening = opening; life = life }

-- the two lives of a script, neither of which faulted
pub two_lives : (script : Script) (first second : Begun) → script.lives ≡ first.plan ∷ second.plan ∷ []
    → first.opening ≡ fresh script → IsLife (given_by script first.plan) first.opening first.plan first.life
    → is_faulted first.life.ending ≡ false → MayFollow script first second.opening
    → IsLife (given_by script second.plan) second.opening second.plan second.life → is_faulted second.life.ending ≡ false
    → IsDemanded script (fresh script) 0 None (first ∷ second ∷ [])
two_lives script first second lives opens is_first first_ends follows is_second second_ends = record {
  lives_are = subst (λ plans. AreLives script (λ opening. opening ≡ fresh script) plans (first ∷ second ∷ [])) (sym lives)
      (refl, opens, is_first, (λ faulted. no first_ends faulted), (refl, follows, is_second, (λ _. refl), tt));
  all_lives = λ _. ap length (sym lives);
  status_is = refl;
  faulted = all_at (λ (one : Begun). is_faulted one.life.ending ≡ true → ends_life None ≡ true) (first ∷ second ∷ [])
      ((λ faulted. no first_ends faulted), ((λ faulted. no second_ends faulted), tt));
  cause = tt;
}
  where
    no : {A : Type 0} {how : Bool} → how ≡ false → how ≡ true → A
    no is_not is = absurd (let e : false ≡ true = sym is_not ∙ is in cc)

-- the first life of a script, which a fault ended
pub ends_faulted : (script : Script) (plan : LifePlan) (plans : List LifePlan) (life : Life) (why : Fault) → script.lives ≡ plan ∷ plans
    → IsLife (given_by script plan) (fresh script) plan life → ends_life (Some why) ≡ true → status_of (Some why) ≢ 0
    → HasCause script (begun plan (fresh script) life ∷ []) (Some why)
    → IsDemanded script (fresh script) (status_of (Some why)) (Some why) (begun plan (fresh script) life ∷ [])
ends_faulted script plan plans life why lives is_life may not_zero caused = record {
  lives_are = subst (λ all. AreLives script (λ opening. opening ≡ fresh script) all (begun plan (fresh script) life ∷ [])) (sym lives)
      (refl, refl, is_life, (λ _. refl), tt);
  all_lives = λ zero. absurd (not_zero zero);
  status_is = refl;
  faulted = all_at (λ (one : Begun). is_faulted one.life.ending ≡ true → ends_life (Some why) ≡ true) (begun plan (fresh script) life ∷ [])
      ((λ _. may), tt);
  cause = caused;
}

-- a script's only life, which came to rest after these events, and was closed there
pub closes_alone : (script : Script) (plan : LifePlan) (events : List Event) (answers : List Answered) → script.lives ≡ plan ∷ []
    → IsLife (given_by script plan) (fresh script) plan (life 0 events answers ending.Closed)
    → IsDemanded script (fresh script) 0 None (begun plan (fresh script) (life 0 events answers ending.Closed) ∷ [])
closes_alone script plan events answers lives is_life =
    closed_alone script (fresh script) plan (life 0 events answers ending.Closed) lives is_life refl
