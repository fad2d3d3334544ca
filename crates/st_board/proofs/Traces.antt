-- An event more in a legal trace.
use Rattle.std.proofs.Common.{◌≡◌, ◌∙◌, ◌++◌, ◌&&◌, ◌||◌, ◌==◌, ℕ, Bool, true, false, cond, nat_lt, List, [], ◌∷◌, length, Option, Some, None, option_and_then, refl, sym, ap, subst}
use Rattle.std.specs.List.{list_any}
use Rattle.std.proofs.lemmas.Bool.{false≢true}
use Rattle.std.proofs.lemmas.Option.{same_Some}
use Rattle.st_course.specs.Course.{Course, behind, course_of}
use Rattle.st_fold.specs.declared.report.Event.{Event}
use Rattle.st_fold.specs.declared.report.Event.TheVariants.{Opened, Applied, FetchStart, Block, Split, Began, Durable, Watched, Unwatched, Closed, Killed}
use Rattle.st_model.specs.State.{Given, Opening, State, first_state, step}
use Rattle.st_model.specs.Trace.{is_end, run_events, state_after}

-- the law of a course with one event more
abbrev pub CourseGoesOn : Type 0
CourseGoesOn = (given : Given) (opening : Opening) (fresh : Bool) (trace : List Event) (state next : State) (event : Event) (course : Course)
    → state_after given opening trace ≡ Some state → course_of given opening fresh trace ≡ Some course → step given state event ≡ Some next
    → course_of given opening fresh (trace ++ event ∷ []) ≡ Some (behind given course event next)

pub or_false : (a b : Bool) → (a || b) ≡ false → (a ≡ false) × (b ≡ false)
or_false true b is = absurd (false≢true (sym is))
or_false false b is = (refl, is)

last_event : (given : Given) (state next : State) (event : Event) → step given state event ≡ Some next → run_events given state (event ∷ []) ≡ Some next
last_event given state next event is = by_end (is_end event)
  where
    by_end : (t : Bool) → cond (t && nat_lt 0 0) None (option_and_then (λ n. run_events given n []) (step given state event)) ≡ Some next
    by_end true = ap (option_and_then (λ n. run_events given n [])) is
    by_end false = ap (option_and_then (λ n. run_events given n [])) is

run-more : (given : Given) (event : Event) (last next : State) → step given last event ≡ Some next → (events : List Event) (state : State) → list_any is_end events ≡ false
    → run_events given state events ≡ Some last → run_events given state (events ++ event ∷ []) ≡ Some next
run-more given event last next is [] state going run = last_event given state next event (ap (λ s. step given s event) (same_Some state last run) ∙ is)
run-more given event last next is (e ∷ events) state going run =
    passed (events ++ event ∷ [])
    ∙ by_step (step given state e) (sym (passed events) ∙ run) (λ s ran. run-more given event last next is events s parts.1 ran)
  where
    parts : (is_end e ≡ false) × (list_any is_end events ≡ false)
    parts = or_false (is_end e) (list_any is_end events) going

    passed : (later : List Event) → run_events given state (e ∷ later) ≡ option_and_then (λ n. run_events given n later) (step given state e)
    passed later = ap (λ (t : Bool). cond (t && nat_lt 0 (length later)) None (option_and_then (λ n. run_events given n later) (step given state e))) parts.0

    by_step : (o : Option State) → option_and_then (λ n. run_events given n events) o ≡ Some last → ((s : State) → run_events given s events ≡ Some last → run_events given s (events ++ event ∷ []) ≡ Some next)
        → option_and_then (λ n. run_events given n (events ++ event ∷ [])) o ≡ Some next
    by_step None ran more = absurd (cc (ran))
    by_step (Some s) ran more = more s ran

-- a legal trace opens at the opening's version, and its other events run from the state there
pub record IsOpened (given : Given) (opening : Opening) (trace : List Event) (last : State) : Type 0 where
  pub version : ℕ
  pub events : List Event
  pub is : trace ≡ Opened version ∷ events
  pub at : (version == opening.version) ≡ true
  pub run : run_events given (first_state given opening) events ≡ Some last

pub opened : (given : Given) (opening : Opening) (trace : List Event) (last : State) → state_after given opening trace ≡ Some last → IsOpened given opening trace last
opened given opening [] last legal = absurd (cc (legal))
opened given opening (Opened version ∷ events) last legal = by_test (version == opening.version) refl
  where
    as_tested : (t : Bool) → (version == opening.version) ≡ t → cond t (run_events given (first_state given opening) events) None ≡ Some last
    as_tested t is = sym (ap (λ (t : Bool). cond t (run_events given (first_state given opening) events) None) is) ∙ legal

    by_test : (t : Bool) → (version == opening.version) ≡ t → IsOpened given opening (Opened version ∷ events) last
    by_test true here = record { version = version; events = events; is = refl; at = here; run = as_tested true here }
    by_test false here = absurd (cc (as_tested false here))
opened given opening (Applied version ∷ events) last legal = absurd (cc (legal))
opened given opening (FetchStart begin at ∷ events) last legal = absurd (cc (legal))
opened given opening (Block begin upto ∷ events) last legal = absurd (cc (legal))
opened given opening (Split begin key ∷ events) last legal = absurd (cc (legal))
opened given opening (Began version ∷ events) last legal = absurd (cc (legal))
opened given opening (Durable version ∷ events) last legal = absurd (cc (legal))
opened given opening (Watched number key value ∷ events) last legal = absurd (cc (legal))
opened given opening (Unwatched number ∷ events) last legal = absurd (cc (legal))
opened given opening (Closed ∷ events) last legal = absurd (cc (legal))
opened given opening (Killed ∷ events) last legal = absurd (cc (legal))

-- the trace with one event more leads to the state behind it
pub legal-more : (given : Given) (opening : Opening) (trace : List Event) (event : Event) (last next : State) → state_after given opening trace ≡ Some last → list_any is_end trace ≡ false → step given last event ≡ Some next
    → state_after given opening (trace ++ event ∷ []) ≡ Some next
legal-more given opening trace event last next legal going is =
    let o = opened given opening trace last legal in
    ap (λ t. state_after given opening (t ++ event ∷ [])) o.is
    ∙ ap (λ (t : Bool). cond t (run_events given (first_state given opening) (o.events ++ event ∷ [])) None) o.at
    ∙ run-more given event last next is o.events (first_state given opening) (subst (λ t. list_any is_end t ≡ false) o.is going) o.run

pub goes-on-more : (trace : List Event) (event : Event) → list_any is_end trace ≡ false → is_end event ≡ false → list_any is_end (trace ++ event ∷ []) ≡ false
goes-on-more [] event going is = ap (λ t. t || false) is
goes-on-more (e ∷ trace) event going is =
    let parts = or_false (is_end e) (list_any is_end trace) going in
    ap (λ t. t || list_any is_end (trace ++ event ∷ [])) parts.0 ∙ goes-on-more trace event parts.1 is
