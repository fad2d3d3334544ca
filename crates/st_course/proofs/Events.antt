-- The course of a legal trace, and an event more.
use Rattle.std.proofs.Common.{◌≡◌, ◌∙◌, ◌++◌, ◌&&◌, ◌==◌, ℕ, Bool, true, false, not, cond, nat_lt, List, [], ◌∷◌, drop, length, Option, Some, None, option_and_then, refl, sym, ap, subst}
use Rattle.std.specs.Option.{option_map}
use Rattle.std.proofs.lemmas.Option.{same_Some}
use Rattle.st_fold.specs.declared.report.Event.{Event}
use Rattle.st_fold.specs.declared.report.Event.TheVariants.{Opened, Applied, FetchStart, Block, Split, Began, Durable, Watched, Unwatched, Closed, Killed}
use Rattle.st_model.specs.Pieces.{begins, serves, stops_at, takes_block, wants_fetch}
use Rattle.st_model.specs.State.{Given, Opening, State, after_batch, apply_next, began, commit_due, commit_version, end_commit, ended, first_state, is_registered, next_batch, step}
use Rattle.st_model.specs.Trace.{is_end, run_events, state_after}
use Rattle.st_mutation.specs.declared.batch.Batch.{Batch}
use Rattle.st_course.specs.Course.{Course, behind, course_of, course_on, first_course}
use Rattle.st_course.specs.Jobs.{job_of}
use Rattle.st_course.specs.declared.job.CommitJob.{CommitJob}

-- the state of the course behind an event is the one that the event leads to
behind-state : (given : Given) (course : Course) (event : Event) (next : State) → (behind given course event next).state ≡ next
behind-state given course (Opened version) next = refl
behind-state given course (Applied version) next = refl
behind-state given course (FetchStart begin at) next = refl
behind-state given course (Block begin upto) next = refl
behind-state given course (Split begin key) next = refl
behind-state given course (Began version) next = refl
behind-state given course (Durable version) next = refl
behind-state given course (Watched number key value) next = refl
behind-state given course (Unwatched number) next = refl
behind-state given course Closed next = refl
behind-state given course Killed next = refl

-- events that run to a state lead a course there
on-run : (given : Given) (events : List Event) (course : Course) (last : State) → run_events given course.state events ≡ Some last
    → option_map (λ c. c.state) (course_on given course events) ≡ Some last
on-run given [] course last run = run
on-run given (event ∷ events) course last run =
    by_end (is_end event && nat_lt 0 (length events)) run
    (λ next ran. on-run given events (behind given course event next) last (ap (λ s. run_events given s events) (behind-state given course event next) ∙ ran))
  where
    Later : Type 0
    Later = (next : State) → run_events given next events ≡ Some last → option_map (λ c. c.state) (course_on given (behind given course event next) events) ≡ Some last

    by_step : (o : Option State) → option_and_then (λ next. run_events given next events) o ≡ Some last → Later
        → option_map (λ c. c.state) (option_and_then (λ next. course_on given (behind given course event next) events) o) ≡ Some last
    by_step None ran later = absurd (cc (ran))
    by_step (Some next) ran later = later next ran

    by_end : (t : Bool) → cond t None (option_and_then (λ next. run_events given next events) (step given course.state event)) ≡ Some last → Later
        → option_map (λ c. c.state) (option_and_then (λ next. course_on given (behind given course event next) events) (step given course.state event)) ≡ Some last
    by_end true ran later = absurd (cc (ran))
    by_end false ran later = by_step (step given course.state event) ran later

-- ---- the job in flight

abbrev job_version : Option CommitJob → Option ℕ
job_version job = option_map (λ j. j.version) job

abbrev flight_version : Option Opening → Option ℕ
flight_version flight = option_map (λ f. f.version) flight

-- a job is in flight exactly where a commit is, and has its version
abbrev IsFlown : Course → Type 0
IsFlown course = job_version course.job ≡ flight_version course.state.flight

tested : (t : Bool) (made next : State) → cond t (Some made) None ≡ Some next → made ≡ next
tested true made next is = same_Some made next is
tested false made next is = absurd (cc (is))

kept-flown : (course : Course) (made next : State) → IsFlown course → made.flight ≡ course.state.flight → made ≡ next → job_version course.job ≡ flight_version next.flight
kept-flown course made next flown same is = flown ∙ ap flight_version (sym same) ∙ ap (λ (s : State). flight_version s.flight) is

flown-behind : (given : Given) (course : Course) (event : Event) (next : State) → step given course.state event ≡ Some next → IsFlown course
    → job_version (behind given course event next).job ≡ flight_version next.flight
flown-behind given course (Opened version) next is flown = absurd (cc (is))
flown-behind given course (Applied version) next is flown = by_batch (next_batch given course.state) is
  where
    by_batch : (o : Option Batch) → apply_next course.state version o ≡ Some next → job_version course.job ≡ flight_version next.flight
    by_batch None is = absurd (cc (is))
    by_batch (Some batch) is = kept-flown course (after_batch course.state batch) next flown refl (tested (batch.version == version) (after_batch course.state batch) next is)
flown-behind given course (FetchStart begin at) next is flown =
    kept-flown course _ next flown refl (tested (begins (wants_fetch course.state.durable) begin course.state.pieces && at == course.state.newest) _ next is)
flown-behind given course (Block begin upto) next is flown =
    kept-flown course _ next flown refl (tested (begins (takes_block upto) begin course.state.pieces) _ next is)
flown-behind given course (Split begin key) next is flown =
    kept-flown course _ next flown refl (tested (begins (stops_at key) begin course.state.pieces) _ next is)
flown-behind given course (Began version) next is flown =
    let made = tested (commit_due given course.state && version == commit_version given course.state) (began given course.state version) next is in
    subst (λ (s : State). job_version (option_map (job_of given course.clears course.sent s) s.flight) ≡ flight_version s.flight) made refl
flown-behind given course (Durable version) next is flown = by_flight course.state.flight is
  where
    by_flight : (o : Option Opening) → end_commit course.state version o ≡ Some next → job_version None ≡ flight_version next.flight
    by_flight None is = absurd (cc (is))
    by_flight (Some flight) is = ap (λ (s : State). flight_version s.flight) (tested (flight.version == version) (ended course.state flight) next is)
flown-behind given course (Watched number key value) next is flown =
    kept-flown course _ next flown refl
    (tested (serves course.state.pieces key && nat_lt (length course.state.watches) given.settings.watches && not (is_registered number course.state.watches)) _ next is)
flown-behind given course (Unwatched number) next is flown =
    kept-flown course _ next flown refl (tested (is_registered number course.state.watches) _ next is)
flown-behind given course Closed next is flown = kept-flown course course.state next flown refl (same_Some course.state next is)
flown-behind given course Killed next is flown = kept-flown course course.state next flown refl (same_Some course.state next is)

on-flown : (given : Given) (events : List Event) (first course : Course) → course_on given first events ≡ Some course → IsFlown first → IsFlown course
on-flown given [] first course on flown = subst IsFlown (same_Some first course on) flown
on-flown given (event ∷ events) first course on flown =
    by_step (step given first.state event) refl on
    (λ next is led. on-flown given events (behind given first event next) course led
    (subst (λ (s : State). job_version (behind given first event next).job ≡ flight_version s.flight) (sym (behind-state given first event next)) (flown-behind given first event next is flown)))
  where
    by_step : (o : Option State) → step given first.state event ≡ o
        → option_and_then (λ next. course_on given (behind given first event next) events) o ≡ Some course
        → ((next : State) → step given first.state event ≡ Some next → course_on given (behind given first event next) events ≡ Some course → IsFlown course)
        → IsFlown course
    by_step None is led later = absurd (cc (led))
    by_step (Some next) is led later = later next is led

pub course-flown : (given : Given) (opening : Opening) (fresh : Bool) (trace : List Event) (course : Course) → course_of given opening fresh trace ≡ Some course
    → option_map (λ job. job.version) course.job ≡ option_map (λ flight. flight.version) course.state.flight
course-flown given opening fresh trace course is = on-flown given (drop 1 trace) (first_course given opening fresh) course is refl

-- ---- one event more
on-more : (given : Given) (event : Event) (events : List Event) (first course : Course) (next : State) → course_on given first events ≡ Some course
    → step given course.state event ≡ Some next → course_on given first (events ++ event ∷ []) ≡ Some (behind given course event next)
on-more given event [] first course next on is =
    let one = same_Some first course on in
    ap (option_and_then (λ n. Some (behind given first event n))) (ap (λ c. step given c.state event) one ∙ is)
    ∙ ap (λ c. Some (behind given c event next)) one
on-more given event (e ∷ events) first course next on is =
    by_step (step given first.state e) on (λ n led. on-more given event events (behind given first e n) course next led is)
  where
    by_step : (o : Option State) → option_and_then (λ n. course_on given (behind given first e n) events) o ≡ Some course
        → ((n : State) → course_on given (behind given first e n) events ≡ Some course → course_on given (behind given first e n) (events ++ event ∷ []) ≡ Some (behind given course event next))
        → option_and_then (λ n. course_on given (behind given first e n) (events ++ event ∷ [])) o ≡ Some (behind given course event next)
    by_step None led later = absurd (cc (led))
    by_step (Some n) led later = later n led

-- a legal trace is its opening, and events that run from the state there
abbrev pub IsOpened : Given → Opening → List Event → State → Type 0
IsOpened given opening trace state =
    (version : ℕ) × (events : List Event) × (trace ≡ Opened version ∷ events) × (run_events given (first_state given opening) events ≡ Some state)

opened : (given : Given) (opening : Opening) (trace : List Event) (state : State) → state_after given opening trace ≡ Some state → IsOpened given opening trace state
opened given opening [] state legal = absurd (cc (legal))
opened given opening (Opened version ∷ events) state legal = by_test (version == opening.version) legal
  where
    by_test : (t : Bool) → cond t (run_events given (first_state given opening) events) None ≡ Some state → IsOpened given opening (Opened version ∷ events) state
    by_test true run = (version, events, refl, run)
    by_test false run = absurd (cc (run))
opened given opening (Applied version ∷ events) state legal = absurd (cc (legal))
opened given opening (FetchStart begin at ∷ events) state legal = absurd (cc (legal))
opened given opening (Block begin upto ∷ events) state legal = absurd (cc (legal))
opened given opening (Split begin key ∷ events) state legal = absurd (cc (legal))
opened given opening (Began version ∷ events) state legal = absurd (cc (legal))
opened given opening (Durable version ∷ events) state legal = absurd (cc (legal))
opened given opening (Watched number key value ∷ events) state legal = absurd (cc (legal))
opened given opening (Unwatched number ∷ events) state legal = absurd (cc (legal))
opened given opening (Closed ∷ events) state legal = absurd (cc (legal))
opened given opening (Killed ∷ events) state legal = absurd (cc (legal))

pub course-state : (given : Given) (opening : Opening) (fresh : Bool) (trace : List Event) (state : State) → state_after given opening trace ≡ Some state
    → option_map (λ course. course.state) (course_of given opening fresh trace) ≡ Some state
course-state given opening fresh trace state legal =
    let o = opened given opening trace state legal in
    ap (λ t. option_map (λ course. course.state) (course_of given opening fresh t)) o.2
    ∙ on-run given o.1 (first_course given opening fresh) state o.3

pub course-more : (given : Given) (opening : Opening) (fresh : Bool) (trace : List Event) (state next : State) (event : Event) (course : Course)
    → state_after given opening trace ≡ Some state → course_of given opening fresh trace ≡ Some course → step given state event ≡ Some next
    → course_of given opening fresh (trace ++ event ∷ []) ≡ Some (behind given course event next)
course-more given opening fresh trace state next event course legal is stepped =
    let o = opened given opening trace state legal in
    let same_state : course.state ≡ state =
    same_Some course.state state (sym (ap (option_map (λ c. c.state)) is) ∙ course-state given opening fresh trace state legal) in
    ap (λ t. course_of given opening fresh (t ++ event ∷ [])) o.2
    ∙ on-more given event o.1 (first_course given opening fresh) course next (sym (ap (course_of given opening fresh) o.2) ∙ is)
    (ap (λ s. step given s event) same_state ∙ stepped)
