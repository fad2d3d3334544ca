-- The report that a script demands.
use Rattle.std.specs.Prelude.{◌≡◌, ◌≢◌, ℕ, ◌+◌, ◌*◌, ◌<◌, ◌≤◌, Bool, true, false, not, ◌&&◌, ◌||◌, ◌==◌, nat_lt, nat_le, List, [], ◌∷◌, ◌++◌, map, filter, take, drop, length, All, ◌⊎◌, Option, Some, None, IsTrue, IsSome, if◌then◌else◌}
use Rattle.std.specs.List.{list_any, prefix_len}
use Rattle.std.specs.Option.{option_map_or}
use Rattle.st_mutation.specs.declared.batch.Batch.{Batch}
use Rattle.st_fold.specs.declared.plan.LifePlan.{LifePlan}
use Rattle.st_fold.specs.declared.plan.Script.{Script}
use Rattle.st_fold.specs.declared.report.Answered.{Answered}
use Rattle.st_fold.specs.declared.report.Ending.{Ending}
use Rattle.st_fold.specs.declared.report.Ending.TheVariants as ending
use Rattle.st_fold.specs.declared.report.Event.{Event}
use Rattle.st_fold.specs.declared.report.Event.TheVariants.{Applied, Block, Split, Durable, Watched, Unwatched, Closed, Killed}
use Rattle.st_fold.specs.declared.report.Fault.{Fault}
use Rattle.st_fold.specs.declared.report.Fault.TheVariants as fault
use Rattle.st_fold.specs.declared.report.Life.{Life}
use Rattle.st_fold.specs.declared.request.Answer.TheVariants.{Stopped}
use Rattle.st_fold.specs.declared.request.Request.{Request}
use Rattle.st_fold.specs.Endings.{status_of}
use Rattle.st_model.specs.Pieces.{begins, is_behind}
use Rattle.st_model.specs.State.{Given, Opening, State, released_in}
use Rattle.st_model.specs.Trace.{is_end, state_after, is_at_rest}
use Rattle.st_model.specs.Session.{NeverFalls, is_empty}
use Rattle.st_model.specs.Watching.{Demanded, names}

-- what a script gives one of its lives
abbrev pub given_by : Script → LifePlan → Given
given_by script plan = record { log = script.log; upto = plan.upto; own = script.own; settings = script.settings }

-- how many of these requests, from the front on, have numbers below this one
abbrev pub count_before : ℕ → List Request → ℕ
count_before number requests = prefix_len (λ request. nat_lt request.number number) requests

-- two lists of requests, each in order of numbers, as one in that order
abbrev pub merged : List Request → List Request → List Request
merged [] others = others
merged (request ∷ requests) others =
    take (count_before request.number others) others
    ++ request ∷ merged requests (drop (count_before request.number others) others)

-- all requests of a life, in order of their numbers
abbrev pub requests_of : LifePlan → List Request
requests_of plan = merged plan.asks plan.lasts

-- ---- answers

abbrev pub is_faulted : Ending → Bool
is_faulted ending.Closed = false
is_faulted ending.Killed = false
is_faulted ending.Faulted = true

-- whether requests of a life that ends so may be left open
abbrev pub is_cut_short : Ending → Bool
is_cut_short ending.Closed = false
is_cut_short ending.Killed = true
is_cut_short ending.Faulted = true

-- each request has its one answer, in order, by what its polls lead to
abbrev pub AreAnswered : Given → Opening → Life → List Request → List Answered → Type 0
AreAnswered given opening life [] [] = Unit {0}
AreAnswered given opening life [] (answered ∷ answers) = ⊥
AreAnswered given opening life (request ∷ requests) [] = ⊥
AreAnswered given opening life (request ∷ requests) (answered ∷ answers) =
    (answered.request ≡ request.number)
    × Demanded (is_cut_short life.ending) given opening life.trace request answered.places answered.answer
    × AreAnswered given opening life requests answers

-- the places of the polls of one reader, its requests taken in order
abbrev pub places_of : ℕ → List Request → List Answered → List ℕ
places_of reader [] answers = []
places_of reader (request ∷ requests) [] = []
places_of reader (request ∷ requests) (answered ∷ answers) =
    if request.reader == reader then answered.places ++ places_of reader requests answers
    else places_of reader requests answers

-- ---- events

-- whether each of these events passes the test with the events before it, where some came before them all
abbrev pub all_behind : (List Event → Event → Bool) → List Event → List Event → Bool
all_behind test before [] = true
all_behind test before (event ∷ events) = test before event && all_behind test (before ++ event ∷ []) events

-- whether a watch comes or goes with the event
abbrev pub is_of_watch : Event → Bool
is_of_watch (Watched number key value) = true
is_of_watch (Unwatched number) = true
is_of_watch event = false

-- whether the polls of one of the requests name the event that comes next after a place
abbrev pub some_names : List Request → List Answered → ℕ → Event → Bool
some_names [] answers place event = false
some_names (request ∷ requests) [] place event = false
some_names (request ∷ requests) (answered ∷ answers) place event =
    names request answered.places place event || some_names requests answers place event

-- no watch comes or goes but by the polls of a request
abbrev pub are_named : List Request → Life → Bool
are_named requests life =
    all_behind (λ before event. not (is_of_watch event) || some_names requests life.answers (length before) event) [] life.trace

-- whether the source of fetches was asked for a block with the event: it gave one, or had forgotten the version
abbrev pub is_of_block : Event → Bool
is_of_block (Block begin upto) = true
is_of_block (Split begin key) = true
is_of_block event = false

-- how often the source of fetches was asked
abbrev pub blocks : List Event → ℕ
blocks events = length (filter is_of_block events)

-- whether an event is a mark, by which scripts tell when the source of fetches forgets and fails: an event of a block,
-- or a batch that takes keys away
abbrev pub is_mark : List Batch → Event → Bool
is_mark log (Block begin upto) = true
is_mark log (Split begin key) = true
is_mark log (Applied version) = list_any (λ batch. batch.version == version && not (is_empty (released_in batch))) log
is_mark log event = false

abbrev pub marks : List Batch → List Event → ℕ
marks log events = length (filter (is_mark log) events)

-- An event may come after others, by what is said of splits: the piece is fetched at a version below the newest, and as
-- many marks came before as one of these cuts says
abbrev pub may_split : Given → Opening → List ℕ → List Event → Event → Bool
may_split given opening cuts before (Split begin key) =
    option_map_or (λ state. begins (is_behind state.newest) begin state.pieces) (state_after given opening before) false
    && list_any (λ cut. nat_le cut (marks given.log before)) cuts
may_split given opening cuts before event = true

-- ---- ends

abbrev pub is_commit : Event → Bool
is_commit (Durable version) = true
is_commit event = false

-- how many commits became durable
abbrev pub commits : List Event → ℕ
commits events = length (filter is_commit events)

-- A commit makes from 4 to 10 calls to the disk. After so many commits, in the middle of one more, a number of calls was
-- made between these bounds
abbrev pub EndsWithin : (commits calls : ℕ) → Type 0
EndsWithin commits calls = (4 * commits ≤ calls) × (calls < 10 * (commits + 1))

-- no request was stopped
abbrev pub AllAnswered : Life → Type 0
AllAnswered life = All (λ answered. answered.answer ≢ Stopped) life.answers

-- a life that was closed: it was to close, and was at rest, each request has an answer, and those of its end were polled
-- there
pub record IsClosed (given : Given) (opening : Opening) (plan : LifePlan) (life : Life) : Type 0 where
  pub events : List Event
  pub state : State
  pub trace : life.trace ≡ events ++ Closed ∷ []
  pub after : state_after given opening events ≡ Some state
  pub at_rest : IsTrue (is_at_rest given state)
  pub to_close : plan.kill ≡ None
  pub all_answered : AllAnswered life
  pub lasts : All (λ place. place ≡ length events) (places_of 0 (requests_of plan) life.answers)

-- A life that was killed: it was to be killed. Either it had come to rest and each request has an answer, or it was
-- killed in the middle of a commit, about as many calls to the disk after its opening as its script says
pub record IsKilled (given : Given) (opening : Opening) (plan : LifePlan) (life : Life) : Type 0 where
  pub events : List Event
  pub state : State
  pub calls : ℕ
  pub choice : ℕ
  pub trace : life.trace ≡ events ++ Killed ∷ []
  pub after : state_after given opening events ≡ Some state
  pub to_kill : plan.kill ≡ Some (calls, choice)
  pub by : (IsTrue (is_at_rest given state) × AllAnswered life) ⊎ (IsSome state.flight × EndsWithin (commits events) calls)

-- how a life ends. One that faulted has no last event
abbrev pub Ends : Given → Opening → LifePlan → Life → Ending → Type 0
Ends given opening plan life ending.Closed = IsClosed given opening plan life
Ends given opening plan life ending.Killed = IsKilled given opening plan life
Ends given opening plan life ending.Faulted = list_any is_end life.trace ≡ false

-- one life of a report, from its opening on
pub record IsLife (given : Given) (opening : Opening) (plan : LifePlan) (life : Life) : Type 0 where
  pub opened : life.opened ≡ opening.version
  pub legal : IsSome (state_after given opening life.trace)
  pub answered : AreAnswered given opening life (requests_of plan) life.answers
  pub named : IsTrue (are_named (requests_of plan) life)
  pub in_order : (reader : ℕ) → NeverFalls (places_of reader (requests_of plan) life.answers)
  pub split : IsTrue (all_behind (may_split given opening plan.cuts) [] life.trace)
  -- the source of fetches answered each time that it was asked, so none of these was the one that fails
  pub fetched : All (λ fails. blocks life.trace < fails) plan.peerfails
  pub ends : Ends given opening plan life life.ending

-- ---- lives

-- a life that was begun: what it was to do, how it opened, and what it did
pub record Begun : Type 0 where
  pub plan : LifePlan
  pub opening : Opening
  pub life : Life

-- the lives of a report
abbrev pub lives_of : List Begun → List Life
lives_of begun = map (λ one. one.life) begun

-- a life may open with what was durable at the end of the one before, or with what was in flight
abbrev pub MayOpen : Option State → Opening → Type 0
MayOpen None next = ⊥
MayOpen (Some state) next =
    ((next.version ≡ state.durable) × (next.available ≡ state.available)) ⊎ (state.flight ≡ Some next)

abbrev pub MayFollow : Script → Begun → Opening → Type 0
MayFollow script before next =
    MayOpen (state_after (given_by script before.plan) before.opening before.life.trace) next

-- how a store may open after these lives, where before them it opens as the first argument says
abbrev pub MayOpenAfter : Script → (Opening → Type 0) → List Begun → Opening → Type 0
MayOpenAfter script may [] next = may next
MayOpenAfter script may (begun ∷ later) next = MayOpenAfter script (MayFollow script begun) later next

-- lives of these plans, in their order, the first of which may open so, and each other after the one before it. Only the
-- last may end with a fault
abbrev pub AreLives : Script → (Opening → Type 0) → List LifePlan → List Begun → Type 0
AreLives script may plans [] = Unit {0}
AreLives script may [] (begun ∷ later) = ⊥
AreLives script may (plan ∷ plans) (begun ∷ later) =
    (begun.plan ≡ plan) × may begun.opening × IsLife (given_by script plan) begun.opening plan begun.life
    × (is_faulted begun.life.ending ≡ true → later ≡ []) × AreLives script (MayFollow script begun) plans later

-- ---- faults

-- the faults that may end a life
abbrev pub ends_life : Option Fault → Bool
ends_life None = false
ends_life (Some fault.Words) = false
ends_life (Some (fault.Script line kind)) = false
ends_life (Some (fault.Read faults)) = false
ends_life (Some (fault.Device faults)) = true
ends_life (Some (fault.Peer faults)) = true
ends_life (Some (fault.Damaged damage)) = false
ends_life (Some fault.Memory) = true
ends_life (Some (fault.Full size limit)) = true
ends_life (Some (fault.Foreign part)) = false

-- the last of these lives faulted, and as many marks came as one of its blocks that fail says, that block counted
abbrev pub EndsAtBlock : Script → List Begun → Type 0
EndsAtBlock script [] = ⊥
EndsAtBlock script (begun ∷ []) =
    (is_faulted begun.life.ending ≡ true)
    × IsTrue (list_any (λ fails. nat_le fails (marks script.log begun.life.trace + 1)) begun.plan.peerfails)
EndsAtBlock script (begun ∷ next ∷ later) = EndsAtBlock script (next ∷ later)

-- the source of fetches fails only where the script says so
abbrev pub HasCause : Script → List Begun → Option Fault → Type 0
HasCause script begun (Some (fault.Peer faults)) = EndsAtBlock script begun
HasCause script begun None = Unit {0}
HasCause script begun (Some fault.Words) = Unit {0}
HasCause script begun (Some (fault.Script line kind)) = Unit {0}
HasCause script begun (Some (fault.Read faults)) = Unit {0}
HasCause script begun (Some (fault.Device faults)) = Unit {0}
HasCause script begun (Some (fault.Damaged damage)) = Unit {0}
HasCause script begun (Some fault.Memory) = Unit {0}
HasCause script begun (Some (fault.Full size limit)) = Unit {0}
HasCause script begun (Some (fault.Foreign part)) = Unit {0}

-- a report of these lives, with this status and fault, is one that the script demands of a store that opens so
pub record IsDemanded (script : Script) (opening : Opening) (status : ℕ) (why : Option Fault) (begun : List Begun) : Type 0 where
  pub lives_are : AreLives script (λ first. first ≡ opening) script.lives begun
  pub all_lives : status ≡ 0 → length begun ≡ length script.lives
  pub status_is : status ≡ status_of why
  pub faulted : All (λ one. is_faulted one.life.ending ≡ true → ends_life why ≡ true) begun
  pub cause : HasCause script begun why

-- how a store opens that nothing was ever written to: all that the server owns is held, and empty
abbrev pub fresh : Script → Opening
fresh script = record { version = 0; available = script.own }
