-- What a written schedule makes of a life.
use Rattle.std.specs.Prelude.{◌≡◌, ℕ, zero, suc, ◌+◌, ◌-◌, ◌<◌, ◌≤◌, Bool, true, false, not, ◌&&◌, ◌||◌, ◌==◌, nat_lt, nat_le, List, [], ◌∷◌, ◌++◌, map, drop, length, slice_get, max, Option, Some, None, is_none, unwrap_or, if◌then◌else◌}
use Rattle.std.specs.List.{AllByRecursion, find, fold, list_any, range_with_len}
use Rattle.std.specs.Option.{option_map, option_map_or}
use Rattle.st_fold.specs.declared.plan.Act.{Act}
use Rattle.st_fold.specs.declared.plan.Act.TheVariants as act
use Rattle.st_fold.specs.declared.plan.Do.{Do}
use Rattle.st_fold.specs.declared.plan.Do.TheVariants as step_of
use Rattle.st_fold.specs.declared.plan.LifePlan.{LifePlan}
use Rattle.st_fold.specs.declared.report.Answered.{Answered}
use Rattle.st_fold.specs.declared.report.Ending.{Ending}
use Rattle.st_fold.specs.declared.report.Ending.TheVariants as ending
use Rattle.st_fold.specs.declared.report.Event.{Event}
use Rattle.st_fold.specs.declared.report.Event.TheVariants.{Opened, Applied, Block, Split, Watched, Unwatched}
use Rattle.st_fold.specs.declared.report.Life.{Life}
use Rattle.st_fold.specs.declared.request.Answer.{Answer}
use Rattle.st_fold.specs.declared.request.Answer.TheVariants.{TooManyWatches, WrongShard, Stopped}
use Rattle.st_fold.specs.declared.request.Ask.{Ask}
use Rattle.st_fold.specs.declared.request.Ask.TheVariants as ask
use Rattle.st_fold.specs.declared.request.Request.{Request}
use Rattle.st_fold.specs.Endings.{last_event}
use Rattle.st_fold.specs.Map.{Map, folded}
use Rattle.st_fold.specs.Reading.{is_watch, pairs_in}
use Rattle.st_model.specs.declared.piece.Piece.{Piece}
use Rattle.st_model.specs.declared.piece.Phase.{Phase}
use Rattle.st_model.specs.declared.piece.Phase.TheVariants.{Fetching}
use Rattle.st_model.specs.Pieces.{serves}
use Rattle.st_model.specs.State.{Given, Opening, State, Watch, first_state, is_registered, step}
use Rattle.st_model.specs.Trace.{due, event_by}
use Rattle.st_model.specs.Reply.{reply}
use Rattle.st_model.specs.Session.{answer_to}
use Rattle.st_model.specs.Watching.{watch_answer, watch_state}
use Rattle.st_model.specs.Report.{blocks, requests_of}

-- ---- polls

-- a request, the places of its polls so far, and its answer once it has one
pub record Session : Type 0 where
  pub request : Request
  pub places : List ℕ
  pub answer : Option Answer

-- what a poll leads to: the answer, where it gives one, and the events that it makes
pub record Polled : Type 0 where
  pub answer : Option Answer
  pub events : List Event

-- a watch that has its answer is released
abbrev pub release_with : (number : ℕ) → List Event → Option Answer → Polled
release_with number before None = record { answer = None; events = before }
release_with number before (Some answer) = record { answer = Some answer; events = before ++ Unwatched number ∷ [] }

-- a watch that stands is looked at, as the poll of this number, and these events of the poll came before
abbrev pub look_at : Given → (newest polls : ℕ) → List Event → Watch → Polled
look_at given newest polls before watch =
    release_with watch.number before (watch_answer given.settings.patience polls watch.key (watch_state given.log watch newest))

-- at the first poll of a watch it is refused, or registered and looked at
abbrev pub first_look : Given → State → ℕ → List ℕ → Option (List ℕ) → Polled
first_look given state number key value =
    if not (serves state.pieces key) then record { answer = Some (WrongShard key); events = [] }
    else (if not (nat_lt (length state.watches) given.settings.watches)
    then record { answer = Some (TooManyWatches given.settings.watches); events = [] }
    else look_at given state.newest 1 (Watched number key value ∷ [])
    (record { number = number; key = key; value = value; since = state.newest }))

-- what one more poll of a session leads to
abbrev pub poll_of : Given → State → Session → Polled
poll_of given state session = of session.request.ask
  where
    of_versioned : Ask → Polled
    of_versioned asked =
        record { answer = answer_to given.settings.patience (length session.places + 1) (reply given.log state asked); events = [] }

    of_watch : List ℕ → Option (List ℕ) → Option Watch → Polled
    of_watch key value None = first_look given state session.request.number key value
    of_watch key value (Some watch) = look_at given state.newest (length session.places + 1) [] watch

    of : Ask → Polled
    of (ask.Get key version) = of_versioned (ask.Get key version)
    of (ask.Rows range rows bytes backward version) = of_versioned (ask.Rows range rows bytes backward version)
    of (ask.Select key or_equal offset range version) = of_versioned (ask.Select key or_equal offset range version)
    of (ask.Watch key value) = of_watch key value (find (λ watch. watch.number == session.request.number) state.watches)

-- the session after one more poll, in a state and at a place
abbrev pub poll : Given → ℕ → State → Session → Session
poll given place state session =
    record session { places = session.places ++ place ∷ []; answer = (poll_of given state session).answer }

-- whether a session is this reader's and open
abbrev pub is_open : ℕ → Session → Bool
is_open reader session = session.request.reader == reader && is_none session.answer

-- whether the reader has an open session
abbrev pub has_open : ℕ → List Session → Bool
has_open reader sessions = list_any (is_open reader) sessions

-- the reader's first open session is polled, where there is one
abbrev pub poll_first : Given → ℕ → ℕ → State → List Session → List Session
poll_first given reader place state [] = []
poll_first given reader place state (session ∷ sessions) =
    if is_open reader session then poll given place state session ∷ sessions
    else session ∷ poll_first given reader place state sessions

-- the events that this makes
abbrev pub events_of_poll : Given → ℕ → State → List Session → List Event
events_of_poll given reader state sessions =
    option_map_or (λ session. (poll_of given state session).events) (find (is_open reader) sessions) []

-- ---- the source of fetches

-- the newest version at each event of a block, from this one on
abbrev pub newest_at_blocks : ℕ → List Event → List ℕ
newest_at_blocks newest [] = []
newest_at_blocks newest (Opened version ∷ events) = newest_at_blocks version events
newest_at_blocks newest (Applied version ∷ events) = newest_at_blocks version events
newest_at_blocks newest (Block begin upto ∷ events) = newest ∷ newest_at_blocks newest events
newest_at_blocks newest (Split begin key ∷ events) = newest ∷ newest_at_blocks newest events
newest_at_blocks newest (event ∷ events) = newest_at_blocks newest events

-- The oldest version that the source of fetches has when it is asked for a block in a state. It forgets what is below the
-- newest version before a block that a cut names by the number of blocks before it
abbrev pub source_oldest : LifePlan → List Event → State → ℕ
source_oldest plan trace state =
    fold (λ oldest cut. max oldest (unwrap_or (slice_get (newest_at_blocks 0 trace ++ state.newest ∷ []) cut) 0)) 0 plan.cuts

-- how far a block goes whose pairs, from its begin on, are these: up to the first that it has no row for
abbrev pub block_end : List ℕ → Map → List ℕ
block_end end [] = end
block_end end (pair ∷ pairs) = pair.0

-- what the source gives of a piece that is fetched: a block, or a split where it has forgotten the piece's version
abbrev pub event_of_block : Given → LifePlan → List Event → State → Piece → Event
event_of_block given plan trace state piece = of piece.phase
  where
    of : Phase → Event
    of (Fetching at upto taken in_base) =
        if nat_lt at (source_oldest plan trace state) then Split piece.begin upto
        else Block piece.begin
        (block_end piece.end (drop given.settings.block (pairs_in (record { begin = upto; end = piece.end }) (folded given.log at))))
    of phase = Split piece.begin piece.begin

-- whether the source fails when it is asked for one more block
abbrev pub source_fails : LifePlan → List Event → Bool
source_fails plan trace = list_any (λ number. number == blocks trace + 1) plan.peerfails

-- ---- lives in the making

-- what a commit does to an engine: how many calls of write and sync it makes, and the engine after it. Or, after these
-- calls, a file would get longer than it may
pub data Commit (E : Type 0) : Type 0 where
  made : (calls : ℕ) → E → Commit E
  full : (calls length limit : ℕ) → Commit E

-- what is played: what the life is given, how it opened and what it is to do, the engine as it opened, and what the
-- commit does to it that the last Began of these events began
pub record Stage (E : Type 0) : Type 0 where
  pub given : Given
  pub opening : Opening
  pub plan : LifePlan
  pub engine : E
  pub commit : E → List Event → Commit E

-- why a life can't go on
pub data Halt : Type 0 where
  -- the next call to the disk isn't let through
  blown : Halt
  -- a file would get longer than it may
  past_limit : (length limit : ℕ) → Halt
  -- the source of fetches failed
  no_block : Halt

-- how far a life is: the lines that are left of its schedule, its trace and the state after it, its sessions, the engine,
-- and how many calls to the disk were made
pub record Progress (E : Type 0) : Type 0 where
  pub lines : List (Do × ℕ)
  pub trace : List Event
  pub state : State
  pub sessions : List Session
  pub engine : E
  pub calls : ℕ
  pub halt : Option Halt

-- one more event, where the state lets it
abbrev pub with_event : {E : Type 0} → Given → Progress E → Event → Progress E
with_event {E = E} given progress event = after (step given progress.state event)
  where
    after : Option State → Progress E
    after None = progress
    after (Some state) = record progress { trace = progress.trace ++ event ∷ []; state = state }

-- whether so many calls to the disk are let through
abbrev pub lets_through : LifePlan → ℕ → Bool
lets_through plan calls = option_map_or (λ kill. nat_le calls kill.0) plan.kill true

-- a commit is finished with this event, unless one of its calls isn't let through, or it can't be written
abbrev pub finish_commit : {E : Type 0} → Stage E → Progress E → Event → Commit E → Progress E
finish_commit stage progress event (made calls engine) =
    if lets_through stage.plan (progress.calls + calls)
    then with_event stage.given (record progress { engine = engine; calls = progress.calls + calls }) event
    else record progress { halt = Some blown }
finish_commit stage progress event (full calls length limit) =
    if lets_through stage.plan (progress.calls + calls)
    then record progress { calls = progress.calls + calls; halt = Some (past_limit length limit) }
    else record progress { halt = Some blown }

-- an act makes its event
abbrev pub make : {E : Type 0} → Stage E → Progress E → Act → Event → Progress E
make stage progress act.Apply event = with_event stage.given progress event
make stage progress act.Start event = with_event stage.given progress event
make stage progress act.Block event =
    if source_fails stage.plan progress.trace then record progress { halt = Some no_block }
    else with_event stage.given progress event
make stage progress act.Began event = with_event stage.given progress event
make stage progress act.Durable event = finish_commit stage progress event (stage.commit progress.engine progress.trace)

-- the event that an act makes, where it may be done
abbrev pub event_of : {E : Type 0} → Stage E → Progress E → Act → Option Event
event_of stage progress action =
    event_by stage.given progress.state (event_of_block stage.given stage.plan progress.trace progress.state) action

-- an act is done, where it may be
abbrev pub do_act : {E : Type 0} → Stage E → Progress E → Act → Progress E
do_act stage progress action = option_map_or (make stage progress action) (event_of stage progress action) progress

-- the reader's first open request is polled
abbrev pub do_poll : {E : Type 0} → Stage E → Progress E → ℕ → Progress E
do_poll stage progress reader =
    fold (with_event stage.given)
    (record progress { sessions = poll_first stage.given reader (length progress.trace) progress.state progress.sessions })
    (events_of_poll stage.given reader progress.state progress.sessions)

abbrev pub may_do : {E : Type 0} → Stage E → Progress E → Act → Bool
may_do stage progress action = not (is_none (event_of stage progress action))

-- A line of the schedule, to be done once and then so many times more. Where its step can't be done it is left: doing it
-- again would be the same
abbrev pub on_line : {E : Type 0} → Stage E → Progress E → Do → ℕ → List (Do × ℕ) → Progress E
on_line stage progress (step_of.Act action) times later =
    if may_do stage progress action then do_act stage (record progress { lines = (step_of.Act action, times) ∷ later }) action
    else record progress { lines = later }
on_line stage progress step_of.Flush times later =
    if may_do stage progress act.Began || may_do stage progress act.Durable
    then record progress { lines = (step_of.Act act.Began, 1) ∷ (step_of.Act act.Durable, 1) ∷ (step_of.Flush, times) ∷ later }
    else record progress { lines = later }
on_line stage progress (step_of.Poll reader) times later =
    if has_open reader progress.sessions then do_poll stage (record progress { lines = (step_of.Poll reader, times) ∷ later }) reader
    else record progress { lines = later }

-- the readers in the order in which they poll at the end, and at last the requests that are answered there
unfoldable pub readers_at_end : List ℕ
readers_at_end = range_with_len 1 64 ++ 0 ∷ []

-- The closing: what is due first is done, until the life is at rest. Then the readers poll, one after the other, each
-- until it has no open request
abbrev pub close_on : {E : Type 0} → Stage E → Progress E → (due_first : Option Act) → Option (Progress E)
close_on stage progress (Some action) = Some (do_act stage progress action)
close_on stage progress None = option_map (do_poll stage progress) (find (λ reader. has_open reader progress.sessions) readers_at_end)

-- the next step: of the schedule as it is written, and then of the closing. None where the life is over
abbrev pub next : {E : Type 0} → Stage E → Progress E → Option (Progress E)
next {E = E} stage progress = unless_halted progress.halt
  where
    by_lines : List (Do × ℕ) → Option (Progress E)
    by_lines [] = close_on stage progress (due stage.given progress.state)
    by_lines ((one, zero) ∷ later) = Some (record progress { lines = later })
    by_lines ((one, suc times) ∷ later) = Some (on_line stage progress one times later)

    unless_halted : Option Halt → Option (Progress E)
    unless_halted (Some halt) = None
    unless_halted None = by_lines progress.lines

-- so many steps, or fewer where the life is over before
abbrev pub walk : {E : Type 0} → Stage E → ℕ → Progress E → Progress E
walk stage zero progress = progress
walk stage (suc steps) progress = option_map_or (walk stage steps) (next stage progress) progress

-- the session of a request that wasn't polled yet
abbrev pub unpolled : Request → Session
unpolled request = record { request = request; places = []; answer = None }

-- a life that has just opened
abbrev pub begin : {E : Type 0} → Stage E → Progress E
begin stage = record {
  lines = stage.plan.dos;
  trace = Opened stage.opening.version ∷ [];
  state = first_state stage.given stage.opening;
  sessions = map unpolled (requests_of stage.plan);
  engine = stage.engine;
  calls = 0;
  halt = None;
}

-- a request that has no answer was stopped
abbrev pub answered_by : Session → Answered
answered_by session = record {
  request = session.request.number;
  places = session.places;
  answer = unwrap_or session.answer Stopped;
}

-- the life that was made, ended so
abbrev pub life_of : {E : Type 0} → Stage E → Progress E → Ending → Life
life_of stage progress how = record {
  opened = stage.opening.version;
  trace = progress.trace ++ last_event how;
  answers = map answered_by progress.sessions;
  ending = how;
}

-- how a life ends that is over
abbrev pub ending_by : LifePlan → Option Halt → Ending
ending_by plan None = if is_none plan.kill then ending.Closed else ending.Killed
ending_by plan (Some blown) = ending.Killed
ending_by plan (Some (past_limit length limit)) = ending.Faulted
ending_by plan (Some no_block) = ending.Faulted

-- some steps lead from one to the other
abbrev pub LeadsTo : {E : Type 0} → Stage E → Progress E → Progress E → Type 0
LeadsTo stage old new = (steps : ℕ) × (new ≡ walk stage steps old)

-- the life that its schedule and the closing make, where nothing else fails
abbrev pub Plays : {E : Type 0} → Stage E → Life → Type 0
Plays {E = E} stage life =
    (last : Progress E) × LeadsTo stage (begin stage) last × (next stage last ≡ None)
    × (life ≡ life_of stage last (ending_by stage.plan last.halt))

-- a life that followed its schedule and the closing up to somewhere, and ended there by a fault
abbrev pub BreaksOff : {E : Type 0} → Stage E → Life → Type 0
BreaksOff {E = E} stage life =
    (last : Progress E) × LeadsTo stage (begin stage) last × (last.halt ≡ None) × (life ≡ life_of stage last ending.Faulted)

-- ---- how many polls are left

-- how many more polls a session may take: of so many as `patience` says, the last gives the answer
abbrev pub polls_to_come : (patience : ℕ) → Session → ℕ
polls_to_come patience session = if is_none session.answer then patience - length session.places else 0

-- how many more polls all of these may take
abbrev pub polls_left : (patience : ℕ) → List Session → ℕ
polls_left patience [] = 0
polls_left patience (session ∷ later) = polls_to_come patience session + polls_left patience later

-- each request has another number than the later ones
abbrev pub AreNumbered : List Request → Type 0
AreNumbered [] = Unit {0}
AreNumbered (request ∷ later) = AllByRecursion (λ other. request.number == other.number ≡ false) later × AreNumbered later

-- a session that is open was polled fewer times than `patience` says, and if it is of a watch that was polled, the watch
-- stands
pub record IsPatient (patience : ℕ) (watches : List Watch) (session : Session) : Type 0 where
  pub fewer : session.answer ≡ None → length session.places < patience
  pub stands : session.answer ≡ None → is_watch session.request.ask ≡ true → 1 ≤ length session.places
      → is_registered session.request.number watches ≡ true

-- all of these are so, and no two have the same number
pub record ArePatient (patience : ℕ) (watches : List Watch) (sessions : List Session) : Type 0 where
  pub each : AllByRecursion (IsPatient patience watches) sessions
  pub apart : AreNumbered (map (λ session. session.request) sessions)
