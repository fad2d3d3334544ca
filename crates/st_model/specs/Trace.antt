-- Legal traces, the state at a place of one, and when nothing is left to do.
use Rattle.std.specs.Prelude.{◌≡◌, ℕ, Bool, true, false, not, ◌&&◌, ◌==◌, nat_lt, nat_le, List, [], ◌∷◌, take, length, Option, Some, None, is_none, IsTrue, option_and_then, if◌then◌else◌}
use Rattle.std.specs.List.{find, list_any}
use Rattle.std.specs.Option.{option_map}
use Rattle.st_fold.specs.declared.plan.Act.{Act}
use Rattle.st_fold.specs.declared.plan.Act.TheVariants as act
use Rattle.st_fold.specs.declared.report.Event.{Event}
use Rattle.st_fold.specs.declared.report.Event.TheVariants.{Opened, Applied, FetchStart, Block, Split, Began, Durable, Watched, Unwatched, Closed, Killed}
use Rattle.st_model.specs.declared.piece.Piece.{Piece}
use Rattle.st_model.specs.Pieces.{stops_at, takes_block, wants_block, wants_fetch}
use Rattle.st_model.specs.State.{Given, Opening, State, first_state, next_batch, step}
pub use Rattle.st_model.specs.State.{greatest_to, commit_version, commit_due}

-- whether an event ends a life
abbrev pub is_end : Event → Bool
is_end (Opened version) = false
is_end (Applied version) = false
is_end (FetchStart begin at) = false
is_end (Block begin upto) = false
is_end (Split begin key) = false
is_end (Began version) = false
is_end (Durable version) = false
is_end (Watched number key value) = false
is_end (Unwatched number) = false
is_end Closed = true
is_end Killed = true

-- the state after these events, where each may come and an end comes last
abbrev pub run_events : Given → State → List Event → Option State
run_events given state [] = Some state
run_events given state (event ∷ events) =
    if is_end event && nat_lt 0 (length events) then None
    else option_and_then (λ next. run_events given next events) (step given state event)

-- the state after a trace, where it is legal from the opening
abbrev pub state_after : Given → Opening → List Event → Option State
state_after given opening [] = None
state_after given opening (Opened version ∷ events) =
    if version == opening.version then run_events given (first_state given opening) events else None
state_after given opening (Applied version ∷ events) = None
state_after given opening (FetchStart begin at ∷ events) = None
state_after given opening (Block begin upto ∷ events) = None
state_after given opening (Split begin key ∷ events) = None
state_after given opening (Began version ∷ events) = None
state_after given opening (Durable version ∷ events) = None
state_after given opening (Watched number key value ∷ events) = None
state_after given opening (Unwatched number ∷ events) = None
state_after given opening (Closed ∷ events) = None
state_after given opening (Killed ∷ events) = None

-- the state at a place of a trace: after that many events, the opening counted
abbrev pub state_at : Given → Opening → List Event → ℕ → Option State
state_at given opening trace place =
    if nat_le place (length trace) then state_after given opening (take place trace) else None

-- the event that an act makes in a state, where the state lets it. An act that takes the next piece takes the first in
-- key order. What comes of a piece of which a block is asked for depends on its source
abbrev pub event_by : Given → State → (Piece → Event) → Act → Option Event
event_by given state fetched act.Apply = option_map (λ batch. Applied batch.version) (next_batch given state)
event_by given state fetched act.Start =
    option_map (λ piece. FetchStart piece.begin state.newest) (find (wants_fetch state.durable) state.pieces)
event_by given state fetched act.Block = option_map fetched (find wants_block state.pieces)
event_by given state fetched act.Began =
    if commit_due given state then Some (Began (commit_version given state)) else None
event_by given state fetched act.Durable = option_map (λ flight. Durable flight.version) state.flight

-- what may come of a piece of which a block is asked for: a block, or a split where its source has forgotten it
abbrev pub IsFetchOf : Piece → Event → Type 0
IsFetchOf piece (Opened version) = ⊥
IsFetchOf piece (Applied version) = ⊥
IsFetchOf piece (FetchStart begin at) = ⊥
IsFetchOf piece (Block begin upto) = (begin ≡ piece.begin) × IsTrue (takes_block upto piece)
IsFetchOf piece (Split begin key) = (begin ≡ piece.begin) × IsTrue (stops_at key piece)
IsFetchOf piece (Began version) = ⊥
IsFetchOf piece (Durable version) = ⊥
IsFetchOf piece (Watched number key value) = ⊥
IsFetchOf piece (Unwatched number) = ⊥
IsFetchOf piece Closed = ⊥
IsFetchOf piece Killed = ⊥

-- the events that an act may make
abbrev pub makes : Act → Event → Bool
makes act.Apply (Applied version) = true
makes act.Start (FetchStart begin at) = true
makes act.Block (Block begin upto) = true
makes act.Block (Split begin key) = true
makes act.Began (Began version) = true
makes act.Durable (Durable version) = true
makes action event = false

-- what is due first
abbrev pub due : Given → State → Option Act
due given state =
    if not (is_none state.flight) then Some act.Durable
    else (if commit_due given state then Some act.Began
    else (if list_any wants_block state.pieces then Some act.Block
    else (if list_any (wants_fetch state.durable) state.pieces then Some act.Start
    else option_map (λ batch. act.Apply) (next_batch given state))))

-- nothing is due: no commit to end or to begin, no block and no fetch, and no batch
abbrev pub is_at_rest : Given → State → Bool
is_at_rest given state =
    is_none state.flight && not (commit_due given state) && not (list_any wants_block state.pieces)
    && not (list_any (wants_fetch state.durable) state.pieces) && is_none (next_batch given state)
