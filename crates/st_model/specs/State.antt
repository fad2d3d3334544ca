-- The state of the machine of events, and its steps.
use Rattle.std.specs.Prelude.{ℕ, ◌-◌, Bool, not, ◌&&◌, ◌||◌, ◌==◌, nat_lt, nat_le, List, [], ◌∷◌, ◌++◌, map, filter, fold, length, Option, Some, None, is_none, if◌then◌else◌}
use Rattle.std.specs.List.{find, flat_map, list_any}
use Rattle.st_key.specs.Spans.{Span, holds}
use Rattle.st_key.specs.Parts.{with_span, without_span}
use Rattle.st_mutation.specs.declared.batch.Batch.{Batch}
use Rattle.st_mutation.specs.declared.batch.Move.{Move}
use Rattle.st_mutation.specs.declared.batch.Move.TheVariants.{Assign, Release}
use Rattle.st_fold.specs.declared.plan.Settings.{Settings}
use Rattle.st_fold.specs.declared.report.Event.{Event}
use Rattle.st_fold.specs.declared.report.Event.TheVariants.{Opened, Applied, FetchStart, Block, Split, Began, Durable, Watched, Unwatched, Closed, Killed}
use Rattle.st_fold.specs.Map.{Map, batches_to, folded}
use Rattle.st_model.specs.declared.piece.Piece.{Piece}
use Rattle.st_model.specs.Pieces.{span_of, first_pieces, move_piece, inject, begins, change_at, wants_fetch, start_piece, takes_block, block_piece, stops_at, split_piece, by_phase, rows_taken, rows_in_base, has_rows, waits_to, serves}

-- what a life is given: the log, the greatest version that it applies, the ranges that the server owns before
-- the log begins, and the script's settings
pub record Given : Type 0 where
  pub log : List Batch
  pub upto : ℕ
  pub own : List Span
  pub settings : Settings

-- a durable version, and the keys whose pairs of that version are held
pub record Opening : Type 0 where
  pub version : ℕ
  pub available : List Span

-- the pairs that are held where a life opens so: those of the log at its version, on the keys that are available
abbrev pub base_of : List Batch → Opening → Map
base_of log opening = filter (λ pair. holds opening.available pair.0) (folded log opening.version)

-- a watch: its request's number, the key and the value, none for no value, and the newest version when it came
pub record Watch : Type 0 where
  pub number : ℕ
  pub key : List ℕ
  pub value : Option (List ℕ)
  pub since : ℕ

-- the state of a server
pub record State : Type 0 where
  pub newest : ℕ
  pub oldest : ℕ
  pub durable : ℕ
  pub available : List Span
  pub flight : Option Opening
  pub pieces : List Piece
  pub watches : List Watch

-- the assigned keys after one move
abbrev pub move_span : List Span → Move → List Span
move_span spans (Assign span) = with_span spans span
move_span spans (Release span) = without_span spans span

-- the keys that are assigned at a version, as sorted spans that don't touch
abbrev pub assigned : List Span → List Batch → ℕ → List Span
assigned own log version = fold (λ spans batch. fold move_span spans batch.moves) own (batches_to version log)

-- the state that a life opens with
abbrev pub first_state : Given → Opening → State
first_state given opening = record {
  newest = opening.version;
  oldest = opening.version;
  durable = opening.version;
  available = opening.available;
  flight = None;
  pieces = first_pieces opening.version opening.available (assigned given.own given.log opening.version);
  watches = [];
}

-- the batch that comes next, unless it is above what the life applies
abbrev pub next_batch : Given → State → Option Batch
next_batch given state = find (λ batch. nat_lt state.newest batch.version) (batches_to given.upto given.log)

-- the state after a batch: its moves in order, and then the pieces that are whole
abbrev pub after_batch : State → Batch → State
after_batch state batch = record state {
  newest = batch.version;
  pieces = map (inject batch.version) (fold (move_piece batch.version) state.pieces batch.moves);
}

-- the state after the batch of a version, where it is the one that comes next
abbrev pub apply_next : State → ℕ → Option Batch → Option State
apply_next state version None = None
apply_next state version (Some batch) = if batch.version == version then Some (after_batch state batch) else None

-- a fetch of the piece that begins at the key starts at the newest version: what took the piece away is durable
abbrev pub start_fetch : State → List ℕ → ℕ → Option State
start_fetch state begin at =
    if begins (wants_fetch state.durable) begin state.pieces && at == state.newest
    then Some (record state { pieces = change_at begin (λ piece. start_piece at piece ∷ []) state.pieces })
    else None

-- a block came of the piece that begins at the first key: it is fetched up to the second, which lies further on
abbrev pub take_block : State → List ℕ → List ℕ → Option State
take_block state begin upto =
    if begins (takes_block upto) begin state.pieces
    then Some (record state { pieces = change_at begin (λ piece. block_piece upto piece ∷ []) state.pieces })
    else None

-- the source of the piece that begins at the first key has forgotten the version of its fetch: what isn't fetched of
-- it, from the second key on, is to be fetched anew
abbrev pub split_off : State → List ℕ → List ℕ → Option State
split_off state begin key =
    if begins (stops_at key) begin state.pieces
    then Some (record state { pieces = change_at begin (split_piece state.durable key) state.pieces })
    else None

-- the greatest version up to a bound, of these batches and a first one
abbrev pub greatest_to : (bound first : ℕ) → List Batch → ℕ
greatest_to bound first [] = first
greatest_to bound first (batch ∷ batches) =
    greatest_to bound (if nat_lt first batch.version && nat_le batch.version bound then batch.version else first) batches

-- the version that a commit would begin with: that of the greatest batch that the window lets go, or the durable one
abbrev pub commit_version : Given → State → ℕ
commit_version given state = greatest_to (state.newest - given.settings.window) state.durable given.log

-- whether a commit may begin: none is in flight, and there is a version to commit, or there are fetched rows
abbrev pub commit_due : Given → State → Bool
commit_due given state =
    is_none state.flight && (nat_lt state.durable (commit_version given state) || list_any has_rows state.pieces)

-- the spans that a move takes away
abbrev pub released : Move → List Span
released (Assign span) = []
released (Release span) = span ∷ []

-- the spans that a batch takes away
abbrev pub released_in : Batch → List Span
released_in batch = flat_map released batch.moves

-- the spans that the batches above a version and up to another take away
abbrev pub released_between : (above upto : ℕ) → List Batch → List Span
released_between above upto log =
    flat_map released_in (filter (λ batch. nat_lt above batch.version) (batches_to upto log))

-- what is available once a commit of this version is durable: what is so now, without what the batches of the commit
-- take away, and with the pieces that were sent to the versioned map up to its version
abbrev pub available_at : Given → State → ℕ → List Span
available_at given state version =
    fold with_span
    (fold without_span state.available (released_between state.durable version given.log))
    (map span_of (filter (waits_to version) state.pieces))

-- a commit of a version begins: it takes the rows that were fetched
abbrev pub began : Given → State → ℕ → State
began given state version = record state {
  flight = Some (record { version = version; available = available_at given state version });
  pieces = by_phase rows_taken state.pieces;
}

abbrev pub begin_commit : Given → State → ℕ → Option State
begin_commit given state version =
    if commit_due given state && version == commit_version given state then Some (began given state version) else None

-- the commit in flight is durable: what it leaves available is, and the versions below it are forgotten
abbrev pub ended : State → Opening → State
ended state flight = record state {
  oldest = flight.version;
  durable = flight.version;
  available = flight.available;
  flight = None;
  pieces = by_phase (rows_in_base flight.version) state.pieces;
}

abbrev pub end_commit : State → ℕ → Option Opening → Option State
end_commit state version None = None
end_commit state version (Some flight) = if flight.version == version then Some (ended state flight) else None

abbrev pub is_registered : ℕ → List Watch → Bool
is_registered number watches = list_any (λ watch. watch.number == number) watches

-- a watch is registered: its key is served, fewer watches stand than may, and its number is a new one
abbrev pub register : Given → State → ℕ → List ℕ → Option (List ℕ) → Option State
register given state number key value =
    if serves state.pieces key && nat_lt (length state.watches) given.settings.watches && not (is_registered number state.watches)
    then Some (record state {
      watches = state.watches ++ record { number = number; key = key; value = value; since = state.newest } ∷ [];
    })
    else None

-- a watch that stands is released
abbrev pub release : State → ℕ → Option State
release state number =
    if is_registered number state.watches
    then Some (record state { watches = filter (λ watch. not (watch.number == number)) state.watches })
    else None

-- the state after one event, where the event may come
abbrev pub step : Given → State → Event → Option State
step given state (Opened version) = None
step given state (Applied version) = apply_next state version (next_batch given state)
step given state (FetchStart begin at) = start_fetch state begin at
step given state (Block begin upto) = take_block state begin upto
step given state (Split begin key) = split_off state begin key
step given state (Began version) = begin_commit given state version
step given state (Durable version) = end_commit state version state.flight
step given state (Watched number key value) = register given state number key value
step given state (Unwatched number) = release state number
step given state Closed = Some state
step given state Killed = Some state
