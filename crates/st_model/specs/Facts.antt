-- What holds in every state that a legal trace reaches.
use Rattle.std.specs.Prelude.{◌≡◌, ℕ, ◌-◌, ◌<◌, ◌≤◌, Bool, true, false, ◌&&◌, ◌||◌, ◌==◌, nat_le, not, List, [], ◌∷◌, ◌++◌, map, fold, length, None, IfSome}
use Rattle.std.specs.List.{AllByRecursion, filter_map, list_any}
use Rattle.st_key.specs.Spans.{Span, is_canonical, key_less, within, holds}
use Rattle.st_fold.specs.Assigned.{assigned_by}
use Rattle.st_mutation.specs.Clip.{common}
use Rattle.st_mutation.specs.declared.batch.Batch.{Batch}
use Rattle.st_mutation.specs.declared.batch.Move.{Move}
use Rattle.st_mutation.specs.declared.batch.Move.TheVariants.{Assign, Release}
use Rattle.st_model.specs.declared.piece.Piece.{Piece}
use Rattle.st_model.specs.declared.piece.Phase.{Phase}
use Rattle.st_model.specs.declared.piece.Phase.TheVariants.{Absent, WaitPrevious, Fetching, Waiting, Readable}
use Rattle.st_model.specs.Partition.{IsPartition}
use Rattle.st_model.specs.Pieces.{span_of, is_absent}
use Rattle.st_model.specs.State.{Given, Opening, State, Watch, assigned, is_registered, move_span, released_in}

-- the span that a move gives or takes away
abbrev pub span_moved : Move → Span
span_moved (Assign span) = span
span_moved (Release span) = span

-- whether a key is assigned at a version
abbrev pub is_assigned : Given → ℕ → List ℕ → Bool
is_assigned given version key = holds (assigned given.own given.log version) key

-- whether the batch of a version takes a key away
abbrev pub takes_away : List Batch → ℕ → List ℕ → Bool
takes_away log version key = list_any (λ batch. batch.version == version && holds (released_in batch) key) log

-- Moves drop a key where one of them takes it away that is assigned just before it. Whether they do, by whether the key
-- is assigned before them all
abbrev pub drops : List ℕ → Bool → List Move → Bool
drops key held [] = false
drops key held (Assign span ∷ moves) = drops key (assigned_by key held (Assign span)) moves
drops key held (Release span ∷ moves) = (held && within span key) || drops key (assigned_by key held (Release span)) moves

-- a move among others that drops a key
pub record HasDrop (key : List ℕ) (held : Bool) (moves : List Move) : Type 0 where
  pub before : List Move
  pub span : Span
  pub after : List Move
  pub whole : moves ≡ before ++ Release span ∷ after
  pub is_held : fold (assigned_by key) held before ≡ true
  pub inside : within span key ≡ true

-- the keys that moves drop, as they stand in the spans that are assigned, in the order of the moves
abbrev pub dropped : List Span → List Move → List Span
dropped spans [] = []
dropped spans (Assign span ∷ moves) = dropped (move_span spans (Assign span)) moves
dropped spans (Release span ∷ moves) = filter_map (common span) spans ++ dropped (move_span spans (Release span)) moves

-- whether the batch of a version drops a key
abbrev pub is_dropped : Given → ℕ → List ℕ → Bool
is_dropped given version key =
    list_any (λ batch. batch.version == version && drops key (is_assigned given (version - 1) key) batch.moves) given.log

-- the key is assigned at each version from one up to another
abbrev pub StaysAssigned : Given → (from upto : ℕ) → List ℕ → Type 0
StaysAssigned given from upto key = (version : ℕ) → from ≤ version → version ≤ upto → is_assigned given version key ≡ true

-- no batch above a version and up to another takes the key away
abbrev pub StaysHeld : Given → (above upto : ℕ) → List ℕ → Type 0
StaysHeld given above upto key = (version : ℕ) → above < version → version ≤ upto → takes_away given.log version key ≡ false

-- no batch above a version and up to another drops the key
abbrev pub IsIdle : Given → (above upto : ℕ) → List ℕ → Type 0
IsIdle given above upto key = (version : ℕ) → above < version → version ≤ upto → is_dropped given version key ≡ false

-- the spans have each key of the pieces just where its piece isn't absent
abbrev pub AreInStep : List Span → List Piece → Type 0
AreInStep spans pieces =
    AllByRecursion (λ piece. (key : List ℕ) → within (span_of piece) key ≡ true → holds spans key ≡ not (is_absent piece.phase)) pieces

-- the phase of a key that is gone since a version, by whether it is assigned again
abbrev pub gone : ℕ → Bool → Phase
gone since true = WaitPrevious since
gone since false = Absent since

-- the phase of a part of a fetched piece: of a key in it each end tells the same
pub record IsFetchedPart (key : List ℕ) (at : ℕ) (upto taken in_base : List ℕ) (phase : Phase) : Type 0 where
  pub upto_here : List ℕ
  pub taken_here : List ℕ
  pub in_base_here : List ℕ
  pub is : phase ≡ Fetching at upto_here taken_here in_base_here
  pub is_fetched : key_less key upto_here ≡ key_less key upto
  pub is_taken : key_less key taken_here ≡ key_less key taken
  pub is_in_base : key_less key in_base_here ≡ key_less key in_base

-- What the moves of the batch of a version make of the phase at a key, by whether they drop it, and whether it is assigned
-- behind them: one that they drop is gone since this version, and any other is as it was, but waits where it is assigned
abbrev pub IsMoved : (version : ℕ) → (dropped held : Bool) → List ℕ → (before after : Phase) → Type 0
IsMoved version true held key before after = after ≡ gone version held
IsMoved version false held key (Absent since) after = after ≡ gone since held
IsMoved version false held key (WaitPrevious since) after = after ≡ WaitPrevious since
IsMoved version false held key (Fetching at upto taken in_base) after = IsFetchedPart key at upto taken in_base after
IsMoved version false held key (Waiting transferred) after = after ≡ Waiting transferred
IsMoved version false held key Readable after = after ≡ Readable

-- the key isn't the server's, or waits to be fetched
abbrev pub is_gone : Phase → Bool
is_gone (Absent since) = true
is_gone (WaitPrevious since) = true
is_gone (Fetching at upto taken in_base) = false
is_gone (Waiting transferred) = false
is_gone Readable = false

-- The drops of a key in a piece of this phase. Where it is gone since a version, none is above that one, and where that
-- isn't durable, its batch drops the key. In the other phases none is above the durable version
abbrev pub IsIdleIn : Given → (durable newest : ℕ) → List ℕ → Phase → Type 0
IsIdleIn given durable newest key (Absent since) =
    (durable < since → is_dropped given since key ≡ true) × IsIdle given since newest key
IsIdleIn given durable newest key (WaitPrevious since) =
    (durable < since → is_dropped given since key ≡ true) × IsIdle given since newest key
IsIdleIn given durable newest key (Fetching at upto taken in_base) = IsIdle given durable newest key
IsIdleIn given durable newest key (Waiting transferred) = IsIdle given durable newest key
IsIdleIn given durable newest key Readable = IsIdle given durable newest key

-- where a commit is in flight, it doesn't hold the key
abbrev pub IsUnflown : State → List ℕ → Type 0
IsUnflown state key = IfSome state.flight (λ flight. holds flight.available key ≡ false)

-- A key that was taken away at a version. Where that isn't durable, it is the version of a batch that takes it away.
-- Where it is durable, the key isn't available, and where it will be with the commit in flight, it isn't so then
pub record IsGone (given : Given) (state : State) (since : ℕ) (key : List ℕ) : Type 0 where
  pub taken_away : state.durable < since → takes_away given.log since key ≡ true
  pub unavailable : since ≤ state.durable → holds state.available key ≡ false
  pub unflown : IfSome state.flight (λ flight. since ≤ flight.version → holds flight.available key ≡ false)

-- a key that is fetched from this version on, or was sent at it, and isn't served yet
pub record IsComing (given : Given) (state : State) (from : ℕ) (key : List ℕ) : Type 0 where
  pub stays : StaysAssigned given from state.newest key
  pub held : StaysHeld given from state.newest key
  pub unavailable : holds state.available key ≡ false

-- a key that is served
pub record IsServed (given : Given) (state : State) (key : List ℕ) : Type 0 where
  pub is_in : is_assigned given state.newest key ≡ true
  pub held : StaysHeld given state.durable state.newest key
  pub available : holds state.available key ≡ true
  pub flown : IfSome state.flight (λ flight. holds flight.available key ≡ true)

-- what holds of a key in a piece of this phase
abbrev pub IsKept : Given → State → List ℕ → Phase → Type 0
IsKept given state key (Absent since) = (is_assigned given state.newest key ≡ false) × IsGone given state since key
IsKept given state key (WaitPrevious since) = (is_assigned given state.newest key ≡ true) × IsGone given state since key
IsKept given state key (Fetching at upto taken in_base) = IsComing given state at key × IsUnflown state key
IsKept given state key (Waiting transferred) =
    IsComing given state transferred key
    × IfSome state.flight (λ flight. holds flight.available key ≡ nat_le transferred flight.version)
IsKept given state key Readable = IsServed given state key

-- how far a piece is fetched: the base's keys, then the flight's, then what came since, inside the piece
pub record IsFetched (state : State) (piece : Piece) (at : ℕ) (upto taken in_base : List ℕ) : Type 0 where
  pub begins : key_less in_base piece.begin ≡ false
  pub in_base_first : key_less taken in_base ≡ false
  pub taken_next : key_less upto taken ≡ false
  pub ends : key_less piece.end upto ≡ false
  pub has_come : at ≤ state.newest
  pub settled : state.flight ≡ None → in_base ≡ taken

-- what holds of a piece of this phase as a whole
abbrev pub IsPlaced : State → Piece → Phase → Type 0
IsPlaced state piece (Absent since) = Unit {0}
IsPlaced state piece (WaitPrevious since) = Unit {0}
IsPlaced state piece (Fetching at upto taken in_base) = IsFetched state piece at upto taken in_base
IsPlaced state piece (Waiting transferred) = (state.durable < transferred) × (transferred ≤ state.newest)
IsPlaced state piece Readable = Unit {0}

-- the numbers of a state
pub record IsCounted (state : State) : Type 0 where
  pub oldest : state.oldest ≡ state.durable
  pub durable : state.durable ≤ state.newest
  pub flight : IfSome state.flight (λ flight. (state.durable ≤ flight.version) × (flight.version ≤ state.newest))

-- each number is another than the later ones
abbrev pub AreApart : List Watch → Type 0
AreApart [] = Unit {0}
AreApart (watch ∷ later) = (is_registered watch.number later ≡ false) × AreApart later

-- the watches of a state: no more than may stand, none of a later version, and each with a number of its own
pub record AreWatched (given : Given) (state : State) : Type 0 where
  pub room : length state.watches ≤ given.settings.watches
  pub have_come : AllByRecursion (λ watch. watch.since ≤ state.newest) state.watches
  pub apart : AreApart state.watches

-- the versions of a state never fall from one state to a later one
pub record NeverFell (before after : State) : Type 0 where
  pub newest : before.newest ≤ after.newest
  pub oldest : before.oldest ≤ after.oldest
  pub durable : before.durable ≤ after.durable

-- what holds in every state that is reached
pub record IsReached (given : Given) (state : State) : Type 0 where
  pub counted : IsCounted state
  -- the pieces part the keys below ff
  pub partition : IsPartition state.pieces
  pub placed : AllByRecursion (λ piece. IsPlaced state piece piece.phase) state.pieces
  -- each key of each piece
  pub kept : AllByRecursion (λ piece. (key : List ℕ) → within (span_of piece) key ≡ true → IsKept given state key piece.phase) state.pieces
  pub idle : AllByRecursion (λ piece. (key : List ℕ) → within (span_of piece) key ≡ true → IsIdleIn given state.durable state.newest key piece.phase) state.pieces
  pub available : (key : List ℕ) → holds state.available key ≡ true → is_assigned given state.durable key ≡ true
  pub flown : IfSome state.flight (λ flight. (key : List ℕ) → holds flight.available key ≡ true → is_assigned given flight.version key ≡ true)

abbrev pub EndBelow : List Span → Type 0
EndBelow spans = AllByRecursion (λ span. key_less (255 ∷ []) span.end ≡ false) spans

-- every range that the server owns at first, or that a batch gives it, ends at most at ff
pub record EndsBelow (given : Given) : Type 0 where
  pub own : EndBelow given.own
  pub moves : AllByRecursion (λ batch. EndBelow (map span_moved batch.moves)) given.log

-- what a life may open with: keys that are assigned at its version
abbrev pub IsSoundOpening : Given → Opening → Type 0
IsSoundOpening given opening = (key : List ℕ) → holds opening.available key ≡ true → is_assigned given opening.version key ≡ true

-- the keys that the server owns at first are in canonical form, and every range that a batch moves has a key
pub record AreRanges (given : Given) : Type 0 where
  pub own : is_canonical given.own ≡ true
  pub moves : AllByRecursion (λ batch. AllByRecursion (λ span. key_less span.begin span.end ≡ true) (map span_moved batch.moves)) given.log

-- what is assigned at the newest version, what is available, and what will be so with the commit in flight are in
-- canonical form
pub record IsCanonical (given : Given) (state : State) : Type 0 where
  pub assigned : is_canonical (assigned given.own given.log state.newest) ≡ true
  pub available : is_canonical state.available ≡ true
  pub flown : IfSome state.flight (λ flight. is_canonical flight.available ≡ true)
