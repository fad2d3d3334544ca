-- What a batch sends to the versions that are kept above the base: sets and clears.
use Rattle.std.specs.Prelude.{ℕ, ◌-◌, Bool, true, false, nat_lt, List, [], ◌∷◌, ◌++◌, filter, fold, map, Option, Some, None, option_and_then, if◌then◌else◌}
use Rattle.std.specs.List.{filter_map, flat_map}
use Rattle.std.specs.Option.{option_map}
use Rattle.st_atomic.specs.Atomic.{changed}
use Rattle.st_atomic.specs.declared.AtomicOp.{AtomicOp}
use Rattle.st_atomic.specs.declared.AtomicOp.TheVariants.{Add, And, Or, Xor, Max, Min, ByteMin, ByteMax, AppendIfFits, CompareAndClear}
use Rattle.st_fold.specs.Map.{batches_to, folded, value_at}
use Rattle.st_fold.specs.Reading.{span_of_key}
use Rattle.st_key.specs.Spans.{Span}
use Rattle.st_model.specs.Pieces.{inject, is_whole, move_piece, span_of}
use Rattle.st_model.specs.State.{Given, State, assigned, move_span}
use Rattle.st_model.specs.declared.piece.Phase.{Phase}
use Rattle.st_model.specs.declared.piece.Phase.TheVariants.{Absent, WaitPrevious, Fetching, Waiting, Readable}
use Rattle.st_model.specs.declared.piece.Piece.{Piece}
use Rattle.st_mutation.specs.Clip.{clipped, common}
use Rattle.st_mutation.specs.Effect.{value_by}
use Rattle.st_mutation.specs.declared.batch.Batch.{Batch}
use Rattle.st_mutation.specs.declared.batch.Move.{Move}
use Rattle.st_mutation.specs.declared.batch.Move.TheVariants.{Assign, Release}
use Rattle.st_mutation.specs.declared.batch.Mutation.{Mutation}
use Rattle.st_mutation.specs.declared.batch.Mutation.TheVariants.{Set, Clear, Atomic}

-- the value of a key behind all batches up to a version
abbrev pub value_of : List Batch → ℕ → List ℕ → Option (List ℕ)
value_of log version key = value_at (folded log version) key

-- the batches above a version and up to another
abbrev pub batches_between : List Batch → (above upto : ℕ) → List Batch
batches_between log above upto = filter (λ batch. nat_lt above batch.version) (batches_to upto log)

-- ---- a mutation as a set or a clear

abbrev pub compares : AtomicOp → Bool
compares CompareAndClear = true
compares Add = false
compares And = false
compares Or = false
compares Xor = false
compares Max = false
compares Min = false
compares ByteMin = false
compares ByteMax = false
compares AppendIfFits = false

-- A result is stored as a set, also where it is the value that was there. One that compares clears the key where it leaves no
-- value, and nothing is stored where it leaves one.
abbrev pub result_as : AtomicOp → List ℕ → (before after : Option (List ℕ)) → Option Mutation
result_as op key before (Some value) = if compares op then None else Some (Set key value)
result_as op key before None = option_map (λ _. Clear (span_of_key key)) before

-- what is stored of a mutation, where keys had these values
abbrev pub stored_as : Mutation → (List ℕ → Option (List ℕ)) → Option Mutation
stored_as (Set key value) before = Some (Set key value)
stored_as (Clear span) before = Some (Clear span)
stored_as (Atomic op key operand) before = result_as op key (before key) (changed op (before key) operand)

-- what is sent of a mutation to these spans, one after the other: of each its part there, as it is stored
abbrev pub sent_to : List Span → (List ℕ → Option (List ℕ)) → Mutation → List Mutation
sent_to spans before mutation = filter_map (λ span. option_and_then (λ part. stored_as part before) (clipped mutation span)) spans

-- what is sent of several, each behind those before it
abbrev pub sent_of : List Span → (List ℕ → Option (List ℕ)) → List Mutation → List Mutation
sent_of spans before [] = []
sent_of spans before (mutation ∷ mutations) = sent_to spans before mutation ++ sent_of spans (λ key. value_by key (before key) mutation) mutations

-- what is sent of the mutations of a batch: keys have the values of the version before it
abbrev pub sent_in : List Batch → List Span → Batch → List Mutation
sent_in log spans batch = sent_of spans (value_of log (batch.version - 1)) batch.mutations

-- ---- what a batch sends

-- the clears of moves: for each drop the ranges of its keys that were assigned just before it
abbrev pub dropped : (assigned : List Span) → List Move → List Mutation
dropped spans [] = []
dropped spans (Assign span ∷ moves) = dropped (move_span spans (Assign span)) moves
dropped spans (Release span ∷ moves) = map Clear (filter_map (common span) spans) ++ dropped (move_span spans (Release span)) moves

-- what a whole piece held since its fetch, as it is sent: the part in it of each batch above the fetch's version
abbrev pub held_of : List Batch → (newest : ℕ) → Piece → List Mutation
held_of log newest piece = if is_whole piece then since piece.phase else []
  where
    since : Phase → List Mutation
    since (Fetching at upto taken in_base) = flat_map (sent_in log (span_of piece ∷ [])) (batches_between log at newest)
    since (Absent at) = []
    since (WaitPrevious at) = []
    since (Waiting transferred) = []
    since Readable = []

-- a piece whose mutations are sent: one that is served, or will be once its version is durable
abbrev pub is_sent : Phase → Bool
is_sent (Absent since) = false
is_sent (WaitPrevious since) = false
is_sent (Fetching at upto taken in_base) = false
is_sent (Waiting transferred) = true
is_sent Readable = true

-- the spans of these pieces
abbrev pub sent_spans : List Piece → List Span
sent_spans pieces = map span_of (filter (λ piece. is_sent piece.phase) pieces)

-- All that a batch sends behind a state: the clears of its drops, then what the pieces that are whole behind its moves held, then
-- its own mutations, to the pieces that take them once those are sent.
abbrev pub sent_by : Given → State → Batch → List Mutation
sent_by given state batch = let moved = fold (move_piece batch.version) state.pieces batch.moves in
    dropped (assigned given.own given.log state.newest) batch.moves
    ++ flat_map (held_of given.log state.newest) moved
    ++ sent_in given.log (sent_spans (map (inject batch.version) moved)) batch
