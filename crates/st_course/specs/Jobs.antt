-- The job of a commit: the sets and clears that it makes durable.
use Rattle.std.specs.Prelude.{ℕ, Bool, ◌&&◌, nat_le, nat_lt, List, [], ◌∷◌, ◌++◌, filter, fold, map, if◌then◌else◌}
use Rattle.std.specs.List.{flat_map}
use Rattle.st_fold.specs.Map.{folded}
use Rattle.st_fold.specs.Reading.{pairs_in}
use Rattle.st_key.specs.Parts.{without_span}
use Rattle.st_key.specs.Spans.{Span, all_keys}
use Rattle.st_meta.specs.Stored.{sets_of, stored}
use Rattle.st_meta.specs.declared.state.Meta.{Meta}
use Rattle.st_model.specs.State.{Given, Opening, State, assigned}
use Rattle.st_model.specs.declared.piece.Phase.{Phase}
use Rattle.st_model.specs.declared.piece.Phase.TheVariants.{Absent, WaitPrevious, Fetching, Waiting, Readable}
use Rattle.st_model.specs.declared.piece.Piece.{Piece}
use Rattle.st_mutation.specs.declared.batch.Batch.{Batch}
use Rattle.st_mutation.specs.declared.batch.Mutation.{Mutation}
use Rattle.st_mutation.specs.declared.batch.Mutation.TheVariants as write
use Rattle.st_ops.specs.declared.op.Op.{Op}
use Rattle.st_ops.specs.declared.op.Op.TheVariants.{Set, Clear}
use Rattle.st_course.specs.declared.job.CommitJob.{CommitJob}

-- What the first commit of a life clears: the keys that aren't available, where the store has frames. A fresh one has no pairs
-- there.
abbrev pub clears_of : (fresh : Bool) → (available : List Span) → List Span
clears_of fresh available = if fresh then [] else fold without_span (all_keys ∷ []) available

abbrev pub clear_of : Span → Op
clear_of span = Clear span.begin span.end

-- a set or a clear as an operation. No operation on a value is ever sent
abbrev pub op_of : Mutation → List Op
op_of (write.Set key value) = Set key value ∷ []
op_of (write.Clear span) = clear_of span ∷ []
op_of (write.Atomic op key operand) = []

-- what was sent above a version and up to another, as operations
abbrev pub ops_between : (above upto : ℕ) → (sent : List (ℕ × Mutation)) → List Op
ops_between above upto sent = flat_map (λ made. op_of made.1) (filter (λ made. nat_lt above made.0 && nat_le made.0 upto) sent)

-- the rows of a fetched piece that the commit took and the base doesn't have: those of the version of its fetch
abbrev pub rows_of : List Batch → Piece → List Op
rows_of log piece = of piece.phase
  where
    of : Phase → List Op
    of (Fetching at upto taken in_base) = map (λ pair. Set pair.0 pair.1) (pairs_in (record { begin = in_base; end = taken }) (folded log at))
    of (Absent since) = []
    of (WaitPrevious since) = []
    of (Waiting transferred) = []
    of Readable = []

-- the state that is stored of a commit
abbrev pub meta_of : Given → (flight : Opening) → Meta
meta_of given flight = record {
  version = flight.version;
  assigned = assigned given.own given.log flight.version;
  available = flight.available;
}

-- The job of the flight of a state that it has just led to: what is still to be cleared, what was sent above the durable version
-- and up to the flight's, the rows that it took, and the state that is stored.
abbrev pub job_of : Given → (clears : List Span) → (sent : List (ℕ × Mutation)) → State → (flight : Opening) → CommitJob
job_of given clears sent state flight = record {
  version = flight.version;
  ops = map clear_of clears
      ++ ops_between state.durable flight.version sent
      ++ flat_map (rows_of given.log) state.pieces
      ++ sets_of (stored (meta_of given flight));
}
