-- The keys that a log's moves leave to the server.
use Rattle.std.specs.Prelude.{ℕ, Bool, not, ◌&&◌, ◌||◌, List, fold}
use Rattle.st_key.specs.Spans.{Span, within, holds}
use Rattle.st_mutation.specs.declared.batch.Batch.{Batch}
use Rattle.st_mutation.specs.declared.batch.Move.{Move}
use Rattle.st_mutation.specs.declared.batch.Move.TheVariants.{Assign, Release}
use Rattle.st_fold.specs.Map.{batches_to}

-- whether a key is assigned after a move, by whether it was before
abbrev pub assigned_by : List ℕ → Bool → Move → Bool
assigned_by key before (Assign span) = before || within span key
assigned_by key before (Release span) = before && not (within span key)

-- whether a key is assigned at a version: it is one of the server's own, or was assigned by a later move than the last
-- that released it
abbrev pub is_assigned : List Span → List Batch → ℕ → List ℕ → Bool
is_assigned own log version key =
    fold (λ before batch. fold (assigned_by key) before batch.moves) (holds own key) (batches_to version log)
