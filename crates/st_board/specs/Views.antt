-- What a board shows of a range at a version.
use Rattle.std.specs.Prelude.{◌≡◌, ℕ, ◌≤◌, ◌<◌, true, List, Some, None, Result, Ok, Err}
use Rattle.st_key.specs.Spans.{Span, within}
use Rattle.st_model.specs.State.{State}
use Rattle.st_mutation.specs.declared.batch.Batch.{Batch}
use Rattle.st_ptree.specs.Entries.{pairs_of}
use Rattle.st_shards.specs.Unserved.{first_unserved}
use Rattle.st_versioned.specs.Root.{over}
use Rattle.st_course.specs.Sent.{value_of}
use Rattle.st_board.specs.declared.refusal.ViewRefusal.{ViewRefusal}
use Rattle.st_board.specs.declared.refusal.ViewRefusal.TheVariants as why
use Rattle.st_board.specs.declared.view.View.{View}

-- the version can be read, and each key of the span is served
pub record IsReadable (state : State) (span : Span) (version : ℕ) : Type 0 where
  pub oldest : state.oldest ≤ version
  pub newest : version ≤ state.newest
  pub served : first_unserved state.pieces span ≡ None

-- The view has the values of the version in the span. A version is refused exactly where it is too old or hasn't come, and a
-- span exactly where a key of it isn't served, of which the least is told.
abbrev pub IsViewed : List Batch → State → Span → ℕ → Result View ViewRefusal → Type 0
IsViewed log state span version (Ok view) =
    IsReadable state span version
    × ((key : List ℕ) → within span key ≡ true → over (pairs_of view.root.entries) (pairs_of view.base) key ≡ value_of log version key)
IsViewed log state span version (Err (why.TooOld oldest)) = (version < state.oldest) × (oldest ≡ state.oldest)
IsViewed log state span version (Err (why.NotYet newest)) = (state.oldest ≤ version) × (state.newest < version) × (newest ≡ state.newest)
IsViewed log state span version (Err (why.WrongShard at)) =
    (state.oldest ≤ version) × (version ≤ state.newest) × (first_unserved state.pieces span ≡ Some at.now)
IsViewed log state span version (Err why.NoMemory) = IsReadable state span version
