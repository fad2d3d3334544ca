-- The course of a watch from version to version.
use Rattle.std.specs.Prelude.{◌≡◌, ℕ, ◌<◌, ◌++◌, Bool, List, [], ◌∷◌, fold, Option, if◌then◌else◌}
use Rattle.st_key.specs.Spans.{Span}
use Rattle.st_mutation.specs.declared.batch.Batch.{Batch}
use Rattle.st_fold.specs.Map.{batches_to}
use Rattle.st_model.specs.declared.watch.WatchState.{WatchState}
use Rattle.st_model.specs.declared.watch.WatchState.TheVariants.{Waiting, Fired, Lost}
use Rattle.st_model.specs.State.{Watch}
use Rattle.st_model.specs.Watching.{watch_state}
use Rattle.st_watch.specs.declared.entry.Standing.{Standing}
use Rattle.st_watch.specs.Watches.{after_loss, after_touch}

-- a batch is the next one of a log behind a version: up to it come the batches up to that version, and it
pub record IsNext (log : List Batch) (newest : ℕ) (batch : Batch) : Type 0 where
  pub above : newest < batch.version
  pub batches : batches_to batch.version log ≡ batches_to newest log ++ batch ∷ []

-- a watch of a log as it stands at a version
abbrev pub standing_at : List Batch → Watch → ℕ → Standing
standing_at log watch newest = record { key = watch.key; value = watch.value; state = watch_state log watch newest }

-- a watch after a version that takes these spans away and leaves its key the value `now`
abbrev pub after_version : List Span → Option (List ℕ) → ℕ → Standing → Standing
after_version released now version standing =
    after_touch standing.key now version (fold (λ before span. after_loss span version before) standing released)

-- the state of a watch after a version, by whether that takes its key away, and leaves it the value of the watch
abbrev pub next_state : WatchState → (gone same : Bool) → ℕ → WatchState
next_state Waiting gone same version = if gone then Lost version else (if same then Waiting else Fired version)
next_state (Fired at) gone same version = Fired at
next_state (Lost at) gone same version = Lost at
