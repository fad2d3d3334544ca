-- A log of two batches, which the tests play.
use Rattle.std.specs.Prelude.{◌≡◌, true, [], ◌∷◌}
use Rattle.st_fold.specs.Map.{Map}
use Rattle.st_fold.specs.declared.plan.Settings.{Settings}
use Rattle.st_key.specs.Spans.{all_keys}
use Rattle.st_model.specs.State.{Given, Opening}
use Rattle.st_mutation.specs.declared.batch.Batch.{Batch}
use Rattle.st_mutation.specs.declared.batch.Mutation.TheVariants.{Set}
use Rattle.st_board.specs.Base.{Store}

-- a batch of version 1 that sets a to 1, and one of version 2 that changes nothing
pub record IsRow (first second : Batch) : Type 0 where
  pub version : first.version ≡ 1
  pub moves : first.moves ≡ []
  pub mutations : first.mutations ≡ Set (97 ∷ []) (49 ∷ []) ∷ []
  pub next_version : second.version ≡ 2
  pub next_moves : second.moves ≡ []
  pub next_mutations : second.mutations ≡ []

abbrev pub row_settings : Settings
row_settings = record { window = 1; patience = 3; seed = 1; swap = 64; limit = 1024; quota = 1; block = 1; watches = 1 }

abbrev pub row_given : (first second : Batch) → Given
row_given first second = record { log = first ∷ second ∷ []; upto = 2; own = all_keys ∷ []; settings = row_settings }

abbrev pub row_opening : Opening
row_opening = record { version = 0; available = all_keys ∷ [] }

abbrev pub row_store : Store
row_store = record { fresh = true; pairs = [] }

-- the pairs behind the first batch
abbrev pub row_pairs : Map
row_pairs = (97 ∷ [], 49 ∷ []) ∷ []
