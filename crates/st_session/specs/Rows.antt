-- A log of two batches, which the tests read from a board that opened behind the first.
use Rattle.std.specs.Prelude.{◌≡◌, false, [], ◌∷◌}
use Rattle.st_board.specs.Base.{Store}
use Rattle.st_fold.specs.Map.{Map}
use Rattle.st_fold.specs.declared.plan.Settings.{Settings}
use Rattle.st_key.specs.Spans.{all_keys}
use Rattle.st_model.specs.State.{Given, Opening}
use Rattle.st_mutation.specs.declared.batch.Batch.{Batch}
use Rattle.st_mutation.specs.declared.batch.Mutation.TheVariants.{Set, Clear}

-- a batch of version 1 that sets a, b and c to 1, 2 and 3, and one of version 2 that clears b and sets d to 4
pub record IsRow (first second : Batch) : Type 0 where
  pub version : first.version ≡ 1
  pub moves : first.moves ≡ []
  pub mutations : first.mutations ≡ Set (97 ∷ []) (49 ∷ []) ∷ Set (98 ∷ []) (50 ∷ []) ∷ Set (99 ∷ []) (51 ∷ []) ∷ []
  pub next_version : second.version ≡ 2
  pub next_moves : second.moves ≡ []
  pub next_mutations : second.mutations ≡ Clear (record { begin = 98 ∷ []; end = 99 ∷ [] }) ∷ Set (100 ∷ []) (52 ∷ []) ∷ []

abbrev pub row_settings : Settings
row_settings = record { window = 1; patience = 2; seed = 1; swap = 64; limit = 1024; quota = 1; block = 1; watches = 1 }

abbrev pub row_given : (first second : Batch) → Given
row_given first second = record { log = first ∷ second ∷ []; upto = 2; own = all_keys ∷ []; settings = row_settings }

abbrev pub row_opening : Opening
row_opening = record { version = 1; available = all_keys ∷ [] }

-- the pairs behind the first batch
abbrev pub row_pairs : Map
row_pairs = (97 ∷ [], 49 ∷ []) ∷ (98 ∷ [], 50 ∷ []) ∷ (99 ∷ [], 51 ∷ []) ∷ []

abbrev pub row_store : Store
row_store = record { fresh = false; pairs = row_pairs }
