-- Entries that are still to come.
use Rattle.std.specs.Prelude.{ℕ, List, [], ◌∷◌, Option, Some, None}
use Rattle.st_ptree.specs.Entries.{above, pairs_of}

module _ {T : Type 0} where
  -- the pair that comes next, and those above it
  abbrev pub pairs_from : Option (List ℕ × T) → List (List ℕ × (ℕ × T)) → List (List ℕ × T)
  pairs_from None es = []
  pairs_from (Some pair) es = pair ∷ pairs_of (above es pair.0)
