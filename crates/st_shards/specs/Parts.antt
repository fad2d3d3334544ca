-- What comes in place of one piece.
use Rattle.std.specs.Prelude.{◌≡◌, ℕ, List, ◌∷◌, IsTrue}
use Rattle.std.specs.Option.{option_to_list}
use Rattle.st_model.specs.declared.piece.Piece.{Piece}
use Rattle.st_model.specs.Pieces.{stops_at, split_piece}
use Rattle.st_shards.specs.declared.slots.Parts.{Parts}

-- the parts in order
abbrev pub parts_list : Parts → List Piece
parts_list parts = parts.first ∷ option_to_list parts.second

-- the parts that a split leaves of a piece, where it was fetched up to
abbrev pub AreSplit : ℕ → Piece → Parts → Type 0
AreSplit durable piece parts =
    (key : List ℕ) × IsTrue (stops_at key piece) × (parts_list parts ≡ split_piece durable key piece)
