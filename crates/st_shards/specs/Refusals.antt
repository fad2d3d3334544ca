-- When a change of the map is refused.
use Rattle.std.specs.Prelude.{◌≡◌, ℕ, Bool, false, List, Option, Some, Result, Ok, Err, IsTrue}
use Rattle.st_model.specs.declared.piece.Phase.{Phase}
use Rattle.st_model.specs.declared.piece.Piece.{Piece}
use Rattle.st_model.specs.Pieces.{begins, stops_at, change_at, split_piece}
use Rattle.st_shards.specs.declared.refusal.ShardRefusal.{ShardRefusal}
use Rattle.st_shards.specs.declared.refusal.ShardRefusal.TheVariants.{NotDue, NoMemory}

-- what isn't due is refused with the phase at the key. Memory may be refused in either case
abbrev pub Tells : Bool → Option Phase → ShardRefusal → Type 0
Tells due phase (NotDue told) = (due ≡ false) × (phase ≡ Some told)
Tells due phase NoMemory = Unit {0}

-- it is done only where it is due, and refused as not due exactly where it isn't
abbrev pub RefusesNotDue : {A : Type 0} → Bool → Option Phase → Result A ShardRefusal → Type 0
RefusesNotDue due phase (Ok done) = IsTrue due
RefusesNotDue due phase (Err why) = Tells due phase why

-- the piece that begins at the key is split where it was fetched up to
abbrev pub IsSplitOff : ℕ → List ℕ → List Piece → List Piece → Type 0
IsSplitOff durable begin old new =
    (key : List ℕ) × IsTrue (begins (stops_at key) begin old) × (new ≡ change_at begin (split_piece durable key) old)
