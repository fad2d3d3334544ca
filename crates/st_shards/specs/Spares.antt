-- The key that settling a fetched piece takes.
use Rattle.std.specs.Prelude.{◌≡◌, ℕ, List, [], Option}
use Rattle.std.specs.List.{AllZip}
use Rattle.std.specs.Option.{unwrap_or}
use Rattle.st_model.specs.declared.piece.Piece.{Piece}
use Rattle.st_model.specs.declared.piece.Phase.{Phase}
use Rattle.st_model.specs.declared.piece.Phase.TheVariants.{Absent, WaitPrevious, Fetching, Waiting, Readable}

-- how far the base has a fetched piece once it is settled: up to the spare key, or as far as before where there is none
abbrev pub base_after : Phase → Option (List ℕ) → List ℕ
base_after (Fetching at upto taken in_base) spare = unwrap_or spare in_base
base_after (Absent since) spare = []
base_after (WaitPrevious since) spare = []
base_after (Waiting transferred) spare = []
base_after Readable spare = []

-- how far the flight has taken a fetched piece
abbrev pub taken_of : Phase → List ℕ
taken_of (Fetching at upto taken in_base) = taken
taken_of (Absent since) = []
taken_of (WaitPrevious since) = []
taken_of (Waiting transferred) = []
taken_of Readable = []

-- with the spare key, the base gets what the flight has taken
abbrev pub Settles : Phase → Option (List ℕ) → Type 0
Settles phase spare = base_after phase spare ≡ taken_of phase

-- each piece with its own spare key
abbrev pub AreSettled : List Piece → List (Option (List ℕ)) → Type 0
AreSettled pieces spares = AllZip (λ piece spare. Settles piece.phase spare) pieces spares
