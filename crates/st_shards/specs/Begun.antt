-- Fetched pieces, each fetched from its begin on.
use Rattle.std.specs.Prelude.{ℕ, Bool, true, not, List, IsTrue}
use Rattle.std.specs.List.{AllByRecursion}
use Rattle.st_key.specs.Spans.{key_less}
use Rattle.st_model.specs.declared.piece.Phase.{Phase}
use Rattle.st_model.specs.declared.piece.Phase.TheVariants.{Absent, WaitPrevious, Fetching, Waiting, Readable}
use Rattle.st_model.specs.declared.piece.Piece.{Piece}

-- what is fetched is fetched up to this key or a key above it
abbrev pub is_begun : List ℕ → Phase → Bool
is_begun begin (Fetching at upto taken in_base) = not (key_less upto begin)
is_begun begin (Absent since) = true
is_begun begin (WaitPrevious since) = true
is_begun begin (Waiting transferred) = true
is_begun begin Readable = true

-- each piece that is fetched is fetched up to its begin at least
abbrev pub AreBegun : List Piece → Type 0
AreBegun pieces = AllByRecursion (λ piece. IsTrue (is_begun piece.begin piece.phase)) pieces
