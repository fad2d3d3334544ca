-- Moves of keys, as far as they are about phases, and cuts that are taken back.
use Rattle.std.specs.Prelude.{◌≡◌, ◌+◌, ◌<◌, Bool, not, ◌&&◌, List, length, slice_set, Option, Some, None, if◌then◌else◌}
use Rattle.std.specs.List.{remove}
use Rattle.st_key.specs.Spans.{Span}
use Rattle.st_model.specs.declared.piece.Phase.{Phase}
use Rattle.st_model.specs.declared.piece.Phase.TheVariants.{Absent}
use Rattle.st_model.specs.declared.piece.Piece.{Piece}
use Rattle.st_model.specs.Pieces.{span_of, is_absent, waits, lies_in}
use Rattle.st_shards.specs.declared.moves.Change.{Change}
use Rattle.st_shards.specs.declared.moves.Change.TheVariants.{Assign, Release}
use Rattle.st_shards.specs.declared.moves.Cut.{Cut}

-- which phases a change is about
abbrev pub moves : Change → Phase → Bool
moves Assign = is_absent
moves (Release version) = λ phase. not (is_absent phase)

-- what it makes of these
abbrev pub moved : Change → Phase → Phase
moved Assign = waits
moved (Release version) = λ phase. Absent version

-- what it makes of a piece within a span
abbrev pub change_piece : Span → Change → Piece → Piece
change_piece span change piece =
    if moves change piece.phase && lies_in (span_of piece) span then record piece { phase = moved change piece.phase } else piece

-- the pieces with a cut taken back: its right part is taken out, and the whole put in place of the left one
abbrev pub undone : List Piece → Option Cut → List Piece
undone pieces None = pieces
undone pieces (Some cut) = slice_set (remove pieces cut.right) cut.left cut.whole

-- taking the cut back leads from the new pieces to the old ones
abbrev pub IsUndone : List Piece → List Piece → Option Cut → Type 0
IsUndone old new None = new ≡ old
IsUndone old new (Some cut) = (cut.left + 1 ≡ cut.right) × (cut.right < length new) × (undone new (Some cut) ≡ old)
