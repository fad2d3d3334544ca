-- The least key of a span that isn't served, of any span.
use Rattle.std.specs.Prelude.{ℕ, Bool, not, ◌&&◌, List, Option, Some, None, if◌then◌else◌}
use Rattle.st_key.specs.Spans.{Span, key_less, all_keys}
use Rattle.st_key.specs.Parts.{greatest}
use Rattle.st_model.specs.declared.piece.Piece.{Piece}
use Rattle.st_model.specs.Pieces.{is_readable}
use Rattle.st_model.specs.Reply.{first_unreadable}

-- the piece has keys of the span, and isn't served
abbrev pub is_missing : Span → Piece → Bool
is_missing span piece = not (is_readable piece.phase) && key_less piece.begin span.end && key_less span.begin piece.end

-- the first key of the span from ff on, if there is one: those keys are in no piece
abbrev pub beyond : Span → Option (List ℕ)
beyond span = if key_less all_keys.end span.end then Some (greatest all_keys.end span.begin) else None

abbrev pub or_beyond : Span → Option (List ℕ) → Option (List ℕ)
or_beyond span (Some key) = Some key
or_beyond span None = beyond span

-- the least key of the span that lies in no readable piece
abbrev pub first_unserved : List Piece → Span → Option (List ℕ)
first_unserved pieces span = or_beyond span (first_unreadable pieces span)
