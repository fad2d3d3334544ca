-- Pieces on the way to an opening.
use Rattle.std.specs.Prelude.{ℕ, List}
use Rattle.std.specs.List.{flat_map, fold}
use Rattle.st_key.specs.Spans.{Span, holds}
use Rattle.st_model.specs.declared.piece.Piece.{Piece}
use Rattle.st_model.specs.declared.piece.Phase.TheVariants.{Absent}
use Rattle.st_model.specs.Pieces.{cut_span, first_phase, in_phase}

-- the keys of a span in one piece that isn't the server's, since a version
abbrev pub blank : ℕ → Span → Piece
blank since span = record { begin = span.begin; end = span.end; phase = Absent since }

-- spans cut at keys, one key after the other
abbrev pub cut_all : List Span → List (List ℕ) → List Span
cut_all parts keys = fold (λ ps key. flat_map (cut_span key) ps) parts keys

-- the piece in the phase that its first key has at an opening
abbrev pub opened_piece : ℕ → (available assigned : List Span) → Piece → Piece
opened_piece since available assigned piece = in_phase (first_phase since (holds available piece.begin) (holds assigned piece.begin)) piece
