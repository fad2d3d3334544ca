-- Pieces that part all keys among them, and the piece that has a key.
use Rattle.std.specs.Prelude.{◌≡◌, ℕ, ◌<◌, Bool, false, ◌&&◌, List, [], ◌∷◌, length, slice_index_or, IsTrue, Option, Some, if◌then◌else◌}
use Rattle.std.specs.List.{find}
use Rattle.std.specs.Option.{option_map}
use Rattle.st_key.specs.Spans.{Span, key_less, within, all_keys}
use Rattle.st_model.specs.declared.piece.Piece.{Piece}
use Rattle.st_model.specs.declared.piece.Phase.{Phase}
use Rattle.st_model.specs.Pieces.{span_of, serves, part, in_phase}

-- these lie one behind another, from one key up to another, and each has a key
abbrev pub Tiles : {X : Type 0} → (X → Span) → (low high : List ℕ) → List X → Type 0
Tiles span low high [] = low ≡ high
Tiles span low high (x ∷ xs) = ((span x).begin ≡ low) × IsTrue (key_less (span x).begin (span x).end) × Tiles span (span x).end high xs

-- the pieces part the keys below ff among them, in key order
abbrev pub IsPartition : List Piece → Type 0
IsPartition pieces = Tiles span_of all_keys.begin all_keys.end pieces

-- the first whose span has the key
abbrev pub holder : {X : Type 0} → (X → Span) → List X → List ℕ → Option X
holder span xs key = find (λ x. within (span x) key) xs

-- the piece that has a key
abbrev pub piece_at : List Piece → List ℕ → Option Piece
piece_at pieces key = holder span_of pieces key

-- the phase at a key
abbrev pub phase_at : List Piece → List ℕ → Option Phase
phase_at pieces key = option_map (λ piece. piece.phase) (piece_at pieces key)

-- the key lies inside the span, and isn't its begin
abbrev pub cuts : List ℕ → Span → Bool
cuts place span = key_less span.begin place && key_less place span.end

-- the part of a span that has a key, where the span is cut at a place
abbrev pub side : (key place : List ℕ) → Span → Span
side key place span =
    if cuts place span
    then (if key_less key place then record { begin = span.begin; end = place } else record { begin = place; end = span.end })
    else span

-- the part of a piece that has a key, where the piece is cut at a place
abbrev pub part_with : (key place : List ℕ) → Piece → Piece
part_with key place piece = if cuts place (span_of piece) then part piece (side key place (span_of piece)) else piece

-- what a change within a span makes of the piece that has a key
abbrev pub changed_with : List ℕ → Span → (Phase → Bool) → (Phase → Phase) → Piece → Piece
changed_with key span test to piece =
    if test piece.phase
    then (let inner : Piece = part_with key span.end (part_with key span.begin piece) in
    if within span key then in_phase (to inner.phase) inner else inner)
    else piece

-- the piece at this place of the list has the key
abbrev pub IsPlaceOf : List Piece → List ℕ → ℕ → Type 0
IsPlaceOf pieces key at =
    (at < length pieces)
    × ((other : Piece) → IsTrue (within (span_of (slice_index_or pieces at other)) key)
    × (piece_at pieces key ≡ Some (slice_index_or pieces at other)))

-- the key is the least one of the span that isn't served
pub record IsFirstUnserved (pieces : List Piece) (span : Span) (key : List ℕ) : Type 0 where
  pub asked : IsTrue (within span key)
  pub unserved : serves pieces key ≡ false
  pub least : (other : List ℕ) → IsTrue (within span other) → IsTrue (key_less other key) → IsTrue (serves pieces other)

-- every key of the span is served
abbrev pub AreServed : List Piece → Span → Type 0
AreServed pieces span = (key : List ℕ) → IsTrue (within span key) → IsTrue (serves pieces key)
