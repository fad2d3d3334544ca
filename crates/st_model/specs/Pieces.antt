-- The keys below ff in pieces: cut by moves, and never merged.
use Rattle.std.specs.Prelude.{ℕ, Bool, true, false, not, ◌&&◌, nat_lt, nat_le, bytes_eq, List, [], ◌∷◌, ◌++◌, map, Option, if◌then◌else◌}
use Rattle.std.specs.List.{flat_map, fold, find, list_any}
use Rattle.std.specs.Option.{option_map_or}
use Rattle.st_key.specs.Spans.{Span, key_less, within, holds}
pub use Rattle.st_key.specs.Spans.{all_keys}
use Rattle.st_key.specs.Parts.{least, greatest}
use Rattle.st_mutation.specs.declared.batch.Move.{Move}
use Rattle.st_mutation.specs.declared.batch.Move.TheVariants.{Assign, Release}
use Rattle.st_model.specs.declared.piece.Piece.{Piece}
use Rattle.st_model.specs.declared.piece.Phase.{Phase}
use Rattle.st_model.specs.declared.piece.Phase.TheVariants.{Absent, WaitPrevious, Fetching, Waiting, Readable}

abbrev pub span_of : Piece → Span
span_of piece = record { begin = piece.begin; end = piece.end }

abbrev pub is_absent : Phase → Bool
is_absent (Absent since) = true
is_absent (WaitPrevious since) = false
is_absent (Fetching at upto taken in_base) = false
is_absent (Waiting transferred) = false
is_absent Readable = false

abbrev pub is_readable : Phase → Bool
is_readable (Absent since) = false
is_readable (WaitPrevious since) = false
is_readable (Fetching at upto taken in_base) = false
is_readable (Waiting transferred) = false
is_readable Readable = true

-- the key lies in a readable piece
abbrev pub serves : List Piece → List ℕ → Bool
serves pieces key = list_any (λ piece. is_readable piece.phase && within (span_of piece) key) pieces

-- the nearest key between two ends, both included
abbrev pub nearest : Span → List ℕ → List ℕ
nearest span key = greatest span.begin (least key span.end)

-- the phase of the part of a piece that has this span: what was fetched is cut to it
abbrev pub phase_in : Span → Phase → Phase
phase_in span (Fetching at upto taken in_base) = Fetching at (nearest span upto) (nearest span taken) (nearest span in_base)
phase_in span (Absent since) = Absent since
phase_in span (WaitPrevious since) = WaitPrevious since
phase_in span (Waiting transferred) = Waiting transferred
phase_in span Readable = Readable

abbrev pub part : Piece → Span → Piece
part piece span = record { begin = span.begin; end = span.end; phase = phase_in span piece.phase }

-- the parts of a piece below a key and from it on, where the key lies inside
abbrev pub cut : List ℕ → Piece → List Piece
cut key piece =
    if key_less piece.begin key && key_less key piece.end
    then part piece (record { begin = piece.begin; end = key }) ∷ part piece (record { begin = key; end = piece.end }) ∷ []
    else piece ∷ []

-- the pieces whose phase passes the test, cut at a key
abbrev pub cut_where : (Phase → Bool) → List ℕ → List Piece → List Piece
cut_where test key pieces = flat_map (λ piece. if test piece.phase then cut key piece else piece ∷ []) pieces

-- every key of the first span is in the second
abbrev pub lies_in : Span → Span → Bool
lies_in inner outer = not (key_less inner.begin outer.begin) && not (key_less outer.end inner.end)

-- what passes the test is cut at both ends of the span, and inside it gets another phase
abbrev pub change_within : Span → (Phase → Bool) → (Phase → Phase) → List Piece → List Piece
change_within span test to pieces =
    map (λ piece. if test piece.phase && lies_in (span_of piece) span then record piece { phase = to piece.phase } else piece)
    (cut_where test span.end (cut_where test span.begin pieces))

-- an absent piece that is assigned waits until the drop that took it away is durable
abbrev pub waits : Phase → Phase
waits (Absent since) = WaitPrevious since
waits (WaitPrevious since) = WaitPrevious since
waits (Fetching at upto taken in_base) = Fetching at upto taken in_base
waits (Waiting transferred) = Waiting transferred
waits Readable = Readable

-- the pieces after one move of the batch of a version
abbrev pub move_piece : ℕ → List Piece → Move → List Piece
move_piece version pieces (Assign span) = change_within span is_absent waits pieces
move_piece version pieces (Release span) = change_within span (λ phase. not (is_absent phase)) (λ phase. Absent version) pieces

-- a span cut at a key, where the key lies inside
abbrev pub cut_span : List ℕ → Span → List Span
cut_span key span =
    if key_less span.begin key && key_less key span.end
    then record { begin = span.begin; end = key } ∷ record { begin = key; end = span.end } ∷ []
    else span ∷ []

abbrev pub ends_of : List Span → List (List ℕ)
ends_of spans = flat_map (λ span. span.begin ∷ span.end ∷ []) spans

-- all keys, cut at the ends of these spans
abbrev pub cut_keys : List Span → List Span
cut_keys spans = fold (λ parts key. flat_map (cut_span key) parts) (all_keys ∷ []) (ends_of spans)

-- the phase at an opening, of the keys that are available, assigned alone, and neither
abbrev pub first_phase : ℕ → Bool → Bool → Phase
first_phase version true assigned = Readable
first_phase version false true = WaitPrevious version
first_phase version false false = Absent version

-- the pieces of an opening
abbrev pub first_pieces : ℕ → List Span → List Span → List Piece
first_pieces version available assigned =
    map (λ span. record { begin = span.begin; end = span.end; phase = first_phase version (holds available span.begin) (holds assigned span.begin) })
    (cut_keys (available ++ assigned))

-- the piece that begins at a key
abbrev pub piece_from : List ℕ → List Piece → Option Piece
piece_from begin pieces = find (λ piece. bytes_eq piece.begin begin) pieces

-- whether a piece begins at the key, and passes the test
abbrev pub begins : (Piece → Bool) → List ℕ → List Piece → Bool
begins test begin pieces = option_map_or test (piece_from begin pieces) false

-- these come in place of the piece that begins at the key
abbrev pub change_at : List ℕ → (Piece → List Piece) → List Piece → List Piece
change_at begin change pieces = flat_map (λ piece. if bytes_eq piece.begin begin then change piece else piece ∷ []) pieces

-- the piece with another phase
abbrev pub in_phase : Phase → Piece → Piece
in_phase phase piece = record { begin = piece.begin; end = piece.end; phase = phase }

-- the phase passes through the change, and the keys stay
abbrev pub by_phase : (Phase → Phase) → List Piece → List Piece
by_phase change pieces = map (λ piece. in_phase (change piece.phase) piece) pieces

-- the piece may be fetched: what took it away is durable
abbrev pub wants_fetch : ℕ → Piece → Bool
wants_fetch durable piece = waits_no_longer piece.phase
  where
    waits_no_longer : Phase → Bool
    waits_no_longer (WaitPrevious since) = nat_le since durable
    waits_no_longer (Absent since) = false
    waits_no_longer (Fetching at upto taken in_base) = false
    waits_no_longer (Waiting transferred) = false
    waits_no_longer Readable = false

-- a fetch starts: nothing of the piece is fetched yet
abbrev pub start_piece : ℕ → Piece → Piece
start_piece at piece = in_phase (Fetching at piece.begin piece.begin piece.begin) piece

-- the piece has keys that are still to be fetched
abbrev pub wants_block : Piece → Bool
wants_block piece = ends_early piece.phase
  where
    ends_early : Phase → Bool
    ends_early (Fetching at upto taken in_base) = key_less upto piece.end
    ends_early (Absent since) = false
    ends_early (WaitPrevious since) = false
    ends_early (Waiting transferred) = false
    ends_early Readable = false

-- the key may be how far the piece is fetched next: above how far it is, and not above its end
abbrev pub takes_block : List ℕ → Piece → Bool
takes_block key piece = lies_ahead piece.phase
  where
    lies_ahead : Phase → Bool
    lies_ahead (Fetching at upto taken in_base) = key_less upto key && not (key_less piece.end key)
    lies_ahead (Absent since) = false
    lies_ahead (WaitPrevious since) = false
    lies_ahead (Waiting transferred) = false
    lies_ahead Readable = false

-- a block came: the piece is fetched up to the key
abbrev pub fetched_to : List ℕ → Phase → Phase
fetched_to key (Fetching at upto taken in_base) = Fetching at key taken in_base
fetched_to key (Absent since) = Absent since
fetched_to key (WaitPrevious since) = WaitPrevious since
fetched_to key (Waiting transferred) = Waiting transferred
fetched_to key Readable = Readable

abbrev pub block_piece : List ℕ → Piece → Piece
block_piece key piece = in_phase (fetched_to key piece.phase) piece

-- the piece is fetched up to this key, which is below its end
abbrev pub stops_at : List ℕ → Piece → Bool
stops_at key piece = stops piece.phase
  where
    stops : Phase → Bool
    stops (Fetching at upto taken in_base) = bytes_eq upto key && key_less upto piece.end
    stops (Absent since) = false
    stops (WaitPrevious since) = false
    stops (Waiting transferred) = false
    stops Readable = false

-- what isn't fetched of the piece waits to be fetched anew, and what is keeps its phase
abbrev pub split_piece : (durable : ℕ) → List ℕ → Piece → List Piece
split_piece durable key piece =
    if bytes_eq key piece.begin then in_phase (WaitPrevious durable) piece ∷ []
    else record { begin = piece.begin; end = key; phase = piece.phase } ∷ record { begin = key; end = piece.end; phase = WaitPrevious durable } ∷ []

-- rows of the piece were fetched that aren't in the base
abbrev pub has_rows : Piece → Bool
has_rows piece = lie_outside piece.phase
  where
    lie_outside : Phase → Bool
    lie_outside (Fetching at upto taken in_base) = key_less in_base upto
    lie_outside (Absent since) = false
    lie_outside (WaitPrevious since) = false
    lie_outside (Waiting transferred) = false
    lie_outside Readable = false

-- a commit begins: it takes the rows that were fetched
abbrev pub rows_taken : Phase → Phase
rows_taken (Fetching at upto taken in_base) = Fetching at upto upto in_base
rows_taken (Absent since) = Absent since
rows_taken (WaitPrevious since) = WaitPrevious since
rows_taken (Waiting transferred) = Waiting transferred
rows_taken Readable = Readable

-- the piece was sent to the versioned map at this version or below it
abbrev pub waits_to : ℕ → Piece → Bool
waits_to version piece = was_sent piece.phase
  where
    was_sent : Phase → Bool
    was_sent (Waiting transferred) = nat_le transferred version
    was_sent (Absent since) = false
    was_sent (WaitPrevious since) = false
    was_sent (Fetching at upto taken in_base) = false
    was_sent Readable = false

-- a commit of this version is durable: the rows that it took are in the base, and what was sent to the versioned map
-- at this version or below it is readable
abbrev pub rows_in_base : ℕ → Phase → Phase
rows_in_base durable (Fetching at upto taken in_base) = Fetching at upto taken taken
rows_in_base durable (Waiting transferred) = if nat_le transferred durable then Readable else Waiting transferred
rows_in_base durable (Absent since) = Absent since
rows_in_base durable (WaitPrevious since) = WaitPrevious since
rows_in_base durable Readable = Readable

-- the piece was fetched whole, and all of it is in the base
abbrev pub is_whole : Piece → Bool
is_whole piece = ends_in_base piece.phase
  where
    ends_in_base : Phase → Bool
    ends_in_base (Fetching at upto taken in_base) = bytes_eq in_base piece.end && bytes_eq upto piece.end
    ends_in_base (Absent since) = false
    ends_in_base (WaitPrevious since) = false
    ends_in_base (Waiting transferred) = false
    ends_in_base Readable = false

-- a whole piece is sent to the versioned map at this version
abbrev pub inject : ℕ → Piece → Piece
inject version piece = if is_whole piece then in_phase (Waiting version) piece else piece

-- the piece is fetched at a version below the newest
abbrev pub is_behind : (newest : ℕ) → Piece → Bool
is_behind newest piece = began_below piece.phase
  where
    began_below : Phase → Bool
    began_below (Fetching at upto taken in_base) = nat_lt at newest
    began_below (Absent since) = false
    began_below (WaitPrevious since) = false
    began_below (Waiting transferred) = false
    began_below Readable = false
