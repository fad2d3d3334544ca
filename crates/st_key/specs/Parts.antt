-- Spans made of other spans.
use Rattle.std.specs.Prelude.{ℕ, Bool, false, not, ◌&&◌, List, [], ◌∷◌, ◌++◌, drop, if◌then◌else◌}
use Rattle.std.specs.List.{list_any, prefix_len}
use Rattle.st_key.specs.Spans.{Span, key_less}

-- the lesser of two keys
abbrev pub least : List ℕ → List ℕ → List ℕ
least a b = if key_less b a then b else a

-- the greater of two keys
abbrev pub greatest : List ℕ → List ℕ → List ℕ
greatest a b = if key_less a b then b else a

-- the least span that has the keys of both
abbrev pub hull : Span → Span → Span
hull s t = record { begin = least s.begin t.begin; end = greatest s.end t.end }

-- the span has every key from low up to high
abbrev pub has_all : List ℕ → List ℕ → Span → Bool
has_all low high s = not (key_less low s.begin) && not (key_less s.end high)

-- some one of the spans has every key of this one
abbrev pub lies_in : List Span → Span → Bool
lies_in spans span = list_any (λ s. has_all span.begin span.end s) spans

-- the spans from the first one on that ends at the key or above it
abbrev pub ending_from : List Span → List ℕ → List Span
ending_from spans key = drop (prefix_len (λ s. key_less s.end key) spans) spans

-- the first of the spans begins at the key or below it
abbrev pub begins_by : List Span → List ℕ → Bool
begins_by [] key = false
begins_by (s ∷ later) key = not (key_less key s.begin)

-- the part of the span that lies below the key, if there is one
abbrev pub part_below : Span → List ℕ → List Span
part_below s key = if key_less s.begin key then record { begin = s.begin; end = least key s.end } ∷ [] else []

-- the part of the span that begins at the key or above it, if there is one
abbrev pub part_from : Span → List ℕ → List Span
part_from s key = if key_less key s.end then record { begin = greatest s.begin key; end = s.end } ∷ [] else []

-- a canonical list with the keys of a span put in: the spans that touch it make one with it
abbrev pub with_span : List Span → Span → List Span
with_span [] r = r ∷ []
with_span (s ∷ later) r =
    if key_less s.end r.begin then s ∷ with_span later r
    else (if key_less r.end s.begin then r ∷ s ∷ later else with_span later (hull r s))

-- a list with the keys of a span taken out: what is left of each span below and above it
abbrev pub without_span : List Span → Span → List Span
without_span [] r = []
without_span (s ∷ later) r = part_below s r.begin ++ (part_from s r.end ++ without_span later r)
