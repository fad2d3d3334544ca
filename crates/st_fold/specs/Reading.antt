-- What a request asks, and what it finds in the map of its version.
use Rattle.std.specs.Prelude.{ℕ, ◌+◌, ◌-◌, zero, suc, ℤ, pos, negsuc, Bool, true, false, not, ◌&&◌, nat_lt, List, [], ◌∷◌, ◌++◌, length, filter, reverse, slice_get, if◌then◌else◌}
use Rattle.std.specs.Option.{option_map_or}
use Rattle.st_key.specs.Spans.{Span, key_less, within}
use Rattle.st_fold.specs.declared.request.Ask.{Ask}
use Rattle.st_fold.specs.declared.request.Ask.TheVariants as ask
use Rattle.st_fold.specs.declared.request.Answer.{Answer}
use Rattle.st_fold.specs.declared.request.Answer.TheVariants as answer
use Rattle.st_fold.specs.declared.request.Found.{Found}
use Rattle.st_fold.specs.declared.request.Found.TheVariants as found
use Rattle.st_fold.specs.Map.{Map, value_at}

-- a watch asks for no version: it is looked at each time that it is polled
abbrev pub is_watch : Ask → Bool
is_watch (ask.Get key version) = false
is_watch (ask.Rows range rows bytes backward version) = false
is_watch (ask.Select key or_equal offset range version) = false
is_watch (ask.Watch key value) = true

-- the version that is asked for
abbrev pub version_of : Ask → ℕ
version_of (ask.Get key version) = version
version_of (ask.Rows range rows bytes backward version) = version
version_of (ask.Select key or_equal offset range version) = version
version_of (ask.Watch key value) = 0

-- the span of one key
abbrev pub span_of_key : List ℕ → Span
span_of_key key = record { begin = key; end = key ++ 0 ∷ [] }

-- the keys that are looked at
abbrev pub span_of : Ask → Span
span_of (ask.Get key version) = span_of_key key
span_of (ask.Rows range rows bytes backward version) = range
span_of (ask.Select key or_equal offset range version) = range
span_of (ask.Watch key value) = span_of_key key

-- the pairs of a map in a span, in the order of their keys
abbrev pub pairs_in : Span → Map → Map
pairs_in span pairs = filter (λ pair. within span pair.0) pairs

-- how many bytes a pair has
abbrev pub size_of : List ℕ × List ℕ → ℕ
size_of pair = length pair.0 + length pair.1

-- the pairs that are taken of these: each is, while some of `rows` and some of `bytes` are left
abbrev pub taken : (rows bytes : ℕ) → Map → Map
taken rows bytes [] = []
taken rows bytes (pair ∷ pairs) =
    if nat_lt 0 rows && nat_lt 0 bytes then pair ∷ taken (rows - 1) (bytes - size_of pair) pairs else []

-- the rows of these pairs, and whether there are more
abbrev pub rows_of : (rows bytes : ℕ) → Map → Answer
rows_of rows bytes pairs = answer.Rows (taken rows bytes pairs) (nat_lt (length (taken rows bytes pairs)) (length pairs))

-- the pairs in the order of their keys, or the reverse
abbrev pub in_order : Bool → Map → Map
in_order false pairs = pairs
in_order true pairs = reverse pairs

-- a key lies below another one, or with `or_equal` at or below it
abbrev pub is_below : List ℕ → (or_equal : Bool) → List ℕ → Bool
is_below key false other = key_less other key
is_below key true other = not (key_less key other)

-- how many of these pairs have keys below a key, or at or below it
abbrev pub count_below : List ℕ → (or_equal : Bool) → Map → ℕ
count_below key or_equal pairs = length (filter (λ pair. is_below key or_equal pair.0) pairs)

-- so many places on from a place, or back where the number is negative. 0 stands for all places before the first
abbrev pub moved : ℕ → ℤ → ℕ
moved place (pos n) = place + n
moved place (negsuc n) = place - suc n

-- the key at a place of these pairs, counted from 1
abbrev pub key_at : ℕ → Map → Found
key_at zero pairs = found.Before
key_at (suc n) pairs = option_map_or (λ pair. found.Key pair.0) (slice_get pairs n) found.After

-- what a request finds in a map. A watch finds nothing in one map alone
abbrev pub plain : Map → Ask → Answer
plain pairs (ask.Get key version) = option_map_or answer.Value (value_at pairs key) answer.Absent
plain pairs (ask.Rows range rows bytes backward version) = rows_of rows bytes (in_order backward (pairs_in range pairs))
plain pairs (ask.Select key or_equal offset range version) =
    answer.KeyIs (key_at (moved (count_below key or_equal (pairs_in range pairs)) offset) (pairs_in range pairs))
plain pairs (ask.Watch key value) = answer.Waiting
