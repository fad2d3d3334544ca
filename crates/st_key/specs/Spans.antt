-- Keys in the order of their bytes, ranges of keys, and lists of ranges as sets of keys. A key is the list of its bytes.
use Rattle.std.specs.Prelude.{◌≡◌, ℕ, Bool, true, false, not, ◌&&◌, List, [], ◌∷◌, IsTrue}
use Rattle.std.specs.List.{list_any, list_all}
use Rattle.std.specs.Ordering.{nat_cmp, is_lt}
use Rattle.std.specs.Cmp.Lexicographic.{slice_cmp}

-- a comes before b in the lexicographic order of bytes
abbrev pub key_less : List ℕ → List ℕ → Bool
key_less a b = is_lt (slice_cmp nat_cmp a b)

-- the keys from begin up to, and without, end
pub record Span : Type 0 where
  pub begin : List ℕ
  pub end : List ℕ

-- all keys of users: those below ff
abbrev pub all_keys : Span
all_keys = record { begin = []; end = 255 ∷ [] }

-- begin ≤ key < end
abbrev pub within : Span → List ℕ → Bool
within span key = not (key_less key span.begin) && key_less key span.end

-- the key is in some span
abbrev pub holds : List Span → List ℕ → Bool
holds spans key = list_any (λ span. within span key) spans

-- each span has a key, and ends before each later one begins: the spans rise, share no key and don't touch
abbrev pub is_canonical : List Span → Bool
is_canonical [] = true
is_canonical (span ∷ later) =
    key_less span.begin span.end && list_all (λ next. key_less span.end next.begin) later && is_canonical later

-- every key of the first spans is one of the others'
abbrev pub IsSubset : List Span → List Span → Type 0
IsSubset few many = (key : List ℕ) → IsTrue (holds few key) → IsTrue (holds many key)

-- every key of the span is in one of the list
abbrev pub Covers : List Span → Span → Type 0
Covers spans span = (key : List ℕ) → IsTrue (within span key) → IsTrue (holds spans key)

-- some key of the span is in none of the list
abbrev pub Misses : List Span → Span → Type 0
Misses spans span = (key : List ℕ) × IsTrue (within span key) × (holds spans key ≡ false)
