-- Going along the pairs of a span, one way or the other.
use Rattle.std.specs.Prelude.{◌≡◌, ◌++◌, ◌+◌, ◌-◌, ℕ, zero, suc, ℤ, pos, negsuc, Bool, true, false, not, List, [], ◌∷◌, filter, if◌then◌else◌, Option, Some, None, MatchOption}
use Rattle.std.specs.Option.{option_map}
use Rattle.st_fold.specs.declared.request.Found.{Found}
use Rattle.st_fold.specs.declared.request.Found.TheVariants as found
use Rattle.st_fold.specs.Map.{Map}
use Rattle.st_fold.specs.Reading.{in_order, is_below, pairs_in, taken}
use Rattle.st_key.specs.Spans.{Span, key_less}

-- one key comes before another
abbrev pub comes_first : (reverse : Bool) → List ℕ → List ℕ → Bool
comes_first false a b = key_less a b
comes_first true a b = key_less b a

-- another key is ahead of a key, or with `or_equal` at it
abbrev pub is_ahead : (reverse : Bool) → List ℕ → (or_equal : Bool) → List ℕ → Bool
is_ahead reverse key false other = comes_first reverse key other
is_ahead reverse key true other = not (comes_first reverse other key)

-- the pairs of a map in a span, as they come on the way
abbrev pub way : (reverse : Bool) → Span → Map → Map
way reverse span pairs = in_order reverse (pairs_in span pairs)

-- those of them that are ahead
abbrev pub ahead : (reverse : Bool) → List ℕ → (or_equal : Bool) → Span → Map → Map
ahead reverse key or_equal span pairs = filter (λ pair. is_ahead reverse key or_equal pair.0) (way reverse span pairs)

-- no key of the span is ahead, or this pair is the first, and behind it come those that are ahead of it
abbrev pub IsNext : (reverse : Bool) → List ℕ → (or_equal : Bool) → Span → Map → Option (List ℕ × List ℕ) → Type 0
IsNext reverse key or_equal span pairs next = MatchOption next
    (ahead reverse key or_equal span pairs ≡ [])
    (λ pair. ahead reverse key or_equal span pairs ≡ pair ∷ ahead reverse pair.0 false span pairs)

-- a key from which the way doesn't lead into the span from outside of it
abbrev pub IsFrom : (reverse : Bool) → List ℕ → (or_equal : Bool) → Span → Type 0
IsFrom false key or_equal span = key_less key span.begin ≡ false
IsFrom true key false span = key_less span.end key ≡ false
IsFrom true key true span = key_less key span.end ≡ true

-- of all pairs these are shown, and so many rows and bytes and these pairs are left
pub record AreShown (rows bytes : ℕ) (pairs shown : Map) (rows_left bytes_left : ℕ) (left : Map) : Type 0 where
  pub whole : pairs ≡ shown ++ left
  pub first : taken rows bytes pairs ≡ shown ++ taken rows_left bytes_left left

-- the key of a pair that was found; without one the way led past the end of the span
abbrev pub key_found : (reverse : Bool) → Option (List ℕ × List ℕ) → Found
key_found reverse (Some pair) = found.Key pair.0
key_found false None = found.After
key_found true None = found.Before

-- the keys that a selector counts: back those below its key, and on those that aren't
abbrev pub is_sought : (reverse : Bool) → List ℕ → (or_equal : Bool) → List ℕ → Bool
is_sought false key or_equal other = not (is_below key or_equal other)
is_sought true key or_equal other = is_below key or_equal other

-- a selector goes on by a positive offset, and back by another
abbrev pub goes_back : ℤ → Bool
goes_back (pos zero) = true
goes_back (pos (suc n)) = false
goes_back (negsuc n) = true

-- how many pairs it passes over
abbrev pub passed_over : ℤ → ℕ
passed_over (pos n) = n - 1
passed_over (negsuc n) = n + 1
