-- The next pair on the way.
use Rattle.std.proofs.Common.{◌⊎◌, inl, inr, ◌≡◌, ◌∙◌, ℕ, Bool, true, false, cond, not, ◌&&◌, List, [], ◌∷◌, filter, Option, Some, None, IsTrue, refl, sym, ap, subst}
use Rattle.std.proofs.lemmas.Bool.{false≢true}
use Rattle.std.specs.List.{AllByRecursion}
use Rattle.std.specs.Option.{option_map}
use Rattle.st_fold.specs.Map.{Map}
use Rattle.st_fold.specs.Reading.{span_of_key}
use Rattle.st_key.specs.KeyOrder.{le_less_trans, less_after, less_asym, less_connected, less_irrefl, less_le_trans, less_trans}
use Rattle.st_key.specs.Spans.{Span, key_less, within}
use Rattle.st_session.specs.Seen.{IsMapOf}
use Rattle.st_session.specs.Walking.{IsFrom, IsNext, ahead, comes_first, is_ahead, way}
use Rattle.st_session.proofs.Orders.{ahead-on, first-asym, first-irrefl}
use Rattle.st_session.proofs.Ways.{In, Rises, all-of, filter-all, filter-none, of-all, on-way, rises-way, way-inside, way-value}
use Rattle.st_versioned.specs.Neighbours.{IsFirst, IsFirstOrNone, key_above}

Some≢None : {A : Type 0} (x : A) → Some x ≡ None → ⊥
Some≢None x is = cc

module _ (back : Bool) (key : List ℕ) (or_equal : Bool) where
  -- the first pair ahead, and those ahead of it
  head-is : (value : List ℕ → Option (List ℕ)) (pairs : Map) → Rises back pairs → ((pair : List ℕ × List ℕ) → In pair pairs → value pair.0 ≡ Some pair.1)
      → (found : List ℕ × List ℕ) → In found pairs → is_ahead back key or_equal found.0 ≡ true
      → ((other : List ℕ) → is_ahead back key or_equal other ≡ true → comes_first back other found.0 ≡ true → value other ≡ None)
      → filter (λ pair. is_ahead back key or_equal pair.0) pairs ≡ found ∷ filter (λ pair. is_ahead back found.0 false pair.0) pairs
  head-is value [] rises values found there passes before = absurd there
  head-is value (pair ∷ pairs) rises values found (inl is) passes before =
      ap (λ (t : Bool). cond t (pair ∷ filter (λ q. is_ahead back key or_equal q.0) pairs) (filter (λ q. is_ahead back key or_equal q.0) pairs)) here
      ∙ ap (λ (t : Map). pair ∷ t) (filter-all _ pairs (all-of _ pairs (λ q later. ahead-on back key or_equal pair.0 q.0 here (after q later))))
      ∙ ap (λ (t : Map). pair ∷ t) (sym (filter-all _ pairs (all-of _ pairs after)))
      ∙ ap (λ (t : Bool). pair ∷ cond t (pair ∷ filter (λ q. comes_first back pair.0 q.0) pairs) (filter (λ q. comes_first back pair.0 q.0) pairs)) (sym (first-irrefl back pair.0))
      ∙ ap (λ (q : List ℕ × List ℕ). q ∷ filter (λ r. is_ahead back q.0 false r.0) (pair ∷ pairs)) is
    where
      here : is_ahead back key or_equal pair.0 ≡ true
      here = ap (λ (q : List ℕ × List ℕ). is_ahead back key or_equal q.0) is ∙ passes

      after : (q : List ℕ × List ℕ) → In q pairs → comes_first back pair.0 q.0 ≡ true
      after q later = of-all (λ r. comes_first back pair.0 r.0 ≡ true) pairs rises.0 q later
  head-is value (pair ∷ pairs) rises values found (inr there) passes before =
      ap (λ (t : Bool). cond t (pair ∷ filter (λ q. is_ahead back key or_equal q.0) pairs) (filter (λ q. is_ahead back key or_equal q.0) pairs)) (not_here (is_ahead back key or_equal pair.0) refl)
      ∙ head-is value pairs rises.1 (λ q later. values q (inr later)) found there passes before
      ∙ ap (λ (t : Bool). found ∷ cond t (pair ∷ filter (λ q. comes_first back found.0 q.0) pairs) (filter (λ q. comes_first back found.0 q.0) pairs)) (sym (first-asym back pair.0 found.0 first))
    where
      first : comes_first back pair.0 found.0 ≡ true
      first = of-all (λ r. comes_first back pair.0 r.0 ≡ true) pairs rises.0 found there

      not_here : (t : Bool) → is_ahead back key or_equal pair.0 ≡ t → t ≡ false
      not_here true here = absurd (Some≢None pair.1 (sym (values pair (inl refl)) ∙ before pair.0 here first))
      not_here false here = refl

and-false : (a b : Bool) → (a && b) ≡ false → a ≡ true → b ≡ false
and-false true b both is = both
and-false false b both is = absurd (false≢true is)

not-of : (a : Bool) → not a ≡ true → a ≡ false
not-of true is = absurd (false≢true is)
not-of false is = refl

pub within-begin : (span : Span) (key : List ℕ) → within span key ≡ true → key_less key span.begin ≡ false
within-begin span key inside = by_test (key_less key span.begin) inside
  where
    by_test : (t : Bool) → (not t && key_less key span.end) ≡ true → t ≡ false
    by_test true off = absurd (false≢true off)
    by_test false on = refl

pub within-end : (span : Span) (key : List ℕ) → within span key ≡ true → key_less key span.end ≡ true
within-end span key inside = by_test (key_less key span.begin) inside
  where
    by_test : (t : Bool) → (not t && key_less key span.end) ≡ true → key_less key span.end ≡ true
    by_test true off = absurd (false≢true off)
    by_test false on = on

outside-end : (span : Span) (key : List ℕ) → within span key ≡ false → key_less key span.begin ≡ false → key_less key span.end ≡ false
outside-end span key outside above = and-false (not (key_less key span.begin)) (key_less key span.end) outside (ap not above)

outside-begin : (span : Span) (key : List ℕ) → within span key ≡ false → key_less key span.end ≡ true → key_less key span.begin ≡ true
outside-begin span key outside below = by_test (key_less key span.begin) refl
  where
    by_test : (t : Bool) → key_less key span.begin ≡ t → t ≡ true
    by_test true is = refl
    by_test false is = absurd (false≢true (sym (outside-end span key outside is) ∙ below))

-- a key that is ahead doesn't lie before the span
not-before : (key : List ℕ) (or_equal : Bool) (span : Span) → key_less key span.begin ≡ false → (found : List ℕ) → is_ahead false key or_equal found ≡ true
    → key_less found span.begin ≡ false
not-before key or_equal span from found passes = by_test (key_less found span.begin) refl
  where
    lower : (e : Bool) → is_ahead false key e found ≡ true → key_less found span.begin ≡ true → key_less key span.begin ≡ true
    lower false above below = less_trans key found span.begin above below
    lower true above below = le_less_trans key found span.begin (not-of (key_less found key) above) below

    by_test : (t : Bool) → key_less found span.begin ≡ t → t ≡ false
    by_test true below = absurd (false≢true (sym from ∙ lower or_equal passes below))
    by_test false is = refl

not-behind : (key : List ℕ) (or_equal : Bool) (span : Span) → IsFrom true key or_equal span → (found : List ℕ) → is_ahead true key or_equal found ≡ true
    → key_less found span.end ≡ true
not-behind key false span from found passes = less_le_trans found key span.end passes from
not-behind key true span from found passes = le_less_trans found key span.end (not-of (key_less key found) passes) from

-- a key that is ahead and lies outside of the span comes behind all of it
past-span : (back : Bool) (key : List ℕ) (or_equal : Bool) (span : Span) → IsFrom back key or_equal span → (found other : List ℕ)
    → is_ahead back key or_equal found ≡ true → within span found ≡ false → within span other ≡ true → comes_first back other found ≡ true
past-span false key or_equal span from found other passes outside inside =
    less_le_trans other span.end found (within-end span other inside) (outside-end span found outside (not-before key or_equal span from found passes))
past-span true key or_equal span from found other passes outside inside =
    less_le_trans found span.begin other (outside-begin span found outside (not-behind key or_equal span from found passes)) (within-begin span other inside)

module _ (value : List ℕ → Option (List ℕ)) (back : Bool) (key : List ℕ) (or_equal : Bool) (span : Span) (pairs : Map) (map : IsMapOf value span pairs) where
  none-ahead : ((pair : List ℕ × List ℕ) → In pair (way back span pairs) → is_ahead back key or_equal pair.0 ≡ true → value pair.0 ≡ None)
      → ahead back key or_equal span pairs ≡ []
  none-ahead none = filter-none _ (way back span pairs) (all-of _ (way back span pairs) (λ pair there. by_test pair there (is_ahead back key or_equal pair.0) refl))
    where
      by_test : (pair : List ℕ × List ℕ) → In pair (way back span pairs) → (t : Bool) → is_ahead back key or_equal pair.0 ≡ t → t ≡ false
      by_test pair there true passes = absurd (Some≢None pair.1 (sym (way-value value back span pairs map pair there) ∙ none pair there passes))
      by_test pair there false passes = refl

  pub next-none : ((other : List ℕ) → is_ahead back key or_equal other ≡ true → value other ≡ None) → ahead back key or_equal span pairs ≡ []
  next-none none = none-ahead (λ pair there passes. none pair.0 passes)

  pub next-outside : IsFrom back key or_equal span → (found : List ℕ × List ℕ) → IsFirst (comes_first back) (is_ahead back key or_equal) value found → within span found.0 ≡ false
      → ahead back key or_equal span pairs ≡ []
  next-outside from found first outside =
      none-ahead (λ pair there passes. first.before pair.0 passes (past-span back key or_equal span from found.0 pair.0 first.passing outside (way-inside back span pairs pair there)))

  pub next-inside : (found : List ℕ × List ℕ) → IsFirst (comes_first back) (is_ahead back key or_equal) value found → within span found.0 ≡ true
      → ahead back key or_equal span pairs ≡ found ∷ ahead back found.0 false span pairs
  next-inside found first inside =
      head-is back key or_equal value (way back span pairs) (rises-way value back span pairs map) (way-value value back span pairs map) found
      (on-way value back span pairs map found.0 found.1 inside first.there) first.passing first.before

-- ---- where the way goes on

pub from-inside : (back : Bool) (span : Span) (key : List ℕ) → within span key ≡ true → IsFrom back key false span
from-inside false span key inside = within-begin span key inside
from-inside true span key inside = less_asym key span.end (within-end span key inside)

-- ---- where the way begins

pub from-begin : (span : Span) → IsFrom false span.begin true span
from-begin span = less_irrefl span.begin

pub from-end : (span : Span) → IsFrom true span.end false span
from-end span = less_irrefl span.end

pub all-behind-begin : (span : Span) (pairs : Map) → ahead false span.begin true span pairs ≡ way false span pairs
all-behind-begin span pairs =
    filter-all _ (way false span pairs) (all-of _ (way false span pairs) (λ pair there. ap not (within-begin span pair.0 (way-inside false span pairs pair there))))

pub all-before-end : (span : Span) (pairs : Map) → ahead true span.end false span pairs ≡ way true span pairs
all-before-end span pairs =
    filter-all _ (way true span pairs) (all-of _ (way true span pairs) (λ pair there. within-end span pair.0 (way-inside true span pairs pair there)))

pub start-back : (back : Bool) (at : List ℕ) (span : Span) → back ≡ true → at ≡ span.end → IsFrom back at false span
start-back back at span is place = subst (λ (b : Bool). IsFrom b at false span) (sym is) (subst (λ (k : List ℕ). IsFrom true k false span) (sym place) (from-end span))

pub start-on : (back : Bool) (at : List ℕ) (span : Span) → back ≡ false → at ≡ span.begin → IsFrom back at true span
start-on back at span is place = subst (λ (b : Bool). IsFrom b at true span) (sym is) (subst (λ (k : List ℕ). IsFrom false k true span) (sym place) (from-begin span))

pub whole-back : (back : Bool) (at : List ℕ) (span : Span) → back ≡ true → at ≡ span.end → (pairs : Map) → ahead back at false span pairs ≡ way back span pairs
whole-back back at span is place pairs =
    subst (λ (b : Bool). ahead b at false span pairs ≡ way b span pairs) (sym is)
    (subst (λ (k : List ℕ). ahead true k false span pairs ≡ way true span pairs) (sym place) (all-before-end span pairs))

pub whole-on : (back : Bool) (at : List ℕ) (span : Span) → back ≡ false → at ≡ span.begin → (pairs : Map) → ahead back at true span pairs ≡ way back span pairs
whole-on back at span is place pairs =
    subst (λ (b : Bool). ahead b at true span pairs ≡ way b span pairs) (sym is)
    (subst (λ (k : List ℕ). ahead false k true span pairs ≡ way false span pairs) (sym place) (all-behind-begin span pairs))

-- from a key inside the other end
pub start-below : (back : Bool) (key : List ℕ) (or_equal : Bool) (span : Span) → back ≡ true → key_less key span.end ≡ true → IsFrom back key or_equal span
start-below back key or_equal span is below = subst (λ (b : Bool). IsFrom b key or_equal span) (sym is) (by_equal or_equal)
  where
    by_equal : (e : Bool) → IsFrom true key e span
    by_equal false = less_asym key span.end below
    by_equal true = below

-- ---- the greatest key at another or below it

pub to-itself : (value : List ℕ → Option (List ℕ)) (key found : List ℕ) → value key ≡ Some found → IsFirst key_above (λ other. not (key_less key other)) value (key, found)
to-itself value key found there = record {
  passing = ap not (less_irrefl key);
  there = there;
  before = λ other passes before. absurd (false≢true (sym (not-of (key_less key other) passes) ∙ before));
}

pub to-below : (value : List ℕ → Option (List ℕ)) (key : List ℕ) → value key ≡ None → (found : Option (List ℕ × List ℕ))
    → IsFirstOrNone key_above (λ other. key_less other key) value found → IsFirstOrNone key_above (λ other. not (key_less key other)) value found
to-below value key none None first = λ other passes. by_test other passes (key_less other key) refl
  where
    by_test : (other : List ℕ) → not (key_less key other) ≡ true → (t : Bool) → key_less other key ≡ t → value other ≡ None
    by_test other passes true below = first other below
    by_test other passes false up = ap value (less_connected other key up (not-of (key_less key other) passes)) ∙ none
to-below value key none (Some found) first = record {
  passing = ap not (less_asym found.0 key first.passing);
  there = first.there;
  before = λ other passes before. by_test other passes before (key_less other key) refl;
}
  where
    by_test : (other : List ℕ) → not (key_less key other) ≡ true → key_above other found.0 ≡ true → (t : Bool) → key_less other key ≡ t → value other ≡ None
    by_test other passes before true below = first.before other below before
    by_test other passes before false up = ap value (less_connected other key up (not-of (key_less key other) passes)) ∙ none

-- ---- one key

pub key-inside : (key : List ℕ) → within (span_of_key key) key ≡ true
key-inside key = λ i. not (less_irrefl key i) && less_after key i
