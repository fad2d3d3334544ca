-- Where a selector leads.
use Rattle.std.proofs.Common.{◌⊎◌, inl, inr, ◌≡◌, ◌∙◌, ◌+◌, ◌-◌, ◌<◌, ◌≤◌, ℕ, zero, suc, Bool, true, false, cond, not, List, [], ◌∷◌, ◌++◌, filter, length, reverse, Option, Some, None, refl, sym, ap, subst, arith, length-append}
use Rattle.std.specs.Prelude.{ℤ, pos, negsuc, slice_get}
use Rattle.std.proofs.lemmas.Bool.{false≢true}
use Rattle.std.proofs.lemmas.List.{append-nil, length-reverse, reverse-append}
use Rattle.std.proofs.lemmas.List.Elements.{filter-append}
use Rattle.std.proofs.lemmas.Option.{slice_get_past}
use Rattle.std.specs.List.{AllByRecursion}
use Rattle.std.specs.Option.{option_map_or}
use Rattle.st_fold.specs.declared.request.Found.{Found}
use Rattle.st_fold.specs.declared.request.Found.TheVariants as found
use Rattle.st_fold.specs.Map.{Map}
use Rattle.st_fold.specs.Reading.{count_below, in_order, is_below, key_at, moved, pairs_in}
use Rattle.st_key.specs.KeyOrder.{le_less_trans, less_asym, less_irrefl, less_le_trans, less_trans}
use Rattle.st_key.specs.Spans.{Span, key_less, within}
use Rattle.st_session.specs.Seen.{IsMapOf}
use Rattle.st_session.specs.Walking.{IsFrom, IsNext, ahead, comes_first, goes_back, is_ahead, is_sought, key_found, passed_over, way}
use Rattle.st_session.proofs.Next.{from-inside, within-begin, within-end}
use Rattle.st_session.proofs.Ways.{In, Rises, all-of, filter-all, filter-none, of-all, rises-way, way-inside}

-- ---- places in lists

slice-behind : (xs ys : Map) (m : ℕ) → slice_get (xs ++ ys) (length xs + m) ≡ slice_get ys m
slice-behind [] ys m = ap (λ (k : ℕ). slice_get ys k) none
  where
    none : 0 + m ≡ m
    none = omega arith
slice-behind (x ∷ xs) ys m = ap (λ (k : ℕ). slice_get (x ∷ xs ++ ys) k) one ∙ slice-behind xs ys m
  where
    one : suc (length xs) + m ≡ suc (length xs + m)
    one = omega arith

slice-before : (xs ys : Map) (m : ℕ) → m < length xs → slice_get (xs ++ ys) m ≡ slice_get xs m
slice-before [] ys m below = absurd (omega arith)
slice-before (x ∷ xs) ys zero below = refl
slice-before (x ∷ xs) ys (suc m) below = slice-before xs ys m (omega arith)

slice-reverse : (xs : Map) (i m : ℕ) → i + m + 1 ≡ length xs → slice_get (reverse xs) m ≡ slice_get xs i
slice-reverse [] i m long = absurd (omega arith)
slice-reverse (x ∷ xs) zero m long =
    ap (λ (t : Map). slice_get t m) (reverse-append (x ∷ []) xs)
    ∙ ap (λ (k : ℕ). slice_get (reverse xs ++ x ∷ []) k) at
    ∙ slice-behind (reverse xs) (x ∷ []) 0
  where
    at : m ≡ length (reverse xs) + 0
    at = omega (arith, length-reverse xs)
slice-reverse (x ∷ xs) (suc i) m long =
    ap (λ (t : Map). slice_get t m) (reverse-append (x ∷ []) xs)
    ∙ slice-before (reverse xs) (x ∷ []) m (omega (arith, length-reverse xs))
    ∙ slice-reverse xs i m (omega arith)

pub slice-tail : (x : List ℕ × List ℕ) (xs : Map) (n : ℕ) → 0 < n → slice_get (x ∷ xs) n ≡ slice_get xs (n - 1)
slice-tail x xs zero some = absurd (omega arith)
slice-tail x xs (suc n) some = ap (λ (k : ℕ). slice_get xs k) less
  where
    less : n ≡ suc n - 1
    less = omega arith

-- ---- keys below

below-before : (key : List ℕ) (or_equal : Bool) (a b : List ℕ) → key_less a b ≡ true → is_below key or_equal b ≡ true → is_below key or_equal a ≡ true
below-before key false a b ab here = less_trans a b key ab here
below-before key true a b ab here = by_test (key_less key a) refl
  where
    by_test : (t : Bool) → key_less key a ≡ t → not (key_less key a) ≡ true
    by_test true ka = absurd (false≢true (sym (ap not (less_trans key a b ka ab)) ∙ here))
    by_test false ka = ap not ka

parted : (key : List ℕ) (or_equal : Bool) (pairs : Map) → Rises false pairs
    → pairs ≡ filter (λ pair. is_below key or_equal pair.0) pairs ++ filter (λ pair. not (is_below key or_equal pair.0)) pairs
parted key or_equal [] rises = refl
parted key or_equal (pair ∷ pairs) rises = by_test (parted key or_equal pairs rises.1) (is_below key or_equal pair.0) refl
  where
    none-below : is_below key or_equal pair.0 ≡ false → (other : List ℕ × List ℕ) → In other pairs → (t : Bool) → is_below key or_equal other.0 ≡ t → t ≡ false
    none-below off other there true here =
        absurd (false≢true (sym off ∙ below-before key or_equal pair.0 other.0 (of-all (λ q. comes_first false pair.0 q.0 ≡ true) pairs rises.0 other there) here))
    none-below off other there false here = refl

    by_test : (pairs ≡ filter (λ q. is_below key or_equal q.0) pairs ++ filter (λ q. not (is_below key or_equal q.0)) pairs)
        → (t : Bool) → is_below key or_equal pair.0 ≡ t
        → pair ∷ pairs ≡ cond t (pair ∷ filter (λ q. is_below key or_equal q.0) pairs) (filter (λ q. is_below key or_equal q.0) pairs)
        ++ cond (not t) (pair ∷ filter (λ q. not (is_below key or_equal q.0)) pairs) (filter (λ q. not (is_below key or_equal q.0)) pairs)
    by_test later true here = ap (λ (t : Map). pair ∷ t) later
    by_test later false off =
        let none : filter (λ q. is_below key or_equal q.0) pairs ≡ [] =
        filter-none _ pairs (all-of (λ q. is_below key or_equal q.0 ≡ false) pairs (λ other there. none-below off other there (is_below key or_equal other.0) refl)) in
        let all : filter (λ q. not (is_below key or_equal q.0)) pairs ≡ pairs =
        filter-all _ pairs (all-of (λ q. not (is_below key or_equal q.0) ≡ true) pairs (λ other there. ap not (none-below off other there (is_below key or_equal other.0) refl))) in
        λ i. sym none i ++ pair ∷ sym all i

filter-reverse : (p : List ℕ × List ℕ → Bool) (pairs : Map) → filter p (reverse pairs) ≡ reverse (filter p pairs)
filter-reverse p [] = refl
filter-reverse p (pair ∷ pairs) =
    ap (filter p) (reverse-append (pair ∷ []) pairs)
    ∙ filter-append p (reverse pairs) (pair ∷ [])
    ∙ ap (λ (t : Map). t ++ filter p (pair ∷ [])) (filter-reverse p pairs)
    ∙ by_test (p pair)
  where
    by_test : (t : Bool) → reverse (filter p pairs) ++ cond t (pair ∷ []) [] ≡ reverse (cond t (pair ∷ filter p pairs) (filter p pairs))
    by_test true = sym (reverse-append (pair ∷ []) (filter p pairs))
    by_test false = append-nil (reverse (filter p pairs))

-- ---- keys at places

-- behind those below
key-ahead : (below above : Map) (n : ℕ) → key_at (length below + suc n) (below ++ above) ≡ key_found false (slice_get above n)
key-ahead below above n =
    ap (λ (k : ℕ). key_at k (below ++ above)) one ∙ ap (λ (o : Option (List ℕ × List ℕ)). option_map_or (λ pair. found.Key pair.0) o found.After) (slice-behind below above n)
    ∙ told (slice_get above n)
  where
    one : length below + suc n ≡ suc (length below + n)
    one = omega arith

    told : (o : Option (List ℕ × List ℕ)) → option_map_or (λ pair. found.Key pair.0) o found.After ≡ key_found false o
    told None = refl
    told (Some pair) = refl

-- among those below, counted from their end
key-back : (below above : Map) (m place : ℕ) → place ≡ length below - m → key_at place (below ++ above) ≡ key_found true (slice_get (reverse below) m)
key-back below above m zero at = sym (ap (key_found true) (slice_get_past (reverse below) m (omega (arith, length-reverse below))))
key-back below above m (suc i) at =
    ap (λ (o : Option (List ℕ × List ℕ)). option_map_or (λ pair. found.Key pair.0) o found.After) (slice-before below above i inside)
    ∙ told (slice_get below i) (there below i inside)
    ∙ ap (key_found true) (sym (slice-reverse below i m (omega arith)))
  where
    inside : i < length below
    inside = omega arith

    there : (xs : Map) (k : ℕ) → k < length xs → slice_get xs k ≡ None → ⊥
    there [] k within none = absurd (omega arith)
    there (x ∷ xs) zero within none = cc
    there (x ∷ xs) (suc k) within none = there xs k (omega arith) none

    told : (o : Option (List ℕ × List ℕ)) → (o ≡ None → ⊥) → option_map_or (λ pair. found.Key pair.0) o found.After ≡ key_found true o
    told None some = absurd (some refl)
    told (Some pair) some = refl

-- ---- the selector

filter-alike : (p q : List ℕ × List ℕ → Bool) (pairs : Map) → AllByRecursion (λ pair. p pair ≡ q pair) pairs → filter p pairs ≡ filter q pairs
filter-alike p q [] alike = refl
filter-alike p q (pair ∷ pairs) alike = λ i. cond (alike.0 i) (pair ∷ filter-alike p q pairs alike.1 i) (filter-alike p q pairs alike.1 i)

pub ahead-sought : (back : Bool) (key : List ℕ) (or_equal : Bool) (at : List ℕ) (at_it : Bool) (span : Span) (pairs : Map)
    → ((other : List ℕ) → within span other ≡ true → is_ahead back at at_it other ≡ is_sought back key or_equal other)
    → ahead back at at_it span pairs ≡ filter (λ pair. is_sought back key or_equal pair.0) (way back span pairs)
ahead-sought back key or_equal at at_it span pairs alike =
    filter-alike _ _ (way back span pairs) (all-of _ (way back span pairs) (λ pair there. alike pair.0 (way-inside back span pairs pair there)))

module _ (value : List ℕ → Option (List ℕ)) (key : List ℕ) (or_equal : Bool) (span : Span) (pairs : Map) (map : IsMapOf value span pairs) where
  whole : pairs_in span pairs ≡ filter (λ pair. is_below key or_equal pair.0) (pairs_in span pairs) ++ filter (λ pair. not (is_below key or_equal pair.0)) (pairs_in span pairs)
  whole = parted key or_equal (pairs_in span pairs) (rises-way value false span pairs map)

  back : (passed place : ℕ) → place ≡ count_below key or_equal (pairs_in span pairs) - passed
      → key_found true (slice_get (filter (λ pair. is_below key or_equal pair.0) (reverse (pairs_in span pairs))) passed) ≡ key_at place (pairs_in span pairs)
  back passed place at =
      ap (λ (t : Map). key_found true (slice_get t passed)) (filter-reverse (λ pair. is_below key or_equal pair.0) (pairs_in span pairs))
      ∙ sym (key-back (filter (λ pair. is_below key or_equal pair.0) (pairs_in span pairs)) (filter (λ pair. not (is_below key or_equal pair.0)) (pairs_in span pairs)) passed place at)
      ∙ ap (λ (t : Map). key_at place t) (sym whole)

  -- the way to the key that is sought leads to the key at its place
  pub selected : (offset : ℤ) → key_found (goes_back offset) (slice_get (filter (λ pair. is_sought (goes_back offset) key or_equal pair.0) (way (goes_back offset) span pairs)) (passed_over offset))
      ≡ key_at (moved (count_below key or_equal (pairs_in span pairs)) offset) (pairs_in span pairs)
  selected (pos zero) = back 0 (count_below key or_equal (pairs_in span pairs) + 0) (omega arith)
  selected (pos (suc n)) =
      ap (λ (k : ℕ). key_found false (slice_get (filter (λ pair. not (is_below key or_equal pair.0)) (pairs_in span pairs)) k)) less
      ∙ sym (key-ahead (filter (λ pair. is_below key or_equal pair.0) (pairs_in span pairs)) (filter (λ pair. not (is_below key or_equal pair.0)) (pairs_in span pairs)) n)
      ∙ ap (λ (t : Map). key_at (count_below key or_equal (pairs_in span pairs) + suc n) t) (sym whole)
    where
      less : suc n - 1 ≡ n
      less = omega arith
  selected (negsuc n) = back (n + 1) (count_below key or_equal (pairs_in span pairs) - suc n) (omega arith)

-- what is found on the way is where the selector leads
pub selects : (value : List ℕ → Option (List ℕ)) (key : List ℕ) (or_equal : Bool) (span : Span) (offset : ℤ) (back : Bool) (passed : ℕ) (at : List ℕ) (at_it : Bool)
    → back ≡ goes_back offset → passed ≡ passed_over offset
    → ((other : List ℕ) → within span other ≡ true → is_ahead back at at_it other ≡ is_sought back key or_equal other)
    → (pairs : Map) → IsMapOf value span pairs → (next : Option (List ℕ × List ℕ)) → next ≡ slice_get (ahead back at at_it span pairs) passed
    → key_found back next ≡ key_at (moved (count_below key or_equal (pairs_in span pairs)) offset) (pairs_in span pairs)
selects value key or_equal span offset back passed at at_it turns passes alike pairs map next is =
    ap (key_found back) (is ∙ ap (λ (t : Map). slice_get t passed) (ahead-sought back key or_equal at at_it span pairs alike))
    ∙ (λ i. key_found (turns i) (slice_get (filter (λ pair. is_sought (turns i) key or_equal pair.0) (way (turns i) span pairs)) (passes i)))
    ∙ selected value key or_equal span pairs map offset

-- ---- the start of the way

pub sought-back : (back : Bool) (key : List ℕ) (or_equal : Bool) (at : List ℕ) (span : Span) → back ≡ true → key_less key span.end ≡ false → at ≡ span.end
    → (other : List ℕ) → within span other ≡ true → comes_first back at other ≡ is_sought back key or_equal other
sought-back back key or_equal at span is above place other inside =
    subst (λ (b : Bool). comes_first b at other ≡ is_sought b key or_equal other) (sym is)
    (ap (key_less other) place ∙ within-end span other inside ∙ sym (below or_equal))
  where
    lower : key_less other key ≡ true
    lower = less_le_trans other span.end key (within-end span other inside) above

    below : (e : Bool) → is_below key e other ≡ true
    below false = lower
    below true = ap not (less_asym other key lower)

pub sought-on : (back : Bool) (key : List ℕ) (or_equal : Bool) (at : List ℕ) (span : Span) → back ≡ false → key_less key span.begin ≡ true → at ≡ span.begin
    → (other : List ℕ) → within span other ≡ true → not (comes_first back other at) ≡ is_sought back key or_equal other
sought-on back key or_equal at span is below place other inside =
    subst (λ (b : Bool). not (comes_first b other at) ≡ is_sought b key or_equal other) (sym is)
    (ap (λ (k : List ℕ). not (key_less other k)) place ∙ ap not (within-begin span other inside) ∙ sym (ap not (above or_equal)))
  where
    higher : key_less key other ≡ true
    higher = less_le_trans key span.begin other below (within-begin span other inside)

    above : (e : Bool) → is_below key e other ≡ false
    above false = less_asym key other higher
    above true = ap not higher

-- ---- the way to the key

-- so many pairs are left to pass over, from this key on
pub record Passes (value : List ℕ → Option (List ℕ)) (back : Bool) (span : Span) (key : List ℕ) (or_equal : Bool) (passed : ℕ) (at : List ℕ) (at_it : Bool) (left : ℕ) : Type 0 where
  pub from : IsFrom back at at_it span
  pub same : (pairs : Map) → IsMapOf value span pairs → slice_get (ahead back at at_it span pairs) left ≡ slice_get (ahead back key or_equal span pairs) passed

module _ (value : List ℕ → Option (List ℕ)) (back : Bool) (span : Span) (key : List ℕ) (or_equal : Bool) (passed : ℕ) where
  pub passes-none : IsFrom back key or_equal span → Passes value back span key or_equal passed key or_equal passed
  passes-none from = record { from = from; same = λ pairs map. refl }

  module _ (at : List ℕ) (at_it : Bool) (left : ℕ) (passes : Passes value back span key or_equal passed at at_it left) where
    pub passes-one : (pair : List ℕ × List ℕ) → ((pairs : Map) → IsMapOf value span pairs → IsNext back at at_it span pairs (Some pair)) → within span pair.0 ≡ true
        → 0 < left → Passes value back span key or_equal passed pair.0 false (left - 1)
    passes-one pair next inside some = record {
      from = from-inside back span pair.0 inside;
      same = λ pairs map.
          sym (slice-tail pair (ahead back pair.0 false span pairs) left some) ∙ ap (λ (t : Map). slice_get t left) (sym (next pairs map)) ∙ passes.same pairs map;
    }

    pub passes-end : ((pairs : Map) → IsMapOf value span pairs → IsNext back at at_it span pairs None)
        → (pairs : Map) → IsMapOf value span pairs → None ≡ slice_get (ahead back key or_equal span pairs) passed
    passes-end next pairs map = sym (ap (λ (t : Map). slice_get t left) (next pairs map)) ∙ passes.same pairs map

    pub passes-all : (found : Option (List ℕ × List ℕ)) → ((pairs : Map) → IsMapOf value span pairs → IsNext back at at_it span pairs found) → left ≡ 0
        → (pairs : Map) → IsMapOf value span pairs → found ≡ slice_get (ahead back key or_equal span pairs) passed
    passes-all found next none pairs map = by_found found (next pairs map) ∙ ap (λ (n : ℕ). slice_get (ahead back at at_it span pairs) n) (sym none) ∙ passes.same pairs map
      where
        by_found : (o : Option (List ℕ × List ℕ)) → IsNext back at at_it span pairs o → o ≡ slice_get (ahead back at at_it span pairs) 0
        by_found None is = sym (ap (λ (t : Map). slice_get t 0) is)
        by_found (Some pair) is = sym (ap (λ (t : Map). slice_get t 0) is)
