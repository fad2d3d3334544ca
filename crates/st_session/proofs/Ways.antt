-- The pairs of a map in a span, as they come on the way.
use Rattle.std.proofs.Common.{◌⊎◌, inl, inr, ◌≡◌, ◌∙◌, ◌&&◌, ℕ, T, Bool, true, false, cond, not, List, [], ◌∷◌, ◌++◌, filter, reverse, Option, Some, None, IsTrue, refl, sym, ap, subst}
use Rattle.std.proofs.lemmas.Bool.{false_from_ne_true, false≢true}
use Rattle.std.proofs.lemmas.Cmp.{nat_list_cmp_total, tied_itself}
use Rattle.std.proofs.lemmas.List.{reverse-append}
use Rattle.std.proofs.lemmas.Map.Lookups.{exact_bytes}
use Rattle.std.specs.Cmp.Lexicographic.{slice_cmp}
use Rattle.std.specs.FinMap.Entries.{below_all, is_sorted, is_sorted-where_key}
use Rattle.std.specs.List.{AllByRecursion}
use Rattle.std.specs.Ordering.{is_eq, is_lt, nat_cmp}
use Rattle.std.specs.declared.cmp.Ordering.{Ordering}
use Rattle.std.specs.declared.cmp.Ordering.TheVariants.{Less, Equal, Greater}
use Rattle.st_fold.specs.Map.{Map, value_at}
use Rattle.st_fold.specs.Reading.{in_order, pairs_in}
use Rattle.st_key.specs.Spans.{Span, key_less, within}
use Rattle.st_session.specs.Seen.{IsMapOf}
use Rattle.st_session.specs.Walking.{comes_first, is_ahead, way}
use Rattle.st_session.proofs.Orders.{first-irrefl}

-- a pair is one of these
abbrev pub In : List ℕ × List ℕ → Map → Type 0
In pair [] = ⊥
In pair (other ∷ pairs) = (other ≡ pair) ⊎ In pair pairs

-- each key comes before each later one
abbrev pub Rises : Bool → Map → Type 0
Rises back [] = Unit {0}
Rises back (pair ∷ pairs) = AllByRecursion (λ other. comes_first back pair.0 other.0 ≡ true) pairs × Rises back pairs

pub all-of : (P : List ℕ × List ℕ → Type 0) (pairs : Map) → ((pair : List ℕ × List ℕ) → In pair pairs → P pair) → AllByRecursion P pairs
all-of P [] each = tt
all-of P (pair ∷ pairs) each = (each pair (inl refl), all-of P pairs (λ other there. each other (inr there)))

pub of-all : (P : List ℕ × List ℕ → Type 0) (pairs : Map) → AllByRecursion P pairs → (pair : List ℕ × List ℕ) → In pair pairs → P pair
of-all P [] all pair there = absurd there
of-all P (other ∷ pairs) all pair (inl is) = subst P is all.0
of-all P (other ∷ pairs) all pair (inr there) = of-all P pairs all.1 pair there

-- ---- filters

pub filter-all : (p : List ℕ × List ℕ → Bool) (pairs : Map) → AllByRecursion (λ pair. p pair ≡ true) pairs → filter p pairs ≡ pairs
filter-all p [] all = refl
filter-all p (pair ∷ pairs) all = ap (λ (t : Bool). cond t (pair ∷ filter p pairs) (filter p pairs)) all.0 ∙ ap (λ (t : Map). pair ∷ t) (filter-all p pairs all.1)

pub filter-none : (p : List ℕ × List ℕ → Bool) (pairs : Map) → AllByRecursion (λ pair. p pair ≡ false) pairs → filter p pairs ≡ []
filter-none p [] all = refl
filter-none p (pair ∷ pairs) all = ap (λ (t : Bool). cond t (pair ∷ filter p pairs) (filter p pairs)) all.0 ∙ filter-none p pairs all.1

in-filter : (p : List ℕ × List ℕ → Bool) (pairs : Map) (pair : List ℕ × List ℕ) → In pair pairs → p pair ≡ true → In pair (filter p pairs)
in-filter p [] pair there passes = there
in-filter p (other ∷ pairs) pair (inl is) passes = subst (λ (t : Bool). In pair (cond t (other ∷ filter p pairs) (filter p pairs))) (sym (ap p is ∙ passes)) (inl is)
in-filter p (other ∷ pairs) pair (inr there) passes =
    elim (p other) as (λ t. In pair (cond t (other ∷ filter p pairs) (filter p pairs))) [
      | true ↦ inr (in-filter p pairs pair there passes)
      | false ↦ in-filter p pairs pair there passes
    ]

of-filter : (p : List ℕ × List ℕ → Bool) (pairs : Map) (pair : List ℕ × List ℕ) → In pair (filter p pairs) → In pair pairs × (p pair ≡ true)
of-filter p [] pair there = absurd there
of-filter p (other ∷ pairs) pair there = by_test (of-filter p pairs pair) (p other) refl there
  where
    by_test : (In pair (filter p pairs) → In pair pairs × (p pair ≡ true)) → (t : Bool) → p other ≡ t → In pair (cond t (other ∷ filter p pairs) (filter p pairs))
        → In pair (other ∷ pairs) × (p pair ≡ true)
    by_test later true is (inl same) = (inl same, sym (ap p same) ∙ is)
    by_test later true is (inr there) = (inr (later there).0, (later there).1)
    by_test later false is there = (inr (later there).0, (later there).1)

-- ---- the reverse

reversed : (pair : List ℕ × List ℕ) (pairs : Map) → reverse (pair ∷ pairs) ≡ reverse pairs ++ pair ∷ []
reversed pair pairs = reverse-append (pair ∷ []) pairs

in-append : (pair : List ℕ × List ℕ) (xs ys : Map) → In pair xs ⊎ In pair ys → In pair (xs ++ ys)
in-append pair [] ys (inl there) = absurd there
in-append pair [] ys (inr there) = there
in-append pair (x ∷ xs) ys (inl (inl is)) = inl is
in-append pair (x ∷ xs) ys (inl (inr there)) = inr (in-append pair xs ys (inl there))
in-append pair (x ∷ xs) ys (inr there) = inr (in-append pair xs ys (inr there))

of-append : (pair : List ℕ × List ℕ) (xs ys : Map) → In pair (xs ++ ys) → In pair xs ⊎ In pair ys
of-append pair [] ys there = inr there
of-append pair (x ∷ xs) ys (inl is) = inl (inl is)
of-append pair (x ∷ xs) ys (inr there) = later (of-append pair xs ys there)
  where
    later : In pair xs ⊎ In pair ys → In pair (x ∷ xs) ⊎ In pair ys
    later (inl here) = inl (inr here)
    later (inr here) = inr here

in-reverse : (pair : List ℕ × List ℕ) (pairs : Map) → In pair pairs → In pair (reverse pairs)
in-reverse pair [] there = absurd there
in-reverse pair (other ∷ pairs) there = subst (λ (t : Map). In pair t) (sym (reversed other pairs)) (in-append pair (reverse pairs) (other ∷ []) (last (in-reverse pair pairs) there))
  where
    last : (In pair pairs → In pair (reverse pairs)) → In pair (other ∷ pairs) → In pair (reverse pairs) ⊎ In pair (other ∷ [])
    last earlier (inl is) = inr (inl is)
    last earlier (inr later) = inl (earlier later)

of-reverse : (pair : List ℕ × List ℕ) (pairs : Map) → In pair (reverse pairs) → In pair pairs
of-reverse pair [] there = there
of-reverse pair (other ∷ pairs) there = by_part (of-reverse pair pairs) (of-append pair (reverse pairs) (other ∷ []) (subst (λ (t : Map). In pair t) (reversed other pairs) there))
  where
    by_part : (In pair (reverse pairs) → In pair pairs) → In pair (reverse pairs) ⊎ In pair (other ∷ []) → In pair (other ∷ pairs)
    by_part later (inl earlier) = inr (later earlier)
    by_part later (inr (inl is)) = inl is
    by_part later (inr (inr none)) = absurd none

rises-append : (back : Bool) (pairs : Map) (pair : List ℕ × List ℕ) → Rises back pairs → AllByRecursion (λ other. comes_first back other.0 pair.0 ≡ true) pairs → Rises back (pairs ++ pair ∷ [])
rises-append back [] pair rises all = (tt, tt)
rises-append back (first ∷ pairs) pair rises all =
    (all-of _ (pairs ++ pair ∷ []) (λ other there. by_part other (of-append other pairs (pair ∷ []) there)), rises-append back pairs pair rises.1 all.1)
  where
    by_part : (other : List ℕ × List ℕ) → In other pairs ⊎ In other (pair ∷ []) → comes_first back first.0 other.0 ≡ true
    by_part other (inl there) = of-all (λ q. comes_first back first.0 q.0 ≡ true) pairs rises.0 other there
    by_part other (inr (inl is)) = subst (λ (q : List ℕ × List ℕ). comes_first back first.0 q.0 ≡ true) is all.0
    by_part other (inr (inr none)) = absurd none

rises-reverse : (pairs : Map) → Rises false pairs → Rises true (reverse pairs)
rises-reverse [] rises = tt
rises-reverse (pair ∷ pairs) rises =
    subst (Rises true) (sym (reversed pair pairs))
    (rises-append true (reverse pairs) pair (rises-reverse pairs rises.1)
    (all-of (λ other. comes_first true other.0 pair.0 ≡ true) (reverse pairs) (λ other there. of-all (λ q. comes_first false pair.0 q.0 ≡ true) pairs rises.0 other (of-reverse other pairs there))))

-- ---- maps in the order of their keys

first-of : (a b : Bool) → IsTrue (a && b) → a ≡ true
first-of true b both = refl
first-of false b both = both

second-of : (a b : Bool) → IsTrue (a && b) → IsTrue b
second-of true b both = both
second-of false b both = absurd (false≢true both)

below-each : (key : List ℕ) (pairs : Map) → IsTrue (below_all (slice_cmp nat_cmp) key pairs) → AllByRecursion (λ other. comes_first false key other.0 ≡ true) pairs
below-each key [] below = tt
below-each key (pair ∷ pairs) below = (first-of (key_less key pair.0) _ below, below-each key pairs (second-of (key_less key pair.0) _ below))

pub rises-sorted : (pairs : Map) → IsTrue (is_sorted (slice_cmp nat_cmp) pairs) → Rises false pairs
rises-sorted [] sorted = tt
rises-sorted (pair ∷ pairs) sorted = (
  below-each pair.0 pairs (first-of (below_all (slice_cmp nat_cmp) pair.0 pairs) _ sorted),
  rises-sorted pairs (second-of (below_all (slice_cmp nat_cmp) pair.0 pairs) _ sorted),
)

rises-filter : (p : List ℕ × List ℕ → Bool) (back : Bool) (pairs : Map) → Rises back pairs → Rises back (filter p pairs)
rises-filter p back [] rises = tt
rises-filter p back (pair ∷ pairs) rises =
    elim (p pair) as (λ t. Rises back (cond t (pair ∷ filter p pairs) (filter p pairs))) [
      | true ↦ (all-of _ (filter p pairs) (λ other there. of-all (λ q. comes_first back pair.0 q.0 ≡ true) pairs rises.0 other (of-filter p pairs other there).0), rises-filter p back pairs rises.1)
      | false ↦ rises-filter p back pairs rises.1
    ]

tied : (a b : List ℕ) → is_eq (slice_cmp nat_cmp a b) ≡ true → a ≡ b
tied a b is = exact_bytes a b (equal (slice_cmp nat_cmp a b) is)
  where
    equal : (o : Ordering) → is_eq o ≡ true → o ≡ Equal
    equal Less is = absurd (false≢true is)
    equal Equal is = refl
    equal Greater is = absurd (false≢true is)

-- the value of a key is that of its pair
value-of-pair : (pairs : Map) (pair : List ℕ × List ℕ) → Rises false pairs → In pair pairs → value_at pairs pair.0 ≡ Some pair.1
value-of-pair [] pair rises there = absurd there
value-of-pair (other ∷ pairs) pair rises (inl is) =
    ap (λ (t : Bool). cond t (Some other.1) (value_at pairs pair.0)) (ap (λ (q : List ℕ × List ℕ). is_eq (slice_cmp nat_cmp pair.0 q.0)) is ∙ ap is_eq (tied_itself nat_list_cmp_total pair.0))
    ∙ ap (λ (q : List ℕ × List ℕ). Some q.1) is
value-of-pair (other ∷ pairs) pair rises (inr there) =
    ap (λ (t : Bool). cond t (Some other.1) (value_at pairs pair.0)) (by_test (is_eq (slice_cmp nat_cmp pair.0 other.0)) refl) ∙ value-of-pair pairs pair rises.1 there
  where
    by_test : (t : Bool) → is_eq (slice_cmp nat_cmp pair.0 other.0) ≡ t → t ≡ false
    by_test true is =
        absurd (false≢true (sym (first-irrefl false other.0) ∙ ap (λ (k : List ℕ). comes_first false other.0 k) (sym (tied pair.0 other.0 is))
        ∙ of-all (λ q. comes_first false other.0 q.0 ≡ true) pairs rises.0 pair there))
    by_test false is = refl

pair-of-value : (pairs : Map) (key value : List ℕ) → value_at pairs key ≡ Some value → In (key, value) pairs
pair-of-value [] key value found = cc
pair-of-value (other ∷ pairs) key value found = by_test (pair-of-value pairs key value) (is_eq (slice_cmp nat_cmp key other.0)) refl found
  where
    by_test : (value_at pairs key ≡ Some value → In (key, value) pairs) → (t : Bool) → is_eq (slice_cmp nat_cmp key other.0) ≡ t → cond t (Some other.1) (value_at pairs key) ≡ Some value → In (key, value) (other ∷ pairs)
    by_test behind true is here = let keys : key ≡ other.0 = tied key other.0 is in let values : other.1 ≡ value = cc in inl (λ i. (sym keys i, values i))
    by_test behind false is later = inr (behind later)

-- ---- the way

pub rises-way : (value : List ℕ → Option (List ℕ)) (back : Bool) (span : Span) (pairs : Map) → IsMapOf value span pairs → Rises back (way back span pairs)
rises-way value false span pairs map = rises-filter (λ pair. within span pair.0) false pairs (rises-sorted pairs map.sorted)
rises-way value true span pairs map = rises-reverse (pairs_in span pairs) (rises-filter (λ pair. within span pair.0) false pairs (rises-sorted pairs map.sorted))

of-way : (back : Bool) (span : Span) (pairs : Map) (pair : List ℕ × List ℕ) → In pair (way back span pairs) → In pair (pairs_in span pairs)
of-way false span pairs pair there = there
of-way true span pairs pair there = of-reverse pair (pairs_in span pairs) there

to-way : (back : Bool) (span : Span) (pairs : Map) (pair : List ℕ × List ℕ) → In pair (pairs_in span pairs) → In pair (way back span pairs)
to-way false span pairs pair there = there
to-way true span pairs pair there = in-reverse pair (pairs_in span pairs) there

-- a pair of the way lies in the span, and the view has its value
pub way-inside : (back : Bool) (span : Span) (pairs : Map) (pair : List ℕ × List ℕ) → In pair (way back span pairs) → within span pair.0 ≡ true
way-inside back span pairs pair there = (of-filter (λ q. within span q.0) pairs pair (of-way back span pairs pair there)).1

pub way-value : (value : List ℕ → Option (List ℕ)) (back : Bool) (span : Span) (pairs : Map) → IsMapOf value span pairs
    → (pair : List ℕ × List ℕ) → In pair (way back span pairs) → value pair.0 ≡ Some pair.1
way-value value back span pairs map pair there =
    map.values pair.0 (way-inside back span pairs pair there)
    ∙ value-of-pair pairs pair (rises-sorted pairs map.sorted) (of-filter (λ q. within span q.0) pairs pair (of-way back span pairs pair there)).0

-- each pair that the view has in the span is one of the way
pub on-way : (value : List ℕ → Option (List ℕ)) (back : Bool) (span : Span) (pairs : Map) → IsMapOf value span pairs
    → (key found : List ℕ) → within span key ≡ true → value key ≡ Some found → In (key, found) (way back span pairs)
on-way value back span pairs map key found inside there =
    to-way back span pairs (key, found) (in-filter (λ q. within span q.0) pairs (key, found) (pair-of-value pairs key found (sym (map.values key inside) ∙ there)) inside)
