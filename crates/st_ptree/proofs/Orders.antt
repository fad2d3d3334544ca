-- The order of keys, and places in it.
use Rattle.std.proofs.Common.{◌≡◌, ◌∙◌, ℕ, Bool, true, false, not, List, refl, sym, ap}
use Rattle.std.specs.Ordering.{is_lt, is_eq, ordering_reverse}
use Rattle.std.specs.declared.cmp.Ordering.{Ordering}
use Rattle.std.specs.declared.cmp.Ordering.TheVariants.{Less, Equal, Greater}
use Rattle.std.proofs.lemmas.Bool.{false≢true}
use Rattle.std.proofs.lemmas.Cmp.{nat_list_cmp_total}
use Rattle.std.proofs.lemmas.Map.Lookups.{exact_bytes}
use Rattle.st_ptree.specs.Entries.{key_cmp, less, same, before}

pub is_Less : (o : Ordering) → is_lt o ≡ true → o ≡ Less
is_Less Less e = refl
is_Less Equal e = absurd cc
is_Less Greater e = absurd cc

pub less_trans : (a b c : List ℕ) → less a b ≡ true → less b c ≡ true → less a c ≡ true
less_trans a b c p q = ap is_lt (nat_list_cmp_total.trans a b c (is_Less _ p) (is_Less _ q))

pub less_asym : (a b : List ℕ) → less a b ≡ true → less b a ≡ false
less_asym a b p = ap is_lt (nat_list_cmp_total.antisymm b a ∙ ap ordering_reverse (is_Less _ p))

pub less_itself : (a : List ℕ) → less a a ≡ false
less_itself a = by_test (less a a) refl
  where
    by_test : (t : Bool) → less a a ≡ t → t ≡ false
    by_test true e = sym e ∙ less_asym a a e
    by_test false e = refl

-- keys that differ in neither way are one
pub neither : (a b : List ℕ) → less a b ≡ false → less b a ≡ false → a ≡ b
neither a b p q = by_order (key_cmp a b) refl
  where
    by_order : (o : Ordering) → key_cmp a b ≡ o → a ≡ b
    by_order Less o = absurd (false≢true (sym p ∙ ap is_lt o))
    by_order Equal o = exact_bytes a b o
    by_order Greater o = absurd (false≢true (sym q ∙ ap is_lt (nat_list_cmp_total.antisymm b a ∙ ap ordering_reverse o)))

-- a ≤ b ≤ c
pub not_less_trans : (a b c : List ℕ) → less b a ≡ false → less c b ≡ false → less c a ≡ false
not_less_trans a b c p q = by_test (less c a) refl (less a b) refl
  where
    by_test : (t : Bool) → less c a ≡ t → (u : Bool) → less a b ≡ u → t ≡ false
    by_test false e u f = refl
    by_test true e true f = sym (less_trans c a b e f) ∙ q
    by_test true e false f = sym e ∙ ap (less c) (neither a b f p) ∙ q

pub greater : (a b : List ℕ) → less b a ≡ true → key_cmp a b ≡ Greater
greater a b lt = nat_list_cmp_total.antisymm a b ∙ ap ordering_reverse (is_Less _ lt)

-- what an order says of the two tests
pub below_is : (a b : List ℕ) → key_cmp a b ≡ Less → less a b ≡ true
below_is a b o = ap is_lt o

pub above_is : (a b : List ℕ) → key_cmp a b ≡ Greater → less b a ≡ true
above_is a b o = ap is_lt (nat_list_cmp_total.antisymm b a ∙ ap ordering_reverse o)

pub equal_is : (a b : List ℕ) → key_cmp a b ≡ Equal → (less a b ≡ false) × (less b a ≡ false)
equal_is a b o = (ap is_lt o, ap is_lt (nat_list_cmp_total.antisymm b a ∙ ap ordering_reverse o))

pub apart_below : (a b : List ℕ) → less a b ≡ true → same a b ≡ false
apart_below a b lt = ap is_eq (is_Less _ lt)

pub apart_above : (a b : List ℕ) → less b a ≡ true → same a b ≡ false
apart_above a b lt = ap is_eq (nat_list_cmp_total.antisymm a b ∙ ap ordering_reverse (is_Less _ lt))

-- a place at a key, and those just behind it and just before it, part the keys
pub at_falls : (key a b : List ℕ) → less a b ≡ true → not (less key a) ≡ false → not (less key b) ≡ false
at_falls key a b lt is = by_test (less key a) refl
  where
    by_test : (t : Bool) → less key a ≡ t → not (less key b) ≡ false
    by_test true e = ap not (less_trans key a b e lt)
    by_test false e = absurd (false≢true (sym is ∙ ap not e))

pub at_rises : (key a b : List ℕ) → less a b ≡ true → not (less b key) ≡ false → not (less a key) ≡ false
at_rises key a b lt is = by_test (less b key) refl
  where
    by_test : (t : Bool) → less b key ≡ t → not (less a key) ≡ false
    by_test true e = ap not (less_trans a b key lt e)
    by_test false e = absurd (false≢true (sym is ∙ ap not e))

pub behind_rises : (key a b : List ℕ) → less a b ≡ true → less key b ≡ false → less key a ≡ false
behind_rises key a b lt is = by_test (less key a) refl
  where
    by_test : (t : Bool) → less key a ≡ t → t ≡ false
    by_test true e = sym (less_trans key a b e lt) ∙ is
    by_test false e = refl

pub before_falls : (key a b : List ℕ) → less a b ≡ true → less a key ≡ false → less b key ≡ false
before_falls key a b lt is = by_test (less b key) refl
  where
    by_test : (t : Bool) → less b key ≡ t → t ≡ false
    by_test true e = sym (less_trans a b key lt e) ∙ is
    by_test false e = refl

pub before-later : (key : List ℕ) (or_equal : Bool) (a b : List ℕ) → less a b ≡ true → before key or_equal a ≡ false → before key or_equal b ≡ false
before-later key true a b lt is = at_falls key a b lt is
before-later key false a b lt is = before_falls key a b lt is

pub before-earlier : (key : List ℕ) (or_equal : Bool) (a b : List ℕ) → less a b ≡ true → before key or_equal b ≡ true → before key or_equal a ≡ true
before-earlier key or_equal a b lt is = by_test (before key or_equal a) refl
  where
    by_test : (t : Bool) → before key or_equal a ≡ t → before key or_equal a ≡ true
    by_test true e = e
    by_test false e = absurd (false≢true (sym (before-later key or_equal a b lt e) ∙ is))

-- what a look tells of it
pub not-before : (key k : List ℕ) (or_equal : Bool) → key_cmp key k ≡ Less → before key or_equal k ≡ false
not-before key k true o = ap not (below_is key k o)
not-before key k false o = less_asym key k (below_is key k o)

pub before-itself : (key k : List ℕ) (or_equal : Bool) → key_cmp key k ≡ Equal → before key or_equal k ≡ or_equal
before-itself key k true o = ap not (equal_is key k o).0
before-itself key k false o = (equal_is key k o).1

pub is-before : (key k : List ℕ) (or_equal : Bool) → key_cmp key k ≡ Greater → before key or_equal k ≡ true
is-before key k true o = ap not (less_asym k key (above_is key k o))
is-before key k false o = above_is key k o
