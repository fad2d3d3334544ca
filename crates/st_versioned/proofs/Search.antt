-- One step of the search for a neighbour.
use Rattle.std.proofs.Common.{◌⊎◌, inl, inr, ◌≡◌, ◌∙◌, ◌<◌, ◌≤◌, ℕ, zero, suc, Bool, true, false, cond, not, List, [], ◌∷◌, ◌++◌, filter, length, get_or, Option, Some, None, refl, sym, ap, subst, arith}
use Rattle.std.proofs.lemmas.Bool.{false_from_ne_true, false≢true, not-true}
use Rattle.std.specs.Borrow.{Bor}
use Rattle.std.specs.List.{AllByRecursion}
use Rattle.std.specs.Option.{unwrap_or}
use Rattle.st_key.specs.KeyOrder.{le_less_trans, less_asym, less_trans}
use Rattle.st_key.specs.Spans.{key_less}
use Rattle.st_versioned.specs.Neighbours.{IsFirst, IsFirstKey, IsFirstOf, bound_behind, first_by, first_of_two, is_beyond, keys_of}
use Rattle.st_versioned.specs.Root.{Decision, Pairs, Row, decided, decided_by, over, reaches, same, told, value_at, value_in}
use Rattle.st_versioned.specs.declared.bound.Bound.{Bound}
use Rattle.st_versioned.specs.declared.bound.Bound.TheVariants.{From, Above, Below}
use Rattle.st_versioned.specs.declared.entry.Entry.{Entry}
use Rattle.st_versioned.specs.declared.entry.Entry.TheVariants.{Value, ClearTo}
use Rattle.st_versioned.proofs.Reaching.{In, last-in, upto}
use Rattle.st_versioned.proofs.Bases.{same_equal, same_itself}
use Rattle.st_ptree.specs.Entries.{last_of}
use Rattle.st_versioned.proofs.Firsts.{first-both, first_connected, first_irrefl}

-- a value is decided
abbrev is_valued : Decision → Bool
is_valued None = false
is_valued (Some (version, None)) = false
is_valued (Some (version, Some value)) = true

all-left : {X : Type 0} (P : X → Type 0) (xs ys : List X) → AllByRecursion P (xs ++ ys) → AllByRecursion P xs
all-left P [] ys all = tt
all-left P (x ∷ xs) ys all = (all.0, all-left P xs ys all.1)

all-right : {X : Type 0} (P : X → Type 0) (xs ys : List X) → AllByRecursion P (xs ++ ys) → AllByRecursion P ys
all-right P [] ys all = all
all-right P (x ∷ xs) ys all = all-right P xs ys all.1

in-keys : (P : List ℕ → Type 0) (rows : List Row) (row : Row) → AllByRecursion P (keys_of rows) → In row rows → P row.0
in-keys P [] row all there = absurd there
in-keys P (other ∷ rows) row all (inl is) = subst (λ (r : Row). P r.0) is all.0
in-keys P (other ∷ rows) row all (inr there) = in-keys P rows row all.1 there

-- rows that have no such key decide no value for it
none-decided : (key : List ℕ) (rows : List Row) → AllByRecursion (λ k. same k key ≡ false) (keys_of rows) → is_valued (decided rows key) ≡ false
none-decided key rows absent = by_last (last_of (upto key rows)) refl
  where
    by_entry : (at : List ℕ) (version : ℕ) (entry : Entry) → same at key ≡ false → is_valued (cond (reaches key at entry) (Some (version, value_in entry)) None) ≡ false
    by_entry at version (Value value) off = ap (λ (t : Bool). is_valued (cond t (Some (version, Some value)) None)) (other (same key at) refl)
      where
        other : (t : Bool) → same key at ≡ t → same key at ≡ false
        other true is = absurd (false≢true (sym off ∙ ap (λ (x : List ℕ). same at x) (same_equal key at is) ∙ same_itself at))
        other false is = is
    by_entry at version (ClearTo end) off = by_test (key_less key end)
      where
        by_test : (t : Bool) → is_valued (cond t (Some (version, None)) None) ≡ false
        by_test true = refl
        by_test false = refl

    by_last : (o : Option Row) → last_of (upto key rows) ≡ o → is_valued (decided_by key o) ≡ false
    by_last None none = refl
    by_last (Some row) last =
        by_entry row.0 row.1.version row.1.entry
        (in-keys (λ k. same k key ≡ false) rows row absent (last-in (λ (r : Row). not (key_less key r.0)) rows row last).0)

none-found : (key : List ℕ) (base : Pairs) → AllByRecursion (λ k. same k key ≡ false) (keys_of base) → value_at base key ≡ None
none-found key [] absent = refl
none-found key (pair ∷ base) absent =
    ap (λ (t : Bool). cond t (Some pair.1) (value_at base key)) (other (same key pair.0) refl) ∙ none-found key base absent.1
  where
    other : (t : Bool) → same key pair.0 ≡ t → same key pair.0 ≡ false
    other true is = absurd (false≢true (sym absent.0 ∙ ap (λ (x : List ℕ). same pair.0 x) (same_equal key pair.0 is) ∙ same_itself pair.0))
    other false is = is

-- the keys that may have a value over a base
abbrev pub candidates : List Row → Pairs → List (List ℕ)
candidates root base = keys_of root ++ keys_of base

none-over : (root : List Row) (base : Pairs) (key : List ℕ) → AllByRecursion (λ k. same k key ≡ false) (candidates root base) → over root base key ≡ None
none-over root base key absent =
    by_decision (decided root key) (none-decided key root (all-left (λ k. same k key ≡ false) (keys_of root) (keys_of base) absent))
  where
    by_decision : (d : Decision) → is_valued d ≡ false → unwrap_or (told d) (value_at base key) ≡ None
    by_decision None valued = none-found key base (all-right (λ k. same k key ≡ false) (keys_of root) (keys_of base) absent)
    by_decision (Some (version, None)) valued = refl
    by_decision (Some (version, Some value)) valued = absurd (false≢true (sym valued))

all-mapped : {X : Type 0} (P Q : X → Type 0) → ((x : X) → P x → Q x) → (xs : List X) → AllByRecursion P xs → AllByRecursion Q xs
all-mapped P Q leads [] all = tt
all-mapped P Q leads (x ∷ xs) all = (leads x all.0, all-mapped P Q leads xs all.1)

-- fewer pass where one that passed no longer does
fewer : {X : Type 0} (p q : X → Bool) → ((x : X) → p x ≡ true → q x ≡ true) → (xs : List X) → length (filter p xs) ≤ length (filter q xs)
fewer p q only [] = omega arith
fewer p q only (x ∷ xs) = by_tests (p x) (q x) refl refl (fewer p q only xs)
  where
    by_tests : (a b : Bool) → p x ≡ a → q x ≡ b → length (filter p xs) ≤ length (filter q xs) → length (cond (p x) (x ∷ filter p xs) (filter p xs)) ≤ length (cond (q x) (x ∷ filter q xs) (filter q xs))
    by_tests true true a b rest = rw (a, b) (omega arith)
    by_tests true false a b rest = absurd (false≢true (sym b ∙ only x a))
    by_tests false true a b rest = rw (a, b) (omega arith)
    by_tests false false a b rest = rw (a, b) rest

one-fewer : {X : Type 0} (p q : X → Bool) → ((x : X) → p x ≡ true → q x ≡ true) → (xs : List X) (c : X) (i : ℕ) → i < length xs → get_or xs i c ≡ c → p c ≡ false → q c ≡ true
    → length (filter p xs) < length (filter q xs)
one-fewer p q only [] c i inside is fails passes = absurd (omega arith)
one-fewer p q only (x ∷ xs) c zero inside is fails passes =
    let a : p x ≡ false = ap p is ∙ fails in
    let b : q x ≡ true = ap q is ∙ passes in
    let rest = fewer p q only xs in
    rw (a, b) (omega (arith, rest))
one-fewer p q only (x ∷ xs) c (suc i) inside is fails passes = by_tests (p x) (q x) refl refl (one-fewer p q only xs c i (omega arith) is fails passes)
  where
    by_tests : (a b : Bool) → p x ≡ a → q x ≡ b → length (filter p xs) < length (filter q xs) → length (cond (p x) (x ∷ filter p xs) (filter p xs)) < length (cond (q x) (x ∷ filter q xs) (filter q xs))
    by_tests true true a b rest = rw (a, b) (omega arith)
    by_tests true false a b rest = absurd (false≢true (sym b ∙ only x a))
    by_tests false true a b rest = rw (a, b) (omega arith)
    by_tests false false a b rest = rw (a, b) rest

-- the first of two different keys comes before the other
first_or : (bound : Bound) (a b : List ℕ) → first_by bound a b ≡ false → (a ≡ b → ⊥) → first_by bound b a ≡ true
first_or bound a b ab other = by_test (first_by bound b a) refl
  where
    by_test : (t : Bool) → first_by bound b a ≡ t → first_by bound b a ≡ true
    by_test true is = is
    by_test false is = absurd (other (first_connected bound a b ab is))

module _ (root : List Row) (base : Pairs) (bound : Bound) where
  abbrev keys : List (List ℕ)
  keys = candidates root base

  -- where no candidate is beyond the bound, no key there has a value
  pub none-beyond : AllByRecursion (λ k. is_beyond bound k ≡ false) keys → (key : List ℕ) → is_beyond bound key ≡ true → over root base key ≡ None
  none-beyond none key beyond =
      none-over root base key
      (all-mapped (λ k. is_beyond bound k ≡ false) (λ k. same k key ≡ false)
      (λ k off. false_from_ne_true (same k key) (λ is. false≢true (sym off ∙ ap (is_beyond bound) (same_equal k key is) ∙ beyond)))
      keys none)

  -- before the first candidate no key has a value
  pub none-before : (c : List ℕ) → IsFirstOf (first_by bound) (is_beyond bound) keys c → (key : List ℕ) → is_beyond bound key ≡ true → first_by bound key c ≡ true → over root base key ≡ None
  none-before c first key beyond before =
      none-over root base key
      (all-mapped (λ k. is_beyond bound k ≡ true → first_by bound k c ≡ false) (λ k. same k key ≡ false)
      (λ k not_before. false_from_ne_true (same k key) (λ is.
      let one : k ≡ key = same_equal k key is in
      false≢true (sym (not_before (ap (is_beyond bound) one ∙ beyond)) ∙ ap (λ (x : List ℕ). first_by bound x c) one ∙ before)))
      keys first.before)

-- beyond a key are the keys that it comes before
beyond-behind : (bound : Bound) (c : Bor (List ℕ)) (k : List ℕ) → is_beyond (bound_behind bound c) k ≡ first_by bound c.now k
beyond-behind (From key) c k = refl
beyond-behind (Above key) c k = refl
beyond-behind (Below key) c k = refl

first-behind : (bound : Bound) (c : Bor (List ℕ)) (a b : List ℕ) → first_by (bound_behind bound c) a b ≡ first_by bound a b
first-behind (From key) c a b = refl
first-behind (Above key) c a b = refl
first-behind (Below key) c a b = refl

-- what comes behind a key beyond the bound is beyond it
beyond-trans : (bound : Bound) (c k : List ℕ) → is_beyond bound c ≡ true → first_by bound c k ≡ true → is_beyond bound k ≡ true
beyond-trans (From key) c k beyond before = ap not (less_asym key.now k (le_less_trans key.now c k (not-true (key_less c key.now) beyond) before))
beyond-trans (Above key) c k beyond before = less_trans key.now c k beyond before
beyond-trans (Below key) c k beyond before = less_trans k c key.now before beyond

-- The search so far: the side that is left is a part of the bound's, in its order, and no key of the rest has a value.
pub record Searched (root : List Row) (base : Pairs) (bound side : Bound) : Type 0 where
  pub within : (key : List ℕ) → is_beyond side key ≡ true → is_beyond bound key ≡ true
  pub passed : (key : List ℕ) → is_beyond bound key ≡ true → is_beyond side key ≡ false → over root base key ≡ None
  pub order : (a b : List ℕ) → first_by side a b ≡ first_by bound a b

pub searched-none : (root : List Row) (base : Pairs) (bound : Bound) → Searched root base bound bound
searched-none root base bound = record {
  within = λ key beyond. beyond;
  passed = λ key on off. absurd (false≢true (sym off ∙ on));
  order = λ a b. refl;
}

module _ (root : List Row) (base : Pairs) (bound side : Bound) (searched : Searched root base bound side) where
  pub searched-all : AllByRecursion (λ k. is_beyond side k ≡ false) (candidates root base) → (key : List ℕ) → is_beyond bound key ≡ true → over root base key ≡ None
  searched-all none key beyond = by_side (is_beyond side key) refl
    where
      by_side : (t : Bool) → is_beyond side key ≡ t → over root base key ≡ None
      by_side true on = none-beyond root base side none key on
      by_side false off = searched.passed key beyond off

  pub searched-found : (c value : List ℕ) → IsFirstOf (first_by side) (is_beyond side) (candidates root base) c → over root base c ≡ Some value → IsFirst (first_by bound) (is_beyond bound) (over root base) (c, value)
  searched-found c value first is = record {
    passing = searched.within c first.passing;
    there = is;
    before = λ key beyond before. by_side key beyond before (is_beyond side key) refl;
  }
    where
      by_side : (key : List ℕ) → is_beyond bound key ≡ true → first_by bound key c ≡ true → (t : Bool) → is_beyond side key ≡ t → over root base key ≡ None
      by_side key beyond before true on = none-before root base side c first key on (searched.order key c ∙ before)
      by_side key beyond before false off = searched.passed key beyond off

  pub searched-more : (c : Bor (List ℕ)) → IsFirstOf (first_by side) (is_beyond side) (candidates root base) c.now → over root base c.now ≡ None → Searched root base bound (bound_behind side c)
  searched-more c first none = record {
    within = λ key behind_c. searched.within key (beyond-trans side c.now key first.passing (sym (beyond-behind side c key) ∙ behind_c));
    passed = λ key beyond not_behind. by_side key beyond (sym (beyond-behind side c key) ∙ not_behind) (is_beyond side key) refl;
    order = λ a b. first-behind side c a b ∙ searched.order a b;
  }
    where
      by_first : (key : List ℕ) → is_beyond side key ≡ true → first_by side c.now key ≡ false → (t : Bool) → first_by side key c.now ≡ t → over root base key ≡ None
      by_first key on not_behind true before = none-before root base side c.now first key on before
      by_first key on not_behind false before = ap (over root base) (first_connected side key c.now before not_behind) ∙ none

      by_side : (key : List ℕ) → is_beyond bound key ≡ true → first_by side c.now key ≡ false → (t : Bool) → is_beyond side key ≡ t → over root base key ≡ None
      by_side key beyond not_behind true on = by_first key on not_behind (first_by side key c.now) refl
      by_side key beyond not_behind false off = searched.passed key beyond off

  -- fewer candidates are left
  pub searched-fewer : (c : Bor (List ℕ)) → IsFirstOf (first_by side) (is_beyond side) (candidates root base) c.now
      → length (filter (is_beyond (bound_behind side c)) (candidates root base)) < length (filter (is_beyond side) (candidates root base))
  searched-fewer c first =
      one-fewer (is_beyond (bound_behind side c)) (is_beyond side)
      (λ key behind_c. beyond-trans side c.now key first.passing (sym (beyond-behind side c key) ∙ behind_c))
      (candidates root base) c.now first.among.0 first.among.1 first.among.2
      (beyond-behind side c c.now ∙ first_irrefl side c.now) first.passing

-- the first of both sources is the first candidate
pub first-candidate : (root : List Row) (base : Pairs) (side : Bound) (set in_base found : Option (List ℕ)) → found ≡ first_of_two side set in_base
    → IsFirstKey (first_by side) (is_beyond side) (keys_of root) set → IsFirstKey (first_by side) (is_beyond side) (keys_of base) in_base
    → IsFirstKey (first_by side) (is_beyond side) (candidates root base) found
first-candidate root base side set in_base found is first second =
    subst (λ (o : Option (List ℕ)). IsFirstKey (first_by side) (is_beyond side) (candidates root base) o) (sym is) (first-both side (keys_of root) (keys_of base) set in_base first second)
