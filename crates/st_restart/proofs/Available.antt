-- The pairs of the keys that are available.
use Rattle.std.proofs.Common.{◌≡◌, ◌∙◌, ◌&&◌, ◌||◌, not, ℕ, Bool, true, false, cond, List, [], ◌∷◌, ◌++◌, filter, fold, Result, Ok, Err, OnOk, IsTrue, refl, sym, ap}
use Rattle.std.specs.Cmp.Lexicographic.{slice_cmp}
use Rattle.std.specs.List.{list_all, list_any}
use Rattle.std.specs.Ordering.{is_eq, nat_cmp}
use Rattle.std.specs.declared.cmp.Ordering.{Ordering}
use Rattle.std.specs.declared.cmp.Ordering.TheVariants.{Less, Equal, Greater}
use Rattle.std.proofs.lemmas.Bool.{false≢true}
use Rattle.std.proofs.lemmas.Map.Lookups.{exact_bytes}
use Rattle.st_course.specs.Jobs.{clears_of}
use Rattle.st_fold.specs.Map.{Map}
use Rattle.st_key.specs.Parts.{without_span}
use Rattle.st_key.specs.Spans.{Span, all_keys, holds, key_less, within}
use Rattle.st_meta.specs.Stored.{assigned_key, available_key, ff, is_key, is_other, is_range, version_key}
use Rattle.st_restart.specs.Opened.{stored_keys}
use Rattle.st_restart.proofs.Users.{and_right, ranges-users}

-- what lies in a span more is taken out as well
any-more : {X : Type 0} (test : X → Bool) (xs : List X) (x : X) → list_any test (xs ++ x ∷ []) ≡ (list_any test xs || test x)
any-more test [] x = by_test (test x)
  where
    by_test : (t : Bool) → (t || false) ≡ t
    by_test true = refl
    by_test false = refl
any-more test (y ∷ xs) x = by_test (test y) (any-more test xs x)
  where
    by_test : (t : Bool) → list_any test (xs ++ x ∷ []) ≡ (list_any test xs || test x) → (t || list_any test (xs ++ x ∷ [])) ≡ ((t || list_any test xs) || test x)
    by_test true later = refl
    by_test false later = later

filter-same : {X : Type 0} (p q : X → Bool) → ((x : X) → p x ≡ q x) → (xs : List X) → filter p xs ≡ filter q xs
filter-same p q same [] = refl
filter-same p q same (x ∷ xs) = λ i. cond (same x i) (x ∷ filter-same p q same xs i) (filter-same p q same xs i)

filter-twice : {X : Type 0} (p q : X → Bool) (xs : List X) → filter p (filter q xs) ≡ filter (λ x. q x && p x) xs
filter-twice p q [] = refl
filter-twice p q (x ∷ xs) = by_test (q x) (filter-twice p q xs)
  where
    by_test : (t : Bool) → filter p (filter q xs) ≡ filter (λ y. q y && p y) xs
        → filter p (cond t (x ∷ filter q xs) (filter q xs)) ≡ cond (t && p x) (x ∷ filter (λ y. q y && p y) xs) (filter (λ y. q y && p y) xs)
    by_test true later = λ i. cond (p x) (x ∷ later i) (later i)
    by_test false later = later

-- what passes no test is all that there is
pub kept-all : {X : Type 0} (xs : List X) → filter (λ _. true) xs ≡ xs
kept-all [] = refl
kept-all (x ∷ xs) = λ i. x ∷ kept-all xs i

pub on-ok : {T E : Type 0} (r : Result T E) {P Q : Type 0} → (P → Q) → OnOk r P → OnOk r Q
on-ok (Ok value) leads holds = leads holds
on-ok (Err why) leads holds = tt

pub taken-more : (spans : List Span) (span : Span) (pairs : Map)
    → filter (λ pair. not (within span pair.0)) (filter (λ pair. not (holds spans pair.0)) pairs) ≡ filter (λ pair. not (holds (spans ++ span ∷ []) pair.0)) pairs
taken-more spans span pairs =
    filter-twice (λ (pair : List ℕ × List ℕ). not (within span pair.0)) (λ pair. not (holds spans pair.0)) pairs
    ∙ filter-same (λ (pair : List ℕ × List ℕ). not (holds spans pair.0) && not (within span pair.0)) (λ pair. not (holds (spans ++ span ∷ []) pair.0))
    (λ pair. by_test (holds spans pair.0) (within span pair.0) ∙ ap not (sym (any-more (λ s. within s pair.0) spans span))) pairs
  where
    by_test : (a b : Bool) → (not a && not b) ≡ not (a || b)
    by_test true b = refl
    by_test false b = refl

-- the keys that are left when spans are taken out one by one
left-over : ((spans : List Span) (span : Span) (key : List ℕ) → holds (without_span spans span) key ≡ (holds spans key && not (within span key)))
    → (taken spans : List Span) (key : List ℕ) → holds (fold without_span spans taken) key ≡ (holds spans key && not (holds taken key))
left-over taken_out [] spans key = by_test (holds spans key)
  where
    by_test : (t : Bool) → t ≡ (t && true)
    by_test true = refl
    by_test false = refl
left-over taken_out (span ∷ taken) spans key =
    left-over taken_out taken (without_span spans span) key
    ∙ ap (λ (t : Bool). t && not (holds taken key)) (taken_out spans span key)
    ∙ by_test (holds spans key) (within span key)
  where
    by_test : (a b : Bool) → ((a && not b) && not (holds taken key)) ≡ (a && not (b || holds taken key))
    by_test true true = refl
    by_test true false = refl
    by_test false b = refl

-- a key that is no user's is one of the stored state's
is-stored : (key : List ℕ) → key_less key ff ≡ false → is_other key ≡ false → within stored_keys key ≡ true
is-stored key not_users none = by_assigned (is_key assigned_key key) refl
  where
    tied : (o : Ordering) → is_eq o ≡ true → o ≡ Equal
    tied Less is = absurd (false≢true is)
    tied Equal is = refl
    tied Greater is = absurd (false≢true is)

    same : (stored : List ℕ) → is_key stored key ≡ true → stored ≡ key
    same stored is = exact_bytes stored key (tied (slice_cmp nat_cmp stored key) is)

    by_assigned : (t : Bool) → is_key assigned_key key ≡ t → within stored_keys key ≡ true
    by_assigned true is = ap (within stored_keys) (sym (same assigned_key is))
    by_assigned false isnt = by_available (is_key available_key key) refl
      where
        by_available : (t : Bool) → is_key available_key key ≡ t → within stored_keys key ≡ true
        by_available true is = ap (within stored_keys) (sym (same available_key is))
        by_available false isnt_available = by_version (is_key version_key key) refl
          where
            by_version : (t : Bool) → is_key version_key key ≡ t → within stored_keys key ≡ true
            by_version true is = ap (within stored_keys) (sym (same version_key is))
            by_version false isnt_version = absurd (false≢true (sym none ∙ (λ i. not (not_users i) && not (isnt i) && not (isnt_available i) && not (isnt_version i))))

-- of pairs without others beside users' those of the available keys are left
pub available-left : ((spans : List Span) (span : Span) (key : List ℕ) → holds (without_span spans span) key ≡ (holds spans key && not (within span key)))
    → (available : List Span) → list_all is_range available ≡ true → (pairs : Map) → list_any (λ pair. is_other pair.0) pairs ≡ false
    → filter (λ pair. not (within stored_keys pair.0)) (filter (λ pair. not (holds (clears_of false available) pair.0)) pairs) ≡ filter (λ pair. holds available pair.0) pairs
available-left taken_out available ranges pairs none =
    filter-twice (λ (pair : List ℕ × List ℕ). not (within stored_keys pair.0)) (λ pair. not (holds (clears_of false available) pair.0)) pairs
    ∙ each pairs none
  where
    one : (key : List ℕ) → is_other key ≡ false → (not (holds (clears_of false available) key) && not (within stored_keys key)) ≡ holds available key
    one key beside = by_users (key_less key ff) refl
      where
        nothing-below : (k : List ℕ) → key_less k [] ≡ false
        nothing-below [] = refl
        nothing-below (byte ∷ k) = refl

        left : (t : Bool) → key_less key ff ≡ t → holds (clears_of false available) key ≡ (t && not (holds available key))
        left t is =
            left-over taken_out available (all_keys ∷ []) key
            ∙ ap (λ (u : Bool). (u || false) && not (holds available key)) ((λ i. not (nothing-below key i) && is i))
            ∙ by_or t
          where
            by_or : (u : Bool) → ((u || false) && not (holds available key)) ≡ (u && not (holds available key))
            by_or true = refl
            by_or false = refl

        by_users : (t : Bool) → key_less key ff ≡ t → (not (holds (clears_of false available) key) && not (within stored_keys key)) ≡ holds available key
        by_users true is =
            (λ i. not (left true is i) && not (not (is i) && key_less key (255 ∷ 255 ∷ 255 ∷ [])))
            ∙ by_held (holds available key)
          where
            by_held : (t : Bool) → (not (not t) && true) ≡ t
            by_held true = refl
            by_held false = refl
        by_users false isnt =
            (λ i. not (left false isnt i) && not (is-stored key isnt beside i))
            ∙ by_held (holds available key) refl
          where
            by_held : (t : Bool) → holds available key ≡ t → false ≡ holds available key
            by_held true held = absurd (false≢true (sym isnt ∙ and_right (not (key_less key [])) (key_less key ff) (ranges-users available ranges key held)))
            by_held false held = sym held

    each : (pairs : Map) → list_any (λ pair. is_other pair.0) pairs ≡ false
        → filter (λ pair. not (holds (clears_of false available) pair.0) && not (within stored_keys pair.0)) pairs ≡ filter (λ pair. holds available pair.0) pairs
    each [] none = refl
    each (pair ∷ pairs) none = by_test (is_other pair.0) refl (each pairs)
      where
        by_test : (t : Bool) → is_other pair.0 ≡ t
            → (list_any (λ p. is_other p.0) pairs ≡ false → filter (λ p. not (holds (clears_of false available) p.0) && not (within stored_keys p.0)) pairs ≡ filter (λ p. holds available p.0) pairs)
            → filter (λ p. not (holds (clears_of false available) p.0) && not (within stored_keys p.0)) (pair ∷ pairs) ≡ filter (λ p. holds available p.0) (pair ∷ pairs)
        by_test true is rest = absurd (false≢true (sym none ∙ ap (λ (t : Bool). t || list_any (λ p. is_other p.0) pairs) is))
        by_test false is rest =
            let later = rest (sym (ap (λ (t : Bool). t || list_any (λ p. is_other p.0) pairs) is) ∙ none) in
            λ i. cond (one pair.0 is i) (pair ∷ later i) (later i)
