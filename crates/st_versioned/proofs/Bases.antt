-- The first keys of a base, as its tree finds them.
use Rattle.std.proofs.Common.{◌≡◌, ◌∙◌, ◌<◌, ℕ, zero, suc, arith, get_or, length, Bool, true, false, not, List, [], ◌∷◌, Option, Some, None, refl, sym, ap, subst}
use Rattle.std.proofs.lemmas.Bool.{false_from_ne_true, false≢true, not-true}
use Rattle.std.proofs.lemmas.Cmp.{nat_list_cmp_total, tied_itself}
use Rattle.std.proofs.lemmas.Map.Lookups.{exact_bytes}
use Rattle.std.proofs.lemmas.Option.{same_Some}
use Rattle.std.specs.List.{AllByRecursion}
use Rattle.std.specs.Option.{option_map}
use Rattle.std.specs.Ordering.{is_eq}
use Rattle.std.specs.Prelude.{Contains, MatchOption}
use Rattle.std.specs.declared.cmp.Ordering.{Ordering}
use Rattle.std.specs.declared.cmp.Ordering.TheVariants.{Less, Equal, Greater}
use Rattle.st_key.specs.KeyOrder.{less_asym, less_connected, less_irrefl}
use Rattle.st_key.specs.Spans.{key_less}
use Rattle.st_ptree.specs.Entries.{key_cmp, pair_of, pairs_of}
use Rattle.st_ptree.specs.Nearest.{HaveNone, IsGreatest, IsLeast}
use Rattle.st_versioned.specs.Neighbours.{IsFirstKey, IsFirstOf, IsKeyOf, comes_behind, key_above, keys_of}
use Rattle.st_versioned.specs.Root.{same}

pub same_equal : (a b : List ℕ) → same a b ≡ true → a ≡ b
same_equal a b is = exact_bytes a b (equal (key_cmp a b) is)
  where
    equal : (o : Ordering) → is_eq o ≡ true → o ≡ Equal
    equal Less is = absurd (false≢true is)
    equal Equal is = refl
    equal Greater is = absurd (false≢true is)

pub same_itself : (a : List ℕ) → same a a ≡ true
same_itself a = ap is_eq (tied_itself nat_list_cmp_total a)

module _ {X : Type 0} where
  -- a pair that was found has the key of the entry that it is
  pub keys-alike : {A : Type 0} (pair : A → List ℕ × X) (r : Option A) (x : Option (List ℕ × (ℕ × X))) → option_map pair r ≡ option_map pair_of x
      → option_map (λ a. (pair a).0) r ≡ option_map (λ e. e.0) x
  keys-alike pair None None is = refl
  keys-alike pair None (Some e) is = absurd (cc (is))
  keys-alike pair (Some a) None is = absurd (cc (is))
  keys-alike pair (Some a) (Some e) is = let one : pair a ≡ pair_of e = same_Some (pair a) (pair_of e) is in ap (λ (p : List ℕ × X). Some p.0) one

  all-keys : (P : List ℕ → Type 0) (es : List (List ℕ × (ℕ × X))) → AllByRecursion (λ e. P e.0) es → AllByRecursion P (keys_of (pairs_of es))
  all-keys P [] all = tt
  all-keys P (e ∷ es) all = (all.0, all-keys P es all.1)

  contains-key : (es : List (List ℕ × (ℕ × X))) (e : List ℕ × (ℕ × X)) (i : ℕ) → i < length es → get_or es i e ≡ e → Contains (keys_of (pairs_of es)) e.0
  contains-key [] e i inside is = absurd (omega arith)
  contains-key (f ∷ es) e zero inside is = (0, omega arith, ap (λ (x : List ℕ × (ℕ × X)). x.0) is)
  contains-key (f ∷ es) e (suc i) inside is =
      let later = contains-key es e i (omega arith) is in
      (suc later.0, omega (arith, later.1), later.2)

  pub first-least : (keeps : List ℕ → Bool) (es : List (List ℕ × (ℕ × X))) (x : Option (List ℕ × (ℕ × X))) → MatchOption x (HaveNone keeps es) (IsLeast keeps es)
      → IsFirstKey key_less keeps (keys_of (pairs_of es)) (option_map (λ e. e.0) x)
  first-least keeps es None none = all-keys (λ key. keeps key ≡ false) es none
  first-least keeps es (Some e) least = record {
    among = contains-key es e least.among.0 least.among.1 least.among.2;
    passing = least.passes;
    before = all-keys (λ key. keeps key ≡ true → key_less key e.0 ≡ false) es least.least;
  }

  pub first-greatest : (keeps : List ℕ → Bool) (es : List (List ℕ × (ℕ × X))) (x : Option (List ℕ × (ℕ × X))) → MatchOption x (HaveNone keeps es) (IsGreatest keeps es)
      → IsFirstKey key_above keeps (keys_of (pairs_of es)) (option_map (λ e. e.0) x)
  first-greatest keeps es None none = all-keys (λ key. keeps key ≡ false) es none
  first-greatest keeps es (Some e) greatest = record {
    among = contains-key es e greatest.among.0 greatest.among.1 greatest.among.2;
    passing = greatest.passes;
    before = all-keys (λ key. keeps key ≡ true → key_less e.0 key ≡ false) es greatest.greatest;
  }

all-mapped : {X : Type 0} (P Q : X → Type 0) → ((x : X) → P x → Q x) → (xs : List X) → AllByRecursion P xs → AllByRecursion Q xs
all-mapped P Q leads [] all = tt
all-mapped P Q leads (x ∷ xs) all = (leads x all.0, all-mapped P Q leads xs all.1)

all-two : {X : Type 0} (P Q R : X → Type 0) → ((x : X) → P x → Q x → R x) → (xs : List X) → AllByRecursion P xs → AllByRecursion Q xs → AllByRecursion R xs
all-two P Q R leads [] all more = tt
all-two P Q R leads (x ∷ xs) all more = (leads x all.0 more.0, all-two P Q R leads xs all.1 more.1)

module _ (keys : List (List ℕ)) (key : List ℕ) where
  -- the greatest key at or below a key is that key, or the key isn't there
  pub key-none : IsFirstKey key_above (λ k. not (key_less key k)) keys None → IsKeyOf keys key None
  key-none none =
      all-mapped (λ k. not (key_less key k) ≡ false) (λ k. same k key ≡ false)
      (λ k above. false_from_ne_true (same k key) (λ is.
      let not_above : not (key_less key key) ≡ false = subst (λ (x : List ℕ). not (key_less key x) ≡ false) (same_equal k key is) above in
      false≢true (sym not_above ∙ ap not (less_irrefl key))))
      keys none

  pub key-same : (at : List ℕ) → IsFirstKey key_above (λ k. not (key_less key k)) keys (Some at) → same at key ≡ true → IsKeyOf keys key (Some at)
  key-same at first is = (same_equal at key is, first.among)

  pub key-other : (at : List ℕ) → IsFirstKey key_above (λ k. not (key_less key k)) keys (Some at) → same at key ≡ false → IsKeyOf keys key None
  key-other at first other =
      all-mapped (λ k. not (key_less key k) ≡ true → key_less at k ≡ false) (λ k. same k key ≡ false)
      (λ k before. false_from_ne_true (same k key) (λ is.
      let one : k ≡ key = same_equal k key is in
      let passes : not (key_less key k) ≡ true = ap (λ (x : List ℕ). not (key_less key x)) one ∙ ap not (less_irrefl key) in
      let not_less : key_less at key ≡ false = sym (ap (key_less at) one) ∙ before passes in
      let equal : at ≡ key = less_connected at key not_less (not-true (key_less key at) first.passing) in
      false≢true (sym other ∙ ap (λ (x : List ℕ). same x key) equal ∙ same_itself key)))
      keys first.before

  -- a key that isn't that one lies above it exactly where it lies at it or above
  alike : (k : List ℕ) → same k key ≡ false → comes_behind key true k ≡ comes_behind key false k
  alike k other = by_tests (key_less k key) (key_less key k) refl refl
    where
      by_tests : (a b : Bool) → key_less k key ≡ a → key_less key k ≡ b → not a ≡ b
      by_tests true true a b = absurd (false≢true (sym (less_asym k key a) ∙ b))
      by_tests true false a b = refl
      by_tests false true a b = refl
      by_tests false false a b = absurd (false≢true (sym other ∙ ap (λ (x : List ℕ). same x key) (less_connected k key a b) ∙ same_itself key))

  -- where the key isn't there, what is above it is also all that is at it or above
  pub from-above : (found : Option (List ℕ)) → IsKeyOf keys key None → IsFirstKey key_less (comes_behind key false) keys found → IsFirstKey key_less (comes_behind key true) keys found
  from-above None absent none =
      all-two (λ k. same k key ≡ false) (λ k. comes_behind key false k ≡ false) (λ k. comes_behind key true k ≡ false) (λ k other no_one. alike k other ∙ no_one) keys absent none
  from-above (Some found) absent first = record {
    among = first.among;
    passing = ap not (less_asym key found first.passing);
    before = all-two (λ k. same k key ≡ false) (λ k. comes_behind key false k ≡ true → key_less k found ≡ false) (λ k. comes_behind key true k ≡ true → key_less k found ≡ false)
        (λ k other before passes. before (sym (alike k other) ∙ passes)) keys absent first.before;
  }

  -- and where it is, it is the first
  pub from-at : (at : List ℕ) → IsKeyOf keys key (Some at) → IsFirstOf key_less (comes_behind key true) keys at
  from-at at is = record {
    among = is.1;
    passing = ap (λ (x : List ℕ). not (key_less x key)) is.0 ∙ ap not (less_irrefl key);
    before = every (λ k passes. ap (key_less k) is.0 ∙ not-true (key_less k key) passes) keys;
  }
    where
      every : ((k : List ℕ) → comes_behind key true k ≡ true → key_less k at ≡ false) → (ks : List (List ℕ)) → AllByRecursion (λ k. comes_behind key true k ≡ true → key_less k at ≡ false) ks
      every each [] = tt
      every each (k ∷ ks) = (each k, every each ks)
