-- Lists of versions.
use Rattle.std.proofs.Common.{◌≡◌, ◌∙◌, ◌++◌, ◌-◌, ◌==◌, ℕ, suc, Bool, true, false, cond, List, [], ◌∷◌, length, filter, Option, Some, None, refl, ap, subst, arith}
use Rattle.std.proofs.lemmas.Bool.Decides.{nat_tests}
use Rattle.std.specs.List.{AllByRecursion, slice_get}
use Rattle.std.specs.Option.{option_or}
use Rattle.st_ptree.specs.Entries.{last_of}

module _ {X : Type 0} where
  -- the last place has the last of a list
  pub last-is : (xs : List X) → slice_get xs (length xs - 1) ≡ last_of xs
  last-is [] = refl
  last-is (x ∷ []) = refl
  last-is (x ∷ y ∷ xs) =
      let one : suc (suc (length xs)) - 1 ≡ suc (length xs) = omega arith in
      let none : length xs ≡ suc (length xs) - 1 = omega arith in
      ap (slice_get (x ∷ y ∷ xs)) one ∙ ap (slice_get (y ∷ xs)) none ∙ last-is (y ∷ xs) ∙ by_last (last_of xs)
    where
      by_last : (o : Option X) → option_or o (Some y) ≡ option_or (option_or o (Some y)) (Some x)
      by_last None = refl
      by_last (Some z) = refl

  some_or : (o : Option X) (x : X) → option_or o (Some x) ≡ None → ⊥
  some_or None x is = cc (is)
  some_or (Some y) x is = cc (is)

  pub none-is : (o : Option X) → ((x : X) → o ≡ Some x → ⊥) → o ≡ None
  none-is None none = refl
  none-is (Some x) none = absurd (none x refl)

  pub last-none : (xs : List X) → last_of xs ≡ None → xs ≡ []
  last-none [] is = refl
  last-none (x ∷ xs) is = absurd (some_or (last_of xs) x is)

  pub last-more : (xs : List X) (x : X) → last_of (xs ++ x ∷ []) ≡ Some x
  last-more [] x = refl
  last-more (y ∷ xs) x = ap (λ o. option_or o (Some y)) (last-more xs x)

  pub filter-all : (p : X → Bool) (xs : List X) → AllByRecursion (λ x. p x ≡ true) xs → filter p xs ≡ xs
  filter-all p [] all = refl
  filter-all p (x ∷ xs) all = ap (λ t. cond t (x ∷ filter p xs) (filter p xs)) all.0 ∙ ap (λ l. x ∷ l) (filter-all p xs all.1)

  pub filter-none : (p : X → Bool) (xs : List X) → AllByRecursion (λ x. p x ≡ false) xs → filter p xs ≡ []
  filter-none p [] all = refl
  filter-none p (x ∷ xs) all = ap (λ t. cond t (x ∷ filter p xs) (filter p xs)) all.0 ∙ filter-none p xs all.1

  pub all-weaker : (P Q : X → Type 0) → ((x : X) → P x → Q x) → (xs : List X) → AllByRecursion P xs → AllByRecursion Q xs
  all-weaker P Q weaker [] all = tt
  all-weaker P Q weaker (x ∷ xs) all = (weaker x all.0, all-weaker P Q weaker xs all.1)

  pub all-append : (P : X → Type 0) (xs ys : List X) → AllByRecursion P xs → AllByRecursion P ys → AllByRecursion P (xs ++ ys)
  all-append P [] ys first second = second
  all-append P (x ∷ xs) ys first second = (first.0, all-append P xs ys first.1 second)

  pub all-filter : (P : X → Type 0) (p : X → Bool) (xs : List X) → AllByRecursion P xs → AllByRecursion P (filter p xs)
  all-filter P p [] all = tt
  all-filter P p (x ∷ xs) all = by_test (p x) (all-filter P p xs all.1)
    where
      by_test : (t : Bool) → AllByRecursion P (filter p xs) → AllByRecursion P (cond t (x ∷ filter p xs) (filter p xs))
      by_test true rest = (all.0, rest)
      by_test false rest = rest

  pub all-passing : (P : X → Type 0) (p : X → Bool) → ((x : X) → p x ≡ true → P x) → (xs : List X) → AllByRecursion P (filter p xs)
  all-passing P p gives [] = tt
  all-passing P p gives (x ∷ xs) = by_test (p x) refl (all-passing P p gives xs)
    where
      by_test : (t : Bool) → p x ≡ t → AllByRecursion P (filter p xs) → AllByRecursion P (cond t (x ∷ filter p xs) (filter p xs))
      by_test true is rest = (gives x is, rest)
      by_test false is rest = rest

  pub all-last : (P : X → Type 0) (xs : List X) (x : X) → AllByRecursion P xs → last_of xs ≡ Some x → P x
  all-last P [] x all is = absurd (cc (is))
  all-last P (y ∷ xs) x all is = by_last (last_of xs) refl is (all-last P xs x all.1)
    where
      by_last : (o : Option X) → last_of xs ≡ o → option_or o (Some y) ≡ Some x → (last_of xs ≡ Some x → P x) → P x
      by_last None none is rest = let one : y ≡ x = cc (is) in subst P one all.0
      by_last (Some z) some is rest = rest (some ∙ is)

pub same-number : (n : ℕ) → (n == n) ≡ true
same-number n = grind (arith, nat_tests)
