-- Lists of which all items have a fact, and what is kept of lists.
use Rattle.std.proofs.Common.{◌≡◌, ◌∙◌, suc, Bool, true, false, cond, List, [], ◌∷◌, ◌++◌, length, Option, Some, None, refl, ap}
use Rattle.std.specs.List.{filter, list_all, AllByRecursion}
use Rattle.std.specs.Option.{option_or}
use Rattle.st_ptree.specs.Entries.{first_of, last_of}

module _ {X : Type 0} where
  pub all_weaker : {P Q : X → Type 0} → ((x : X) → P x → Q x) → (xs : List X) → AllByRecursion P xs → AllByRecursion Q xs
  all_weaker f [] a = a
  all_weaker f (x ∷ xs) a = (f x a.0, all_weaker f xs a.1)

  pub kept_same : (p q : X → Bool) (xs : List X) → AllByRecursion (λ x. p x ≡ q x) xs → filter p xs ≡ filter q xs
  kept_same p q [] a = refl
  kept_same p q (x ∷ xs) a = rw (a.0, kept_same p q xs a.1) refl

  pub kept_none : (p : X → Bool) (xs : List X) → AllByRecursion (λ x. p x ≡ false) xs → filter p xs ≡ []
  kept_none p [] a = refl
  kept_none p (x ∷ xs) a = rw a.0 (kept_none p xs a.1)

  pub kept_append : (p : X → Bool) (xs ys : List X) → filter p (xs ++ ys) ≡ filter p xs ++ filter p ys
  kept_append p [] ys = refl
  kept_append p (x ∷ xs) ys = by_test (p x) (kept_append p xs ys)
    where
      by_test : (t : Bool) → filter p (xs ++ ys) ≡ filter p xs ++ filter p ys
          → cond t (x ∷ filter p (xs ++ ys)) (filter p (xs ++ ys)) ≡ cond t (x ∷ filter p xs) (filter p xs) ++ filter p ys
      by_test true e = ap (λ (l : List X). x ∷ l) e
      by_test false e = e

  pub length_one_more : (xs : List X) (x : X) → length (xs ++ x ∷ []) ≡ suc (length xs)
  length_one_more [] x = refl
  length_one_more (y ∷ xs) x = ap suc (length_one_more xs x)

  pub all_true : (p : X → Bool) (xs : List X) → AllByRecursion (λ x. p x ≡ true) xs → list_all p xs ≡ true
  all_true p [] a = refl
  all_true p (x ∷ xs) a = rw (a.0, all_true p xs a.1) refl

  pub kept_all : (p : X → Bool) (xs : List X) → AllByRecursion (λ x. p x ≡ true) xs → filter p xs ≡ xs
  kept_all p [] a = refl
  kept_all p (x ∷ xs) a = rw a.0 (ap (λ (l : List X). x ∷ l) (kept_all p xs a.1))

  pub all_kept : (P : X → Type 0) (p : X → Bool) (xs : List X) → AllByRecursion P xs → AllByRecursion P (filter p xs)
  all_kept P p [] a = tt
  all_kept P p (x ∷ xs) a = by_test (p x) (all_kept P p xs a.1)
    where
      by_test : (t : Bool) → AllByRecursion P (filter p xs) → AllByRecursion P (cond t (x ∷ filter p xs) (filter p xs))
      by_test true rest = (a.0, rest)
      by_test false rest = rest

  pub all_pass : (p : X → Bool) (xs : List X) → AllByRecursion (λ x. p x ≡ true) (filter p xs)
  all_pass p [] = tt
  all_pass p (x ∷ xs) = by_test (p x) refl (all_pass p xs)
    where
      by_test : (t : Bool) → p x ≡ t → AllByRecursion (λ x. p x ≡ true) (filter p xs) → AllByRecursion (λ x. p x ≡ true) (cond t (x ∷ filter p xs) (filter p xs))
      by_test true e rest = (e, rest)
      by_test false e rest = rest

  pub append_none : (xs : List X) → xs ++ [] ≡ xs
  append_none [] = refl
  append_none (x ∷ xs) = ap (λ (l : List X). x ∷ l) (append_none xs)

  pub first_append : (xs : List X) (x : X) (ys : List X) → first_of (xs ++ x ∷ ys) ≡ option_or (first_of xs) (Some x)
  first_append [] x ys = refl
  first_append (y ∷ xs) x ys = refl

  pub or_none : (o : Option X) → o ≡ option_or o None
  or_none None = refl
  or_none (Some x) = refl

  pub or_settled : (a b : Option X) (x : X) → option_or (option_or a (Some x)) b ≡ option_or a (Some x)
  or_settled None b x = refl
  or_settled (Some y) b x = refl

  pub or_open : (a b : Option X) → option_or (option_or a None) b ≡ option_or a b
  or_open None b = refl
  or_open (Some y) b = refl

  pub last_append : (xs : List X) (x : X) (ys : List X) → last_of (xs ++ x ∷ ys) ≡ option_or (last_of ys) (Some x)
  last_append [] x ys = refl
  last_append (y ∷ xs) x ys = ap (λ (o : Option X). option_or o (Some y)) (last_append xs x ys) ∙ or_settled (last_of ys) (Some y) x

module _ {X : Type 0} (P : X → Type 0) where
  pub all_join : (xs ys : List X) → AllByRecursion P xs → AllByRecursion P ys → AllByRecursion P (xs ++ ys)
  all_join [] ys a b = b
  all_join (x ∷ xs) ys a b = (a.0, all_join xs ys a.1 b)

  pub all_split : (xs ys : List X) → AllByRecursion P (xs ++ ys) → AllByRecursion P xs × AllByRecursion P ys
  all_split [] ys a = (tt, a)
  all_split (x ∷ xs) ys a = let rest = all_split xs ys a.1 in ((a.0, rest.0), rest.1)

pub all_both : {X : Type 0} (P Q : X → Type 0) (xs : List X) → AllByRecursion P xs → AllByRecursion Q xs → AllByRecursion (λ x. P x × Q x) xs
all_both P Q [] p q = tt
all_both P Q (x ∷ xs) p q = ((p.0, q.0), all_both P Q xs p.1 q.1)
