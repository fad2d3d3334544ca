-- The keys between two keys, and what a filter of pairs by their keys keeps.
use Rattle.std.proofs.Common.{◌≡◌, ◌∙◌, ℕ, Bool, true, false, cond, not, List, [], ◌∷◌, ◌++◌, filter, refl, sym, ap}
use Rattle.std.proofs.lemmas.Bool.{false≢true}
use Rattle.st_key.specs.KeyOrder.{alone_after, le_less_trans, less_after, less_asym, less_irrefl}
use Rattle.st_key.specs.Spans.{key_less}

-- no key is below the empty one
pub none_below : (key : List ℕ) → key_less key [] ≡ false
none_below [] = refl
none_below (byte ∷ key) = refl

-- the keys above a key are those from the key with 00 appended on
pub above_after : (last key : List ℕ) → not (key_less key (last ++ 0 ∷ [])) ≡ key_less last key
above_after last key = by_order (key_less key (last ++ 0 ∷ [])) (key_less last key) refl refl
  where
    by_order : (before above : Bool) → key_less key (last ++ 0 ∷ []) ≡ before → key_less last key ≡ above → not before ≡ above
    by_order true true before above =
        let same : key ≡ last = alone_after last key (less_asym last key above) before in
        absurd (false≢true (sym (less_irrefl last) ∙ ap (key_less last) (sym same) ∙ above))
    by_order true false before above = refl
    by_order false true before above = refl
    by_order false false before above = absurd (false≢true (sym before ∙ le_less_trans key last (last ++ 0 ∷ []) above (less_after last)))

module _ {X : Type 0} where
  -- where one test passes only what another does
  pub filter-twice : (p q : X → Bool) → ((x : X) → p x ≡ true → q x ≡ true) → (xs : List X) → filter p (filter q xs) ≡ filter p xs
  filter-twice p q only [] = refl
  filter-twice p q only (x ∷ xs) = by_tests (filter-twice p q only xs) (p x) (q x) refl refl
    where
      by_tests : filter p (filter q xs) ≡ filter p xs → (a b : Bool) → p x ≡ a → q x ≡ b → filter p (cond (q x) (x ∷ filter q xs) (filter q xs)) ≡ cond (p x) (x ∷ filter p xs) (filter p xs)
      by_tests rest a true at b = ap (λ t. filter p (cond t (x ∷ filter q xs) (filter q xs))) b ∙ (λ i. cond (p x) (x ∷ rest i) (rest i))
      by_tests rest true false a b = absurd (false≢true (sym b ∙ only x a))
      by_tests rest false false a b = ap (λ t. filter p (cond t (x ∷ filter q xs) (filter q xs))) b ∙ rest ∙ sym (ap (λ t. cond t (x ∷ filter p xs) (filter p xs)) a)

  -- where nothing passes, all of it fails
  pub filter-rest : (p : X → Bool) (xs : List X) → filter p xs ≡ [] → filter (λ x. not (p x)) xs ≡ xs
  filter-rest p [] none = refl
  filter-rest p (x ∷ xs) none = by_test (filter-rest p xs) (p x) refl
    where
      by_test : (filter p xs ≡ [] → filter (λ y. not (p y)) xs ≡ xs) → (a : Bool) → p x ≡ a → cond (not (p x)) (x ∷ filter (λ y. not (p y)) xs) (filter (λ y. not (p y)) xs) ≡ x ∷ xs
      by_test rest true a = absurd (cc (ap (λ t. cond t (x ∷ filter p xs) (filter p xs)) (sym a) ∙ none))
      by_test rest false a =
          ap (λ t. cond (not t) (x ∷ filter (λ y. not (p y)) xs) (filter (λ y. not (p y)) xs)) a
          ∙ ap (λ (l : List X). x ∷ l) (rest (ap (λ t. cond t (x ∷ filter p xs) (filter p xs)) (sym a) ∙ none))
