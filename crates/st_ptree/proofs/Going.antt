-- The entries above a key begin with the least of them.
use Rattle.std.proofs.Common.{◌≡◌, ◌∙◌, ℕ, Bool, true, false, cond, List, [], ◌∷◌, Option, Some, None, refl, sym, ap, subst}
use Rattle.std.specs.List.{AllByRecursion}
use Rattle.std.specs.Option.{option_map, unwrap_or}
use Rattle.std.proofs.lemmas.Bool.{false≢true}
use Rattle.std.specs.FinMap.Entries as entries
use Rattle.st_ptree.specs.Entries.{key_cmp, less, first_of, above, is_ordered, pair_of, pairs_of}
use Rattle.st_ptree.specs.Going.{pairs_from}
use Rattle.st_ptree.proofs.Lists.{all_pass, all_weaker, kept_all}
use Rattle.st_ptree.proofs.Ordered.{all_below_is, both_true}
use Rattle.st_ptree.proofs.Orders.{less_itself, less_trans}

module _ {T : Type 0} where
  later : (x : List ℕ × (ℕ × T)) (xs : List (List ℕ × (ℕ × T))) → is_ordered (x ∷ xs) ≡ true → AllByRecursion (λ f. less x.0 f.0 ≡ true) xs
  later x xs ordered = all_below_is x.0 xs (both_true (entries.below_all key_cmp x.0 xs) (is_ordered xs) ordered).0

  all_above : (key : List ℕ) (xs : List (List ℕ × (ℕ × T))) → AllByRecursion (λ f. less key f.0 ≡ true) xs → above xs key ≡ xs
  all_above key xs all = kept_all (λ f. less key f.0) xs all

  some_is : (x e : List ℕ × (ℕ × T)) → Some x ≡ Some e → x ≡ e
  some_is x e is = ap (λ (o : Option (List ℕ × (ℕ × T))). unwrap_or o x) is

  -- of a list that rises, what is above its first
  step : (x : List ℕ × (ℕ × T)) (xs : List (List ℕ × (ℕ × T))) → AllByRecursion (λ f. less x.0 f.0 ≡ true) xs → above (x ∷ xs) x.0 ≡ xs
  step x xs rest = ap (λ (t : Bool). cond t (x ∷ above xs x.0) (above xs x.0)) (less_itself x.0) ∙ all_above x.0 xs rest

  first_passes : (key : List ℕ) (xs : List (List ℕ × (ℕ × T))) (e : List ℕ × (ℕ × T)) → first_of (above xs key) ≡ Some e → less key e.0 ≡ true
  first_passes key xs e is = by_list (above xs key) (all_pass (λ f. less key f.0) xs) is
    where
      by_list : (l : List (List ℕ × (ℕ × T))) → AllByRecursion (λ f. less key f.0 ≡ true) l → first_of l ≡ Some e → less key e.0 ≡ true
      by_list [] all none = absurd cc
      by_list (f ∷ l) all first = subst (λ (g : List ℕ × (ℕ × T)). less key g.0 ≡ true) (some_is f e first) all.0

  -- the first of all is followed by those above it
  pub first_then : (es : List (List ℕ × (ℕ × T))) (e : List ℕ × (ℕ × T)) → is_ordered es ≡ true → first_of es ≡ Some e → es ≡ e ∷ above es e.0
  first_then [] e ordered is = absurd cc
  first_then (x ∷ xs) e ordered is =
      ap (λ (l : List (List ℕ × (ℕ × T))). x ∷ l) (sym (step x xs (later x xs ordered)))
      ∙ ap (λ (f : List ℕ × (ℕ × T)). f ∷ above (x ∷ xs) f.0) (some_is x e is)

  module _ (key : List ℕ) (x : List ℕ × (ℕ × T)) (xs : List (List ℕ × (ℕ × T))) (e : List ℕ × (ℕ × T)) (ordered : is_ordered (x ∷ xs) ≡ true) (is : first_of (above (x ∷ xs) key) ≡ Some e) where
    at_first : less key x.0 ≡ true → above (x ∷ xs) key ≡ e ∷ above (x ∷ xs) e.0
    at_first lt =
        let rest = later x xs ordered in
        let all = all_weaker (λ f behind. less_trans key x.0 f.0 lt behind) xs rest in
        let here : x ≡ e = some_is x e (sym (ap (λ (t : Bool). first_of (cond t (x ∷ above xs key) (above xs key))) lt) ∙ is) in
        ap (λ (t : Bool). cond t (x ∷ above xs key) (above xs key)) lt
        ∙ ap (λ (l : List (List ℕ × (ℕ × T))). x ∷ l) (all_above key xs all ∙ sym (step x xs rest))
        ∙ ap (λ (f : List ℕ × (ℕ × T)). f ∷ above (x ∷ xs) f.0) here

    inner : less key x.0 ≡ false → first_of (above xs key) ≡ Some e
    inner ge = sym (ap (λ (t : Bool). first_of (cond t (x ∷ above xs key) (above xs key))) ge) ∙ is

    -- the first above the key isn't below one that isn't above the key
    not_behind : less key x.0 ≡ false → less e.0 x.0 ≡ false
    not_behind ge = by_test (less e.0 x.0) refl
      where
        by_test : (t : Bool) → less e.0 x.0 ≡ t → less e.0 x.0 ≡ false
        by_test true lt = absurd (false≢true (sym ge ∙ less_trans key e.0 x.0 (first_passes key xs e (inner ge)) lt))
        by_test false le = le

    later_on : less key x.0 ≡ false → above xs key ≡ e ∷ above xs e.0 → above (x ∷ xs) key ≡ e ∷ above (x ∷ xs) e.0
    later_on ge then =
        ap (λ (t : Bool). cond t (x ∷ above xs key) (above xs key)) ge
        ∙ then
        ∙ ap (λ (t : Bool). e ∷ cond t (x ∷ above xs e.0) (above xs e.0)) (sym (not_behind ge))

  by_side : (t : Bool) (key : List ℕ) (x : List ℕ × (ℕ × T)) (xs : List (List ℕ × (ℕ × T))) (e : List ℕ × (ℕ × T)) → less key x.0 ≡ t → is_ordered (x ∷ xs) ≡ true → first_of (above (x ∷ xs) key) ≡ Some e
      → (first_of (above xs key) ≡ Some e → above xs key ≡ e ∷ above xs e.0) → above (x ∷ xs) key ≡ e ∷ above (x ∷ xs) e.0
  by_side true key x xs e lt ordered is deeper = at_first key x xs e ordered is lt
  by_side false key x xs e ge ordered is deeper = later_on key x xs e ordered is ge (deeper (inner key x xs e ordered is ge))

  pub above_then : (key : List ℕ) (es : List (List ℕ × (ℕ × T))) (e : List ℕ × (ℕ × T)) → is_ordered es ≡ true → first_of (above es key) ≡ Some e → above es key ≡ e ∷ above es e.0
  above_then key [] e ordered is = absurd cc
  above_then key (x ∷ xs) e ordered is =
      by_side (less key x.0) key x xs e refl ordered is (above_then key xs e (both_true (entries.below_all key_cmp x.0 xs) (is_ordered xs) ordered).1)

  -- a pair that is found, and what is above it
  pub all_from : (es : List (List ℕ × (ℕ × T))) (found : Option (List ℕ × T)) → is_ordered es ≡ true → found ≡ option_map pair_of (first_of es) → pairs_from found es ≡ pairs_of es
  all_from es found ordered is = by_first (first_of es) refl is
    where
      none : (l : List (List ℕ × (ℕ × T))) → first_of l ≡ None → l ≡ []
      none [] e = refl
      none (x ∷ xs) e = absurd cc

      by_first : (o : Option (List ℕ × (ℕ × T))) → first_of es ≡ o → found ≡ option_map pair_of o → pairs_from found es ≡ pairs_of es
      by_first None first was = ap (λ (o : Option (List ℕ × T)). pairs_from o es) was ∙ sym (ap pairs_of (none es first))
      by_first (Some e) first was = ap (λ (o : Option (List ℕ × T)). pairs_from o es) was ∙ sym (ap pairs_of (first_then es e ordered first))

  pub above_from : (key : List ℕ) (es : List (List ℕ × (ℕ × T))) (found : Option (List ℕ × T)) → is_ordered es ≡ true → found ≡ option_map pair_of (first_of (above es key)) → pairs_from found es ≡ pairs_of (above es key)
  above_from key es found ordered is = by_first (first_of (above es key)) refl is
    where
      none : (l : List (List ℕ × (ℕ × T))) → first_of l ≡ None → l ≡ []
      none [] e = refl
      none (x ∷ xs) e = absurd cc

      by_first : (o : Option (List ℕ × (ℕ × T))) → first_of (above es key) ≡ o → found ≡ option_map pair_of o → pairs_from found es ≡ pairs_of (above es key)
      by_first None first was = ap (λ (o : Option (List ℕ × T)). pairs_from o es) was ∙ sym (ap pairs_of (none (above es key) first))
      by_first (Some e) first was = ap (λ (o : Option (List ℕ × T)). pairs_from o es) was ∙ sym (ap pairs_of (above_then key es e ordered first))
