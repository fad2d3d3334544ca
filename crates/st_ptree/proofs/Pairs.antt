-- Entries without their priorities.
use Rattle.std.proofs.Common.{◌≡◌, ℕ, Bool, true, false, cond, ◌&&◌, List, [], ◌∷◌, Some, refl, ap}
use Rattle.std.specs.Option.{option_map}
use Rattle.std.specs.Ordering.{is_eq}
use Rattle.std.specs.FinMap.Entries as entries
use Rattle.std.specs.declared.cmp.Ordering.TheVariants.{Less, Equal, Greater}
use Rattle.st_ptree.specs.Entries.{key_cmp, less, is_ordered, item_at, prio_at, with_entry, pair_of, pairs_of}

module _ {X : Type 0} where
  pub found-pairs_of : (es : List (List ℕ × (ℕ × X))) (key : List ℕ) → item_at es key ≡ entries.find key_cmp key (pairs_of es)
  found-pairs_of [] key = refl
  found-pairs_of (e ∷ es) key =
      elim (is_eq (key_cmp key e.0)) as (λ b. option_map (λ (v : ℕ × X). v.1) (cond b (Some e.1) (entries.find key_cmp key es)) ≡ cond b (Some e.1.1) (entries.find key_cmp key (pairs_of es))) [
        | true ↦ refl
        | false ↦ found-pairs_of es key
      ]

  pairs_of-put : (key : List ℕ) (v : ℕ × X) (es : List (List ℕ × (ℕ × X))) → pairs_of (entries.put key_cmp key v es) ≡ entries.put key_cmp key v.1 (pairs_of es)
  pairs_of-put key v [] = refl
  pairs_of-put key v (e ∷ es) =
      elim (key_cmp key e.0) as (λ o. pairs_of (entries.by_order o ((key, v) ∷ e ∷ es) ((e.0, v) ∷ es) (e ∷ entries.put key_cmp key v es))
      ≡ entries.by_order o ((key, v.1) ∷ pair_of e ∷ pairs_of es) ((e.0, v.1) ∷ pairs_of es) (pair_of e ∷ entries.put key_cmp key v.1 (pairs_of es))) [
        | Less ↦ refl
        | Equal ↦ refl
        | Greater ↦ ap (λ (l : List (List ℕ × X)). pair_of e ∷ l) (pairs_of-put key v es)
      ]

  pub pairs_of-with_entry : (es : List (List ℕ × (ℕ × X))) (key : List ℕ) (prio : ℕ) (item : X) → pairs_of (with_entry es key prio item) ≡ entries.put key_cmp key item (pairs_of es)
  pairs_of-with_entry es key prio item = pairs_of-put key (prio_at es key prio, item) es

  pub pairs_of-where_key : (es : List (List ℕ × (ℕ × X))) (keeps : List ℕ → Bool) → pairs_of (entries.where_key key_cmp keeps es) ≡ entries.where_key key_cmp keeps (pairs_of es)
  pairs_of-where_key [] keeps = refl
  pairs_of-where_key (e ∷ es) keeps =
      elim (keeps e.0) as (λ b. pairs_of (cond b (e ∷ entries.where_key key_cmp keeps es) (entries.where_key key_cmp keeps es))
      ≡ cond b (pair_of e ∷ entries.where_key key_cmp keeps (pairs_of es)) (entries.where_key key_cmp keeps (pairs_of es))) [
        | true ↦ ap (λ (l : List (List ℕ × X)). pair_of e ∷ l) (pairs_of-where_key es keeps)
        | false ↦ pairs_of-where_key es keeps
      ]

  below_all-pairs_of : (key : List ℕ) (es : List (List ℕ × (ℕ × X))) → entries.below_all key_cmp key (pairs_of es) ≡ entries.below_all key_cmp key es
  below_all-pairs_of key [] = refl
  below_all-pairs_of key (e ∷ es) = ap (λ (b : Bool). less key e.0 && b) (below_all-pairs_of key es)

  pub is_ordered-pairs_of : (es : List (List ℕ × (ℕ × X))) → entries.is_sorted key_cmp (pairs_of es) ≡ is_ordered es
  is_ordered-pairs_of [] = refl
  is_ordered-pairs_of (e ∷ es) = λ i. below_all-pairs_of e.0 es i && is_ordered-pairs_of es i
