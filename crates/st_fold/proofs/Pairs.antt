-- A `BTreeMap` under vectors of bytes is the map of its pairs.
use Rattle.std.proofs.Common.{◌≡◌, ◌∙◌, ℕ, Bool, true, false, cond, not, List, [], ◌∷◌, map, filter, refl, sym, ap}
use Rattle.std.specs.Prelude.{Option, Some, bytes_eq}
use Rattle.std.specs.Ordering.{nat_cmp, match_ordering, is_eq, ordering_reverse}
use Rattle.std.specs.List.{AllByRecursion}
use Rattle.std.specs.List.Sorted.{IsStrictlySortedBy}
use Rattle.std.proofs.lemmas.Map.Text.{is_eq-slice_cmp}
use Rattle.std.proofs.lemmas.Map.Lookups.{exact_bytes}
use Rattle.std.proofs.lemmas.Cmp.{nat_list_cmp_total}
use Rattle.std.specs.declared.cmp.Ordering.{Ordering}
use Rattle.std.specs.declared.cmp.Ordering.TheVariants.{Less, Equal, Greater}
use Rattle.std.specs.Cmp.Lexicographic.{slice_cmp}
use Rattle.std.specs.FinMap.Entries.{put, find, by_order}
use Rattle.std.specs.BTreeMap.{insert_entry, is_at}
use Rattle.std.specs.Map.{lookup, remove_entry, keys_of}

abbrev is_other : List ℕ → List ℕ → Bool
is_other q key = not (bytes_eq key q)

turned : (o : Ordering) → is_eq o ≡ is_eq (ordering_reverse o)
turned Less = refl
turned Equal = refl
turned Greater = refl

pub is_Equal : (o : Ordering) → is_eq o ≡ true → o ≡ Equal
is_Equal Less e = cc
is_Equal Equal e = refl
is_Equal Greater e = cc

tied : (a b : List ℕ) → is_eq (slice_cmp nat_cmp a b) ≡ bytes_eq b a
tied a b = turned (slice_cmp nat_cmp a b) ∙ sym (ap is_eq (nat_list_cmp_total.antisymm b a)) ∙ is_eq-slice_cmp b a

module _ {K X : Type 0} (bytes : K → List ℕ) where
  abbrev pub seen : List (K × X) → List (List ℕ × X)
  seen entries = map (λ e. (bytes e.0, e.1)) entries

  pub seen-insert_entry : (k : K) (v : X) (es : List (K × X)) → seen (insert_entry (λ a b. slice_cmp nat_cmp (bytes a) (bytes b)) es k v) ≡ put (slice_cmp nat_cmp) (bytes k) v (seen es)
  seen-insert_entry k v [] = refl
  seen-insert_entry k v (e ∷ es) =
      elim (slice_cmp nat_cmp (bytes k) (bytes e.0)) as (λ r. seen (match_ordering r ((k, v) ∷ e ∷ es) ((e.0, v) ∷ es) (e ∷ insert_entry (λ a b. slice_cmp nat_cmp (bytes a) (bytes b)) es k v)) ≡ by_order r ((bytes k, v) ∷ (bytes e.0, e.1) ∷ seen es) ((bytes e.0, v) ∷ seen es) ((bytes e.0, e.1) ∷ put (slice_cmp nat_cmp) (bytes k) v (seen es))) [
        | Less ↦ refl
        | Equal ↦ refl
        | Greater ↦ ap (λ (t : List (List ℕ × X)). (bytes e.0, e.1) ∷ t) (seen-insert_entry k v es)
      ]

  pub lookup-seen : (q : List ℕ) (es : List (K × X)) → lookup (is_at (λ k. slice_cmp nat_cmp q (bytes k))) es ≡ find (slice_cmp nat_cmp) q (seen es)
  lookup-seen q [] = refl
  lookup-seen q (e ∷ es) = ap (λ (t : Option X). cond (is_eq (slice_cmp nat_cmp q (bytes e.0))) (Some e.1) t) (lookup-seen q es)

  pub seen-filter : (test : List ℕ → Bool) (es : List (K × X)) → seen (filter (λ e. test (bytes e.0)) es) ≡ filter (λ pair. test pair.0) (seen es)
  seen-filter test [] = refl
  seen-filter test (e ∷ es) =
      elim (test (bytes e.0)) as (λ b. seen (cond b (e ∷ filter (λ e. test (bytes e.0)) es) (filter (λ e. test (bytes e.0)) es)) ≡ cond b ((bytes e.0, e.1) ∷ filter (λ pair. test pair.0) (seen es)) (filter (λ pair. test pair.0) (seen es))) [
        | true ↦ ap (λ (t : List (List ℕ × X)). (bytes e.0, e.1) ∷ t) (seen-filter test es)
        | false ↦ seen-filter test es
      ]

  -- the keys above one are others
  kept : (q : List ℕ) (e : K) (es : List (K × X)) → is_eq (slice_cmp nat_cmp q (bytes e)) ≡ true → AllByRecursion (λ k. slice_cmp nat_cmp (bytes e) (bytes k) ≡ Less) (keys_of es)
      → filter (λ pair. is_other q pair.0) (seen es) ≡ seen es
  kept q e [] at above = refl
  kept q e (f ∷ es) at above =
      let apart : is_other q (bytes f.0) ≡ true =
      ap not (sym (tied q (bytes f.0)) ∙ ap (λ k. is_eq (slice_cmp nat_cmp k (bytes f.0))) (exact_bytes q (bytes e) (is_Equal _ at)) ∙ ap is_eq above.0) in
      ap (λ b. cond b ((bytes f.0, f.1) ∷ filter (λ pair. is_other q pair.0) (seen es)) (filter (λ pair. is_other q pair.0) (seen es))) apart
      ∙ ap (λ (t : List (List ℕ × X)). (bytes f.0, f.1) ∷ t) (kept q e es at above.1)

  same_filter : {b : Bool} (q : List ℕ) (e : K × X) (es : List (K × X)) → is_other q (bytes e.0) ≡ b
      → filter (λ pair. is_other q pair.0) ((bytes e.0, e.1) ∷ seen es)
      ≡ cond b ((bytes e.0, e.1) ∷ filter (λ pair. is_other q pair.0) (seen es)) (filter (λ pair. is_other q pair.0) (seen es))
  same_filter q e es is = ap (λ b. cond b ((bytes e.0, e.1) ∷ filter (λ pair. is_other q pair.0) (seen es)) (filter (λ pair. is_other q pair.0) (seen es))) is

  -- the entry that is removed is the only one of its key
  pub seen-remove_entry : (q : List ℕ) (es : List (K × X)) → IsStrictlySortedBy (λ a b. slice_cmp nat_cmp (bytes a) (bytes b)) (keys_of es)
      → seen (remove_entry (is_at (λ k. slice_cmp nat_cmp q (bytes k))) es) ≡ filter (λ pair. is_other q pair.0) (seen es)
  unfolding IsStrictlySortedBy
  seen-remove_entry q [] rises = refl
  seen-remove_entry q (e ∷ es) rises =
      elim (is_eq (slice_cmp nat_cmp q (bytes e.0))) as (λ b. is_eq (slice_cmp nat_cmp q (bytes e.0)) ≡ b
      → seen (cond b es (e ∷ remove_entry (is_at (λ k. slice_cmp nat_cmp q (bytes k))) es)) ≡ filter (λ pair. is_other q pair.0) ((bytes e.0, e.1) ∷ seen es)) [
        | true ↦ λ at. sym (same_filter q e es (ap not (sym (tied q (bytes e.0)) ∙ at)) ∙ kept q e.0 es at rises.0)
        | false ↦ λ at. ap (λ (t : List (List ℕ × X)). (bytes e.0, e.1) ∷ t) (seen-remove_entry q es rises.1)
            ∙ sym (same_filter q e es (ap not (sym (tied q (bytes e.0)) ∙ at)))
      ] refl

pub same_put : {X : Type 0} {k l : List ℕ} {v w : X} {es fs : List (List ℕ × X)} → k ≡ l → v ≡ w → es ≡ fs → put (slice_cmp nat_cmp) k v es ≡ put (slice_cmp nat_cmp) l w fs
same_put a b c i = put (slice_cmp nat_cmp) (a i) (b i) (c i)
