-- The last row below a key, and a clear that reaches over it.
use Rattle.std.proofs.Common.{◌≡◌, ◌∙◌, ℕ, Bool, true, false, cond, not, List, [], ◌∷◌, Option, Some, None, Result, Ok, Err, OnOk, refl, sym, ap}
use Rattle.std.specs.FinMap.Entries as entries
use Rattle.std.specs.Option.{option_map, option_or}
use Rattle.std.specs.declared.cmp.Ordering.TheVariants.{Less, Equal, Greater}
use Rattle.st_key.specs.Spans.{Span, key_less}
use Rattle.st_ptree.specs.Entries.{key_cmp, last_of, pair_of, pairs_of, prio_at, with_entry, same, within as range, without_key, without_range}
use Rattle.st_versioned.specs.Root.{Row}
use Rattle.st_versioned.specs.Writing.{cut_at, reach_by, reach_of, with_row, without_span}
use Rattle.st_versioned.specs.declared.cut.Reach.{Reach}
use Rattle.st_versioned.specs.declared.entry.Dated.{Dated}
use Rattle.st_versioned.specs.declared.entry.Entry.{Entry}
use Rattle.st_versioned.specs.declared.entry.Entry.TheVariants.{Value, ClearTo}

module _ {X : Type 0} where
  or-map : (o : Option (List ℕ × (ℕ × X))) (e : List ℕ × (ℕ × X)) → option_map pair_of (option_or o (Some e)) ≡ option_or (option_map pair_of o) (Some (pair_of e))
  or-map None e = refl
  or-map (Some other) e = refl

  -- the last without its priority
  pub last-pairs : (p : List ℕ → Bool) (es : List (List ℕ × (ℕ × X))) → option_map pair_of (last_of (entries.where_key key_cmp p es)) ≡ last_of (entries.where_key key_cmp p (pairs_of es))
  last-pairs p [] = refl
  last-pairs p (e ∷ es) = by_test (p e.0) (last-pairs p es)
    where
      by_test : (t : Bool) → option_map pair_of (last_of (entries.where_key key_cmp p es)) ≡ last_of (entries.where_key key_cmp p (pairs_of es))
          → option_map pair_of (last_of (cond t (e ∷ entries.where_key key_cmp p es) (entries.where_key key_cmp p es)))
          ≡ last_of (cond t (pair_of e ∷ entries.where_key key_cmp p (pairs_of es)) (entries.where_key key_cmp p (pairs_of es)))
      by_test true rest = or-map (last_of (entries.where_key key_cmp p es)) e ∙ ap (λ (o : Option (List ℕ × X)). option_or o (Some (pair_of e))) rest
      by_test false rest = rest

module _ (key at : List ℕ) (dated : Dated) (o : Option Row) (is : Some (at, dated) ≡ o) where
  pub reach-value : (value : List ℕ) → dated.entry ≡ Value value → None ≡ reach_of key o
  reach-value value entry = ap (reach_by key at dated.version) (sym entry) ∙ ap (reach_of key) is

  pub reach-ended : (end : List ℕ) → dated.entry ≡ ClearTo end → key_less key end ≡ false → None ≡ reach_of key o
  reach-ended end entry ends =
      sym (ap (λ (t : Bool). cond t (Some (record { begin = at; version = dated.version; end = end })) None) ends)
      ∙ ap (reach_by key at dated.version) (sym entry) ∙ ap (reach_of key) is

  pub reach-over : (begin end to : List ℕ) → dated.entry ≡ ClearTo end → key_less key end ≡ true → begin ≡ at → to ≡ end → Some (record { begin = begin; version = dated.version; end = to }) ≡ reach_of key o
  reach-over begin end to entry over begin_is to_is =
      (λ i. Some (record { begin = begin_is i; version = dated.version; end = to_is i }))
      ∙ sym (ap (λ (t : Bool). cond t (Some (record { begin = at; version = dated.version; end = end })) None) over)
      ∙ ap (reach_by key at dated.version) (sym entry) ∙ ap (reach_of key) is

pub on-ok : {T E P Q : Type 0} → (P → Q) → (r : Result T E) → OnOk r P → OnOk r Q
on-ok from (Ok done) is = from is
on-ok from (Err error) is = tt

pairs-put : {X : Type 0} (key : List ℕ) (v : ℕ × X) (es : List (List ℕ × (ℕ × X))) → pairs_of (entries.put key_cmp key v es) ≡ entries.put key_cmp key v.1 (pairs_of es)
pairs-put key v [] = refl
pairs-put {X} key v (e ∷ es) =
    elim (key_cmp key e.0) as (λ o. pairs_of (entries.by_order o ((key, v) ∷ e ∷ es) ((e.0, v) ∷ es) (e ∷ entries.put key_cmp key v es))
    ≡ entries.by_order o ((key, v.1) ∷ pair_of e ∷ pairs_of es) ((e.0, v.1) ∷ pairs_of es) (pair_of e ∷ entries.put key_cmp key v.1 (pairs_of es))) [
      | Less ↦ refl
      | Equal ↦ refl
      | Greater ↦ ap (λ (l : List (List ℕ × X)). pair_of e ∷ l) (pairs-put key v es)
    ]

pairs-kept : {X : Type 0} (keeps : List ℕ → Bool) (es : List (List ℕ × (ℕ × X))) → pairs_of (entries.where_key key_cmp keeps es) ≡ entries.where_key key_cmp keeps (pairs_of es)
pairs-kept keeps [] = refl
pairs-kept {X} keeps (e ∷ es) = by_test (keeps e.0) (pairs-kept keeps es)
  where
    by_test : (t : Bool) → pairs_of (entries.where_key key_cmp keeps es) ≡ entries.where_key key_cmp keeps (pairs_of es)
        → pairs_of (cond t (e ∷ entries.where_key key_cmp keeps es) (entries.where_key key_cmp keeps es)) ≡ cond t (pair_of e ∷ entries.where_key key_cmp keeps (pairs_of es)) (entries.where_key key_cmp keeps (pairs_of es))
    by_test true rest = ap (λ (l : List (List ℕ × X)). pair_of e ∷ l) rest
    by_test false rest = rest

-- a row that is put in
pub row-put : (es new : List (List ℕ × (ℕ × Dated))) (rows : List Row) (key copy : List ℕ) (prio version : ℕ) (entry other : Entry) → pairs_of es ≡ rows → copy ≡ key → other ≡ entry
    → new ≡ with_entry es copy prio (record { version = version; entry = other }) → pairs_of new ≡ with_row key version entry rows
row-put es new rows key copy prio version entry other rows_is copy_is other_is is =
    ap pairs_of is
    ∙ pairs-put copy (prio_at es copy prio, record { version = version; entry = other }) es
    ∙ (λ i. with_row (copy_is i) version (other_is i) (rows_is i))

pub rows-left : (es new : List (List ℕ × (ℕ × Dated))) (rows : List Row) (span : Span) (begin end : List ℕ) → pairs_of es ≡ cut_at span.end (cut_at span.begin rows) → begin ≡ span.begin → end ≡ span.end
    → new ≡ without_range es begin end → pairs_of new ≡ without_span span rows
rows-left es new rows span begin end rows_is begin_is end_is is =
    ap pairs_of is
    ∙ pairs-kept (λ k. not (range begin end k)) es
    ∙ (λ i. entries.where_key key_cmp (λ k. not (range (begin_is i) (end_is i) k)) (rows_is i))

pub pairs-without : {X : Type 0} (key at : List ℕ) (es new : List (List ℕ × (ℕ × X))) → at ≡ key → new ≡ without_key es at → pairs_of new ≡ entries.where_key key_cmp (λ k. not (same key k)) (pairs_of es)
pairs-without {X} key at es new at_is is =
    ap pairs_of is ∙ pairs-kept (λ k. not (same at k)) es ∙ (λ i. entries.where_key key_cmp (λ k. not (same (at_is i) k)) (pairs_of es))
