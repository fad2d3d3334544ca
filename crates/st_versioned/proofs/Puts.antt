-- Rows with one more.
use Rattle.std.proofs.Common.{◌≡◌, ◌∙◌, ◌⊎◌, inl, inr, ℕ, Bool, true, false, List, [], ◌∷◌, Option, Some, None, refl, sym, ap, subst}
use Rattle.std.proofs.lemmas.Bool.{false≢true}
use Rattle.std.proofs.lemmas.Cmp.{nat_list_cmp_total, tied_itself}
use Rattle.std.proofs.lemmas.Map.Lookups.{exact_bytes}
use Rattle.std.specs.FinMap.Entries as entries
use Rattle.std.specs.List.{AllByRecursion}
use Rattle.std.specs.Ordering.{is_lt, ordering_reverse}
use Rattle.std.specs.declared.cmp.Ordering.{Ordering}
use Rattle.std.specs.declared.cmp.Ordering.TheVariants.{Less, Equal, Greater}
use Rattle.st_key.specs.KeyOrder.{less_asym, less_irrefl, less_trans}
use Rattle.st_key.specs.Spans.{key_less}
use Rattle.st_ptree.specs.Entries.{key_cmp}
use Rattle.st_versioned.specs.Apart.{AreApart, EndsBy, IsBelow}
use Rattle.st_versioned.specs.Root.{Decision, Row, decided}
use Rattle.st_versioned.specs.declared.entry.Dated.{Dated}
use Rattle.st_versioned.proofs.Reaching.{In, Says, covers, decided-covered, decision_of, every, in-all, said, says}

-- no row reaches over the key from below it
abbrev pub AreCut : List ℕ → List Row → Type 0
AreCut key rows = AllByRecursion (λ row. key_less row.0 key ≡ true → EndsBy key row.1.entry) rows

pub not-same : (a b : List ℕ) → key_less a b ≡ true → a ≡ b → ⊥
not-same a b less is = false≢true (sym (less_irrefl b) ∙ sym (ap (λ (x : List ℕ). key_less x b) is) ∙ less)

above-is : (a b : List ℕ) → key_cmp a b ≡ Greater → key_less b a ≡ true
above-is a b o = ap is_lt (nat_list_cmp_total.antisymm b a ∙ ap ordering_reverse o)

two : (P Q R : Row → Type 0) → ((row : Row) → P row → Q row → R row) → (rows : List Row) → AllByRecursion P rows → AllByRecursion Q rows → AllByRecursion R rows
two P Q R from [] p q = tt
two P Q R from (row ∷ rows) p q = (from row p.0 q.0, two P Q R from rows p.1 q.1)

-- of two rows one is below the other, or they are one
pub beside : (rows : List Row) → AreApart rows → (a b : Row) → In a rows → In b rows → (a ≡ b) ⊎ (IsBelow a b ⊎ IsBelow b a)
beside [] apart a b a_there b_there = absurd a_there
beside (row ∷ rows) apart a b (inl a_is) (inl b_is) = inl (sym a_is ∙ b_is)
beside (row ∷ rows) apart a b (inl a_is) (inr b_there) = inr (inl (subst (λ r. IsBelow r b) a_is (in-all (IsBelow row) b rows apart.0 b_there)))
beside (row ∷ rows) apart a b (inr a_there) (inl b_is) = inr (inr (subst (λ r. IsBelow r a) b_is (in-all (IsBelow row) a rows apart.0 a_there)))
beside (row ∷ rows) apart a b (inr a_there) (inr b_there) = beside rows apart.1 a b a_there b_there

module _ (key : List ℕ) (v : Dated) where
  abbrev with : List Row → List Row
  with rows = entries.put key_cmp key v rows

  -- what is true of the new row, and of each old one of another key
  pub all-put : (P : Row → Type 0) (rows : List Row) → AreApart rows → AllByRecursion (λ row. (row.0 ≡ key → ⊥) → P row) rows → P (key, v) → AllByRecursion P (entries.put key_cmp key v rows)
  all-put P [] apart all here = (here, tt)
  all-put P (row ∷ rows) apart all here = by_order (key_cmp key row.0) refl (all-put P rows apart.1 all.1 here)
    where
      by_order : (o : Ordering) → key_cmp key row.0 ≡ o → AllByRecursion P (with rows) → AllByRecursion P (entries.by_order o ((key, v) ∷ row ∷ rows) ((row.0, v) ∷ rows) (row ∷ with rows))
      by_order Less o rest =
          let less : key_less key row.0 ≡ true = ap is_lt o in (
            here,
            (
              all.0 (λ is. not-same key row.0 less (sym is)),
              two (IsBelow row) (λ r. (r.0 ≡ key → ⊥) → P r) P (λ r below from. from (λ is. not-same key r.0 (less_trans key row.0 r.0 less below.0) (sym is))) rows apart.0 all.1,
            ),
          )
      by_order Equal o rest =
          let one : key ≡ row.0 = exact_bytes key row.0 o in (
            subst P (λ i. (one i, v)) here,
            two (IsBelow row) (λ r. (r.0 ≡ key → ⊥) → P r) P (λ r below from. from (λ is. not-same row.0 r.0 below.0 (sym one ∙ sym is))) rows apart.0 all.1,
          )
      by_order Greater o rest = (all.0 (λ is. not-same row.0 key (above-is key row.0 o) is), rest)

  pub stays-put : (P : Row → Type 0) (rows : List Row) → AreApart rows → AllByRecursion P rows → P (key, v) → AllByRecursion P (entries.put key_cmp key v rows)
  stays-put P rows apart all here = all-put P rows apart (keep rows all) here
    where
      keep : (rest : List Row) → AllByRecursion P rest → AllByRecursion (λ r. (r.0 ≡ key → ⊥) → P r) rest
      keep [] all = tt
      keep (r ∷ rest) all = ((λ other. all.0), keep rest all.1)

  pub in-put-new : (rows : List Row) → In (key, v) (entries.put key_cmp key v rows)
  in-put-new [] = inl refl
  in-put-new (row ∷ rows) = by_order (key_cmp key row.0) refl (in-put-new rows)
    where
      by_order : (o : Ordering) → key_cmp key row.0 ≡ o → In (key, v) (with rows) → In (key, v) (entries.by_order o ((key, v) ∷ row ∷ rows) ((row.0, v) ∷ rows) (row ∷ with rows))
      by_order Less o rest = inl refl
      by_order Equal o rest = let one : row.0 ≡ key = sym (exact_bytes key row.0 o) in inl (λ i. (one i, v))
      by_order Greater o rest = inr rest

  pub in-put-old : (rows : List Row) (old : Row) → (old.0 ≡ key → ⊥) → In old rows → In old (entries.put key_cmp key v rows)
  in-put-old [] old other there = absurd there
  in-put-old (row ∷ rows) old other (inl is) = by_order (key_cmp key row.0) refl
    where
      by_order : (o : Ordering) → key_cmp key row.0 ≡ o → In old (entries.by_order o ((key, v) ∷ row ∷ rows) ((row.0, v) ∷ rows) (row ∷ with rows))
      by_order Less o = inr (inl is)
      by_order Equal o = absurd (other (sym (ap (λ (r : Row). r.0) is) ∙ sym (exact_bytes key row.0 o)))
      by_order Greater o = inl is
  in-put-old (row ∷ rows) old other (inr there) = by_order (key_cmp key row.0) (in-put-old rows old other there)
    where
      by_order : (o : Ordering) → In old (with rows) → In old (entries.by_order o ((key, v) ∷ row ∷ rows) ((row.0, v) ∷ rows) (row ∷ with rows))
      by_order Less rest = inr (inr there)
      by_order Equal rest = inr there
      by_order Greater rest = inr rest

  -- the rows stay apart where none reaches the new one, and it reaches none
  pub apart-put : (rows : List Row) → AreApart rows → AreCut key rows → AllByRecursion (λ row. key_less key row.0 ≡ true → EndsBy row.0 v.entry) rows → AreApart (entries.put key_cmp key v rows)
  apart-put [] apart cut ends = (tt, tt)
  apart-put (row ∷ rows) apart cut ends = by_order (key_cmp key row.0) refl (apart-put rows apart.1 cut.1 ends.1)
    where
      by_order : (o : Ordering) → key_cmp key row.0 ≡ o → AreApart (with rows) → AreApart (entries.by_order o ((key, v) ∷ row ∷ rows) ((row.0, v) ∷ rows) (row ∷ with rows))
      by_order Less o rest =
          let less : key_less key row.0 ≡ true = ap is_lt o in (
            (
              (less, ends.0 less),
              two (IsBelow row) (λ r. key_less key r.0 ≡ true → EndsBy r.0 v.entry) (IsBelow (key, v))
                  (λ r below from. let lt = less_trans key row.0 r.0 less below.0 in (lt, from lt)) rows apart.0 ends.1,
            ),
            apart,
          )
      by_order Equal o rest =
          let one : key ≡ row.0 = exact_bytes key row.0 o in (
            two (IsBelow row) (λ r. key_less key r.0 ≡ true → EndsBy r.0 v.entry) (IsBelow (row.0, v))
                (λ r below from. (below.0, from (ap (λ (k : List ℕ). key_less k r.0) one ∙ below.0))) rows apart.0 ends.1,
            apart.1,
          )
      by_order Greater o rest =
          let less : key_less row.0 key ≡ true = above-is key row.0 o in
          (stays-put (IsBelow row) rows apart.1 apart.0 (less, cut.0 less), rest)

  -- the new row decides what it covers, and leaves the rest as it was where no old one of its key covered it
  pub decided-put-in : (rows : List Row) (other : List ℕ) → AreApart (entries.put key_cmp key v rows) → covers other (key, v) ≡ true → decided (entries.put key_cmp key v rows) other ≡ decision_of (key, v)
  decided-put-in rows other apart is = decided-covered other (with rows) (key, v) apart (in-put-new rows) is

  pub decided-put-out : (rows : List Row) (other : List ℕ) → AreApart rows → AreApart (entries.put key_cmp key v rows) → covers other (key, v) ≡ false
      → AllByRecursion (λ row. row.0 ≡ key → covers other row ≡ false) rows → decided (entries.put key_cmp key v rows) other ≡ decided rows other
  decided-put-out rows other apart new off old = said other (with rows) new (decided rows other) (by_decision (decided rows other) (says other rows apart))
    where
      by_decision : (d : Decision) → Says other rows d → Says other (with rows) d
      by_decision None none = stays-put (λ row. covers other row ≡ false) rows apart none off
      by_decision (Some found) (row, there, covered, is) =
          (row, in-put-old rows row (λ one. false≢true (sym (in-all (λ r. r.0 ≡ key → covers other r ≡ false) row rows old there one) ∙ covered)) there, covered, is)
