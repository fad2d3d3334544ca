-- Slots in the order of their keys, and their rows.
use Rattle.std.proofs.Common.{◌≡◌, ◌∙◌, ◌&&◌, ◌∷◌, ℕ, Bool, true, false, cond, not, List, [], filter, Option, Some, None, refl, sym, ap, subst}
use Rattle.std.proofs.Math.Dec.{T}
use Rattle.std.specs.Prelude.{is_some, IsSome, IsTrue}
use Rattle.std.specs.BTreeMap.{insert_entry, is_at}
use Rattle.std.specs.BTreeMap.Range.{entries_between, range_contains}
use Rattle.std.specs.Cmp.Lexicographic.{slice_cmp}
use Rattle.std.specs.FinMap.Entries.{below_all, by_order, find, find-put, is_sorted, is_sorted-put, is_sorted-where_key, put, same_entries}
use Rattle.std.specs.List.{AllByRecursion, cons_option}
use Rattle.std.specs.List.Sorted.{IsStrictlySortedBy}
use Rattle.std.specs.Map.{keys_of, lookup}
use Rattle.std.specs.Option.{option_map}
use Rattle.std.specs.Ordering.{eq_by_cmp, is_eq, is_le, is_lt, match_ordering, nat_cmp, ordering_reverse}
use Rattle.std.specs.declared.cmp.Ordering.{Ordering}
use Rattle.std.specs.declared.cmp.Ordering.TheVariants.{Less, Equal, Greater}
use Rattle.std.specs.declared.ops.Bound.TheVariants.{Included, Excluded}
use Rattle.std.proofs.lemmas.Cmp.{nat_list_cmp_total}
use Rattle.std.proofs.lemmas.Map.Lookups.{exact_bytes}
use Rattle.st_fold.specs.Map.{Map}
use Rattle.st_fold.specs.Reading.{pairs_in}
use Rattle.st_key.specs.Spans.{Span, key_less, within}
use Rattle.st_adding.specs.Rows.{HaveSlots, Slots, rises, rows_of}

both : (a b : Bool) → T a → T b → T (a && b)
both true b p q = q
both false b p q = p

first : (a b : Bool) → T (a && b) → T a
first true b p = tt
first false b p = p

second : (a b : Bool) → T (a && b) → T b
second true b p = p
second false b p = absurd p

less : (o : Ordering) → T (is_lt o) → o ≡ Less
less Less p = refl
less Equal p = absurd p
less Greater p = absurd p

pub is_Equal : (o : Ordering) → is_eq o ≡ true → o ≡ Equal
is_Equal Less e = cc
is_Equal Equal e = refl
is_Equal Greater e = cc

-- a tree's list of entries is a list in order
pub insert-put : {X : Type 0} → (k : List ℕ) (v : X) (es : List (List ℕ × X)) → insert_entry (slice_cmp nat_cmp) es k v ≡ put (slice_cmp nat_cmp) k v es
insert-put k v [] = refl
insert-put k v (e ∷ es) =
    elim (slice_cmp nat_cmp k e.0) as (λ r. match_ordering r ((k, v) ∷ e ∷ es) ((e.0, v) ∷ es) (e ∷ insert_entry (slice_cmp nat_cmp) es k v) ≡ by_order r ((k, v) ∷ e ∷ es) ((e.0, v) ∷ es) (e ∷ put (slice_cmp nat_cmp) k v es)) [
      | Less ↦ refl
      | Equal ↦ refl
      | Greater ↦ ap (λ t. e ∷ t) (insert-put k v es)
    ]

pub lookup-find : {X : Type 0} → (q : List ℕ) (es : List (List ℕ × X)) → lookup (is_at (slice_cmp nat_cmp q)) es ≡ find (slice_cmp nat_cmp) q es
lookup-find q [] = refl
lookup-find q (e ∷ es) = ap (λ t. cond (is_eq (slice_cmp nat_cmp q e.0)) (Some e.1) t) (lookup-find q es)

below_first : {X : Type 0} → (k : List ℕ) (es : List (List ℕ × X)) → AllByRecursion (λ y. slice_cmp nat_cmp k y ≡ Less) (keys_of es) → T (below_all (slice_cmp nat_cmp) k es)
below_first k [] h = tt
below_first k (e ∷ es) h = both _ _ (subst (λ r. T (is_lt r)) (sym h.0) tt) (below_first k es h.1)

pub in_order : {X : Type 0} → (es : List (List ℕ × X)) → IsStrictlySortedBy (slice_cmp nat_cmp) (keys_of es) → T (is_sorted (slice_cmp nat_cmp) es)
unfolding IsStrictlySortedBy
in_order [] h = tt
in_order (e ∷ es) h = both _ _ (below_first e.0 es h.0) (in_order es h.1)

-- the rows of slots in order are in order
below_rows : (k : List ℕ) (slots : Slots) → T (below_all (slice_cmp nat_cmp) k slots) → T (below_all (slice_cmp nat_cmp) k (rows_of slots))
below_rows k [] h = tt
below_rows k (slot ∷ slots) h = one slot.1 (first _ _ h) (below_rows k slots (second _ _ h))
  where
    one : (value : Option (List ℕ)) → T (is_lt (slice_cmp nat_cmp k slot.0)) → T (below_all (slice_cmp nat_cmp) k (rows_of slots))
        → T (below_all (slice_cmp nat_cmp) k (cons_option (option_map (λ v. (slot.0, v)) value) (rows_of slots)))
    one None p rest = rest
    one (Some v) p rest = both _ _ p rest

pub rows_in_order : (slots : Slots) → T (is_sorted (slice_cmp nat_cmp) slots) → T (is_sorted (slice_cmp nat_cmp) (rows_of slots))
rows_in_order [] h = tt
rows_in_order (slot ∷ slots) h = one slot.1 (below_rows slot.0 slots (first _ _ h)) (rows_in_order slots (second _ _ h))
  where
    one : (value : Option (List ℕ)) → T (below_all (slice_cmp nat_cmp) slot.0 (rows_of slots)) → T (is_sorted (slice_cmp nat_cmp) (rows_of slots))
        → T (is_sorted (slice_cmp nat_cmp) (cons_option (option_map (λ v. (slot.0, v)) value) (rows_of slots)))
    one None p rest = rest
    one (Some v) p rest = both _ _ p rest

-- what a slot tells
abbrev told : Option (Option (List ℕ)) → Option (List ℕ)
told None = None
told (Some value) = value

pub none_below : {X : Type 0} → (q : List ℕ) (es : List (List ℕ × X)) → T (below_all (slice_cmp nat_cmp) q es) → find (slice_cmp nat_cmp) q es ≡ None
none_below q [] h = refl
none_below q (e ∷ es) h = ap (λ r. cond (is_eq r) (Some e.1) (find (slice_cmp nat_cmp) q es)) (less _ (first _ _ h)) ∙ none_below q es (second _ _ h)

-- a row is what its slot tells
row_at : (q : List ℕ) (slots : Slots) → T (is_sorted (slice_cmp nat_cmp) slots) → find (slice_cmp nat_cmp) q (rows_of slots) ≡ told (find (slice_cmp nat_cmp) q slots)
row_at q [] h = refl
row_at q (slot ∷ slots) h =
    one slot.1 (is_eq (slice_cmp nat_cmp q slot.0)) refl (below_rows slot.0 slots (first _ _ h)) (row_at q slots (second _ _ h))
  where
    one : (value : Option (List ℕ)) (t : Bool) → is_eq (slice_cmp nat_cmp q slot.0) ≡ t → T (below_all (slice_cmp nat_cmp) slot.0 (rows_of slots))
        → find (slice_cmp nat_cmp) q (rows_of slots) ≡ told (find (slice_cmp nat_cmp) q slots)
        → find (slice_cmp nat_cmp) q (cons_option (option_map (λ v. (slot.0, v)) value) (rows_of slots)) ≡ told (cond (is_eq (slice_cmp nat_cmp q slot.0)) (Some value) (find (slice_cmp nat_cmp) q slots))
    one None true at above rest =
        subst (λ k. find (slice_cmp nat_cmp) k (rows_of slots) ≡ None) (sym (exact_bytes q slot.0 (is_Equal _ at))) (none_below slot.0 (rows_of slots) above)
        ∙ sym (ap (λ (b : Bool). told (cond b (Some None) (find (slice_cmp nat_cmp) q slots))) at)
    one None false at above rest = rest ∙ sym (ap (λ (b : Bool). told (cond b (Some None) (find (slice_cmp nat_cmp) q slots))) at)
    one (Some v) true at above rest =
        (λ i. cond (at i) (Some v) (find (slice_cmp nat_cmp) q (rows_of slots)))
        ∙ sym (ap (λ (b : Bool). told (cond b (Some (Some v)) (find (slice_cmp nat_cmp) q slots))) at)
    one (Some v) false at above rest =
        (λ i. cond (at i) (Some v) (find (slice_cmp nat_cmp) q (rows_of slots)))
        ∙ rest
        ∙ sym (ap (λ (b : Bool). told (cond b (Some (Some v)) (find (slice_cmp nat_cmp) q slots))) at)

told_put : (t : Bool) (value : Option (List ℕ)) (before : Option (Option (List ℕ))) → told (cond t (Some value) before) ≡ cond t value (told before)
told_put true value before = refl
told_put false value before = refl

row_put : (q k : List ℕ) (value : Option (List ℕ)) (slots : Slots) → T (is_sorted (slice_cmp nat_cmp) slots)
    → find (slice_cmp nat_cmp) q (rows_of (put (slice_cmp nat_cmp) k value slots)) ≡ cond (eq_by_cmp (slice_cmp nat_cmp) q k) value (told (find (slice_cmp nat_cmp) q slots))
row_put q k value slots h =
    row_at q (put (slice_cmp nat_cmp) k value slots) (is_sorted-put (slice_cmp nat_cmp) nat_list_cmp_total k value slots h)
    ∙ ap told (find-put (slice_cmp nat_cmp) nat_list_cmp_total q k value slots)
    ∙ told_put (eq_by_cmp (slice_cmp nat_cmp) q k) value (find (slice_cmp nat_cmp) q slots)

-- a slot that is filled is a row that is put
pub rows-filled : (k v : List ℕ) (slots : Slots) → T (is_sorted (slice_cmp nat_cmp) slots)
    → rows_of (put (slice_cmp nat_cmp) k (Some v) slots) ≡ put (slice_cmp nat_cmp) k v (rows_of slots)
rows-filled k v slots h =
    same_entries (slice_cmp nat_cmp) nat_list_cmp_total exact_bytes (rows_of (put (slice_cmp nat_cmp) k (Some v) slots)) (put (slice_cmp nat_cmp) k v (rows_of slots))
    (rows_in_order (put (slice_cmp nat_cmp) k (Some v) slots) (is_sorted-put (slice_cmp nat_cmp) nat_list_cmp_total k (Some v) slots h))
    (is_sorted-put (slice_cmp nat_cmp) nat_list_cmp_total k v (rows_of slots) (rows_in_order slots h))
    (λ q.
    row_put q k (Some v) slots h
    ∙ ap (λ (o : Option (List ℕ)). cond (eq_by_cmp (slice_cmp nat_cmp) q k) (Some v) o) (sym (row_at q slots h))
    ∙ sym (find-put (slice_cmp nat_cmp) nat_list_cmp_total q k v (rows_of slots)))

-- a slot that is made is no row
pub rows-made : (k : List ℕ) (slots : Slots) → T (is_sorted (slice_cmp nat_cmp) slots) → find (slice_cmp nat_cmp) k slots ≡ None
    → rows_of (put (slice_cmp nat_cmp) k None slots) ≡ rows_of slots
rows-made k slots h absent =
    same_entries (slice_cmp nat_cmp) nat_list_cmp_total exact_bytes (rows_of (put (slice_cmp nat_cmp) k None slots)) (rows_of slots)
    (rows_in_order (put (slice_cmp nat_cmp) k None slots) (is_sorted-put (slice_cmp nat_cmp) nat_list_cmp_total k None slots h))
    (rows_in_order slots h)
    (λ q. row_put q k None slots h ∙ no_row q (eq_by_cmp (slice_cmp nat_cmp) q k) refl ∙ sym (row_at q slots h))
  where
    no_row : (q : List ℕ) (t : Bool) → eq_by_cmp (slice_cmp nat_cmp) q k ≡ t → cond t None (told (find (slice_cmp nat_cmp) q slots)) ≡ told (find (slice_cmp nat_cmp) q slots)
    no_row q true at = sym (ap told (ap (λ key. find (slice_cmp nat_cmp) key slots) (exact_bytes q k (is_Equal _ at)) ∙ absent))
    no_row q false at = refl

-- slots stay
pub slot_stays : {X : Type 0} → (other k : List ℕ) (v : X) (es : List (List ℕ × X)) → IsSome (find (slice_cmp nat_cmp) other es) → IsSome (find (slice_cmp nat_cmp) other (put (slice_cmp nat_cmp) k v es))
slot_stays other k v es there =
    subst IsSome (sym (find-put (slice_cmp nat_cmp) nat_list_cmp_total other k v es)) (either (eq_by_cmp (slice_cmp nat_cmp) other k))
  where
    either : (t : Bool) → IsSome (cond t (Some v) (find (slice_cmp nat_cmp) other es))
    either true = refl
    either false = there

pub slots_stay : (old new : Slots) (rows : Map) → ((other : List ℕ) → IsSome (find (slice_cmp nat_cmp) other old) → IsSome (find (slice_cmp nat_cmp) other new))
    → HaveSlots old rows → HaveSlots new rows
slots_stay old new [] kept have = tt
slots_stay old new (row ∷ rows) kept have = (kept row.0 have.0, slots_stay old new rows kept have.1)

-- a test of keys passes slots as it passes rows
pub rows-filter : (test : List ℕ → Bool) (slots : Slots) → rows_of (filter (λ slot. test slot.0) slots) ≡ filter (λ row. test row.0) (rows_of slots)
rows-filter test [] = refl
rows-filter test (slot ∷ slots) = one slot.1 (test slot.0) refl (rows-filter test slots)
  where
    one : (value : Option (List ℕ)) (t : Bool) → test slot.0 ≡ t → rows_of (filter (λ s. test s.0) slots) ≡ filter (λ row. test row.0) (rows_of slots)
        → rows_of (cond (test slot.0) ((slot.0, value) ∷ filter (λ s. test s.0) slots) (filter (λ s. test s.0) slots))
        ≡ filter (λ row. test row.0) (cons_option (option_map (λ v. (slot.0, v)) value) (rows_of slots))
    one None true is rest = ap (λ (b : Bool). rows_of (cond b ((slot.0, None) ∷ filter (λ s. test s.0) slots) (filter (λ s. test s.0) slots))) is ∙ rest
    one None false is rest = ap (λ (b : Bool). rows_of (cond b ((slot.0, None) ∷ filter (λ s. test s.0) slots) (filter (λ s. test s.0) slots))) is ∙ rest
    one (Some v) true is rest =
        ap (λ (b : Bool). rows_of (cond b ((slot.0, Some v) ∷ filter (λ s. test s.0) slots) (filter (λ s. test s.0) slots))) is
        ∙ ap (λ (rows : Map). (slot.0, v) ∷ rows) rest
        ∙ sym (ap (λ (b : Bool). cond b ((slot.0, v) ∷ filter (λ row. test row.0) (rows_of slots)) (filter (λ row. test row.0) (rows_of slots))) is)
    one (Some v) false is rest =
        ap (λ (b : Bool). rows_of (cond b ((slot.0, Some v) ∷ filter (λ s. test s.0) slots) (filter (λ s. test s.0) slots))) is
        ∙ rest
        ∙ sym (ap (λ (b : Bool). cond b ((slot.0, v) ∷ filter (λ row. test row.0) (rows_of slots)) (filter (λ row. test row.0) (rows_of slots))) is)

pub none_from : {X : Type 0} → (o : Option X) → is_some o ≡ false → o ≡ None
none_from None is = refl
none_from (Some x) is = absurd (cc (is))

-- between the ends of a span lie the slots of its keys
le_turned : (o : Ordering) → is_le (ordering_reverse o) ≡ not (is_lt o)
le_turned Less = refl
le_turned Equal = refl
le_turned Greater = refl

more_turned : (o : Ordering) → not (is_le (ordering_reverse o)) ≡ is_lt o
more_turned Less = refl
more_turned Equal = refl
more_turned Greater = refl

is_between : (span : Span) (q : List ℕ) → range_contains (slice_cmp nat_cmp) (Included span.begin) (Excluded span.end) q ≡ within span q
is_between span q =
    let from : is_le (slice_cmp nat_cmp span.begin q) ≡ not (key_less q span.begin) = ap is_le (nat_list_cmp_total.antisymm span.begin q) ∙ le_turned (slice_cmp nat_cmp q span.begin) in
    let to : not (is_le (slice_cmp nat_cmp span.end q)) ≡ key_less q span.end = ap (λ o. not (is_le o)) (nat_list_cmp_total.antisymm span.end q) ∙ more_turned (slice_cmp nat_cmp q span.end) in
    λ i. from i && to i

pub slots-between : (span : Span) (slots : Slots) → entries_between (slice_cmp nat_cmp) (Included span.begin) (Excluded span.end) slots ≡ filter (λ slot. within span slot.0) slots
slots-between span slots = λ i. filter (λ slot. is_between span slot.0 i) slots

-- where no slot passes a test, all pass its contrary
pub none-inside : (test : List ℕ → Bool) (slots : Slots) → filter (λ slot. test slot.0) slots ≡ [] → slots ≡ filter (λ slot. not (test slot.0)) slots
none-inside test [] none = refl
none-inside test (slot ∷ slots) none = one (λ left. none-inside test slots left) (test slot.0) refl none
  where
    one : (filter (λ s. test s.0) slots ≡ [] → slots ≡ filter (λ s. not (test s.0)) slots)
        → (t : Bool) → test slot.0 ≡ t → cond t (slot ∷ filter (λ s. test s.0) slots) (filter (λ s. test s.0) slots) ≡ []
        → slot ∷ slots ≡ cond (not (test slot.0)) (slot ∷ filter (λ s. not (test s.0)) slots) (filter (λ s. not (test s.0)) slots)
    one rest true is none = absurd (cc (none))
    one rest false is none =
        ap (λ (later : Slots). slot ∷ later) (rest none)
        ∙ sym (ap (λ (t : Bool). cond (not t) (slot ∷ filter (λ s. not (test s.0)) slots) (filter (λ s. not (test s.0)) slots)) is)

pub rows-between : (span : Span) (slots : Slots) → rows_of (entries_between (slice_cmp nat_cmp) (Included span.begin) (Excluded span.end) slots) ≡ pairs_in span (rows_of slots)
rows-between span slots =
    rows-filter (range_contains (slice_cmp nat_cmp) (Included span.begin) (Excluded span.end)) slots ∙ λ i. filter (λ row. is_between span row.0 i) (rows_of slots)

pub as_IsTrue : (b : Bool) → T b → IsTrue b
as_IsTrue true is = refl
as_IsTrue false is = absurd is

pub rows-rise : (span : Span) (slots : Slots) → IsStrictlySortedBy (slice_cmp nat_cmp) (keys_of slots) → IsTrue (rises (pairs_in span (rows_of slots)))
rows-rise span slots ordered =
    as_IsTrue _ (is_sorted-where_key (slice_cmp nat_cmp) (within span) (rows_of slots) (rows_in_order slots (in_order slots ordered)))

pub all-rise : (slots : Slots) → IsStrictlySortedBy (slice_cmp nat_cmp) (keys_of slots) → IsTrue (rises (rows_of slots))
all-rise slots ordered = as_IsTrue _ (rows_in_order slots (in_order slots ordered))
