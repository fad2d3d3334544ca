-- What handed rows tell of each key.
use Rattle.std.proofs.Common.{◌≡◌, ◌∙◌, ◌&&◌, ◌∷◌, ℕ, Bool, true, false, cond, not, List, [], filter, fold, Option, Some, None, IsTrue, refl, sym, ap, subst}
use Rattle.std.proofs.Math.Dec.{T}
use Rattle.std.specs.Cmp.Lexicographic.{slice_cmp}
use Rattle.std.specs.Prelude.{bytes_eq}
use Rattle.std.specs.FinMap.Entries.{below_all, find-put, find-where_key, is_sorted, is_sorted-put, is_sorted-where_key, put, same_entries}
use Rattle.std.specs.Option.{option_or}
use Rattle.std.specs.Ordering.{eq_by_cmp, nat_cmp}
use Rattle.std.proofs.lemmas.Cmp.{nat_list_cmp_total}
use Rattle.std.proofs.lemmas.Map.Lookups.{exact_bytes}
use Rattle.st_fold.specs.Map.{Map, apply, apply_batch, batches_to, folded, value_at, with_value}
use Rattle.st_fold.specs.Reading.{pairs_in}
use Rattle.st_key.specs.Spans.{Span, key_less, within}
use Rattle.st_mutation.specs.declared.batch.Batch.{Batch}
use Rattle.st_mutation.specs.declared.batch.Mutation.{Mutation}
use Rattle.st_mutation.specs.declared.batch.Mutation.TheVariants.{Set, Clear, Atomic}
use Rattle.st_adding.specs.Rows.{AgreeOn, forgotten, handed, rises}
use Rattle.st_adding.proofs.Slots.{as_IsTrue, is_Equal, none_below}

as_T : (b : Bool) → IsTrue b → T b
as_T b is = subst T (sym is) tt

-- the value of a key where another has a new one, and in what passes a test of keys
value_put : (key other value : List ℕ) (pairs : Map) → value_at (put (slice_cmp nat_cmp) other value pairs) key ≡ cond (eq_by_cmp (slice_cmp nat_cmp) key other) (Some value) (value_at pairs key)
value_put key other value pairs = find-put (slice_cmp nat_cmp) nat_list_cmp_total key other value pairs

value_where : (test : List ℕ → Bool) (key : List ℕ) (pairs : Map) → value_at (filter (λ pair. test pair.0) pairs) key ≡ cond (test key) (value_at pairs key) None
value_where test key pairs = find-where_key (slice_cmp nat_cmp) test key (λ other e. ap test (sym (exact_bytes key other e))) pairs

later_wins : (h : Option (List ℕ)) (t : Bool) (value : List ℕ) (p : Option (List ℕ))
    → option_or h (cond t (Some value) p) ≡ option_or (option_or h (cond t (Some value) None)) p
later_wins None true value p = refl
later_wins None false value p = refl
later_wins (Some x) t value p = refl

-- a key has what the rows tell, and where they tell nothing what it had
pub handed_at : (rows pairs : Map) (key : List ℕ) → value_at (handed rows pairs) key ≡ option_or (value_at (handed rows []) key) (value_at pairs key)
handed_at [] pairs key = refl
handed_at (row ∷ rows) pairs key =
    handed_at rows (put (slice_cmp nat_cmp) row.0 row.1 pairs) key
    ∙ ap (option_or (value_at (handed rows []) key)) (value_put key row.0 row.1 pairs)
    ∙ later_wins (value_at (handed rows []) key) (eq_by_cmp (slice_cmp nat_cmp) key row.0) row.1 (value_at pairs key)
    ∙ sym (
    ap (λ (o : Option (List ℕ)). option_or o (value_at pairs key))
    (handed_at rows (put (slice_cmp nat_cmp) row.0 row.1 []) key ∙ ap (option_or (value_at (handed rows []) key)) (value_put key row.0 row.1 [])))

or_none : (o : Option (List ℕ)) → option_or o None ≡ o
or_none None = refl
or_none (Some x) = refl

first : (a b : Bool) → T (a && b) → T a
first true b p = tt
first false b p = p

second : (a b : Bool) → T (a && b) → T b
second true b p = p
second false b p = absurd p

-- rows that rise tell what they are
alone : (key : List ℕ) (row : List ℕ × List ℕ) (rows : Map) (before : Option (List ℕ)) (t : Bool) → eq_by_cmp (slice_cmp nat_cmp) key row.0 ≡ t → T (below_all (slice_cmp nat_cmp) row.0 rows)
    → option_or (value_at rows key) (cond t (Some row.1) before) ≡ option_or (cond t (Some row.1) (value_at rows key)) before
alone key row rows before true at above =
    ap (λ (o : Option (List ℕ)). option_or o (Some row.1))
    (ap (value_at rows) (exact_bytes key row.0 (is_Equal _ at)) ∙ none_below row.0 rows above)
alone key row rows before false at above = refl

rising_at : (rows pairs : Map) (key : List ℕ) → T (is_sorted (slice_cmp nat_cmp) rows) → value_at (handed rows pairs) key ≡ option_or (value_at rows key) (value_at pairs key)
rising_at [] pairs key rise = refl
rising_at (row ∷ rows) pairs key rise =
    rising_at rows (put (slice_cmp nat_cmp) row.0 row.1 pairs) key (second _ _ rise)
    ∙ ap (option_or (value_at rows key)) (value_put key row.0 row.1 pairs)
    ∙ alone key row rows (value_at pairs key) (eq_by_cmp (slice_cmp nat_cmp) key row.0) refl (first _ _ rise)

-- rows of a map in a span
block_at : (span : Span) (whole pairs : Map) (key : List ℕ) → IsTrue (rises whole)
    → value_at (handed (pairs_in span whole) pairs) key ≡ option_or (cond (within span key) (value_at whole key) None) (value_at pairs key)
block_at span whole pairs key rise =
    rising_at (pairs_in span whole) pairs key (is_sorted-where_key (slice_cmp nat_cmp) (within span) whole (as_T _ rise))
    ∙ ap (λ (o : Option (List ℕ)). option_or o (value_at pairs key)) (value_where (within span) key whole)

pub block_inside : (span : Span) (whole pairs : Map) → IsTrue (rises whole) → AgreeOn span pairs [] → AgreeOn span (handed (pairs_in span whole) pairs) whole
block_inside span whole pairs rise none key inside =
    block_at span whole pairs key rise
    ∙ (λ i. option_or (cond (inside i) (value_at whole key) None) (none key inside i))
    ∙ or_none (value_at whole key)

pub block_outside : (span : Span) (whole pairs : Map) (key : List ℕ) → IsTrue (rises whole) → within span key ≡ false → value_at (handed (pairs_in span whole) pairs) key ≡ value_at pairs key
block_outside span whole pairs key rise out =
    block_at span whole pairs key rise ∙ ap (λ (t : Bool). option_or (cond t (value_at whole key) None) (value_at pairs key)) out

split_and : (a b : Bool) → (a && b) ≡ true → (a ≡ true) × (b ≡ true)
split_and true b is = (refl, is)
split_and false b is = absurd (cc (is))

-- a block that goes on where the rows end
pub goes_on : (pairs whole : Map) (begin middle end : List ℕ) → IsTrue (rises whole)
    → AgreeOn (record { begin = begin; end = middle }) pairs whole → AgreeOn (record { begin = middle; end = end }) pairs []
    → AgreeOn (record { begin = begin; end = end }) (handed (pairs_in (record { begin = middle; end = end }) whole) pairs) whole
goes_on pairs whole begin middle end rise same none key inside = by_test (key_less key middle) refl
  where
    by_test : (t : Bool) → key_less key middle ≡ t → value_at (handed (pairs_in (record { begin = middle; end = end }) whole) pairs) key ≡ value_at whole key
    by_test true below =
        block_outside (record { begin = middle; end = end }) whole pairs key rise (ap (λ (t : Bool). not t && key_less key end) below)
        ∙ same key (λ i. (split_and (not (key_less key begin)) (key_less key end) inside).0 i && below i)
    by_test false above =
        block_inside (record { begin = middle; end = end }) whole pairs rise none key (λ i. not (above i) && (split_and (not (key_less key begin)) (key_less key end) inside).1 i)

turned : (t : Bool) (value : Option (List ℕ)) → cond (not t) value None ≡ cond t None value
turned true value = refl
turned false value = refl

pub forgotten_at : (span : Span) (pairs : Map) (key : List ℕ) → value_at (forgotten span pairs) key ≡ cond (within span key) None (value_at pairs key)
forgotten_at span pairs key = value_where (λ k. not (within span k)) key pairs ∙ turned (within span key) (value_at pairs key)

-- maps that rise and agree on a span have the same rows there
pub same_rows : (span : Span) (a b : Map) → IsTrue (rises a) → IsTrue (rises b) → AgreeOn span a b → pairs_in span a ≡ pairs_in span b
same_rows span a b a_rises b_rises same =
    same_entries (slice_cmp nat_cmp) nat_list_cmp_total exact_bytes (pairs_in span a) (pairs_in span b)
    (is_sorted-where_key (slice_cmp nat_cmp) (within span) a (as_T _ a_rises))
    (is_sorted-where_key (slice_cmp nat_cmp) (within span) b (as_T _ b_rises))
    (λ key. value_where (within span) key a ∙ by_test key (within span key) refl ∙ sym (value_where (within span) key b))
  where
    by_test : (key : List ℕ) (t : Bool) → within span key ≡ t → cond (within span key) (value_at a key) None ≡ cond (within span key) (value_at b key) None
    by_test key true inside = ap (λ (o : Option (List ℕ)). cond (within span key) o None) (same key inside)
    by_test key false out = ap (λ (t : Bool). cond t (value_at a key) None) out ∙ sym (ap (λ (t : Bool). cond t (value_at b key) None) out)

-- what keeps keys rising
put_rises : (key value : List ℕ) (pairs : Map) → IsTrue (rises pairs) → IsTrue (rises (put (slice_cmp nat_cmp) key value pairs))
put_rises key value pairs rise = as_IsTrue _ (is_sorted-put (slice_cmp nat_cmp) nat_list_cmp_total key value pairs (as_T _ rise))

where_rises : (test : List ℕ → Bool) (pairs : Map) → IsTrue (rises pairs) → IsTrue (rises (filter (λ pair. test pair.0) pairs))
where_rises test pairs rise = as_IsTrue _ (is_sorted-where_key (slice_cmp nat_cmp) test pairs (as_T _ rise))

with_rises : (key : List ℕ) (value : Option (List ℕ)) (pairs : Map) → IsTrue (rises pairs) → IsTrue (rises (with_value key value pairs))
with_rises key (Some value) pairs rise = put_rises key value pairs rise
with_rises key None pairs rise = where_rises (λ k. not (bytes_eq k key)) pairs rise

pub handed_rises : (rows pairs : Map) → IsTrue (rises pairs) → IsTrue (rises (handed rows pairs))
handed_rises [] pairs rise = rise
handed_rises (row ∷ rows) pairs rise = handed_rises rows (put (slice_cmp nat_cmp) row.0 row.1 pairs) (put_rises row.0 row.1 pairs rise)

pub forgotten_rises : (span : Span) (pairs : Map) → IsTrue (rises pairs) → IsTrue (rises (forgotten span pairs))
forgotten_rises span pairs rise = where_rises (λ k. not (within span k)) pairs rise

apply_rises : (pairs : Map) (mutation : Mutation) → IsTrue (rises pairs) → IsTrue (rises (apply pairs mutation))
apply_rises pairs (Set key value) rise = put_rises key value pairs rise
apply_rises pairs (Clear span) rise = where_rises (λ k. not (within span k)) pairs rise
apply_rises pairs (Atomic op key operand) rise = with_rises key _ pairs rise

mutations_rise : (mutations : List Mutation) (pairs : Map) → IsTrue (rises pairs) → IsTrue (rises (fold apply pairs mutations))
mutations_rise [] pairs rise = rise
mutations_rise (mutation ∷ mutations) pairs rise = mutations_rise mutations (apply pairs mutation) (apply_rises pairs mutation rise)

batches_rise : (batches : List Batch) (pairs : Map) → IsTrue (rises pairs) → IsTrue (rises (fold apply_batch pairs batches))
batches_rise [] pairs rise = rise
batches_rise (batch ∷ batches) pairs rise = batches_rise batches (apply_batch pairs batch) (mutations_rise batch.mutations pairs rise)

pub folded_rises : (log : List Batch) (version : ℕ) → IsTrue (rises (folded log version))
folded_rises log version = batches_rise (batches_to version log) [] refl
