-- The pairs of a fold rise, and each block that is fetched of them leaves fewer.
use Rattle.std.proofs.Common.{◌≡◌, ℕ, suc, ◌-◌, ◌<◌, ◌≤◌, Bool, true, false, not, cond, List, [], ◌∷◌, filter, fold, drop, length, bytes_eq, Option, Some, None, refl, sym, ap, ◌∙◌, subst, arith, le_refl}
use Rattle.std.proofs.lemmas.Bool.{cond_both, and_parts, and_from, and_left, not-true, true≢false}
use Rattle.std.proofs.lemmas.Cmp.{nat_list_cmp_total}
use Rattle.std.specs.Cmp.Lexicographic.{slice_cmp}
use Rattle.std.specs.FinMap.Entries.{put, by_order}
use Rattle.std.specs.List.{AllByRecursion}
use Rattle.std.specs.Ordering.{nat_cmp, is_lt, ordering_reverse}
use Rattle.std.specs.declared.cmp.Ordering.TheVariants.{Less, Equal, Greater}
use Rattle.st_key.specs.KeyOrder.{less_irrefl, less_asym, less_trans, le_less_trans}
use Rattle.st_key.specs.Spans.{Span, key_less, within}
use Rattle.st_atomic.specs.Atomic.{changed}
use Rattle.st_mutation.specs.declared.batch.Batch.{Batch}
use Rattle.st_mutation.specs.declared.batch.Mutation.{Mutation}
use Rattle.st_mutation.specs.declared.batch.Mutation.TheVariants.{Set, Clear, Atomic}
use Rattle.st_fold.specs.Map.{Map, apply, apply_batch, batches_to, folded, value_at, with_value}
use Rattle.st_fold.specs.Reading.{pairs_in}
use Rattle.st_model.specs.Schedule.{block_end}
use Rattle.st_model.proofs.Acts.{all_kept_of}
use Rattle.st_model.proofs.Cuts.{le_trans}
use Rattle.st_model.proofs.Lists.{all_drop, all_map}

-- ---- pairs rise

-- each pair's key is below those of the later ones
abbrev pub AreRising : Map → Type 0
AreRising [] = Unit {0}
AreRising (pair ∷ later) = AllByRecursion (λ other. key_less pair.0 other.0 ≡ true) later × AreRising later

rising_filter : (test : List ℕ × List ℕ → Bool) (pairs : Map) → AreRising pairs → AreRising (filter test pairs)
rising_filter test [] rises = tt
rising_filter test (pair ∷ pairs) rises =
    cond_both (test pair) (pair ∷ filter test pairs) (filter test pairs) AreRising
    (λ _. (all_kept_of (λ other. key_less pair.0 other.0 ≡ true) test pairs rises.0, rising_filter test pairs rises.1))
    (λ _. rising_filter test pairs rises.1)

below_put : (low key value : List ℕ) (pairs : Map) → key_less low key ≡ true → AllByRecursion (λ other. key_less low other.0 ≡ true) pairs
    → AllByRecursion (λ other. key_less low other.0 ≡ true) (put (slice_cmp nat_cmp) key value pairs)
below_put low key value [] above all = (above, tt)
below_put low key value (pair ∷ pairs) above all =
    elim (slice_cmp nat_cmp key pair.0) as (λ o. AllByRecursion (λ other. key_less low other.0 ≡ true)
    (by_order o ((key, value) ∷ pair ∷ pairs) ((pair.0, value) ∷ pairs) (pair ∷ put (slice_cmp nat_cmp) key value pairs))) [
      | Less ↦ (above, all)
      | Equal ↦ (all.0, all.1)
      | Greater ↦ (all.0, below_put low key value pairs above all.1)
    ]

rising_put : (key value : List ℕ) (pairs : Map) → AreRising pairs → AreRising (put (slice_cmp nat_cmp) key value pairs)
rising_put key value [] rises = (tt, tt)
rising_put key value (pair ∷ pairs) rises =
    elim (slice_cmp nat_cmp key pair.0) as (λ o. slice_cmp nat_cmp key pair.0 ≡ o
    → AreRising (by_order o ((key, value) ∷ pair ∷ pairs) ((pair.0, value) ∷ pairs) (pair ∷ put (slice_cmp nat_cmp) key value pairs))) [
      | Less ↦ λ less. (
        (
          ap is_lt less,
          all_map (λ other. key_less pair.0 other.0 ≡ true) (λ other. key_less key other.0 ≡ true)
              (λ other above. less_trans key pair.0 other.0 (ap is_lt less) above) pairs rises.0,
        ),
        rises,
      )
      | Equal ↦ λ _. (rises.0, rises.1)
      | Greater ↦ λ greater. (
        below_put pair.0 key value pairs (ap is_lt (nat_list_cmp_total.antisymm pair.0 key) ∙ ap (λ o. is_lt (ordering_reverse o)) greater) rises.0,
        rising_put key value pairs rises.1,
      )
    ]
    refl

rising_value : (key : List ℕ) (value : Option (List ℕ)) (pairs : Map) → AreRising pairs → AreRising (with_value key value pairs)
rising_value key (Some value) pairs rises = rising_put key value pairs rises
rising_value key None pairs rises = rising_filter (λ pair. not (bytes_eq pair.0 key)) pairs rises

rising_apply : (pairs : Map) (mutation : Mutation) → AreRising pairs → AreRising (apply pairs mutation)
rising_apply pairs (Set key value) rises = rising_value key (Some value) pairs rises
rising_apply pairs (Clear span) rises = rising_filter (λ pair. not (within span pair.0)) pairs rises
rising_apply pairs (Atomic op key operand) rises = rising_value key (changed op (value_at pairs key) operand) pairs rises

rising_all : (pairs : Map) (mutations : List Mutation) → AreRising pairs → AreRising (fold apply pairs mutations)
rising_all pairs [] rises = rises
rising_all pairs (mutation ∷ mutations) rises = rising_all (apply pairs mutation) mutations (rising_apply pairs mutation rises)

rising_batches : (pairs : Map) (batches : List Batch) → AreRising pairs → AreRising (fold apply_batch pairs batches)
rising_batches pairs [] rises = rises
rising_batches pairs (batch ∷ batches) rises = rising_batches (apply_batch pairs batch) batches (rising_all pairs batch.mutations rises)

rising_folded : (log : List Batch) (version : ℕ) → AreRising (folded log version)
rising_folded log version = rising_batches [] (batches_to version log) tt

-- ---- fewer pass a narrower test

pub all_pass : {A : Type 0} (test : A → Bool) (xs : List A) → AllByRecursion (λ x. test x ≡ true) (filter test xs)
all_pass test [] = tt
all_pass test (x ∷ xs) =
    cond_both (test x) (x ∷ filter test xs) (filter test xs) (AllByRecursion (λ y. test y ≡ true))
    (λ passes. (passes, all_pass test xs)) (λ _. all_pass test xs)

-- where whatever passes the second test passes the first
module _ {A : Type 0} (test narrower : A → Bool) (narrow : (x : A) → narrower x ≡ true → test x ≡ true) where
  no_more : (xs : List A) → length (filter narrower xs) ≤ length (filter test xs)
  no_more [] = le_refl 0
  no_more (x ∷ xs) =
      elim (test x) as (λ v. test x ≡ v → length (cond (narrower x) (x ∷ filter narrower xs) (filter narrower xs)) ≤ length (cond v (x ∷ filter test xs) (filter test xs))) [
        | true ↦ λ _. cond_both (narrower x) (x ∷ filter narrower xs) (filter narrower xs) (λ ys. length ys ≤ suc (length (filter test xs)))
            (λ _. omega (arith, no_more xs)) (λ _. omega (arith, no_more xs))
        | false ↦ λ fails. cond_both (narrower x) (x ∷ filter narrower xs) (filter narrower xs) (λ ys. length ys ≤ length (filter test xs))
            (λ passes. absurd (true≢false (sym (narrow x passes) ∙ fails))) (λ _. no_more xs)
      ]
      refl

  -- one that passes the first alone is left out
  pub fewer_pass : (xs : List A) (one : A) (others : List A) → filter test xs ≡ one ∷ others → narrower one ≡ false
      → length (filter narrower xs) < length (filter test xs)
  fewer_pass [] one others is fails = cc
  fewer_pass (x ∷ xs) one others is fails =
      elim (test x) as (λ v. test x ≡ v → cond v (x ∷ filter test xs) (filter test xs) ≡ one ∷ others
      → length (cond (narrower x) (x ∷ filter narrower xs) (filter narrower xs)) < length (cond v (x ∷ filter test xs) (filter test xs))) [
        | true ↦ λ _ first.
            let same : x ≡ one = cc in
            subst (λ v. length (cond v (x ∷ filter narrower xs) (filter narrower xs)) < suc (length (filter test xs)))
            (sym (ap narrower same ∙ fails)) (omega (arith, no_more xs))
        | false ↦ λ other later. cond_both (narrower x) (x ∷ filter narrower xs) (filter narrower xs) (λ ys. length ys < length (filter test xs))
            (λ passes. absurd (true≢false (sym (narrow x passes) ∙ other))) (λ _. fewer_pass xs one others later fails)
      ]
      refl is

-- ---- a block

-- how much is left to fetch from one key up to another: the pairs between them, and the end
abbrev pub left_between : Map → (upto end : List ℕ) → ℕ
left_between pairs upto end = cond (key_less upto end) (suc (length (pairs_in (record { begin = upto; end = end }) pairs))) 0

-- a key lies ahead of the first one and not above the end, and less is left from it on
abbrev pub GoesOn : (upto end : List ℕ) → Map → List ℕ → Type 0
GoesOn upto end whole key =
    (key_less upto key ≡ true) × (key_less end key ≡ false)
    × (left_between whole key end < suc (length (pairs_in (record { begin = upto; end = end }) whole)))

module _ (upto end : List ℕ) (ahead : key_less upto end ≡ true) (whole : Map) where
  abbrev span : Span
  span = record { begin = upto; end = end }

  goes_to_end : GoesOn upto end whole end
  goes_to_end = (
    ahead,
    less_irrefl end,
    subst (λ v. cond v (suc (length (pairs_in (record { begin = end; end = end }) whole))) 0 < suc (length (pairs_in span whole)))
        (sym (less_irrefl end)) (omega arith),
  )

  goes_to_pair : (first next : List ℕ × List ℕ) (others : Map) → pairs_in span whole ≡ first ∷ others → within span first.0 ≡ true
      → key_less first.0 next.0 ≡ true → within span next.0 ≡ true → GoesOn upto end whole next.0
  goes_to_pair first next others is inside above next_inside =
      let lies = and_parts (not (key_less first.0 upto)) (key_less first.0 end) inside in
      let further = le_less_trans upto first.0 next.0 (not-true (key_less first.0 upto) lies.0) above in
      let before = and_parts (not (key_less next.0 upto)) (key_less next.0 end) next_inside in
      let fewer = fewer_pass (λ pair. within span pair.0) (λ pair. within (record { begin = next.0; end = end }) pair.0)
      (λ pair passes.
      let tests = and_parts (not (key_less pair.0 next.0)) (key_less pair.0 end) passes in
      and_from (not (key_less pair.0 upto)) (key_less pair.0 end)
      (ap not (le_trans upto next.0 pair.0 (less_asym upto next.0 further) (not-true (key_less pair.0 next.0) tests.0))) tests.1)
      whole first others is (and_left (not (key_less first.0 next.0)) (key_less first.0 end) (ap not above)) in (
        further,
        less_asym next.0 end before.1,
        subst (λ v. cond v (suc (length (pairs_in (record { begin = next.0; end = end }) whole))) 0 < suc (length (pairs_in span whole)))
            (sym before.1) (omega arith),
      )

  goes_on : (rows : ℕ) → AreRising whole → GoesOn upto end whole (block_end end (drop (suc rows) (pairs_in span whole)))
  goes_on rows rises = by (pairs_in span whole) refl (all_pass (λ pair. within span pair.0) whole) (rising_filter (λ pair. within span pair.0) whole rises)
    where
      by : (pairs : Map) → pairs_in span whole ≡ pairs → AllByRecursion (λ pair. within span pair.0 ≡ true) pairs → AreRising pairs
          → GoesOn upto end whole (block_end end (drop (suc rows) pairs))
      by [] is inside rising = goes_to_end
      by (first ∷ others) is inside rising =
          elim (drop rows others) as (λ d. AllByRecursion (λ pair. within span pair.0 ≡ true) d
          → AllByRecursion (λ pair. key_less first.0 pair.0 ≡ true) d → GoesOn upto end whole (block_end end d)) [
            | [] ↦ λ _ _. goes_to_end
            | next ∷ later ↦ λ inside_then above. goes_to_pair first next others is inside.0 above.0 inside_then.0
          ]
          (all_drop (λ pair. within span pair.0 ≡ true) rows others inside.1) (all_drop (λ pair. key_less first.0 pair.0 ≡ true) rows others rising.0)

-- a block of at least one row goes on so
pub block_goes_on : (log : List Batch) (at block : ℕ) (upto end : List ℕ) → 1 ≤ block → key_less upto end ≡ true
    → GoesOn upto end (folded log at) (block_end end (drop block (pairs_in (record { begin = upto; end = end }) (folded log at))))
block_goes_on log at block upto end least ahead =
    let more : suc (block - 1) ≡ block = omega arith in
    subst (λ n. GoesOn upto end (folded log at) (block_end end (drop n (pairs_in (record { begin = upto; end = end }) (folded log at)))))
    more (goes_on upto end ahead (folded log at) (block - 1) (rising_folded log at))
