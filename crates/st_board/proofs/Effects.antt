-- What stored mutations do to a key.
use Rattle.std.proofs.Common.{◌≡◌, ◌∙◌, ◌<◌, ◌++◌, ℕ, Bool, true, false, cond, not, List, [], ◌∷◌, Option, Some, None, bytes_eq, refl, sym, ap, subst}
use Rattle.std.specs.Option.{option_map}
use Rattle.std.proofs.lemmas.Bool.{and_from, and_parts, both_ways, false_from_ne_true, false≢true, not-true}
use Rattle.std.proofs.lemmas.Slice.Eq.{bytes_eq-Decides}
use Rattle.std.proofs.lemmas.Map.Text.{is_eq-slice_cmp}
use Rattle.st_atomic.specs.Atomic.{changed}
use Rattle.st_atomic.specs.declared.AtomicOp.{AtomicOp}
use Rattle.st_atomic.specs.declared.AtomicOp.TheVariants.{Add, And, Or, Xor, Max, Min, ByteMin, ByteMax, AppendIfFits, CompareAndClear}
use Rattle.st_fold.specs.Reading.{span_of_key}
use Rattle.st_fold.specs.Effects.{equal_bytes}
use Rattle.st_key.specs.KeyOrder.{alone_after, less_after, less_irrefl}
use Rattle.st_key.specs.Spans.{key_less, within}
use Rattle.st_mutation.specs.declared.batch.Batch.{Batch}
use Rattle.st_mutation.specs.declared.batch.Mutation.{Mutation}
use Rattle.st_mutation.specs.declared.batch.Mutation.TheVariants.{Set, Clear, Atomic}
use Rattle.st_mutation.specs.Effect.{value_by}
use Rattle.st_versioned.specs.Root.{Decision, behind, same}
use Rattle.st_versioned.specs.declared.change.Change.TheVariants as change
use Rattle.st_course.specs.Sent.{compares, result_as, stored_as}
use Rattle.st_board.specs.Tells.{MakesTo}
use Rattle.st_board.proofs.Telling.{makes-decided}

-- the value of a key behind what is stored
abbrev pub stored_value : List ℕ → Option (List ℕ) → Option Mutation → Option (List ℕ)
stored_value key now None = now
stored_value key now (Some (Set other value)) = value_by key now (Set other value)
stored_value key now (Some (Clear span)) = value_by key now (Clear span)
stored_value key now (Some (Atomic op other operand)) = now

module _ (log : List Batch) (durable newest made : ℕ) (key : List ℕ) (later : newest < made) where
  -- a set and a clear do to what is decided what they do to the value
  pub makes-set : (other value : List ℕ) (decision : Decision) (now : Option (List ℕ)) → MakesTo log durable newest made key decision now
      → MakesTo log durable newest made key (behind decision made (change.Set other value) key) (value_by key now (Set other value))
  makes-set other value decision now makes =
      subst (λ (t : Bool). MakesTo log durable newest made key (behind decision made (change.Set other value) key) (cond t (Some value) now)) (is_eq-slice_cmp key other) (by_test (same key other))
    where
      by_test : (t : Bool) → MakesTo log durable newest made key (cond t (Some (made, Some value)) decision) (cond t (Some value) now)
      by_test true = makes-decided log key durable newest made (Some value) later
      by_test false = makes

  pub makes-clear : (span : _) (decision : Decision) (now : Option (List ℕ)) → MakesTo log durable newest made key decision now
      → MakesTo log durable newest made key (behind decision made (change.Clear span) key) (value_by key now (Clear span))
  makes-clear span decision now makes = by_test (within span key)
    where
      by_test : (t : Bool) → MakesTo log durable newest made key (cond t (Some (made, None)) decision) (cond t None now)
      by_test true = makes-decided log key durable newest made None later
      by_test false = makes

-- an operation that compares leaves the value that it leaves
compared : (op : AtomicOp) (before : Option (List ℕ)) (operand value : List ℕ) → compares op ≡ true → changed op before operand ≡ Some value → before ≡ Some value
compared CompareAndClear None operand value is leaves = absurd (cc (leaves))
compared CompareAndClear (Some old) operand value is leaves = by_test (bytes_eq old operand) leaves
  where
    by_test : (t : Bool) → cond t None (Some old) ≡ Some value → Some old ≡ Some value
    by_test true leaves = absurd (cc (leaves))
    by_test false leaves = leaves
compared Add before operand value is leaves = absurd (false≢true is)
compared And before operand value is leaves = absurd (false≢true is)
compared Or before operand value is leaves = absurd (false≢true is)
compared Xor before operand value is leaves = absurd (false≢true is)
compared Max before operand value is leaves = absurd (false≢true is)
compared Min before operand value is leaves = absurd (false≢true is)
compared ByteMin before operand value is leaves = absurd (false≢true is)
compared ByteMax before operand value is leaves = absurd (false≢true is)
compared AppendIfFits before operand value is leaves = absurd (false≢true is)

bytes_eq-same : (key : List ℕ) → bytes_eq key key ≡ true
bytes_eq-same key = (bytes_eq-Decides key key).1 refl

-- the range of a key has that key alone
in_range : (key other : List ℕ) → within (span_of_key other) key ≡ bytes_eq key other
in_range key other = by_test (bytes_eq key other) refl
  where
    by_test : (t : Bool) → bytes_eq key other ≡ t → within (span_of_key other) key ≡ t
    by_test true is =
        subst (λ k. within (span_of_key other) k ≡ true) (sym (equal_bytes key other is))
        (and_from (not (key_less other other)) (key_less other (other ++ 0 ∷ [])) (ap not (less_irrefl other)) (less_after other))
    by_test false is = false_from_ne_true (within (span_of_key other) key) (λ inside.
        let parts = and_parts (not (key_less key other)) (key_less key (other ++ 0 ∷ [])) inside in
        let one : key ≡ other = alone_after other key (not-true (key_less key other) parts.0) parts.1 in
        both_ways (bytes_eq key other) is (ap (bytes_eq key) (sym one) ∙ bytes_eq-same key))

-- what is stored of a mutation does to a key what the mutation does, where the key has this value now
pub stored-effect : (key : List ℕ) (now : Option (List ℕ)) (mutation : Mutation) (before : List ℕ → Option (List ℕ)) → before key ≡ now
    → stored_value key now (stored_as mutation before) ≡ value_by key now mutation
stored-effect key now (Set other value) before is = refl
stored-effect key now (Clear span) before is = refl
stored-effect key now (Atomic op other operand) before is = by_key (bytes_eq key other) refl
  where
    -- of the key itself
    of-result : (after : Option (List ℕ)) → changed op now operand ≡ after → stored_value key now (result_as op key now after) ≡ after
    of-result (Some value) leaves = by_test (compares op) refl
      where
        by_test : (t : Bool) → compares op ≡ t → stored_value key now (cond t None (Some (Set key value))) ≡ Some value
        by_test true compare = compared op now operand value compare leaves
        by_test false compare = ap (λ (t : Bool). cond t (Some value) now) (bytes_eq-same key)
    of-result None leaves = by_value now
      where
        by_value : (v : Option (List ℕ)) → stored_value key v (option_map (λ _. Clear (span_of_key key)) v) ≡ None
        by_value None = refl
        by_value (Some value) = ap (λ (t : Bool). cond t None (Some value)) (in_range key key ∙ bytes_eq-same key)

    -- of another key
    of-other : bytes_eq key other ≡ false → (old after : Option (List ℕ)) → stored_value key now (result_as op other old after) ≡ now
    of-other apart old (Some value) = by_test (compares op)
      where
        by_test : (t : Bool) → stored_value key now (cond t None (Some (Set other value))) ≡ now
        by_test true = refl
        by_test false = ap (λ (t : Bool). cond t (Some value) now) apart
    of-other apart None None = refl
    of-other apart (Some value) None = ap (λ (t : Bool). cond t None now) (in_range key other ∙ apart)

    by_key : (t : Bool) → bytes_eq key other ≡ t → stored_value key now (result_as op other (before other) (changed op (before other) operand)) ≡ cond t (changed op now operand) now
    by_key true one =
        let same_key = equal_bytes key other one in
        subst (λ k. stored_value key now (result_as op k (before k) (changed op (before k) operand)) ≡ changed op now operand) same_key
        (subst (λ v. stored_value key now (result_as op key v (changed op v operand)) ≡ changed op now operand) (sym is) (of-result (changed op now operand) refl))
    by_key false apart = of-other apart (before other) (changed op (before other) operand)
