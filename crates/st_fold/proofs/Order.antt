-- What folding a log gives is in the order of its keys.
use Rattle.std.proofs.Common.{◌≡◌, Bool, true, false, bytes_eq, not, ℕ, T, List, [], ◌∷◌, filter, fold, Option, Some, None, IsTrue, refl, sym, subst}
use Rattle.std.specs.Cmp.Lexicographic.{slice_cmp}
use Rattle.std.specs.FinMap.Entries.{is_sorted, is_sorted-put, is_sorted-where_key}
use Rattle.std.specs.Ordering.{nat_cmp}
use Rattle.std.proofs.lemmas.Cmp.{nat_list_cmp_total}
use Rattle.st_atomic.specs.Atomic.{changed}
use Rattle.st_fold.specs.Map.{Map, apply, apply_batch, batches_to, folded, value_at, with_value}
use Rattle.st_key.specs.Spans.{within}
use Rattle.st_mutation.specs.declared.batch.Batch.{Batch}
use Rattle.st_mutation.specs.declared.batch.Mutation.{Mutation}
use Rattle.st_mutation.specs.declared.batch.Mutation.TheVariants.{Set, Clear, Atomic}

abbrev Sorted : Map → Type 0
Sorted pairs = IsTrue (is_sorted (slice_cmp nat_cmp) pairs)

as_T : (b : Bool) → IsTrue b → T b
as_T b is = subst T (sym is) tt

as_IsTrue : (b : Bool) → T b → IsTrue b
as_IsTrue true is = refl
as_IsTrue false is = absurd is

sorted_filter : (test : List ℕ → Bool) (pairs : Map) → Sorted pairs → Sorted (filter (λ pair. test pair.0) pairs)
sorted_filter test pairs sorted = as_IsTrue _ (is_sorted-where_key (slice_cmp nat_cmp) test pairs (as_T _ sorted))

sorted_value : (key : List ℕ) (value : Option (List ℕ)) (pairs : Map) → Sorted pairs → Sorted (with_value key value pairs)
sorted_value key (Some value) pairs sorted = as_IsTrue _ (is_sorted-put (slice_cmp nat_cmp) nat_list_cmp_total key value pairs (as_T _ sorted))
sorted_value key None pairs sorted = sorted_filter (λ k. not (bytes_eq k key)) pairs sorted

sorted_apply : (mutation : Mutation) (pairs : Map) → Sorted pairs → Sorted (apply pairs mutation)
sorted_apply (Set key value) pairs sorted = sorted_value key (Some value) pairs sorted
sorted_apply (Clear span) pairs sorted = sorted_filter (λ k. not (within span k)) pairs sorted
sorted_apply (Atomic op key operand) pairs sorted = sorted_value key (changed op (value_at pairs key) operand) pairs sorted

sorted_all : (mutations : List Mutation) (pairs : Map) → Sorted pairs → Sorted (fold apply pairs mutations)
sorted_all [] pairs sorted = sorted
sorted_all (mutation ∷ mutations) pairs sorted = sorted_all mutations (apply pairs mutation) (sorted_apply mutation pairs sorted)

sorted_batches : (batches : List Batch) (pairs : Map) → Sorted pairs → Sorted (fold apply_batch pairs batches)
sorted_batches [] pairs sorted = sorted
sorted_batches (batch ∷ batches) pairs sorted = sorted_batches batches (apply_batch pairs batch) (sorted_all batch.mutations pairs sorted)

pub sorted_fold : (log : List Batch) (version : ℕ) → Sorted (folded log version)
sorted_fold log version = sorted_batches (batches_to version log) [] refl
