-- The value of one key in a map that mutations change: they make of it what they make of the key's value by itself.
use Rattle.std.proofs.Common.{◌≡◌, ◌∙◌, ℕ, Bool, true, false, cond, not, List, [], ◌∷◌, fold, filter, refl, sym, ap}
use Rattle.std.specs.Prelude.{Option, Some, None, bytes_eq}
use Rattle.std.specs.Ordering.{nat_cmp}
use Rattle.std.specs.Cmp.Lexicographic.{slice_cmp}
use Rattle.std.specs.FinMap.Entries.{find-put, find-where_key}
use Rattle.std.proofs.lemmas.Cmp.{nat_list_cmp_total}
use Rattle.std.proofs.lemmas.Map.Text.{is_eq-slice_cmp}
use Rattle.std.proofs.lemmas.Map.Lookups.{exact_bytes}
use Rattle.std.proofs.lemmas.Slice.Eq.{bytes_eq-Decides}
use Rattle.st_mutation.specs.declared.batch.Batch.{Batch}
use Rattle.st_mutation.specs.declared.batch.Mutation.{Mutation}
use Rattle.st_mutation.specs.declared.batch.Mutation.TheVariants.{Set, Clear, Atomic}
use Rattle.st_fold.specs.Map.{Map, apply, apply_batch, value_at, with_value}
use Rattle.st_mutation.specs.Effect.{value_by, value_by_batch}
use Rattle.st_key.specs.Spans.{within}
use Rattle.st_atomic.specs.Atomic.{changed}

pub equal_bytes : (a b : List ℕ) → bytes_eq a b ≡ true → a ≡ b
equal_bytes a b e = (bytes_eq-Decides a b).0 e

negated : {A : Type 0} (b : Bool) (x y : A) → cond (not b) x y ≡ cond b y x
negated true x y = refl
negated false x y = refl

-- the value of a key in what passes a test of keys
pub value_where : (test : List ℕ → Bool) (key : List ℕ) (pairs : Map)
    → value_at (filter (λ pair. test pair.0) pairs) key ≡ cond (test key) (value_at pairs key) None
value_where test key pairs =
    find-where_key (slice_cmp nat_cmp) test key (λ other e. ap test (sym (exact_bytes key other e))) pairs

pub value_with : (key other : List ℕ) (value : Option (List ℕ)) (pairs : Map)
    → value_at (with_value other value pairs) key ≡ cond (bytes_eq key other) value (value_at pairs key)
value_with key other (Some value) pairs =
    find-put (slice_cmp nat_cmp) nat_list_cmp_total key other value pairs
    ∙ ap (λ b. cond b (Some value) (value_at pairs key)) (is_eq-slice_cmp key other)
value_with key other None pairs =
    value_where (λ k. not (bytes_eq k other)) key pairs ∙ negated (bytes_eq key other) (value_at pairs key) None

at_equal : (key other : List ℕ) (of : Option (List ℕ) → Option (List ℕ)) (pairs : Map)
    → cond (bytes_eq key other) (of (value_at pairs other)) (value_at pairs key)
    ≡ cond (bytes_eq key other) (of (value_at pairs key)) (value_at pairs key)
at_equal key other of pairs =
    elim (bytes_eq key other) as (λ b. bytes_eq key other ≡ b → cond b (of (value_at pairs other)) (value_at pairs key) ≡ cond b (of (value_at pairs key)) (value_at pairs key)) [
      | true ↦ λ e. ap (λ k. of (value_at pairs k)) (sym (equal_bytes key other e))
      | false ↦ λ e. refl
    ] refl

pub after_one : (key : List ℕ) (pairs : Map) (mutation : Mutation) → value_at (apply pairs mutation) key ≡ value_by key (value_at pairs key) mutation
after_one key pairs (Set other value) = value_with key other (Some value) pairs
after_one key pairs (Clear span) =
    value_where (λ k. not (within span k)) key pairs ∙ negated (within span key) (value_at pairs key) None
after_one key pairs (Atomic op other operand) =
    value_with key other (changed op (value_at pairs other) operand) pairs
    ∙ at_equal key other (λ old. changed op old operand) pairs

pub after_all : (key : List ℕ) (pairs : Map) (mutations : List Mutation)
    → value_at (fold apply pairs mutations) key ≡ fold (value_by key) (value_at pairs key) mutations
after_all key pairs [] = refl
after_all key pairs (mutation ∷ mutations) =
    after_all key (apply pairs mutation) mutations ∙ ap (λ v. fold (value_by key) v mutations) (after_one key pairs mutation)

pub after_batches : (key : List ℕ) (pairs : Map) (batches : List Batch)
    → value_at (fold apply_batch pairs batches) key ≡ fold (value_by_batch key) (value_at pairs key) batches
after_batches key pairs [] = refl
after_batches key pairs (batch ∷ batches) =
    after_batches key (apply_batch pairs batch) batches
    ∙ ap (λ v. fold (value_by_batch key) v batches) (after_all key pairs batch.mutations)
