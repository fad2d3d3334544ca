-- The keys and values of a log's maps are short where the log's are.
use Rattle.std.proofs.Common.{◌≡◌, ◌∙◌, ◌≤◌, ℕ, Bool, true, false, cond, List, [], ◌∷◌, filter, fold, length, bytes_eq, Option, Some, None, refl, sym, ap, subst}
use Rattle.std.proofs.lemmas.Option.{same_Some}
use Rattle.std.specs.List.{AllByRecursion}
use Rattle.std.specs.Option.{ForSome}
use Rattle.std.specs.Prelude.{nat_le}
use Rattle.st_atomic.specs.Atomic.{changed}
use Rattle.st_atomic.specs.declared.AtomicOp.{AtomicOp}
use Rattle.st_fold.specs.Effects.{equal_bytes}
use Rattle.st_fold.specs.Map.{batches_to, folded, value_at}
use Rattle.st_key.specs.Spans.{Span, within}
use Rattle.st_mutation.specs.Effect.{value_by, value_by_batch}
use Rattle.st_mutation.specs.declared.batch.Batch.{Batch}
use Rattle.st_mutation.specs.declared.batch.Mutation.{Mutation}
use Rattle.st_mutation.specs.declared.batch.Mutation.TheVariants.{Set, Clear, Atomic}
use Rattle.st_session.specs.Logs.{AreShort, IsShort}
use Rattle.st_session.specs.Seen.{AreShortIn, IsMapOf}

-- atomic operations keep values short
abbrev pub Stays : Type 0
Stays = (op : AtomicOp) (old : Option (List ℕ)) (operand : List ℕ)
    → ForSome old (λ bytes. length bytes ≤ 100000) → length operand ≤ 100000
    → ForSome (changed op old operand) (λ bytes. length bytes ≤ 100000)

-- a value that the key has is short, and so is the key
abbrev IsShortPair : List ℕ → Option (List ℕ) → Type 0
IsShortPair key value = (found : List ℕ) → value ≡ Some found → (length key ≤ 10001) × (length found ≤ 100000)

module _ (stays : Stays) (key : List ℕ) where
  by-test : (t : Bool) (other : List ℕ) (after before : Option (List ℕ)) → bytes_eq key other ≡ t → length other ≤ 10001
      → ForSome after (λ bytes. length bytes ≤ 100000) → IsShortPair key before → IsShortPair key (cond t after before)
  by-test true other after before is long short pair = λ found there. (subst (λ (k : List ℕ). length k ≤ 10001) (sym (equal_bytes key other is)) long, short found there)
  by-test false other after before is long short pair = pair

  one-of : (value : List ℕ) → length value ≤ 100000 → ForSome (Some value) (λ bytes. length bytes ≤ 100000)
  one-of value long found there = subst (λ (v : List ℕ). length v ≤ 100000) (same_Some value found there) long

  by-mutation : (before : Option (List ℕ)) (mutation : Mutation) → IsShort mutation → IsShortPair key before → IsShortPair key (value_by key before mutation)
  by-mutation before (Set other value) short pair = by-test (bytes_eq key other) other (Some value) before refl short.0 (one-of value short.1) pair
  by-mutation before (Clear span) short pair = by_span (within span key)
    where
      by_span : (t : Bool) → IsShortPair key (cond t None before)
      by_span true = λ found there. cc
      by_span false = pair
  by-mutation before (Atomic op other operand) short pair =
      by-test (bytes_eq key other) other (changed op before operand) before refl short.0 (stays op before operand (λ found there. (pair found there).1) short.1) pair

  by-mutations : (before : Option (List ℕ)) (mutations : List Mutation) → AllByRecursion IsShort mutations → IsShortPair key before → IsShortPair key (fold (value_by key) before mutations)
  by-mutations before [] short pair = pair
  by-mutations before (mutation ∷ mutations) short pair = by-mutations (value_by key before mutation) mutations short.1 (by-mutation before mutation short.0 pair)

  by-batches : (before : Option (List ℕ)) (batches : List Batch) → AreShort batches → IsShortPair key before → IsShortPair key (fold (value_by_batch key) before batches)
  by-batches before [] short pair = pair
  by-batches before (batch ∷ batches) short pair = by-batches (value_by_batch key before batch) batches short.1 (by-mutations before batch.mutations short.0 pair)

kept-short : (p : Batch → Bool) (log : List Batch) → AreShort log → AreShort (filter p log)
kept-short p [] short = tt
kept-short p (batch ∷ log) short =
    elim (p batch) as (λ t. AreShort (cond t (batch ∷ filter p log) (filter p log))) [ true ↦ (short.0, kept-short p log short.1) | false ↦ kept-short p log short.1 ]

-- the pairs of a version are short, and those of a view that has them
pub short-in : Stays → ((log : List Batch) (version : ℕ) (key : List ℕ) → value_at (folded log version) key ≡ fold (value_by_batch key) None (batches_to version log))
    → (log : List Batch) → AreShort log → (version : ℕ) (value : List ℕ → Option (List ℕ)) (span : Span) → IsMapOf value span (folded log version) → AreShortIn span value
short-in stays alone log short version value span map = λ key found inside there.
    by-batches stays key None (batches_to version log) (kept-short (λ batch. nat_le batch.version version) log short) (λ none is. cc) found
    (sym (map.values key inside ∙ alone log version key) ∙ there)
