-- The batches that come next in a log whose versions rise.
use Rattle.std.proofs.Common.{◌≡◌, ℕ, ◌≤◌, Bool, true, false, nat_lt, nat_le, cond, List, [], ◌∷◌, ◌++◌, Some, None, drop, refl, sym, ap, ◌∙◌, le_refl, le_of_lt, le_trans, append_assoc, arith}
use Rattle.std.proofs.lemmas.Bool.{cond_both, cond-true, cond-false, le-ltb, lt-ltb, leb-false, lt-leb}
use Rattle.std.specs.List.{AllByRecursion, find}
use Rattle.st_fold.specs.Map.{batches_to}
use Rattle.st_fold.specs.Plain.{Rises}
use Rattle.st_mutation.specs.declared.batch.Batch.{Batch}
use Rattle.st_model.specs.Plain.{IsSplit, first_to, plain_state}
use Rattle.st_model.specs.State.{Given, next_batch}
use Rattle.st_model.proofs.Lists.{all_map, all_append}

abbrev is_after : ℕ → Batch → Bool
is_after newest batch = nat_lt newest batch.version

skips_below : (newest upto : ℕ) (applied left : List Batch) → AllByRecursion (λ batch. batch.version ≤ newest) applied
    → find (is_after newest) (batches_to upto (applied ++ left)) ≡ find (is_after newest) (batches_to upto left)
skips_below newest upto [] left below = refl
skips_below newest upto (batch ∷ applied) left below =
    let rest = skips_below newest upto applied left below.1 in
    cond_both (nat_le batch.version upto) (batch ∷ batches_to upto (applied ++ left)) (batches_to upto (applied ++ left))
    (λ batches. find (is_after newest) batches ≡ find (is_after newest) (batches_to upto left))
    (λ _. cond-false (nat_lt newest batch.version) (Some batch) (find (is_after newest) (batches_to upto (applied ++ left)))
    (le-ltb newest batch.version below.0)
    ∙ rest)
    (λ _. rest)

-- no batch of a log that begins above a version is up to it
pub none_to : (upto low : ℕ) (log : List Batch) → upto ≤ low → Rises low log → batches_to upto log ≡ []
none_to upto low [] above rises = refl
none_to upto low (batch ∷ later) above rises =
    cond-false (nat_le batch.version upto) (batch ∷ batches_to upto later) (batches_to upto later)
    (lt-leb batch.version upto (omega (arith, rises.0)))
    ∙ none_to upto batch.version later (omega (arith, rises.0)) rises.1

first_left : (newest upto : ℕ) (left : List Batch) → Rises newest left
    → find (is_after newest) (batches_to upto left) ≡ first_to upto left
first_left newest upto [] rises = refl
first_left newest upto (batch ∷ later) rises =
    elim (nat_le batch.version upto) as (λ v. nat_le batch.version upto ≡ v
    → find (is_after newest) (cond v (batch ∷ batches_to upto later) (batches_to upto later)) ≡ cond v (Some batch) None) [
      | true ↦ λ within. cond-true (nat_lt newest batch.version) (Some batch) (find (is_after newest) (batches_to upto later))
          (lt-ltb newest batch.version rises.0)
      | false ↦ λ above. ap (find (is_after newest))
          (none_to upto batch.version later (le_of_lt (leb-false batch.version upto above)) rises.1)
    ]
    refl

pub next_is : (given : Given) (newest : ℕ) (left : List Batch) → IsSplit given.log newest left
    → next_batch given (plain_state newest) ≡ first_to given.upto left
next_is given newest left split =
    ap (λ log. find (is_after newest) (batches_to given.upto log)) split.whole
    ∙ skips_below newest given.upto split.applied left split.below
    ∙ first_left newest given.upto left split.above

-- the first of the batches that are left, and the others
pub first_is : (upto : ℕ) (left : List Batch) (batch : Batch) → first_to upto left ≡ Some batch → left ≡ batch ∷ drop 1 left
first_is upto [] batch h = cc
first_is upto (other ∷ later) batch h =
    elim (nat_le other.version upto) as (λ v. cond v (Some other) None ≡ Some batch → (other ∷ later) ≡ batch ∷ later)
    [ true ↦ λ e. cc | false ↦ λ e. cc ]
    h

pub split_on : (log : List Batch) (newest : ℕ) (batch : Batch) (later : List Batch)
    → IsSplit log newest (batch ∷ later) → IsSplit log batch.version later
split_on log newest batch later split = record {
  applied = split.applied ++ batch ∷ [];
  whole = split.whole ∙ sym (append_assoc split.applied (batch ∷ []) later);
  below = all_append (λ b. b.version ≤ batch.version) split.applied (batch ∷ [])
      (all_map (λ b. b.version ≤ newest) (λ b. b.version ≤ batch.version)
      (λ b below. le_trans below (le_of_lt split.above.0)) split.applied split.below)
      (le_refl batch.version, tt);
  above = split.above.1;
}
