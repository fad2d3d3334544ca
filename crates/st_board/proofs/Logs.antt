-- The batches of a log whose versions rise.
use Rattle.std.proofs.Common.{◌≡◌, ◌∙◌, ◌≤◌, ◌<◌, ◌++◌, ℕ, suc, Bool, true, false, cond, nat_lt, leb-true, leb-false, le-leb, List, [], ◌∷◌, fold, Option, Some, refl, sym, ap, subst, arith}
use Rattle.std.proofs.lemmas.Bool.{lt-leb}
use Rattle.std.proofs.lemmas.List.Sums.{fold-append}
use Rattle.std.proofs.lemmas.Option.{same_Some}
use Rattle.std.specs.List.{find}
use Rattle.st_mutation.specs.declared.batch.Batch.{Batch}
use Rattle.st_fold.specs.Map.{apply_batch, batches_to, folded, value_at}
use Rattle.st_fold.specs.Plain.{Rises}
use Rattle.st_fold.specs.Effects.{after_all}
use Rattle.st_mutation.specs.Effect.{value_by}
use Rattle.st_course.specs.Sent.{value_of}

-- the batch that comes next above a version
abbrev pub next_above : List Batch → ℕ → Option Batch
next_above log newest = find (λ batch. nat_lt newest batch.version) log

outside : (version : ℕ) (batch : Batch) (log : List Batch) → version < batch.version → batches_to version (batch ∷ log) ≡ batches_to version log
outside version batch log lt = ap (λ t. cond t (batch ∷ batches_to version log) (batches_to version log)) (lt-leb batch.version version lt)

inside : (version : ℕ) (batch : Batch) (log : List Batch) → batch.version ≤ version → batches_to version (batch ∷ log) ≡ batch ∷ batches_to version log
inside version batch log le = ap (λ t. cond t (batch ∷ batches_to version log) (batches_to version log)) (le-leb batch.version version le)

-- nothing of a log that rises from a version on is up to it
pub none_to : (log : List Batch) (from version : ℕ) → Rises from log → version ≤ from → batches_to version log ≡ []
none_to [] from version rises le = refl
none_to (batch ∷ log) from version rises le =
    let lt = rises.0 in
    outside version batch log (omega arith) ∙ none_to log batch.version version rises.1 (omega arith)

not_less : (a b : ℕ) → nat_lt a b ≡ false → b ≤ a
not_less a b is = let gt = leb-false (suc a) b is in omega arith

-- the batch that comes next above a version
pub record IsNext (log : List Batch) (newest : ℕ) (batch : Batch) : Type 0 where
  pub above : newest < batch.version
  pub between : (version : ℕ) → newest ≤ version → version < batch.version → batches_to version log ≡ batches_to newest log
  pub behind : batches_to batch.version log ≡ batches_to newest log ++ batch ∷ []

pub is-next : (log : List Batch) (from newest : ℕ) (next : Batch) → Rises from log → next_above log newest ≡ Some next → IsNext log newest next
is-next [] from newest next rises is = absurd (cc (is))
is-next (batch ∷ log) from newest next rises is = by_test (nat_lt newest batch.version) refl is (is-next log batch.version newest next rises.1)
  where
    by_test : (t : Bool) → nat_lt newest batch.version ≡ t → cond t (Some batch) (next_above log newest) ≡ Some next
        → (next_above log newest ≡ Some next → IsNext log newest next) → IsNext (batch ∷ log) newest next
    by_test true lt is later =
        let one : batch ≡ next = same_Some batch next is in
        subst (IsNext (batch ∷ log) newest) one first
      where
        above : newest < batch.version
        above = leb-true (suc newest) batch.version lt

        none : (version : ℕ) → version < batch.version → batches_to version (batch ∷ log) ≡ []
        none version less = outside version batch log less ∙ none_to log batch.version version rises.1 (omega arith)

        first : IsNext (batch ∷ log) newest batch
        first = record {
          above = above;
          between = λ version le less. none version less ∙ sym (none newest above);
          behind =
              inside batch.version batch log (omega arith)
              ∙ ap (λ l. batch ∷ l) (none_to log batch.version batch.version rises.1 (omega arith))
              ∙ ap (λ l. l ++ batch ∷ []) (sym (none newest above));
        }
    by_test false lt is later =
        let rest = later is in
        let le : batch.version ≤ newest = not_less newest batch.version lt in
        record {
          above = rest.above;
          between = λ version le' less. inside version batch log (omega arith) ∙ ap (λ l. batch ∷ l) (rest.between version le' less) ∙ sym (inside newest batch log le);
          behind =
              inside next.version batch log (let above = rest.above in omega arith)
              ∙ ap (λ l. batch ∷ l) rest.behind
              ∙ ap (λ l. l ++ next ∷ []) (sym (inside newest batch log le));
        }

-- the value of a key behind the batch that comes next
pub value-next : (log : List Batch) (newest : ℕ) (next : Batch) (key : List ℕ) → IsNext log newest next
    → value_of log next.version key ≡ fold (value_by key) (value_of log newest key) next.mutations
value-next log newest next key is =
    ap (λ batches. value_at (fold apply_batch [] batches) key) is.behind
    ∙ ap (λ pairs. value_at pairs key) (fold-append apply_batch [] (batches_to newest log) (next ∷ []))
    ∙ after_all key (folded log newest) next.mutations

-- up to there it stays
pub value-between : (log : List Batch) (newest : ℕ) (next : Batch) (key : List ℕ) → IsNext log newest next
    → (version : ℕ) → newest ≤ version → version < next.version → value_of log version key ≡ value_of log newest key
value-between log newest next key is version low high = ap (λ batches. value_at (fold apply_batch [] batches) key) (is.between version low high)
