-- The log of two batches that the test plays.
use Rattle.std.proofs.Common.{◌≡◌, ℕ, cond, List, [], ◌∷◌, fold, None, nat_le, refl, sym, ap, subst, arith}
use Rattle.std.specs.List.{AllByRecursion}
use Rattle.st_fold.specs.Map.{apply_batch, batches_to, value_at}
use Rattle.st_key.specs.Spans.{all_keys}
use Rattle.st_model.specs.State.{assigned, move_span}
use Rattle.st_mutation.specs.declared.batch.Batch.{Batch}
use Rattle.st_board.specs.Logs.{HasShortKey}
use Rattle.st_board.specs.Rows.{IsRow, row_given, row_opening}
use Rattle.st_board.specs.Stands.{IsStill}
use Rattle.st_course.specs.Sent.{value_of}

module _ (first second : Batch) (row : IsRow first second) where
  abbrev log : List Batch
  log = first ∷ second ∷ []

  to : (version : ℕ) → batches_to version log ≡ cond (nat_le 1 version) (first ∷ cond (nat_le 2 version) (second ∷ []) []) (cond (nat_le 2 version) (second ∷ []) [])
  to version = λ i.
      cond (nat_le (row.version i) version) (first ∷ cond (nat_le (row.next_version i) version) (second ∷ []) []) (cond (nat_le (row.next_version i) version) (second ∷ []) [])

  pub row-still : IsStill (row_given first second) row_opening
  row-still = record {
    own = refl;
    available = refl;
    rises = ((let e = row.version in omega arith), ((let e = row.version in let f = row.next_version in omega arith), tt));
    no_moves = (row.moves, (row.next_moves, tt));
    short = (subst (AllByRecursion HasShortKey) (sym row.mutations) (omega arith, tt), (subst (AllByRecursion HasShortKey) (sym row.next_mutations) tt, tt));
  }

  pub row-assigned : assigned (all_keys ∷ []) log 0 ≡ all_keys ∷ []
  row-assigned = ap (λ batches. fold (λ s b. fold move_span s b.moves) (all_keys ∷ []) batches) (to 0)

  pub row-value : (key : List ℕ) → None ≡ value_of log 0 key
  row-value key = sym (ap (λ batches. value_at (fold apply_batch [] batches) key) (to 0))
