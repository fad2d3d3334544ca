-- A log of two batches, and its board.
use Rattle.std.proofs.Common.{◌≡◌, ◌∙◌, ℕ, cond, List, [], ◌∷◌, fold, Some, None, nat_le, nat_lt, refl, sym, ap, subst, arith}
use Rattle.std.specs.List.{AllByRecursion, find}
use Rattle.st_fold.specs.Map.{apply, apply_batch, batches_to}
use Rattle.st_key.specs.Spans.{all_keys}
use Rattle.st_model.specs.State.{State, assigned, move_span, next_batch}
use Rattle.st_mutation.specs.declared.batch.Batch.{Batch}
use Rattle.st_versioned.specs.Root.{value_at}
use Rattle.st_board.specs.Logs.{HasShortKey}
use Rattle.st_board.specs.Rows.{IsRow, row_given, row_opening, row_pairs}
use Rattle.st_board.specs.Stands.{IsStill}
use Rattle.st_course.specs.Sent.{value_of}

module _ (first second : Batch) (row : IsRow first second) where
  abbrev log : List Batch
  log = first ∷ second ∷ []

  to : (version : ℕ) → batches_to version log ≡ cond (nat_le 1 version) (first ∷ cond (nat_le 2 version) (second ∷ []) []) (cond (nat_le 2 version) (second ∷ []) [])
  to version = λ i.
      cond (nat_le (row.version i) version) (first ∷ cond (nat_le (row.next_version i) version) (second ∷ []) []) (cond (nat_le (row.next_version i) version) (second ∷ []) [])

  pub row-still : IsStill (row_given first second) row_opening
  row-still = record {
    own = refl;
    available = refl;
    rises = ((let e = row.version in omega arith), ((let e = row.version in let f = row.next_version in omega arith), tt));
    no_moves = (row.moves, (row.next_moves, tt));
    short = (subst (AllByRecursion HasShortKey) (sym row.mutations) (omega arith, tt), (subst (AllByRecursion HasShortKey) (sym row.next_mutations) tt, tt));
  }

  pub row-assigned : assigned (all_keys ∷ []) log 0 ≡ all_keys ∷ []
  row-assigned = ap (λ batches. fold (λ s b. fold move_span s b.moves) (all_keys ∷ []) batches) (to 0)

  pub row-value : (key : List ℕ) → None ≡ value_of log 0 key
  row-value key = sym (ap (λ batches. value_at (fold apply_batch [] batches) key) (to 0))

  -- the pairs behind the first batch
  pub row-first : (key : List ℕ) → value_at row_pairs key ≡ value_of log 1 key
  row-first key = sym (ap (λ batches. value_at (fold apply_batch [] batches) key) (to 1) ∙ ap (λ mutations. value_at (fold apply [] mutations) key) row.mutations)

  pub row-next : (state : State) → state.newest ≡ 0 → next_batch (row_given first second) state ≡ Some first
  row-next state is =
      ap (find (λ b. nat_lt state.newest b.version)) (to 2)
      ∙ (λ i. cond (nat_lt (is i) (row.version i)) (Some first) (find (λ b. nat_lt state.newest b.version) (second ∷ [])))

  pub row-last : (state : State) → state.newest ≡ 1 → next_batch (row_given first second) state ≡ Some second
  row-last state is =
      ap (find (λ b. nat_lt state.newest b.version)) (to 2)
      ∙ (λ i. cond (nat_lt (is i) (row.version i)) (Some first) (cond (nat_lt (is i) (row.next_version i)) (Some second) None))
