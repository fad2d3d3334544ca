-- The list of the keys that are assigned has just those that the moves of the log leave to the server.
use Rattle.std.proofs.Common.{◌≡◌, ◌∙◌, ℕ, List, [], ◌∷◌, fold, refl, ap}
use Rattle.st_key.specs.Spans.{Span, holds}
use Rattle.st_mutation.specs.declared.batch.Batch.{Batch}
use Rattle.st_mutation.specs.declared.batch.Move.{Move}
use Rattle.st_mutation.specs.declared.batch.Move.TheVariants.{Assign, Release}
use Rattle.st_fold.specs.Assigned.{assigned_by, is_assigned}
use Rattle.st_fold.specs.Map.{batches_to}
use Rattle.st_model.specs.State.{assigned, move_span}
use Rattle.st_model.proofs.Bits.{holds-assigned, holds-released}

after_move : (spans : List Span) (key : List ℕ) (move : Move) → holds (move_span spans move) key ≡ assigned_by key (holds spans key) move
after_move spans key (Assign span) = holds-assigned spans span key
after_move spans key (Release span) = holds-released spans span key

after_moves : (spans : List Span) (key : List ℕ) (moves : List Move)
    → holds (fold move_span spans moves) key ≡ fold (assigned_by key) (holds spans key) moves
after_moves spans key [] = refl
after_moves spans key (move ∷ moves) =
    after_moves (move_span spans move) key moves
    ∙ ap (λ before. fold (assigned_by key) before moves) (after_move spans key move)

after_batches : (spans : List Span) (key : List ℕ) (batches : List Batch)
    → holds (fold (λ held batch. fold move_span held batch.moves) spans batches) key
    ≡ fold (λ before batch. fold (assigned_by key) before batch.moves) (holds spans key) batches
after_batches spans key [] = refl
after_batches spans key (batch ∷ batches) =
    after_batches (fold move_span spans batch.moves) key batches
    ∙ ap (λ held. fold (λ before later. fold (assigned_by key) before later.moves) held batches) (after_moves spans key batch.moves)

pub assigned_keys : (own : List Span) (log : List Batch) (version : ℕ) (key : List ℕ)
    → holds (assigned own log version) key ≡ is_assigned own log version key
assigned_keys own log version key = after_batches own key (batches_to version log)
