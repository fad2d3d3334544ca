use Rattle.std.proofs.Common.{◌≡◌, ℕ, List, drop, fold}
use Rattle.st_key.specs.Spans.{holds}
use Rattle.st_fold.specs.Assigned.{assigned_by}
use Rattle.st_fold.proofs.assigned.move_keys.Given as goal

-- the moves that are left lead to what all do
abbrev pub invariant-loop-change : goal.invariant-loop-change
invariant-loop-change l = (key : List ℕ)
    → fold (assigned_by key) (holds l.assigned key) (drop l.change-index l.moves)
    ≡ fold (assigned_by key) (holds l.fn.assigned key) l.moves
