-- The value of one key in a map that operations change.
use Rattle.std.proofs.Common.{◌≡◌, ◌∙◌, ℕ, List, [], ◌∷◌, fold, refl, ap}
use Rattle.st_fold.specs.Effects.{after_one}
use Rattle.st_fold.specs.Map.{Map, value_at}
use Rattle.st_mutation.specs.declared.batch.Mutation.TheVariants as mutation
use Rattle.st_ops.specs.declared.op.Op.{Op}
use Rattle.st_ops.specs.declared.op.Op.TheVariants.{Set, Clear, SnapItem, SnapEnd, Commit}
use Rattle.st_engine.specs.Behind.{value_behind, value_by_op}
use Rattle.st_engine.specs.Replay.{op_on, ops_on}

value-op_on : (pairs : Map) (op : Op) (key : List ℕ) → value_at (op_on pairs op) key ≡ value_by_op key (value_at pairs key) op
value-op_on pairs (Set set value) key = after_one key pairs (mutation.Set set value)
value-op_on pairs (Clear begin end) key = after_one key pairs (mutation.Clear (record { begin = begin; end = end }))
value-op_on pairs (SnapItem item value) key = refl
value-op_on pairs SnapEnd key = refl
value-op_on pairs Commit key = refl

pub value-ops_on : (pairs : Map) (ops : List Op) (key : List ℕ) → value_at (ops_on pairs ops) key ≡ value_behind key (value_at pairs key) ops
value-ops_on pairs [] key = refl
value-ops_on pairs (op ∷ ops) key =
    value-ops_on (op_on pairs op) ops key ∙ ap (λ value. fold (value_by_op key) value ops) (value-op_on pairs op key)
