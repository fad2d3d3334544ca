use Rattle.std.proofs.Common.{◌≡◌, drop, fold}
use Rattle.st_mutation.specs.Effect.{value_by}
use Rattle.st_fold.proofs.value.value_after_all.Given as goal

-- the mutations that are left lead to the value after all
abbrev pub invariant-loop-mutation : goal.invariant-loop-mutation
invariant-loop-mutation l =
    fold (value_by l.key) l.found (drop l.mutation-index l.mutations)
    ≡ fold (value_by l.key) l.fn.before l.mutations
