use Rattle.std.proofs.Common.{◌≡◌, drop, fold}
use Rattle.st_fold.specs.Map.{apply}
use Rattle.st_fold.proofs.plain.PlainMap.apply_all.Given as goal

-- the mutations that are left lead to the fold of all
abbrev pub invariant-loop-mutation : goal.invariant-loop-mutation
invariant-loop-mutation l =
    fold apply l.self (drop l.mutation-index l.mutations) ≡ fold apply l.fn.self l.mutations
