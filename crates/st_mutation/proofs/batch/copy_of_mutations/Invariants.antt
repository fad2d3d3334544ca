use Rattle.std.proofs.Common.{◌≡◌, take}
use Rattle.st_mutation.proofs.batch.copy_of_mutations.Given as goal

abbrev pub invariant-loop-mutation : goal.invariant-loop-mutation
invariant-loop-mutation l = l.copy ≡ take l.mutation-index l.mutations
