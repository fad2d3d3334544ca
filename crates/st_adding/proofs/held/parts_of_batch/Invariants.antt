use Rattle.std.proofs.Common.{◌≡◌, map, take}
use Rattle.st_adding.specs.Updates.{updates_in}
use Rattle.st_adding.proofs.held.parts_of_batch.Given as goal

-- the parts of the mutations so far
abbrev pub invariant-loop-mutation : goal.invariant-loop-mutation
invariant-loop-mutation l =
    l.parts.items ≡ updates_in l.to (map (λ mutation. (l.batch.version, mutation)) (take l.mutation-index l.mutation-items))
