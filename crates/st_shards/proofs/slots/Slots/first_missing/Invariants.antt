use Rattle.std.proofs.Common.{◌≡◌, false}
use Rattle.std.specs.List.{AllWithin}
use Rattle.st_shards.specs.Unserved.{is_missing}
use Rattle.st_shards.proofs.slots.Slots.first_missing.Given as goal

abbrev pub invariant-loop-at : goal.invariant-loop-at
invariant-loop-at l = AllWithin (λ piece. is_missing l.range piece ≡ false) l.self 0 l.at
