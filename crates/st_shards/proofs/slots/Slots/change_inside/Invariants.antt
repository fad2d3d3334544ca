use Rattle.std.proofs.Common.{◌≡◌, ◌++◌, length, map, take, drop}
use Rattle.st_shards.specs.Changes.{change_piece}
use Rattle.st_shards.proofs.slots.Slots.change_inside.Given as goal

abbrev pub invariant-loop-at : goal.invariant-loop-at
invariant-loop-at l =
    (l.self ≡ map (change_piece l.range l.change) (take l.at l.initial.self) ++ drop l.at l.initial.self)
    × (length l.self ≡ length l.initial.self) × (l.at-end ≡ length l.initial.self)
