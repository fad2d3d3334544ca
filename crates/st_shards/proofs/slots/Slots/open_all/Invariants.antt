use Rattle.std.proofs.Common.{◌≡◌, ◌++◌, length, map, take, drop}
use Rattle.st_shards.specs.Blank.{opened_piece}
use Rattle.st_shards.proofs.slots.Slots.open_all.Given as goal

abbrev pub invariant-loop-at : goal.invariant-loop-at
invariant-loop-at l =
    (l.self ≡ map (opened_piece l.since l.available l.assigned) (take l.at l.initial.self) ++ drop l.at l.initial.self)
    × (length l.self ≡ length l.initial.self) × (l.at-end ≡ length l.initial.self)
