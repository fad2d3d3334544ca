use Rattle.std.proofs.Common.{◌≡◌, ◌++◌, length, map, take, drop}
use Rattle.st_model.specs.Pieces.{inject}
use Rattle.st_shards.proofs.slots.Slots.inject_all.Given as goal

abbrev pub invariant-loop-at : goal.invariant-loop-at
invariant-loop-at l =
    (l.self ≡ map (inject l.version) (take l.at l.initial.self) ++ drop l.at l.initial.self)
    × (length l.self ≡ length l.initial.self) × (l.at-end ≡ length l.initial.self)
