use Rattle.std.proofs.Common.{◌≤◌, length, arith}
use Rattle.st_shards.proofs.Pairs.{in_spares_too, settled-insert}
use Rattle.st_shards.proofs.slots.Slots.insert.Goals as goal

pub insert-requires-2 : goal.insert-requires-2
insert-requires-2 c =
    let le : c.args.at ≤ length c.self.inside.spares.items =
    in_spares_too c.args.self.now c.self.inside.pieces.items c.self.inside.spares.items c.args.at c.self.view_is c.self.invariant c.requires in
    omega (arith, c.self.inside.spares.ok.0, c.reserve-2.ensures.len)

pub invariant_of-self-2 : goal.invariant_of-self-2
invariant_of-self-2 c =
    rw (c.in_ok-insert.ensures.items, c.in_ok-insert-2.ensures.items, c.reserve.ensures.items, c.reserve-2.ensures.items)
    (settled-insert c.self.inside.pieces.items c.self.inside.spares.items c.args.at c.slot.inside.piece c.slot.inside.spare
    c.self.invariant c.slot.invariant)
