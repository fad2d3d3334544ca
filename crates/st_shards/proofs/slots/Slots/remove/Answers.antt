use Rattle.std.proofs.Common.{◌<◌, length, arith}
use Rattle.st_shards.proofs.Pairs.{in_spares, settled-remove}
use Rattle.st_shards.proofs.slots.Slots.remove.Goals as goal

pub remove-requires-2 : goal.remove-requires-2
remove-requires-2 c =
    let lt : c.args.at < length c.self.inside.spares.items =
    in_spares c.args.self.now c.self.inside.pieces.items c.self.inside.spares.items c.args.at c.self.view_is c.self.invariant c.requires in
    omega (arith, c.self.inside.spares.ok.0)

pub invariant_of-self : goal.invariant_of-self
invariant_of-self c =
    rw (c.remove.ensures.items, c.remove-12.ensures.items)
    (settled-remove c.self.inside.pieces.items c.self.inside.spares.items c.args.at c.self.invariant)
