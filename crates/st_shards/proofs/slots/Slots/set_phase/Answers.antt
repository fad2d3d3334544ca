use Rattle.std.proofs.Common.{None, ◌<◌, length, arith}
use Rattle.st_shards.proofs.Pairs.{in_spares, settled-set}
use Rattle.st_shards.proofs.slots.Slots.set_phase.Goals as goal

pub index_mut-requires-2 : goal.index_mut-requires-2
index_mut-requires-2 c =
    let lt : c.args.at < length c.self.inside.spares.items =
    in_spares c.args.self.now c.self.inside.pieces.items c.self.inside.spares.items c.args.at c.self.view_is c.self.invariant c.requires.in_range in
    omega (arith, c.self.inside.spares.ok.0)

pub invariant_of-self : goal.invariant_of-self
invariant_of-self c =
    settled-set c.self.inside.pieces.items c.self.inside.spares.items c.args.at
    (record { begin = c.index_mut.result.now.begin; end = c.index_mut.result.now.end; phase = c.args.phase }) None
    c.self.invariant c.requires.plain
