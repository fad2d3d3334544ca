use Rattle.std.proofs.Common.{◌≡◌, ◌<◌, length, arith, ap}
use Rattle.st_model.specs.Pieces.{rows_in_base}
use Rattle.st_shards.proofs.Pairs.{in_spares, settled-set, settled-read, phase_set}
use Rattle.st_shards.proofs.slots.Slots.settle.Goals as goal

pub index_mut-requires : goal.index_mut-requires
index_mut-requires c =
    let lt : c.args.at < length c.self.inside.spares.items =
    in_spares c.args.self.now c.self.inside.pieces.items c.self.inside.spares.items c.args.at c.self.view_is c.self.invariant c.requires in
    omega (arith, c.self.inside.spares.ok.0)

pub settled-requires : goal.settled-requires
settled-requires c =
    let v : length c.self.inside.pieces.items ≡ length c.args.self.now = ap length c.self.view_is in
    settled-read c.self.inside.pieces.items c.self.inside.spares.items c.args.at c.index_mut-piece.result.now c.replace-phase.result
    c.index_mut.result.now c.replace-spare.result
    c.self.invariant (omega arith) c.index_mut-piece.ensures.value c.index_mut.ensures.value
    c.replace-phase.ensures.value c.replace-spare.ensures.value

pub invariant_of-self : goal.invariant_of-self
invariant_of-self c =
    settled-set c.self.inside.pieces.items c.self.inside.spares.items c.args.at
    (record { begin = c.index_mut-piece.result.now.begin; end = c.index_mut-piece.result.now.end; phase = c.settled.result })
    c.replace-spare.new.dest
    c.self.invariant (rw c.replace-spare.ensures.after c.settled.ensures.settled)

pub returns : goal.returns
returns c = λ other.
    phase_set c.args.self.now c.self.inside.pieces.items c.args.at c.index_mut-piece.result.now other c.settled.result c.replace-phase.result
    (rows_in_base c.args.durable) c.self.view_is c.requires c.index_mut-piece.ensures.value c.replace-phase.ensures.value
    c.settled.ensures.value
