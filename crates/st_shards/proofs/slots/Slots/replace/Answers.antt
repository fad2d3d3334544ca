use Rattle.std.proofs.Common.{◌≡◌, ◌<◌, length, arith, ap}
use Rattle.st_model.specs.declared.piece.Piece.{Piece}
use Rattle.st_shards.proofs.Pairs.{in_spares, settled-set, settled-read}
use Rattle.st_shards.proofs.slots.Slots.replace.Goals as goal

pub index_mut-requires-2 : goal.index_mut-requires-2
index_mut-requires-2 c =
    let lt : c.args.at < length c.self.inside.spares.items =
    in_spares c.args.self.now c.self.inside.pieces.items c.self.inside.spares.items c.args.at c.self.view_is c.self.invariant c.requires in
    omega (arith, c.self.inside.spares.ok.0)

pub invariant_of-self : goal.invariant_of-self
invariant_of-self c =
    settled-set c.self.inside.pieces.items c.self.inside.spares.items c.args.at c.replace-piece.new.dest c.replace-spare.new.dest
    c.self.invariant (rw (c.replace-piece.ensures.after, c.replace-spare.ensures.after) c.slot.invariant)

pub invariant_of-result : goal.invariant_of-result
invariant_of-result c =
    let v : length c.self.inside.pieces.items ≡ length c.args.self.now = ap length c.self.view_is in
    settled-read c.self.inside.pieces.items c.self.inside.spares.items c.args.at c.index_mut.result.now c.replace-piece.result.phase
    c.index_mut-2.result.now c.replace-spare.result
    c.self.invariant (omega arith) c.index_mut.ensures.value c.index_mut-2.ensures.value
    (ap (λ (p : Piece). p.phase) c.replace-piece.ensures.value) c.replace-spare.ensures.value
