use Rattle.std.proofs.Common.{◌≡◌, ◌<◌, [], length, arith}
use Rattle.st_model.specs.declared.piece.Piece.{Piece}
use Rattle.st_model.specs.declared.piece.Phase.TheVariants.{Readable}
use Rattle.st_model.specs.Pieces.{inject}
use Rattle.st_shards.proofs.Cuts.{map_one_more}
use Rattle.st_shards.proofs.slots.Slots.inject_all.Goals as goal

pub loop-at-preserved : goal.loop-at-preserved
loop-at-preserved c =
    let d : Piece = record { begin = []; end = []; phase = Readable } in
    let same : length c.as_slice-at-end.result.now ≡ length c.args.self.now = c.loop-at.invariant.2 in
    let lt : c.loop-at.at < length c.args.self.now = omega arith in
    let more =
    map_one_more (inject c.args.version) c.args.self.now c.loop-at.self c.inject_one.new.self
    c.loop-at.at d lt c.loop-at.invariant.0 c.loop-at.invariant.1 (c.inject_one.ensures d) in
    (more.0, more.1, same)
