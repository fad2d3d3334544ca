use Rattle.std.proofs.Common.{◌<◌, length, get_or, Some, sym, subst, ap, ◌∙◌}
use Rattle.std.specs.Option.{option_map}
use Rattle.st_model.specs.declared.piece.Piece.{Piece}
use Rattle.st_model.specs.Partition.{phase_at}
use Rattle.st_shards.proofs.shard_map.ShardMap.phase_at.Goals as goal

pub bounds-as_slice-at : goal.bounds-as_slice-at
bounds-as_slice-at c =
    subst (λ ps. c.place_of-at.result < length ps) (sym c.as_slice.ensures) (c.place_of-at.ensures.in_range c.self.invariant.0 c.requires)

pub returns : goal.returns
returns c =
    ap (λ ps. phase_at ps c.args.key.now) (sym c.self.view_is)
    ∙ (ap (option_map (λ (piece : Piece). piece.phase))
    ((c.place_of-at.ensures.held c.self.invariant.0 (c.place_of-at.ensures.in_range c.self.invariant.0 c.requires)).1 c.index-as_slice-at.result).1
    ∙ ap (λ ps. Some (get_or ps c.place_of-at.result c.index-as_slice-at.result).phase) (sym c.as_slice.ensures))
