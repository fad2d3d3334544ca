use Rattle.std.proofs.Common.{subst, sym}
use Rattle.st_model.specs.Partition.{IsPartition}
use Rattle.st_model.specs.Pieces.{rows_in_base}
use Rattle.st_shards.specs.Begun.{AreBegun}
use Rattle.st_shards.proofs.Begun.{begun-by_phase, begun-rows_in_base}
use Rattle.st_shards.proofs.shard_map.ShardMap.settle.Goals as goal

pub invariant_of-self : goal.invariant_of-self
invariant_of-self c =
    subst (λ ps. IsPartition ps × AreBegun ps) (sym c.settle_all.ensures) (
      c.phases_change_in_place.ensures.partition (rows_in_base c.args.durable) c.self.inside.slots c.self.invariant.0,
      begun-by_phase (rows_in_base c.args.durable) c.self.inside.slots (begun-rows_in_base c.args.durable) c.self.invariant.1,
    )
