use Rattle.std.proofs.Common.{subst, sym}
use Rattle.st_model.specs.Partition.{IsPartition}
use Rattle.st_shards.specs.Begun.{AreBegun}
use Rattle.st_shards.proofs.Begun.{begun-inject}
use Rattle.st_shards.proofs.shard_map.ShardMap.inject.Goals as goal

pub invariant_of-self : goal.invariant_of-self
invariant_of-self c =
    subst (λ ps. IsPartition ps × AreBegun ps) (sym c.inject_all.ensures) (
      c.phases_change_in_place.ensures.injected c.args.version c.self.inside.slots c.self.invariant.0,
      begun-inject c.args.version c.self.inside.slots c.self.invariant.1,
    )
