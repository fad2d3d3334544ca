use Rattle.std.proofs.Common.{subst, sym}
use Rattle.st_model.specs.Partition.{IsPartition}
use Rattle.st_shards.specs.Begun.{AreBegun}
use Rattle.st_shards.proofs.Begun.{begun-first_pieces}
use Rattle.st_shards.proofs.shard_map.ShardMap.new.Goals as goal

pub invariant_of-result : goal.invariant_of-result
invariant_of-result c =
    subst (λ ps. IsPartition ps × AreBegun ps) (sym c.in_ok-slots.ensures) (
      c.openings_part_the_keys.ensures.partition c.args.since c.args.available.now c.args.assigned.now,
      begun-first_pieces c.args.since c.args.available.now c.args.assigned.now,
    )
