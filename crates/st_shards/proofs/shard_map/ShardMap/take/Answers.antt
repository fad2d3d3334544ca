use Rattle.std.proofs.Common.{subst, sym}
use Rattle.st_model.specs.Partition.{IsPartition}
use Rattle.st_model.specs.Pieces.{rows_taken}
use Rattle.st_shards.specs.Begun.{AreBegun}
use Rattle.st_shards.proofs.Begun.{begun-by_phase, begun-rows_taken}
use Rattle.st_shards.proofs.shard_map.ShardMap.take.Goals as goal

pub invariant_of-self : goal.invariant_of-self
invariant_of-self c =
    subst (λ ps. IsPartition ps × AreBegun ps) (sym c.in_ok-self-inside.ensures) (
      c.phases_change_in_place.ensures.partition rows_taken c.self.inside.slots c.self.invariant.0,
      begun-by_phase rows_taken c.self.inside.slots begun-rows_taken c.self.invariant.1,
    )
