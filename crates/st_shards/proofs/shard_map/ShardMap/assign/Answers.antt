use Rattle.std.proofs.Common.{subst, sym}
use Rattle.st_model.specs.Partition.{IsPartition}
use Rattle.st_model.specs.Pieces.{is_absent, waits}
use Rattle.st_mutation.specs.declared.batch.Move.TheVariants.{Assign}
use Rattle.st_shards.specs.Begun.{AreBegun}
use Rattle.st_shards.proofs.Begun.{begun-change_within, begun-waits}
use Rattle.st_shards.proofs.shard_map.ShardMap.assign.Goals as goal

pub invariant_of-self-2 : goal.invariant_of-self-2
invariant_of-self-2 c =
    subst (λ ps. IsPartition ps × AreBegun ps) (sym c.in_ok-change_within.ensures.ok) (
      c.moves_part_the_keys.ensures.partition 0 c.self.inside.slots (Assign c.args.range.now) c.self.invariant.0,
      begun-change_within c.args.range.now is_absent waits c.self.inside.slots begun-waits c.self.invariant.1,
    )
