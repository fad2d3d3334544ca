use Rattle.std.proofs.Common.{not, refl, subst, sym}
use Rattle.st_model.specs.Partition.{IsPartition}
use Rattle.st_model.specs.Pieces.{is_absent}
use Rattle.st_model.specs.declared.piece.Phase.TheVariants.{Absent}
use Rattle.st_mutation.specs.declared.batch.Move.TheVariants.{Release}
use Rattle.st_shards.specs.Begun.{AreBegun}
use Rattle.st_shards.proofs.Begun.{begun-change_within}
use Rattle.st_shards.proofs.shard_map.ShardMap.release.Goals as goal

pub invariant_of-self-2 : goal.invariant_of-self-2
invariant_of-self-2 c =
    subst (λ ps. IsPartition ps × AreBegun ps) (sym c.in_ok-change_within.ensures.ok) (
      c.moves_part_the_keys.ensures.partition c.args.version c.self.inside.slots (Release c.args.range.now) c.self.invariant.0,
      begun-change_within c.args.range.now (λ phase. not (is_absent phase)) (λ phase. Absent c.args.version) c.self.inside.slots
          (λ begin phase b. refl) c.self.invariant.1,
    )
