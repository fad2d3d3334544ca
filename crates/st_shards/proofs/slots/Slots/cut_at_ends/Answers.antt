use Rattle.std.proofs.Common.{◌≡◌, ◌<◌, length, arith, ap, sym, subst, ◌∙◌}
use Rattle.st_model.specs.Partition.{IsPartition}
use Rattle.st_model.specs.Pieces.{cut_where, is_absent}
use Rattle.st_shards.proofs.Openings.{cut_more}
use Rattle.st_shards.proofs.slots.Slots.cut_at_ends.Goals as goal

pub loop-range-preserved : goal.loop-range-preserved
loop-range-preserved c =
    let first : c.cut.new.self ≡ cut_where is_absent c.range-item.result.begin c.loop-range.self =
    c.in_ok-cut.ensures.ok ∙ ap (λ k. cut_where is_absent k c.loop-range.self) c.begin.ensures.value in
    let second : c.cut-in-loop-range.new.self ≡ cut_where is_absent c.range-item.result.end c.cut.new.self =
    c.in_ok-cut-2.ensures.ok ∙ ap (λ k. cut_where is_absent k c.cut.new.self) c.end.ensures.value in
    let lt : c.loop-range.range-index < length c.args.ranges.now = omega arith in
    record {
      parted =
          subst IsPartition (sym second)
          (c.cuts_part_the_keys.ensures.partition is_absent c.range-item.result.end c.cut.new.self
          (subst IsPartition (sym first)
          (c.cuts_part_the_keys.ensures.partition is_absent c.range-item.result.begin c.loop-range.self c.loop-range.invariant.parted)));
      cut = λ since parts e.
          cut_more since parts c.args.ranges.now c.loop-range.range-index c.range-item.result c.loop-range.self c.cut.new.self
          c.cut-in-loop-range.new.self lt c.range-item.is (c.loop-range.invariant.cut since parts e) first second;
    }
