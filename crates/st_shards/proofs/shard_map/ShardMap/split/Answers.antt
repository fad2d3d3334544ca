use Rattle.std.proofs.Common.{subst}
use Rattle.std.specs.Prelude.{Ok, Err}
use Rattle.st_model.specs.Partition.{phase_at}
use Rattle.st_model.specs.Pieces.{begins, wants_block, stops_at, split_piece}
use Rattle.st_shards.specs.Parts.{parts_list}
use Rattle.st_shards.specs.Refusals.{RefusesNotDue, IsSplitOff}
use Rattle.st_shards.proofs.Places.{changed_is, refusal_is, handed_on, put_keeps, fill-split, split_due}
use Rattle.st_shards.proofs.shard_map.ShardMap.split.Goals as goal

pub returns-in_err-parts-clause-refused : goal.returns-in_err-parts-clause-refused
returns-in_err-parts-clause-refused c =
    handed_on (begins (wants_block) c.args.begin.now c.args.self.now) (phase_at c.args.self.now c.args.begin.now) c.in_err-parts.field-0.0
    c.from_residual.result c.from_residual.ensures.1
    (subst (λ ps. RefusesNotDue {A = Unit {0}} (begins (wants_block) c.args.begin.now ps) (phase_at ps c.args.begin.now) (Err c.in_err-parts.field-0.0))
    c.self.view_is
    (refusal_is {A = Unit {0}} (wants_block) c.args.begin.now c.self.inside.slots c.as_slice.result.now c.place_at-place.result c.index-as_slice-place.result
    (Err c.in_err-parts.field-0.0)
    (c.pieces_change_at_a_place.ensures.begins (wants_block) c.args.begin.now c.self.inside.slots c.place_at-place.result
    c.index-as_slice-place.result c.self.invariant.0 c.place_at-place.ensures.held)
    (c.place_at-place.ensures.held.1 c.index-as_slice-place.result).1
    c.index-as_slice-place.is c.as_slice.ensures c.in_err-parts.ensures.refused))

pub returns-clause-refused : goal.returns-clause-refused
returns-clause-refused c =
    subst (λ ps. RefusesNotDue {A = Unit {0}} (begins (wants_block) c.args.begin.now ps) (phase_at ps c.args.begin.now) (Ok (tt {0})))
    c.self.view_is
    (refusal_is {A = Unit {0}} (wants_block) c.args.begin.now c.self.inside.slots c.as_slice.result.now c.place_at-place.result c.index-as_slice-place.result
    (Ok (tt {0}))
    (c.pieces_change_at_a_place.ensures.begins (wants_block) c.args.begin.now c.self.inside.slots c.place_at-place.result
    c.index-as_slice-place.result c.self.invariant.0 c.place_at-place.ensures.held)
    (c.place_at-place.ensures.held.1 c.index-as_slice-place.result).1
    c.index-as_slice-place.is c.as_slice.ensures c.in_ok-parts.ensures.refused)

pub invariant_of-self-2 : goal.invariant_of-self-2
invariant_of-self-2 c =
    put_keeps c.self.inside.slots c.as_slice.result.now c.put_parts.new.self (parts_list c.in_ok-parts.parts) c.place_at-place.result
    c.index-as_slice-place.result c.self.invariant c.place_at-place.ensures.in_range c.index-as_slice-place.is c.as_slice.ensures
    (fill-split c.args.durable c.in_ok-parts.ensures.ok.0 c.index-as_slice-place.result (parts_list c.in_ok-parts.parts) c.in_ok-parts.ensures.ok.2 c.in_ok-parts.ensures.ok.1)
    c.in_ok-put_parts.ensures.ok

pub returns-clause-ok : goal.returns-clause-ok
returns-clause-ok c =
    subst (λ ps. IsSplitOff c.args.durable c.args.begin.now ps c.put_parts.new.self) c.self.view_is (
      c.in_ok-parts.ensures.ok.0,
      split_due c.args.begin.now c.in_ok-parts.ensures.ok.0 c.self.inside.slots c.as_slice.result.now c.place_at-place.result
          c.index-as_slice-place.result
          (c.pieces_change_at_a_place.ensures.begins (stops_at c.in_ok-parts.ensures.ok.0) c.args.begin.now c.self.inside.slots
          c.place_at-place.result c.index-as_slice-place.result c.self.invariant.0 c.place_at-place.ensures.held)
          c.index-as_slice-place.is c.as_slice.ensures c.in_ok-parts.ensures.refused c.in_ok-parts.ensures.ok.1,
      changed_is c.args.begin.now (split_piece c.args.durable c.in_ok-parts.ensures.ok.0) c.self.inside.slots c.as_slice.result.now
          c.put_parts.new.self (parts_list c.in_ok-parts.parts)
          c.place_at-place.result c.index-as_slice-place.result (wants_block c.index-as_slice-place.result)
          (c.pieces_change_at_a_place.ensures.changed c.args.begin.now (split_piece c.args.durable c.in_ok-parts.ensures.ok.0)
          c.self.inside.slots c.place_at-place.result
          c.index-as_slice-place.result c.self.invariant.0 c.place_at-place.ensures.held)
          c.index-as_slice-place.is c.as_slice.ensures c.in_ok-parts.ensures.refused c.in_ok-parts.ensures.ok.2 c.in_ok-put_parts.ensures.ok,
    )
