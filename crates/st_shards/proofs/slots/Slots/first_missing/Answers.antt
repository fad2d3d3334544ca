use Rattle.std.proofs.Common.{◌≡◌, ◌<◌, true, length, get_or, arith, ap, subst, sym, ◌∙◌}
use Rattle.st_key.specs.Spans.{key_less}
use Rattle.st_shards.proofs.Reading.{none_behind, found_at, none_at_all}
use Rattle.st_shards.proofs.slots.Slots.first_missing.Goals as goal

pub returns-then-lies_behind : goal.returns-then-lies_behind
returns-then-lies_behind c =
    none_behind c.args.range.now c.args.self.now c.as_slice-pieces.result.now c.loop-at.at c.index-pieces-at.result c.requires
    c.as_slice-pieces.ensures c.index-pieces-at.is c.loop-at.invariant (sym c.lies_behind.ensures ∙ c.if-lies_behind.true)

pub returns-then-is_unserved : goal.returns-then-is_unserved
returns-then-is_unserved c =
    let same : length c.as_slice-pieces.result.now ≡ length c.args.self.now = ap length c.as_slice-pieces.ensures in
    let test = c.loop-at-test.true in
    let lt : c.loop-at.at < length c.args.self.now = omega (arith, test, same) in
    found_at c.args.range.now c.args.self.now c.as_slice-pieces.result.now c.loop-at.at c.index-pieces-at.result
    c.as_slice-pieces.ensures c.index-pieces-at.is lt c.loop-at.invariant
    (sym c.lies_behind.ensures ∙ c.if-lies_behind.false) (sym c.is_unserved.ensures ∙ c.if-is_unserved.true)
    (subst (λ k. key_less k (get_or c.args.self.now c.loop-at.at c.index-pieces-at.result).end ≡ true)
    (c.bytes.ensures.value ∙ c.begin.ensures.value)
    (c.place_of-at.ensures.ending c.requires c.loop-at.at c.index-pieces-at.result c.loop-at.auto.at lt))

pub returns : goal.returns
returns c =
    let same : length c.as_slice-pieces.result.now ≡ length c.args.self.now = ap length c.as_slice-pieces.ensures in
    let test = c.loop-at-test.false in
    none_at_all c.args.range.now c.args.self.now c.loop-at.at c.loop-at.invariant (omega (arith, test, same))
