use Rattle.std.proofs.Common.{◌∙◌, sym, arith}
use Rattle.st_life.proofs.Polls.{found_open, still_shut}
use Rattle.st_life.proofs.readers.first_open.Goals as goal

pub returns-then-is_open : goal.returns-then-is_open
returns-then-is_open c =
    found_open c.args.reader c.args.asked.now c.loop-place.place c.index-asked-place.result (omega arith) c.index-asked-place.is
    c.loop-place.invariant (sym c.is_open.ensures ∙ c.if-is_open.true)

pub loop-place-preserved : goal.loop-place-preserved
loop-place-preserved c =
    still_shut c.args.reader c.args.asked.now c.loop-place.place c.index-asked-place.result (omega arith) c.index-asked-place.is
    c.loop-place.invariant (sym c.is_open.ensures ∙ c.if-is_open.false)
