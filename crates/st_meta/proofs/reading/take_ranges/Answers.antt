use Rattle.std.proofs.Common.{◌≡◌, ◌∙◌, ◌++◌, ◌+◌, ◌-◌, List, Some, None, ap, sym, rules}
use Rattle.std.specs.Option.{option_map}
use Rattle.st_key.specs.Spans.{Span}
use Rattle.st_meta.specs.Reading.{range_at, spans_at}
use Rattle.st_meta.proofs.Spans.{spans-more, spans-none}
use Rattle.st_meta.proofs.reading.take_ranges.Goals as goal

pub returns-in_default : goal.returns-in_default
returns-in_default c =
    let none : range_at c.loop.rest.now ≡ None = search rules in
    ap (option_map (λ (later : List Span). c.loop.ranges.items ++ later)) (sym (spans-none c.loop.counter c.args.count c.loop.rest.now c.loop-test.true none))
    ∙ c.loop.invariant

pub loop-preserved : goal.loop-preserved
loop-preserved c =
    let is : range_at c.loop.rest.now ≡ Some (c.in-Some.range, c.in-Some.behind.now) = search rules in
    ap (λ (items : List Span). option_map (λ (later : List Span). items ++ later) (spans_at (c.args.count - (c.loop.counter + 1)) c.in-Some.behind.now)) c.in_ok-push.ensures.items
    ∙ spans-more c.loop.counter c.args.count c.loop.rest.now c.loop.ranges.items c.in-Some.range c.in-Some.behind.now c.loop-test.true is
    ∙ c.loop.invariant
