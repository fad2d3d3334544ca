use Rattle.std.proofs.Common.{◌≡◌, ◌∙◌, length, take, sym, ap}
use Rattle.st_fold.specs.Map.{Map}
use Rattle.st_fold.specs.Reading.{in_order, pairs_in, taken}
use Rattle.st_fold.proofs.Taken.{rows_are}
use Rattle.st_fold.proofs.plain.PlainMap.rows.Goals as goal

pub returns : goal.returns
returns c =
    let inside : Map = in_order c.args.reverse (pairs_in c.args.range.now c.args.self.now) in
    let same : c.in_order-pairs.result.items ≡ inside = c.in_order-pairs.ensures ∙ ap (in_order c.args.reverse) c.in_ok-pairs_in.ensures in
    let seen : c.deref.result.now ≡ inside = c.deref.ensures.value ∙ same in
    rows_are c.args.rows c.args.bytes c.count_taken-count.result c.len.result inside c.from_vec.result
    (c.count_taken-count.ensures ∙ ap (λ pairs. length (taken c.args.rows c.args.bytes pairs)) seen)
    (c.len.ensures ∙ sym c.deref.ensures.len ∙ ap length seen)
    (c.from_vec.ensures ∙ c.shrink_to_fit.ensures.items ∙ c.truncate.ensures.items ∙ ap (take c.count_taken-count.result) same)
