use Rattle.std.proofs.Common.{◌≡◌, ◌∙◌, ◌-◌, drop, length}
use Rattle.std.proofs.Common.{true, false, subst, take}
use Rattle.std.specs.List.{AllByRecursion}
use Rattle.st_key.specs.Spans.{key_less}
use Rattle.st_watch.specs.declared.entry.Entry.{Entry}
use Rattle.st_watch.proofs.Runs.{rising-drop, rising-take, run-of-range}
use Rattle.st_watch.proofs.places.run_of_range.Goals as goal

pub count_below-requires : goal.count_below-requires
count_below-requires c =
    rising-take (length c.args.entries.now - c.count_below-from.result) (drop c.count_below-from.result c.args.entries.now)
    (rising-drop c.count_below-from.result c.args.entries.now c.requires)

pub returns : goal.returns
returns c =
    let begin = c.bytes.ensures.value ∙ c.begin-begin.ensures.value in
    let end = c.bytes-2.ensures.value ∙ c.end-end.ensures.value in
    let xs = c.args.entries.now in
    let from = c.count_below-from.result in
    let n = c.count_below.result in
    run-of-range c.args.range.now xs from n c.count_below-from.ensures.bound c.count_below.ensures.bound
    (subst (λ k. AllByRecursion (λ (e : Entry). key_less e.standing.key k ≡ true) (take from xs)) begin c.count_below-from.ensures.first)
    (subst (λ k. AllByRecursion (λ (e : Entry). key_less e.standing.key k ≡ false) (drop from xs)) begin c.count_below-from.ensures.others)
    (subst (λ k. AllByRecursion (λ (e : Entry). key_less e.standing.key k ≡ true) (take n (take (length xs - from) (drop from xs)))) end c.count_below.ensures.first)
    (subst (λ k. AllByRecursion (λ (e : Entry). key_less e.standing.key k ≡ false) (drop n (take (length xs - from) (drop from xs)))) end c.count_below.ensures.others)
