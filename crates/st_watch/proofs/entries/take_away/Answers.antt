use Rattle.std.proofs.Common.{◌≡◌, ◌∙◌, ◌-◌, ◌++◌, [], map, drop, take, ap, sym, subst, arith}
use Rattle.std.proofs.lemmas.List.{take-append-drop}
use Rattle.std.specs.List.Sorted.{IsPermutation}
use Rattle.st_key.specs.Spans.{within}
use Rattle.st_model.specs.declared.watch.WatchState.TheVariants.{Lost}
use Rattle.st_watch.specs.declared.entry.Entry.{Entry}
use Rattle.st_watch.specs.Layout.{in_state, with_change}
use Rattle.st_watch.specs.Watches.{after_loss}
use Rattle.st_watch.proofs.Changes.{is-loss, put-moved, put-others, put-parted, put-same}
use Rattle.st_watch.proofs.entries.take_away.Goals as goal

pub returns-then-run-clause-moved : goal.returns-then-run-clause-moved
returns-then-run-clause-moved c =
    let span = c.args.range.now in
    let from = c.run_of_range-run.result.from in
    let to = c.run_of_range-run.result.to in
    let xs = c.args.entries.now in
    let none : to - from ≡ 0 = omega (arith, c.if-run.true) in
    let made : take 0 (drop from xs) ≡ map (with_change (in_state (Lost c.args.version))) (take (to - from) (drop from xs)) =
    ap (λ n. map (with_change (in_state (Lost c.args.version))) (take n (drop from xs))) (sym none) in
    let same = put-same (λ (e : Entry). within span e.standing.key) (after_loss span c.args.version) (in_state (Lost c.args.version)) (is-loss span c.args.version)
    xs c.args.waiting from to c.requires c.run_of_range-run.ensures [] made in
    subst (λ l. IsPermutation (map (with_change (after_loss span c.args.version)) xs) l)
    (ap (λ n. take from xs ++ drop n (drop from xs)) none ∙ take-append-drop from xs) same

pub wait_first-requires-clause-others : goal.wait_first-requires-clause-others
wait_first-requires-clause-others c =
    let span = c.args.range.now in
    put-others (λ (e : Entry). within span e.standing.key) (after_loss span c.args.version) (in_state (Lost c.args.version)) (is-loss span c.args.version)
    c.args.entries.now c.args.waiting c.run_of_range-run.result.from c.run_of_range-run.result.to c.requires c.run_of_range-run.ensures c.lose.new.entries c.lose.ensures

pub returns-clause-parted : goal.returns-clause-parted
returns-clause-parted c =
    let span = c.args.range.now in
    put-parted (λ (e : Entry). within span e.standing.key) (after_loss span c.args.version) (in_state (Lost c.args.version)) (is-loss span c.args.version)
    c.args.entries.now c.args.waiting c.run_of_range-run.result.from c.run_of_range-run.result.to c.requires c.run_of_range-run.ensures c.lose.new.entries c.lose.ensures
    c.wait_first.new.entries c.wait_first.result c.wait_first.ensures.bound c.wait_first.ensures.first c.wait_first.ensures.others

pub returns-clause-moved : goal.returns-clause-moved
returns-clause-moved c =
    let span = c.args.range.now in
    put-moved (λ (e : Entry). within span e.standing.key) (after_loss span c.args.version) (in_state (Lost c.args.version)) (is-loss span c.args.version)
    c.args.entries.now c.args.waiting c.run_of_range-run.result.from c.run_of_range-run.result.to c.requires c.run_of_range-run.ensures c.lose.new.entries c.lose.ensures
    c.wait_first.new.entries c.wait_first.ensures.moved
