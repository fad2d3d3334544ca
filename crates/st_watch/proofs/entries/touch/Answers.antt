use Rattle.std.specs.Option.{option_copied}
use Rattle.std.specs.Prelude.{bytes_eq}
use Rattle.st_watch.specs.declared.entry.Entry.{Entry}
use Rattle.st_watch.specs.Layout.{after_value}
use Rattle.st_watch.specs.Watches.{after_touch}
use Rattle.st_watch.proofs.Changes.{is-touch, put-moved, put-others, put-parted, put-same}
use Rattle.st_watch.proofs.entries.touch.Goals as goal

pub wait_first-requires-clause-others : goal.wait_first-requires-clause-others
wait_first-requires-clause-others c =
    let key = c.args.key.now in
    let now = option_copied c.args.now in
    put-others (λ (e : Entry). bytes_eq e.standing.key key) (after_touch key now c.args.version) (after_value now c.args.version) (is-touch key now c.args.version)
    c.args.entries.now c.args.waiting c.run_of_key-run.result.from c.run_of_key-run.result.to c.requires c.run_of_key-run.ensures c.fire.new.entries c.fire.ensures.fired

pub returns-then-fire-clause-parted : goal.returns-then-fire-clause-parted
returns-then-fire-clause-parted c =
    let key = c.args.key.now in
    let now = option_copied c.args.now in
    put-parted (λ (e : Entry). bytes_eq e.standing.key key) (after_touch key now c.args.version) (after_value now c.args.version) (is-touch key now c.args.version)
    c.args.entries.now c.args.waiting c.run_of_key-run.result.from c.run_of_key-run.result.to c.requires c.run_of_key-run.ensures c.fire.new.entries c.fire.ensures.fired
    c.wait_first.new.entries c.wait_first.result c.wait_first.ensures.bound c.wait_first.ensures.first c.wait_first.ensures.others

pub returns-then-fire-clause-moved : goal.returns-then-fire-clause-moved
returns-then-fire-clause-moved c =
    let key = c.args.key.now in
    let now = option_copied c.args.now in
    put-moved (λ (e : Entry). bytes_eq e.standing.key key) (after_touch key now c.args.version) (after_value now c.args.version) (is-touch key now c.args.version)
    c.args.entries.now c.args.waiting c.run_of_key-run.result.from c.run_of_key-run.result.to c.requires c.run_of_key-run.ensures c.fire.new.entries c.fire.ensures.fired
    c.wait_first.new.entries c.wait_first.ensures.moved

pub returns-else-fire-clause-moved : goal.returns-else-fire-clause-moved
returns-else-fire-clause-moved c =
    let key = c.args.key.now in
    let now = option_copied c.args.now in
    put-same (λ (e : Entry). bytes_eq e.standing.key key) (after_touch key now c.args.version) (after_value now c.args.version) (is-touch key now c.args.version)
    c.args.entries.now c.args.waiting c.run_of_key-run.result.from c.run_of_key-run.result.to c.requires c.run_of_key-run.ensures c.fire.new.entries c.fire.ensures.fired
