use Rattle.std.proofs.Common.{◌-◌, drop, length}
use Rattle.st_watch.proofs.Runs.{rising-drop, rising-take, run-of-key}
use Rattle.st_watch.proofs.places.run_of_key.Goals as goal

pub count_to-requires : goal.count_to-requires
count_to-requires c =
    rising-take (length c.args.entries.now - c.count_below-from.result) (drop c.count_below-from.result c.args.entries.now)
    (rising-drop c.count_below-from.result c.args.entries.now c.requires)

pub returns : goal.returns
returns c =
    run-of-key c.args.key.now c.args.entries.now c.count_below-from.result c.count_to.result c.count_below-from.ensures.bound c.count_to.ensures.bound
    c.count_below-from.ensures.first c.count_below-from.ensures.others c.count_to.ensures.first c.count_to.ensures.others
