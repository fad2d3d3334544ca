use Rattle.std.proofs.Common.{arith}
use Rattle.st_model.specs.declared.watch.WatchState.TheVariants.{Lost}
use Rattle.st_watch.specs.Layout.{in_state, with_change}
use Rattle.st_watch.proofs.Lists.{mapped-next}
use Rattle.st_watch.proofs.entries.lose.Goals as goal

pub loop-entry-preserved : goal.loop-entry-preserved
loop-entry-preserved c =
    mapped-next (with_change (in_state (Lost c.args.version))) c.args.entries.now c.loop-entry.entries c.loop-entry.entry-index _ c.entry-item.result
    (omega arith) (omega arith) c.loop-entry.invariant
