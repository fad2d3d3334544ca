use Rattle.std.proofs.Common.{◌≡◌, ◌++◌, map, take, drop}
use Rattle.st_model.specs.declared.watch.WatchState.TheVariants.{Lost}
use Rattle.st_watch.specs.Layout.{in_state, with_change}
use Rattle.st_watch.proofs.entries.lose.Given as goal

-- those so far are lost
abbrev pub invariant-loop-entry : goal.invariant-loop-entry
invariant-loop-entry l =
    l.entries ≡ map (with_change (in_state (Lost l.version))) (take l.entry-index l.initial.entries) ++ drop l.entry-index l.initial.entries
