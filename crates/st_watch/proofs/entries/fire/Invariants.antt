use Rattle.std.proofs.Common.{◌≡◌, ◌++◌, false, map, take, drop}
use Rattle.std.specs.Option.{option_copied}
use Rattle.st_watch.specs.Layout.{after_value, with_change}
use Rattle.st_watch.proofs.entries.fire.Given as goal

-- those so far have fired, unless the value is theirs
abbrev pub invariant-loop-entry : goal.invariant-loop-entry
invariant-loop-entry l = record {
  fired : l.entries ≡ map (with_change (after_value (option_copied l.now) l.version)) (take l.entry-index l.initial.entries) ++ drop l.entry-index l.initial.entries;
  none : l.any ≡ false → l.entries ≡ l.initial.entries;
}
