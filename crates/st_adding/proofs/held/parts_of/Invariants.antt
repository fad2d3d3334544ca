use Rattle.std.proofs.Common.{◌≡◌, take}
use Rattle.st_adding.specs.Updates.{updates_in}
use Rattle.st_adding.proofs.held.parts_of.Given as goal

-- the parts of the updates so far
abbrev pub invariant-loop-update : goal.invariant-loop-update
invariant-loop-update l = l.parts.items ≡ updates_in l.to (take l.update-index l.updates)
