use Rattle.std.proofs.Common.{◌≡◌, ◌++◌, drop}
use Rattle.st_restart.proofs.reopening.copied.Given as goal

-- the copies so far, and the ranges that are left
abbrev pub invariant-loop-range : goal.invariant-loop-range
invariant-loop-range l = l.copy.items ++ drop l.range-index l.ranges ≡ l.ranges
