use Rattle.std.proofs.Common.{◌≡◌, map, take}
use Rattle.st_course.specs.Jobs.{clear_of}
use Rattle.st_board.specs.Base.{AreChanges}
use Rattle.st_board.proofs.committing.clears.Given as goal

-- the ranges so far
abbrev pub invariant-loop-range : goal.invariant-loop-range
invariant-loop-range l = record {
  ops : l.ops.items ≡ map clear_of (take l.range-index l.ranges);
  changes : AreChanges l.ops.items;
}
