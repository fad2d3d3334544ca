use Rattle.std.proofs.Common.{◌≡◌, ◌++◌, take}
use Rattle.std.specs.List.{flat_map}
use Rattle.st_course.specs.Jobs.{op_of}
use Rattle.st_board.specs.Base.{AreChanges}
use Rattle.st_board.proofs.committing.push_ops.Given as goal

-- the mutations so far
abbrev pub invariant-loop-made : goal.invariant-loop-made
invariant-loop-made l = record {
  ops : l.ops.items ≡ l.fn.ops.items ++ flat_map (λ made. op_of made.1) (take l.made-index l.sent);
  changes : AreChanges l.ops.items;
}
