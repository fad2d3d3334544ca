use Rattle.std.proofs.Common.{◌≡◌, take}
use Rattle.st_ops.specs.Spelling.{spelt}
use Rattle.st_ops.proofs.writing.encode.Given as goal

-- what is written so far is the spelling of the operations so far
abbrev pub invariant-loop-op : goal.invariant-loop-op
invariant-loop-op l = l.out.items ≡ spelt (take l.op-index l.ops)
