use Rattle.std.proofs.Common.{length}
use Rattle.st_ops.proofs.Steps.{Leads}
use Rattle.st_ops.proofs.reading.read.Given as goal

-- the operations so far lead to the reading of all bytes
abbrev pub invariant-loop-rest : goal.invariant-loop-rest
invariant-loop-rest l = Leads l.bytes l.ops.items l.stage l.rest

abbrev pub decreases-loop-rest : goal.decreases-loop-rest
decreases-loop-rest l = length l.rest
