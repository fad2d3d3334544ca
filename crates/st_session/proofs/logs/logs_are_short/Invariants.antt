use Rattle.std.proofs.Common.{drop}
use Rattle.st_session.specs.Logs.{AreShort}
use Rattle.st_session.proofs.logs.logs_are_short.Given as goal

-- all are short where those that are left are
abbrev pub invariant-loop-batch : goal.invariant-loop-batch
invariant-loop-batch l = AreShort (drop l.batch-index l.log) → AreShort l.log
