use Rattle.std.proofs.Common.{drop}
use Rattle.std.specs.List.{AllByRecursion}
use Rattle.st_session.specs.Logs.{IsShort}
use Rattle.st_session.proofs.logs.are_short.Given as goal

-- all are short where those that are left are
abbrev pub invariant-loop-mutation : goal.invariant-loop-mutation
invariant-loop-mutation l = AllByRecursion IsShort (drop l.mutation-index l.mutations) → AllByRecursion IsShort l.mutations
