use Rattle.std.specs.List.{AllByRecursion}
use Rattle.st_life.specs.Readers.{IsAskable}
use Rattle.st_life.proofs.tests.requests.Given as goal

abbrev pub invariant-loop-number : goal.invariant-loop-number
invariant-loop-number l = AllByRecursion IsAskable l.requests
