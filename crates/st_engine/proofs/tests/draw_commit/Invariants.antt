use Rattle.std.proofs.Common.{IsTrue}
use Rattle.std.specs.List.{AllByRecursion, list_all}
use Rattle.st_ops.specs.Grammar.{Fits, is_change}
use Rattle.st_engine.proofs.tests.draw_commit.Given as goal

-- each operation so far is a change that fits
abbrev pub invariant-loop : goal.invariant-loop
invariant-loop l = IsTrue (list_all is_change l.ops.items) × AllByRecursion Fits l.ops.items
