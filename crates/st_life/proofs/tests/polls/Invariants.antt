use Rattle.std.proofs.Common.{◌≡◌}
use Rattle.st_life.proofs.tests.polls.Given as goal

abbrev pub invariant-loop-reader : goal.invariant-loop-reader
invariant-loop-reader g l = (l.readers.patience ≡ l.fn.readers.patience) × (l.board ≡ l.fn.board)
