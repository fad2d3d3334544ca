use Rattle.std.proofs.Common.{◌≡◌, drop}
use Rattle.st_ptree.specs.Entries.{pairs_of}
use Rattle.st_restart.specs.Agreement.{first_difference}
use Rattle.st_restart.proofs.agreement.first_difference.Given as goal

-- so far they are the same
abbrev pub invariant-loop-row : goal.invariant-loop-row
invariant-loop-row l = first_difference l.left (drop l.row-index l.rows) ≡ first_difference (pairs_of l.base) l.rows
