use Rattle.std.proofs.Common.{◌≡◌, ◌++◌}
use Rattle.st_fold.specs.Reading.{pairs_in}
use Rattle.st_adding.specs.Rows.{rows_of}
use Rattle.st_adding.proofs.blocks.Blocks.rows_in.Given as goal

-- the rows so far, and those of the slots that are left
abbrev pub invariant-loop-key : goal.invariant-loop-key
invariant-loop-key l = l.rows.items ++ rows_of l.key-iterator ≡ pairs_in l.range l.self
