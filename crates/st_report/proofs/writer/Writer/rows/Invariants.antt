use Rattle.std.proofs.Common.{◌≡◌, ◌++◌, take}
use Rattle.std.specs.List.{flat_map}
use Rattle.st_report.specs.Text.{row_word, spaced}
use Rattle.st_report.proofs.writer.Writer.rows.Given as goal

-- the rows so far
abbrev pub invariant-loop-row : goal.invariant-loop-row
invariant-loop-row l =
    l.self.bytes.items ≡ l.fn.self.bytes.items ++ flat_map (λ row. spaced (row_word row)) (take l.row-index l.rows)
