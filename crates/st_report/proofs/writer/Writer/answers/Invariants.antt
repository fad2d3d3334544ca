use Rattle.std.proofs.Common.{◌≡◌, ◌++◌, take}
use Rattle.std.specs.List.{flat_map}
use Rattle.st_report.specs.Text.{answer_line, line_text}
use Rattle.st_report.proofs.writer.Writer.answers.Given as goal

-- the lines of the answers so far
abbrev pub invariant-loop-answered : goal.invariant-loop-answered
invariant-loop-answered l =
    l.self.bytes.items
    ≡ l.fn.self.bytes.items ++ flat_map (λ answered. line_text (answer_line l.traced answered)) (take l.answered-index l.answers)
