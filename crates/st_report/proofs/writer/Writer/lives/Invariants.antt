use Rattle.std.proofs.Common.{◌≡◌, ◌+◌, ◌++◌, drop}
use Rattle.std.specs.List.{flat_map}
use Rattle.st_report.specs.Text.{line_text, lives_lines}
use Rattle.st_report.proofs.writer.Writer.lives.Given as goal

-- with the lines of the lives that are left, the text is that of all
abbrev pub invariant-loop-place : goal.invariant-loop-place
invariant-loop-place l =
    l.self.bytes.items ++ flat_map line_text (lives_lines l.traced (l.place + 1) (drop l.place l.lives))
    ≡ l.fn.self.bytes.items ++ flat_map line_text (lives_lines l.traced 1 l.lives)
