use Rattle.std.proofs.Common.{◌++◌, map}
use Rattle.std.specs.List.{flat_map}
use Rattle.st_report.proofs.Appended.{ends, life_is}
use Rattle.st_report.specs.Text.{answer_line, ended_line, life_lines, line_text, opened_line, trace_lines}
use Rattle.st_report.proofs.writer.Writer.life.Goals as goal

pub returns : goal.returns
returns c =
    ends _ _ c.answers.new.self.bytes.items (line_text (ended_line c.args.number c.args.life.now.ending)) (c.args.self.now.bytes.items ++ flat_map line_text (life_lines c.args.traced c.args.number c.args.life.now)) c.ended.ensures
    (rw (c.in_ok-answers.ensures, c.in_ok-trace.ensures, c.in_ok-opened.ensures, c.as_slice.ensures, c.as_slice-2.ensures)
    (life_is _ (opened_line c.args.number c.args.life.now) (trace_lines c.args.traced c.args.life.now.trace) (map (answer_line c.args.traced) c.args.life.now.answers) (ended_line c.args.number c.args.life.now.ending)))
