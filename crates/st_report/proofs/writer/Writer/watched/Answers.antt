use Rattle.std.proofs.Common.{◌++◌, codes, decimal}
use Rattle.std.specs.List.{flat_map}
use Rattle.st_fold.specs.declared.report.Event.TheVariants as event
use Rattle.st_report.proofs.Appended.{ends, line_of_three}
use Rattle.st_report.specs.Text.{event_lines, hex_word, line_text, spaced, value_word}
use Rattle.st_report.proofs.writer.Writer.watched.Goals as goal

pub returns : goal.returns
returns c =
    ends _ _ c.value.new.self.bytes.items (codes "\n") (c.args.self.now.bytes.items ++ flat_map line_text (event_lines (event.Watched c.args.number c.args.key.now c.args.value.now))) c.end_line.ensures
    (rw (c.in_ok-value.ensures, c.in_ok-key.ensures, c.in_ok-number.ensures, c.in_ok-text.ensures)
    (line_of_three _ (codes "event watched") (spaced (decimal c.args.number)) (spaced (hex_word c.args.key.now)) (spaced (value_word c.args.value.now)) (codes "\n")))
