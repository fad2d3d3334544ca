use Rattle.std.proofs.Common.{◌++◌, codes, decimal}
use Rattle.st_report.proofs.Appended.{answer_is, ends}
use Rattle.st_report.specs.Text.{answer_line, line_text, place_words, result_words}
use Rattle.st_report.proofs.writer.Writer.answer.Goals as goal

pub returns : goal.returns
returns c =
    ends _ _ c.result.new.self.bytes.items (codes "\n") (c.args.self.now.bytes.items ++ line_text (answer_line c.args.traced c.args.answered.now)) c.end_line.ensures
    (rw (c.in_ok-result.ensures, c.in_ok-at_places.ensures, c.in_ok-number.ensures, c.in_ok-text.ensures, c.as_slice.ensures)
    (answer_is _ (codes "answer") (decimal c.args.answered.now.request) (place_words c.args.traced c.args.answered.now.places) (result_words c.args.answered.now.answer)))
