use Rattle.st_report.proofs.Appended.{report_is}
use Rattle.st_report.specs.Text.{answer_count, end_line, fault_lines, shown}
use Rattle.st_report.proofs.transcript.text.Goals as goal

pub returns : goal.returns
returns c =
    let report = c.args.report.now in
    rw (c.in_ok-end.ensures, c.in_ok-fault_line.ensures, c.in_ok-shown.ensures, c.new.ensures.items, c.as_slice.ensures, c.in_ok-answers.ensures, c.as_slice-2.ensures)
    (report_is (shown report.form report.lives) (fault_lines report.fault) (end_line report.status (answer_count report.lives)))
