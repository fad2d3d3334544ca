use Rattle.st_run.specs.Headline.{IsComplete, Reports}
use Rattle.st_run.proofs.Complete.{complete, if-some}
use Rattle.st_run.proofs.top.tool.Goals as goal

pub returns-clause-complete : goal.returns-clause-complete
returns-clause-complete g c = λ named.
    let told = g.D.Disk.history in
    let count = g.D.Disk.fault_count in
    let source_before = g.S.Source.faults c.args.script.now in
    let source_now = g.S.Source.faults c.report_on-report.new.script in
    let held_before = g.K.Sink.held c.args.out.now in
    let held_now = g.K.Sink.held c.write_report-status.new.out in
    let sink_before = g.K.Sink.faults c.args.out.now in
    let sink_now = g.K.Sink.faults c.write_report-status.new.out in
    let disk = c.report_on-report.result.disk in
    let report = c.report_on-report.result.report in
    let status = c.write_report-status.result in
    if-some (g.S.Source.left c.args.script.now) (λ bytes. Reports told bytes c.args.disk disk report)
    (λ bytes. IsComplete told count bytes source_before source_now c.args.disk disk held_before held_now sink_before sink_now report status)
    (λ bytes reports.
    complete told count bytes source_before source_now c.args.disk disk held_before held_now sink_before sink_now report status reports c.report_on-report.ensures.consistent
    c.report_on-report.ensures.device c.report_on-report.ensures.read_cause c.write_report-status.ensures) (c.report_on-report.ensures.script named)
