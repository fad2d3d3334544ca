use Rattle.std.proofs.Common.{arith}
use Rattle.std.proofs.lemmas.Grind.{common_steps}
use Rattle.st_report.proofs.Appended.{flat_map-flat_map}
use Rattle.st_report.specs.Text.{event_lines, line_text}
use Rattle.st_report.proofs.writer.Writer.events.Goals as goal

pub returns : goal.returns
returns c = rw (flat_map-flat_map line_text event_lines c.args.events.now) (grind (arith, common_steps))
