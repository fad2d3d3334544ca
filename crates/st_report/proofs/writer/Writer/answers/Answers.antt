use Rattle.std.proofs.Common.{arith}
use Rattle.std.proofs.lemmas.List.Folds.{flat_map-map}
use Rattle.std.proofs.lemmas.Grind.{common_steps}
use Rattle.st_report.specs.Text.{answer_line, line_text}
use Rattle.st_report.proofs.writer.Writer.answers.Goals as goal

pub returns : goal.returns
returns c = rw (flat_map-map line_text (answer_line c.args.traced) c.args.answers.now) (grind (arith, common_steps))
