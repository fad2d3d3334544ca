use Rattle.std.proofs.Common.{arith}
use Rattle.std.proofs.lemmas.List.Folds.{flat_map-map}
use Rattle.std.proofs.lemmas.Grind.{common_steps}
use Rattle.st_report.specs.Text.{row_word, spaced}
use Rattle.st_report.proofs.writer.Writer.rows.Goals as goal

pub returns : goal.returns
returns c = rw (flat_map-map spaced row_word c.args.rows.now) (grind (arith, common_steps))
