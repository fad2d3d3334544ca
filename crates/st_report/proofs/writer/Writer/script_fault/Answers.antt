use Rattle.std.proofs.Common.{◌++◌, codes, decimal}
use Rattle.std.specs.List.{flat_map}
use Rattle.st_fold.specs.declared.report.Fault.TheVariants as fault
use Rattle.st_report.proofs.Appended.{ends, label_and_two}
use Rattle.st_report.specs.Text.{fault_words, kind_word, spaced}
use Rattle.st_report.proofs.writer.Writer.script_fault.Goals as goal

pub returns : goal.returns
returns c =
    ends _ _ c.labelled.new.self.bytes.items (spaced c.kind_word.result.now) (c.args.self.now.bytes.items ++ flat_map spaced (fault_words (fault.Script c.args.line c.args.kind))) c.word.ensures
    (rw (c.in_ok-labelled.ensures, c.kind_word.ensures) (label_and_two _ (codes " script line") (decimal c.args.line) (kind_word c.args.kind)))
