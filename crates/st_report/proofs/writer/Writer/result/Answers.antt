use Rattle.std.proofs.Common.{codes}
use Rattle.std.proofs.lemmas.List.{append-nil}
use Rattle.st_report.proofs.Appended.{labelled}
use Rattle.st_report.specs.Text.{hex_word}
use Rattle.st_report.proofs.writer.Writer.result.Goals as goal

pub returns-in-TooOld : goal.returns-in-TooOld
returns-in-TooOld c = rw c.in-TooOld.is (simp append-nil c.labelled-in-TooOld.ensures)

pub returns-in-WrongShard : goal.returns-in-WrongShard
returns-in-WrongShard c =
    rw c.in-WrongShard.is (labelled _ _ _ (codes " 1001 wrong_shard_server at") (hex_word c.in-WrongShard.at) (rw c.bytes-in-WrongShard.ensures.value at c.labelled_bytes-in-WrongShard.ensures))

pub returns-in-TooManyWatches : goal.returns-in-TooManyWatches
returns-in-TooManyWatches c =
    rw c.in-TooManyWatches.is (simp append-nil (rw c.from.ensures at c.labelled-in-TooManyWatches.ensures))
