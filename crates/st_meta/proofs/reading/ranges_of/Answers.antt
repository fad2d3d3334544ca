use Rattle.std.proofs.Common.{arith}
use Rattle.st_meta.proofs.Values.{ranges-answer}
use Rattle.st_meta.proofs.reading.ranges_of.Goals as goal

pub returns-clause-spelled : goal.returns-clause-spelled
returns-clause-spelled c = ranges-answer c.taken_is_put.ensures c.args.bytes.now (λ i. omega (arith, c.type_inv.bytes i)) c.read_ranges.result c.read_ranges.ensures
