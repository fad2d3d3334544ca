use Rattle.std.proofs.Common.{subst}
use Rattle.st_ptree.specs.Entries.{pairs_of}
use Rattle.st_meta.specs.Reading.{Answers}
use Rattle.st_meta.proofs.States.{stored-read}
use Rattle.st_meta.proofs.reading.of_pairs.Goals as goal

pub returns-clause-only : goal.returns-clause-only
returns-clause-only c = λ meta stores. subst (Answers c.of_pairs_in.result) (stored-read c.put_is_taken.ensures (pairs_of c.args.base.now) meta stores) c.of_pairs_in.ensures.exact
