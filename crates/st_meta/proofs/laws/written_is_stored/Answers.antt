use Rattle.st_meta.proofs.States.{written-stored}
use Rattle.st_meta.proofs.laws.written_is_stored.Goals as goal

pub returns : goal.returns
returns c = written-stored
