use Rattle.st_meta.proofs.States.{stored-read}
use Rattle.st_meta.proofs.laws.stored_is_read.Goals as goal

pub returns : goal.returns
returns c = λ pairs meta stores. stored-read c.put_is_taken.ensures pairs meta stores
