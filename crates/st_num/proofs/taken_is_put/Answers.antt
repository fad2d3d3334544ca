use Rattle.st_num.proofs.Bytes.{taken_is_put}
use Rattle.st_num.proofs.taken_is_put.Goals as goal

pub returns : goal.returns
returns c = taken_is_put
