use Rattle.st_num.proofs.Bytes.{put_is_taken}
use Rattle.st_num.proofs.put_is_taken.Goals as goal

pub returns : goal.returns
returns c = put_is_taken
