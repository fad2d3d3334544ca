use Rattle.st_life.proofs.Played.{same-files}
use Rattle.st_life.proofs.laws.files_change_by_their_calls.Goals as goal

pub returns : goal.returns
returns c = same-files
