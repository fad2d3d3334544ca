use Rattle.st_disk.specs.Recordings.{left-after_calls}
use Rattle.st_disk.proofs.laws.restarts_as_an_image.Goals as goal

pub returns : goal.returns
returns c = left-after_calls
