use Rattle.st_disk.specs.Recordings.{image-after_calls}
use Rattle.st_disk.proofs.laws.reads_as_an_image.Goals as goal

pub returns : goal.returns
returns c = image-after_calls
