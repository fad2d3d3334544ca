use Rattle.st_disk.specs.Recordings.{image-unwritten}
use Rattle.st_disk.proofs.laws.unwritten_bytes_stay.Goals as goal

pub returns : goal.returns
returns c = image-unwritten
