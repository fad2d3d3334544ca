use Rattle.st_disk.specs.Images.{image-with_bytes}
use Rattle.st_disk.proofs.laws.a_write_tears_in_its_range.Goals as goal

pub returns : goal.returns
returns c = image-with_bytes
