use Rattle.st_disk.specs.Moments.{goes_on-write}
use Rattle.st_disk.proofs.laws.a_write_goes_on.Goals as goal

pub returns : goal.returns
returns c = goes_on-write
