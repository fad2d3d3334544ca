use Rattle.st_disk.specs.Moments.{goes_on-sync}
use Rattle.st_disk.proofs.laws.a_sync_goes_on.Goals as goal

pub returns : goal.returns
returns c = goes_on-sync
