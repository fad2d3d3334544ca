use Rattle.st_restart.proofs.Stores.{opens-as}
use Rattle.st_restart.proofs.laws.files_open_as_they_mount.Goals as goal

pub returns : goal.returns
returns c = opens-as
