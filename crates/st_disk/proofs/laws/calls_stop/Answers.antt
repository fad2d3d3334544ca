use Rattle.st_disk.specs.Calls.{stopped-first, stopped-second}
use Rattle.st_disk.proofs.laws.calls_stop.Goals as goal

pub returns : goal.returns
returns c = record { first = stopped-first; second = stopped-second }
