use Rattle.st_disk.specs.Calls.{made-in_part, stopped-whole}
use Rattle.st_disk.proofs.Told.{memory-in_part}
use Rattle.st_disk.proofs.laws.calls_are_whole.Goals as goal

pub returns : goal.returns
returns c = record { made = made-in_part; stopped = stopped-whole; memory = memory-in_part }
