use Rattle.st_disk.specs.Calls.{made-count, made-passes, stopped-count, stopped-passes}
use Rattle.st_disk.proofs.laws.calls_are_counted.Goals as goal

pub returns : goal.returns
returns c = record { made = made-count; passes = made-passes; stopped = stopped-count; stopped_passes = stopped-passes }
