use Rattle.st_disk.specs.Calls.{made-append}
use Rattle.st_disk.proofs.laws.calls_join.Goals as goal

pub returns : goal.returns
returns c = made-append
