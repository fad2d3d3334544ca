use Rattle.std.proofs.Common.{ap}
use Rattle.std.specs.Option.{option_map}
use Rattle.st_disk.specs.History.{History}
use Rattle.st_disk.proofs.fused.FusedDisk.read.Goals as goal

pub read-requires-clause-inside : goal.read-requires-clause-inside
read-requires-clause-inside g c = λ h is. c.requires.inside _ (ap (option_map (λ (h : History). record h { made = c.args.self.now.passed; passes = c.args.self.now.passes })) is)
