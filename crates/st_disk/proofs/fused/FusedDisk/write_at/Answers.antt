use Rattle.std.proofs.Common.{ap}
use Rattle.std.specs.Option.{option_map}
use Rattle.st_disk.specs.History.{History}
use Rattle.st_disk.proofs.fused.FusedDisk.write_at.Goals as goal

pub write_at-requires-clause-begins : goal.write_at-requires-clause-begins
write_at-requires-clause-begins g c = λ h is. c.requires.begins _ (ap (option_map (λ (h : History). record h { made = c.args.self.now.passed; passes = c.args.self.now.passes })) is)
