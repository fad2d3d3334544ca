use Rattle.std.proofs.Common.{true, false, arith}
use Rattle.st_disk.proofs.Kept.{lead_to-new}
use Rattle.st_disk.proofs.memory.Memory.with.Goals as goal

pub invariant_of-result : goal.invariant_of-result
invariant_of-result c = record {
  zero = lead_to-new false _ c.args.file0.items c.new.ensures.items;
  one = lead_to-new true _ c.args.file1.items c.new.ensures.items;
  room = omega (arith, c.new.ensures.len);
}
