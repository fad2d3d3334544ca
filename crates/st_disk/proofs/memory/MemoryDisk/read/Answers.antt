use Rattle.std.proofs.Common.{length, refl, ap, arith}
use Rattle.st_disk.proofs.memory.MemoryDisk.read.Goals as goal

pub copy_range-requires : goal.copy_range-requires
copy_range-requires c = let inside = c.requires.inside _ refl in omega (arith, inside, ap length c.bytes.ensures)
