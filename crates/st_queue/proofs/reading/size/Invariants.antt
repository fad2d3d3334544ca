use Rattle.std.proofs.Common.{◌≡◌, take}
use Rattle.st_queue.specs.Place.{frames_size}
use Rattle.st_queue.proofs.reading.size.Given as goal

abbrev pub invariant-loop-frame : goal.invariant-loop-frame
invariant-loop-frame l = l.total ≡ frames_size (take l.frame-index l.frames)
