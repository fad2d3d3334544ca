use Rattle.std.proofs.Common.{drop, take}
use Rattle.st_engine.proofs.Recovering.{Read}
use Rattle.st_engine.proofs.recovery.recover_in.Given as goal

abbrev pub invariant-loop-frame : goal.invariant-loop-frame
invariant-loop-frame g l = Read l.discarded l.began l.recovery.pairs l.recovery.last (take l.frame-index l.frames) (drop l.frame-index l.frames)
