use Rattle.std.proofs.Common.{◌≡◌, drop}
use Rattle.st_atomic.proofs.little_endian.is_below.Given as goal

-- the higher bytes are the same
abbrev pub invariant-loop-i : goal.invariant-loop-i
invariant-loop-i l = drop l.i l.a ≡ drop l.i l.b
