use Rattle.std.proofs.Common.{◌≡◌, ◌++◌, bit_and, take, drop}
use Rattle.st_atomic.specs.Atomic.{bytewise}
use Rattle.st_atomic.proofs.bitwise.and_to.Given as goal

-- what was combined so far, before what is left to combine
abbrev pub invariant-loop-i : goal.invariant-loop-i
invariant-loop-i l =
    take l.i l.bytes ++ bytewise bit_and (drop l.i l.bytes) (drop l.i l.operand)
    ≡ bytewise bit_and l.fn.bytes l.operand
