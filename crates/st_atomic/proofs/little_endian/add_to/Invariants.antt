use Rattle.std.proofs.Common.{◌≡◌, ◌+◌, ◌++◌, ◌≤◌, length, take, drop}
use Rattle.st_atomic.specs.Atomic.{added, bytes_of, number_of}
use Rattle.st_atomic.proofs.little_endian.add_to.Given as goal

-- the bytes of the sum so far, before those of what is left to add
abbrev pub invariant-loop-i : goal.invariant-loop-i
invariant-loop-i l = record {
  small : l.carry ≤ 1;
  whole : take l.i l.sum
      ++ bytes_of (length (drop l.i l.operand)) (number_of (drop l.i l.sum) + number_of (drop l.i l.operand) + l.carry)
      ≡ added l.fn.sum l.operand;
}
