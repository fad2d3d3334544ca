use Rattle.std.proofs.Common.{◌≡◌, ◌+◌, ◌≤◌, length, drop}
use Rattle.st_fold.specs.Reading.{taken}
use Rattle.st_fold.proofs.answer.count_taken.Given as goal

-- what is taken so far, and of the pairs that are left
abbrev pub invariant-loop-key : goal.invariant-loop-key
invariant-loop-key l =
    (l.count + length (taken l.rows_left l.bytes_left (drop l.key-index l.pairs)) ≡ length (taken l.rows l.bytes l.pairs))
    × (l.count ≤ l.key-index)
