use Rattle.std.proofs.Common.{◌≡◌, ◌+◌, ◌≤◌, drop}
use Rattle.st_fold.specs.Reading.{count_below}
use Rattle.st_fold.proofs.answer.count_below.Given as goal

-- those that were counted, and those of the pairs that are left
abbrev pub invariant-loop-other : goal.invariant-loop-other
invariant-loop-other l =
    (l.count + count_below l.key l.or_equal (drop l.other-index l.pairs) ≡ count_below l.key l.or_equal l.pairs)
    × (l.count ≤ l.other-index)
