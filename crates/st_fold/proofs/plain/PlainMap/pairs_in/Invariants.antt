use Rattle.std.proofs.Common.{◌≡◌, ◌++◌, map}
use Rattle.st_fold.specs.Reading.{pairs_in}
use Rattle.st_fold.proofs.plain.PlainMap.pairs_in.Given as goal

-- what is kept so far and what is in the range of the entries that are left
abbrev pub invariant-loop-key : goal.invariant-loop-key
invariant-loop-key l =
    l.inside.items ++ pairs_in l.range (map (λ pair. (pair.0.items, pair.1)) l.key-iterator) ≡ pairs_in l.range l.self
