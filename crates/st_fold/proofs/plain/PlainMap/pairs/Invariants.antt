use Rattle.std.proofs.Common.{◌≡◌, ◌++◌, map}
use Rattle.st_fold.proofs.plain.PlainMap.pairs.Given as goal

-- what is kept so far and the entries that are left
abbrev pub invariant-loop-key : goal.invariant-loop-key
invariant-loop-key l = l.all.items ++ map (λ pair. (pair.0.items, pair.1)) l.key-iterator ≡ l.self
