use Rattle.std.proofs.Common.{◌≡◌, ◌++◌, drop}
use Rattle.st_key.specs.Parts.{with_span}
use Rattle.st_key.proofs.key_set.Ranges.joined.Given as goal

abbrev pub invariant-loop-at : goal.invariant-loop-at
invariant-loop-at l = l.out.items ++ with_span (drop l.at l.piece-items) l.grown ≡ with_span l.self l.r
