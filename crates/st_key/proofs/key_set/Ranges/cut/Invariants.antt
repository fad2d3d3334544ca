use Rattle.std.proofs.Common.{◌≡◌, ◌++◌, drop}
use Rattle.st_key.specs.Parts.{without_span}
use Rattle.st_key.proofs.key_set.Ranges.cut.Given as goal

abbrev pub invariant-loop-piece : goal.invariant-loop-piece
invariant-loop-piece l = l.out.items ++ without_span (drop l.piece-index l.piece-items) l.r ≡ without_span l.self l.r
