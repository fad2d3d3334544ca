use Rattle.std.proofs.Common.{◌≡◌, drop}
use Rattle.st_key.specs.Spans.{is_canonical}
use Rattle.st_key.proofs.key_set.are_apart.Given as goal

-- what is left tells what all tells
abbrev pub invariant-loop-at : goal.invariant-loop-at
invariant-loop-at l = is_canonical (drop l.at l.pieces) ≡ is_canonical l.pieces
