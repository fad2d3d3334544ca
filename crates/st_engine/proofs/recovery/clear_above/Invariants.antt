use Rattle.std.proofs.Common.{◌≡◌, length}
use Rattle.st_ptree.specs.Entries.{pairs_of}
use Rattle.st_engine.specs.Replay.{kept_to}
use Rattle.st_engine.proofs.recovery.clear_above.Given as goal

abbrev pub invariant-loop : goal.invariant-loop
invariant-loop g l = kept_to l.last (pairs_of l.pairs) ≡ kept_to l.last (pairs_of l.initial.pairs)

abbrev pub decreases-loop : goal.decreases-loop
decreases-loop g l = length l.pairs
