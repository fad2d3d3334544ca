use Rattle.std.proofs.Common.{◌≡◌, not, filter, take}
use Rattle.st_key.specs.Spans.{holds}
use Rattle.st_ptree.specs.Entries.{pairs_of}
use Rattle.st_restart.proofs.reopening.take_out.Given as goal

-- the pairs of the ranges so far are gone
abbrev pub invariant-loop-range : goal.invariant-loop-range
invariant-loop-range g l = pairs_of l.pairs ≡ filter (λ pair. not (holds (take l.range-index l.others) pair.0)) (pairs_of l.fn.pairs)
