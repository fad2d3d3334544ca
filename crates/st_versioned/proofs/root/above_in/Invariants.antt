use Rattle.std.proofs.Common.{◌≡◌}
use Rattle.st_ptree.specs.Entries.{pairs_of}
use Rattle.st_versioned.specs.Writing.{made_above}
use Rattle.st_versioned.proofs.Forgetting.{swept}
use Rattle.st_versioned.proofs.root.above_in.Given as goal

-- what is left takes out what all take out
abbrev pub invariant-loop-key : goal.invariant-loop-key
invariant-loop-key g l = swept l.version l.key-iterator (pairs_of l.above) ≡ made_above l.version (pairs_of l.entries)
