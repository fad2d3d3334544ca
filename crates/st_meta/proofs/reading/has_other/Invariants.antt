use Rattle.std.proofs.Common.{◌≡◌}
use Rattle.std.specs.List.{list_any}
use Rattle.st_meta.specs.Stored.{is_other}
use Rattle.st_ptree.specs.Entries.{pairs_of}
use Rattle.st_meta.proofs.reading.has_other.Given as goal

-- what is left tells what all tells
abbrev pub invariant-loop-key : goal.invariant-loop-key
invariant-loop-key l = list_any (λ pair. is_other pair.0) l.key-iterator ≡ list_any (λ pair. is_other pair.0) (pairs_of l.base)
