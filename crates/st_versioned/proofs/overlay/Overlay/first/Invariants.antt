use Rattle.std.proofs.Common.{filter, length}
use Rattle.st_ptree.specs.Entries.{pairs_of}
use Rattle.st_versioned.specs.Neighbours.{is_beyond}
use Rattle.st_versioned.proofs.Search.{Searched, candidates}
use Rattle.st_versioned.proofs.overlay.Overlay.first.Given as goal

abbrev pub invariant-loop-key : goal.invariant-loop-key
invariant-loop-key g l = Searched (pairs_of l.self.root.now.entries) (pairs_of l.self.base.now) l.bound l.side

abbrev pub decreases-loop-key : goal.decreases-loop-key
decreases-loop-key g l = length (filter (is_beyond l.side) (candidates (pairs_of l.self.root.now.entries) (pairs_of l.self.base.now)))
