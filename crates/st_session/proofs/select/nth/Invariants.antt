use Rattle.st_ptree.specs.Entries.{pairs_of}
use Rattle.st_session.proofs.Selected.{Passes}
use Rattle.st_session.proofs.select.nth.Given as goal
use Rattle.st_versioned.specs.Root.{over}

abbrev pub invariant-loop-left : goal.invariant-loop-left
invariant-loop-left g l = Passes (over (pairs_of l.overlay.root.now.entries) (pairs_of l.overlay.base.now)) l.reverse l.range l.key l.or_equal l.passed l.at l.at_it l.left

abbrev pub decreases-loop-left : goal.decreases-loop-left
decreases-loop-left g l = l.left
