use Rattle.st_ptree.specs.Entries.{pairs_of}
use Rattle.st_session.proofs.Shown.{StandsAt}
use Rattle.st_session.proofs.rows.rows.Given as goal
use Rattle.st_versioned.specs.Root.{over}

abbrev pub invariant-loop-key : goal.invariant-loop-key
invariant-loop-key g l =
    StandsAt (over (pairs_of l.overlay.root.now.entries) (pairs_of l.overlay.base.now)) l.reverse l.range l.rows l.bytes l.taken.items l.rows_left l.bytes_left l.at l.or_equal

abbrev pub decreases-loop-key : goal.decreases-loop-key
decreases-loop-key g l = l.rows_left
