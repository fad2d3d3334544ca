use Rattle.std.proofs.Common.{arith}
use Rattle.st_ptree.specs.Entries.{pairs_of}
use Rattle.st_session.proofs.Selected.{passes-one}
use Rattle.st_session.proofs.select.nth.Goals as goal
use Rattle.st_versioned.specs.Root.{over}

pub loop-left-preserved : goal.loop-left-preserved
loop-left-preserved g c =
    passes-one (over (pairs_of c.args.overlay.now.root.now.entries) (pairs_of c.args.overlay.now.base.now)) c.args.reverse c.args.range.now c.args.key.now c.args.or_equal c.args.passed
    c.loop-left.at.now c.loop-left.at_it c.loop-left.left c.loop-left.invariant (c.in_ok-next.next.now, c.in_ok-next.field-0-1.now) c.in_ok-next.ensures.next c.in_ok-next.ensures.inside
    (omega arith)
