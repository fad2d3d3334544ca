use Rattle.std.proofs.Common.{◌≡◌, ◌∙◌, None, sym}
use Rattle.st_ptree.specs.Entries.{pairs_of}
use Rattle.st_session.proofs.Next.{to-below, to-itself}
use Rattle.st_session.proofs.walk.last_to.Goals as goal
use Rattle.st_versioned.specs.Root.{over}

pub returns-in-Some : goal.returns-in-Some
returns-in-Some g c =
    to-itself (over (pairs_of c.args.overlay.now.root.now.entries) (pairs_of c.args.overlay.now.base.now)) c.args.key.now c.in-Some.value.now (sym c.in-Some.ensures.value)

pub returns-in-None : goal.returns-in-None
returns-in-None g c =
    to-below (over (pairs_of c.args.overlay.now.root.now.entries) (pairs_of c.args.overlay.now.base.now)) c.args.key.now (sym c.in-None.ensures.value) _ c.prev.ensures
