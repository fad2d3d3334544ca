use Rattle.std.proofs.Common.{◌≡◌, ◌∙◌, true, false, sym}
use Rattle.st_key.specs.Spans.{within}
use Rattle.st_ptree.specs.Entries.{pairs_of}
use Rattle.st_session.proofs.Next.{next-inside, next-none, next-outside}
use Rattle.st_session.proofs.walk.next_in.Goals as goal
use Rattle.st_versioned.specs.Root.{over}

pub returns-then-contains-clause-next : goal.returns-then-contains-clause-next
returns-then-contains-clause-next g c = λ pairs map.
    let inside : within c.args.range.now c.in-Some.found.now ≡ true = cc in
    next-inside (over (pairs_of c.args.overlay.now.root.now.entries) (pairs_of c.args.overlay.now.base.now)) c.args.reverse c.args.key.now c.args.or_equal c.args.range.now pairs map
    (c.in-Some.found.now, c.in-Some.value.now) c.in-Some.ensures inside

pub returns-else-contains-clause-next : goal.returns-else-contains-clause-next
returns-else-contains-clause-next g c = λ pairs map.
    let outside : within c.args.range.now c.in-Some.found.now ≡ false = cc in
    next-outside (over (pairs_of c.args.overlay.now.root.now.entries) (pairs_of c.args.overlay.now.base.now)) c.args.reverse c.args.key.now c.args.or_equal c.args.range.now pairs map
    c.requires (c.in-Some.found.now, c.in-Some.value.now) c.in-Some.ensures outside

pub returns-in-None-clause-next : goal.returns-in-None-clause-next
returns-in-None-clause-next g c = λ pairs map.
    next-none (over (pairs_of c.args.overlay.now.root.now.entries) (pairs_of c.args.overlay.now.base.now)) c.args.reverse c.args.key.now c.args.or_equal c.args.range.now pairs map
    c.in-None.ensures
