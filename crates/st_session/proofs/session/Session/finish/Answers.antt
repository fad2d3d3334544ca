use Rattle.std.proofs.Common.{subst, sym}
use Rattle.st_fold.specs.Reading.{span_of}
use Rattle.st_session.specs.Asking.{Asking}
use Rattle.st_session.specs.Polling.{HasShortPairs}
use Rattle.st_session.specs.Seen.{AreShortIn, value_in}
use Rattle.st_session.specs.declared.poll.Looked.TheVariants as looked
use Rattle.st_session.proofs.session.Session.finish.Goals as goal

pub search-requires-clause-short : goal.search-requires-clause-short
search-requires-clause-short c =
    let short : HasShortPairs c.args.self.now.request.ask (looked.Search c.in-Search.view) = subst (HasShortPairs c.args.self.now.request.ask) c.in-Search.is c.requires in
    subst (λ (a : Asking). AreShortIn (span_of a.request.ask) (value_in c.in-Search.view)) (sym c.self.view_is) short
