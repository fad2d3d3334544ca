use Rattle.std.proofs.Common.{◌≡◌, ◌∙◌, ℕ, true, subst, ap, sym}
use Rattle.st_board.specs.Views.{IsReadable}
use Rattle.st_course.specs.Sent.{value_of}
use Rattle.st_fold.specs.Reading.{span_of, version_of}
use Rattle.st_key.specs.Spans.{Span, within}
use Rattle.st_session.specs.Asking.{Asking}
use Rattle.st_session.specs.Polling.{IsSearched}
use Rattle.st_session.proofs.Replies.{searchable}
use Rattle.st_session.proofs.session.Session.looked.Goals as goal

pub returns-in-Ok : goal.returns-in-Ok
returns-in-Ok g c =
    let log = g.N.Story.given.log in
    let state = c.args.board.now.state in
    let ask = c.self.inside.request.ask in
    let readable : IsReadable state (span_of ask) (version_of ask) =
    subst (λ (s : Span). IsReadable state s (version_of ask)) c.self.invariant.1 (subst (λ (v : ℕ). IsReadable state c.self.inside.range v) c.version_of.ensures c.in-Ok.ensures.0) in
    subst (λ (a : Asking). IsSearched log state a.request.ask c.in-Ok.view) c.self.view_is
    (searchable c.values_stay_short.ensures c.keys_change_by_themselves.ensures.log c.folds_are_in_order.ensures log c.requires state ask c.self.invariant.0.users c.in-Ok.view readable
    (λ key inside. c.in-Ok.ensures.1 key (subst (λ (s : Span). within s key ≡ true) (sym c.self.invariant.1) inside) ∙ ap (λ (v : ℕ). value_of log v key) c.version_of.ensures))
