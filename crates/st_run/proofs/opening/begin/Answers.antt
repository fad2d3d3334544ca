use Rattle.std.proofs.Common.{◌∙◌, [], ◌∷◌, sym, ap, subst}
use Rattle.st_core.specs.Server.{IsMade}
use Rattle.st_fold.specs.declared.report.Event.TheVariants.{Opened as opened_at}
use Rattle.st_run.proofs.Servers.{agreed, base-value, is-made, named}
use Rattle.st_run.proofs.opening.begin.Goals as goal

pub begin-requires-clause-base : goal.begin-requires-clause-base
begin-requires-clause-base g c =
    let given = g.N.Story.given in
    let store = c.args.opened.engine.store in
    let opening = c.args.opened.opening in
    base-value given store opening c.requires.opens
    (agreed given.own given.log store opening c.requires.opens (c.stores_open.ensures.fresh given.own given.log c.requires.still.rises))
    (sym (ap (λ o. o.available) c.requires.named) ∙ c.requires.still.available)

pub new-requires-in-Ok-clause-made : goal.new-requires-in-Ok-clause-made
new-requires-in-Ok-clause-made g c =
    let given = g.N.Story.given in
    let store = c.args.opened.engine.store in
    let opening = c.args.opened.opening in
    subst (λ trace. IsMade given g.N.Story.opening g.N.Story.store trace store.pairs) (sym c.in-Ok.ensures.trace)
    (subst (λ o. IsMade given o g.N.Story.store (opened_at opening.version ∷ []) store.pairs) (sym c.requires.named)
    (subst (λ s. IsMade given (named opening) s (opened_at opening.version ∷ []) store.pairs) (sym c.requires.store)
    (is-made given.own given.log store opening c.requires.opens given (λ is. c.is_fresh.ensures.untouched (c.is_fresh.ensures.fresh ∙ is)))))
