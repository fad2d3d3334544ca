use Rattle.std.proofs.Common.{◌∙◌, ◌++◌, ◌∷◌, List, [], ap, sym}
use Rattle.st_adding.specs.Updates.{Update, updates_in}
use Rattle.st_adding.proofs.Parts.{parts_more}
use Rattle.st_adding.proofs.held.parts_of.Goals as goal

pub loop-update-preserved : goal.loop-update-preserved
loop-update-preserved c =
    let update : Update = c.update-item.result in
    c.in_ok-push_part.ensures
    ∙ ap (λ (parts : List Update). parts ++ updates_in c.args.to.now (update ∷ [])) c.loop-update.invariant
    ∙ sym (parts_more c.args.to.now c.args.updates.now c.loop-update.update-index update c.loop-update-test.true c.update-item.is)
