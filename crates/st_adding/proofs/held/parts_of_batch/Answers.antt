use Rattle.std.proofs.Common.{◌∙◌, ◌++◌, ◌∷◌, List, [], ap, sym}
use Rattle.st_adding.specs.Updates.{Update, updates_in}
use Rattle.st_adding.proofs.Parts.{parts_of_more}
use Rattle.st_adding.proofs.held.parts_of_batch.Goals as goal

pub loop-mutation-preserved : goal.loop-mutation-preserved
loop-mutation-preserved c =
    let batch = c.args.batch.now in
    let mutation = c.mutation-item.result in
    c.in_ok-push_part.ensures
    ∙ ap (λ (parts : List Update). parts ++ updates_in c.args.to.now ((batch.version, mutation) ∷ [])) c.loop-mutation.invariant
    ∙ sym (parts_of_more c.args.to.now batch.version c.as_slice-mutation-items.result.now c.loop-mutation.mutation-index mutation c.loop-mutation-test.true c.mutation-item.is)
