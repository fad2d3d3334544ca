use Rattle.std.proofs.Common.{map, ap, ◌∙◌}
use Rattle.st_model.specs.Pieces.{cut_where}
use Rattle.st_shards.specs.Changes.{moves, change_piece}
use Rattle.st_shards.proofs.slots.Slots.change_within.Goals as goal

pub returns-in-Ok-clause-ok : goal.returns-in-Ok-clause-ok
returns-in-Ok-clause-ok c =
    c.change_inside.ensures
    ∙ ap (map (change_piece c.args.range.now c.args.change))
    (c.in-Ok.ensures.ok
    ∙ (ap (cut_where (moves c.args.change) c.end.result.now)
    (c.in_ok-first.ensures.ok ∙ ap (λ k. cut_where (moves c.args.change) k c.args.self.now) c.begin.ensures.value)
    ∙ ap (λ k. cut_where (moves c.args.change) k (cut_where (moves c.args.change) c.args.range.now.begin c.args.self.now)) c.end.ensures.value))
