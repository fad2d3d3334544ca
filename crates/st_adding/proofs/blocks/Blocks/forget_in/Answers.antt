use Rattle.std.proofs.Common.{◌∙◌, ap, not}
use Rattle.st_key.specs.Spans.{within}
use Rattle.st_adding.specs.Rows.{forgotten, rows_of}
use Rattle.st_adding.proofs.Slots.{rows-filter}
use Rattle.st_adding.proofs.blocks.Blocks.forget_in.Goals as goal

pub returns : goal.returns
returns c =
    ap rows_of c.take_slots.ensures
    ∙ rows-filter (λ k. not (within c.args.range.now k)) c.self.inside.slots.entries
    ∙ ap (forgotten c.args.range.now) c.self.view_is
