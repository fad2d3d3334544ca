use Rattle.std.proofs.Common.{map, ap, ◌∙◌}
use Rattle.st_model.specs.Pieces.{ends_of}
use Rattle.st_shards.specs.Blank.{blank, cut_all}
use Rattle.st_shards.proofs.Openings.{opened}
use Rattle.st_shards.proofs.opening.first_slots.Goals as goal

pub returns : goal.returns
returns c =
    opened c.args.since c.args.available.now c.args.assigned.now c.in_ok-slots.slots c.cut_at_ends.new.self c.cut_at_ends-2.new.self
    c.open_all.new.self c.in_ok-slots.ensures
    (λ s p e. c.in_ok-cut_at_ends.ensures.cut s p e ∙ ap (λ r. map (blank s) (cut_all p (ends_of r))) c.pieces.ensures.value)
    (λ s p e. c.in_ok-cut_at_ends-2.ensures.cut s p e ∙ ap (λ r. map (blank s) (cut_all p (ends_of r))) c.pieces-2.ensures.value)
    c.open_all.ensures
