use Rattle.std.proofs.Common.{◌≡◌, true, subst, sym}
use Rattle.st_key.specs.Spans.{key_less, all_keys}
use Rattle.st_model.specs.Partition.{IsPlaceOf}
use Rattle.st_shards.proofs.slots.Slots.place_at.Goals as goal

pub returns-clause-in_range : goal.returns-clause-in_range
returns-clause-in_range c =
    c.place_of.ensures.in_range c.requires.parted
    (subst (λ k. key_less k all_keys.end ≡ true) (sym c.bytes.ensures.value) c.requires.below)

pub returns-clause-held : goal.returns-clause-held
returns-clause-held c =
    subst (λ k. IsPlaceOf c.args.self.now k c.place_of.result) c.bytes.ensures.value
    (c.place_of.ensures.held c.requires.parted
    (c.place_of.ensures.in_range c.requires.parted
    (subst (λ k. key_less k all_keys.end ≡ true) (sym c.bytes.ensures.value) c.requires.below)))
