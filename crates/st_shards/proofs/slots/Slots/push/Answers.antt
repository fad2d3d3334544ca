use Rattle.st_shards.proofs.Pairs.{settled-push}
use Rattle.st_shards.proofs.slots.Slots.push.Goals as goal

pub invariant_of-self-2 : goal.invariant_of-self-2
invariant_of-self-2 c =
    rw (c.in_ok-push.ensures.items, c.in_ok-push-2.ensures.items, c.reserve.ensures.items, c.reserve-2.ensures.items)
    (settled-push c.self.inside.pieces.items c.self.inside.spares.items c.slot.inside.piece c.slot.inside.spare
    c.self.invariant c.slot.invariant)
