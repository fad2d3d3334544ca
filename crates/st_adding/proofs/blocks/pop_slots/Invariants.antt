use Rattle.std.proofs.Common.{◌≡◌, filter, length, not}
use Rattle.st_key.specs.Spans.{within}
use Rattle.st_adding.proofs.blocks.pop_slots.Given as goal

-- what is left outside the range is what was there
abbrev pub invariant-loop-slots : goal.invariant-loop-slots
invariant-loop-slots l = filter (λ slot. not (within l.range slot.0)) l.slots.entries ≡ filter (λ slot. not (within l.range slot.0)) l.fn.slots.entries

abbrev pub decreases-loop-slots : goal.decreases-loop-slots
decreases-loop-slots l = length l.slots.entries
