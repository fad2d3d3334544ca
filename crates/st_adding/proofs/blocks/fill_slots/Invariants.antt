use Rattle.std.proofs.Common.{◌≡◌}
use Rattle.std.specs.Vec.Iter.{into_iter_items}
use Rattle.st_adding.specs.Rows.{HaveSlots, handed, rows_of}
use Rattle.st_adding.proofs.blocks.fill_slots.Given as goal

-- the rows that are left have slots, and lead to all being handed
abbrev pub invariant-loop-key : goal.invariant-loop-key
invariant-loop-key l =
    HaveSlots l.slots.entries (into_iter_items l.key-iterator)
    × (handed (into_iter_items l.key-iterator) (rows_of l.slots.entries) ≡ handed l.fn.rows.items (rows_of l.fn.slots.entries))
    × (goal.iterator-loop-key).can_next l.key-iterator
    × (goal.iterator-loop-key).is_finite l.key-iterator
