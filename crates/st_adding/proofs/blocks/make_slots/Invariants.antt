use Rattle.std.proofs.Common.{◌≡◌, take}
use Rattle.st_adding.specs.Rows.{HaveSlots, rows_of}
use Rattle.st_adding.proofs.blocks.make_slots.Given as goal

-- the rows so far have slots, and no slot became a row
abbrev pub invariant-loop-row : goal.invariant-loop-row
invariant-loop-row l = record {
  same : rows_of l.slots.entries ≡ rows_of l.fn.slots.entries;
  room : HaveSlots l.slots.entries (take l.row-index l.rows);
}
