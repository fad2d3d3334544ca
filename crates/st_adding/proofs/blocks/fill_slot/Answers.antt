use Rattle.std.proofs.Common.{◌≡◌, ◌∙◌, Some, ap, subst, sym}
use Rattle.std.specs.Cmp.Lexicographic.{slice_cmp}
use Rattle.std.specs.FinMap.Entries.{find, put}
use Rattle.std.specs.Ordering.{nat_cmp}
use Rattle.std.specs.Prelude.{IsSome}
use Rattle.st_adding.specs.Rows.{Slots, rows_of}
use Rattle.st_adding.proofs.Slots.{in_order, insert-put, rows-filled, slot_stays}
use Rattle.st_adding.proofs.blocks.fill_slot.Goals as goal

pub returns-clause-filled : goal.returns-clause-filled
returns-clause-filled c =
    let slots : Slots = c.args.slots.now.entries in
    let now : c.insert.new.self.entries ≡ put (slice_cmp nat_cmp) c.args.key (Some c.args.value) slots = c.in-Ok.ensures.entries ∙ insert-put c.args.key (Some c.args.value) slots in
    ap rows_of now ∙ rows-filled c.args.key c.args.value slots (in_order slots c.in-Ok.ensures.was_ordered)

pub returns-clause-kept : goal.returns-clause-kept
returns-clause-kept c other there =
    let slots : Slots = c.args.slots.now.entries in
    let now : c.insert.new.self.entries ≡ put (slice_cmp nat_cmp) c.args.key (Some c.args.value) slots = c.in-Ok.ensures.entries ∙ insert-put c.args.key (Some c.args.value) slots in
    subst (λ (s : Slots). IsSome (find (slice_cmp nat_cmp) other s)) (sym now) (slot_stays other c.args.key (Some c.args.value) slots there)
