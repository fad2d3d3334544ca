use Rattle.std.proofs.Common.{◌≡◌, ◌∙◌, None, ap, subst, sym}
use Rattle.std.specs.Cmp.Lexicographic.{slice_cmp}
use Rattle.std.specs.FinMap.Entries.{find, put}
use Rattle.std.specs.Ordering.{nat_cmp}
use Rattle.std.specs.Prelude.{IsSome}
use Rattle.st_adding.specs.Rows.{Slots, rows_of}
use Rattle.st_adding.proofs.Slots.{in_order, insert-put, lookup-find, none_from, rows-made, slot_stays}
use Rattle.st_adding.proofs.blocks.make_slot.Goals as goal

pub returns-in_ok-insert-clause-same : goal.returns-in_ok-insert-clause-same
returns-in_ok-insert-clause-same c =
    let slots : Slots = c.args.slots.now.entries in
    let key = c.in_ok-clone.field-0 in
    let now : c.insert.new.self.entries ≡ put (slice_cmp nat_cmp) key None slots = c.in_ok-insert.ensures.entries ∙ insert-put key None slots in
    let none : find (slice_cmp nat_cmp) c.args.key.now slots ≡ None =
    sym (lookup-find c.args.key.now slots) ∙ none_from _ (sym c.contains_key.ensures ∙ c.if-not-contains_key.true) in
    let absent : find (slice_cmp nat_cmp) key slots ≡ None = ap (λ k. find (slice_cmp nat_cmp) k slots) c.in_ok-clone.ensures.cases ∙ none in
    ap rows_of now ∙ rows-made key slots (in_order slots c.in_ok-insert.ensures.was_ordered) absent

pub returns-in_ok-insert-clause-kept : goal.returns-in_ok-insert-clause-kept
returns-in_ok-insert-clause-kept c other there =
    let slots : Slots = c.args.slots.now.entries in
    let key = c.in_ok-clone.field-0 in
    let now : c.insert.new.self.entries ≡ put (slice_cmp nat_cmp) key None slots = c.in_ok-insert.ensures.entries ∙ insert-put key None slots in
    subst (λ (s : Slots). IsSome (find (slice_cmp nat_cmp) other s)) (sym now) (slot_stays other key None slots there)
