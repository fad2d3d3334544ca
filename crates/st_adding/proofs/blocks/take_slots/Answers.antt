use Rattle.std.proofs.Common.{◌≡◌, ◌∙◌, [], None, not, rules, sym}
use Rattle.std.proofs.lemmas.Map.Iter.{rest_all}
use Rattle.std.proofs.lemmas.Map.Made.{filter_same_pairs}
use Rattle.std.specs.BTreeMap.Range.{entries_between}
use Rattle.std.specs.Cmp.Lexicographic.{slice_cmp}
use Rattle.std.specs.Map.Iter.{deref_pair}
use Rattle.std.specs.Ordering.{nat_cmp}
use Rattle.std.specs.declared.ops.Bound.TheVariants.{Included, Excluded}
use Rattle.st_key.specs.Spans.{within}
use Rattle.st_adding.specs.Rows.{Slots}
use Rattle.st_adding.proofs.Slots.{none-inside, none_from, slots-between}
use Rattle.st_adding.proofs.blocks.take_slots.Goals as goal

pub returns-then-is_some : goal.returns-then-is_some
returns-then-is_some c =
    filter_same_pairs _ (λ e. not (within c.args.range.now e.0)) _ (λ k v b w f' called. search rules) _ _ c.retain.ensures.filtered ∙ c.pop_slots.ensures

-- none is left in the range
pub returns-else-is_some : goal.returns-else-is_some
returns-else-is_some c =
    let slots : Slots = c.pop_slots.new.slots.entries in
    let none : c.next.result ≡ None = none_from _ (sym c.is_some.ensures ∙ c.if-is_some.false) in
    let empty : c.range.result ≡ [] = rest_all deref_pair _ _ _ none c.next.ensures.steps in
    let ends : c.range.result ≡ entries_between (slice_cmp nat_cmp) (Included c.args.range.now.begin) (Excluded c.args.range.now.end) slots =
    c.range.ensures.between tt ∙ λ i. entries_between (slice_cmp nat_cmp) (Included (c.begin.ensures.value i)) (Excluded (c.end.ensures.value i)) slots in
    none-inside (within c.args.range.now) slots (sym (slots-between c.args.range.now slots) ∙ sym ends ∙ empty) ∙ c.pop_slots.ensures
