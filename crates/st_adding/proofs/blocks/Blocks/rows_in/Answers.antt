use Rattle.std.proofs.Common.{◌≡◌, ◌∙◌, ◌++◌, [], ap, subst, sym}
use Rattle.std.specs.BTreeMap.Range.{entries_between}
use Rattle.std.specs.Cmp.Lexicographic.{slice_cmp}
use Rattle.std.specs.Ordering.{nat_cmp}
use Rattle.std.specs.Prelude.{IsTrue}
use Rattle.std.specs.declared.ops.Bound.TheVariants.{Included, Excluded}
use Rattle.st_fold.specs.Map.{Map}
use Rattle.st_fold.specs.Reading.{pairs_in}
use Rattle.st_adding.specs.Rows.{Slots, rises, rows_of}
use Rattle.st_adding.proofs.Logs.{append_nil}
use Rattle.st_adding.proofs.Slots.{all-rise, rows-between, rows-rise}
use Rattle.st_adding.proofs.blocks.Blocks.rows_in.Goals as goal

pub loop-key-init : goal.loop-key-init
loop-key-init c =
    let slots : Slots = c.self.inside.slots.entries in
    let ends : c.range-key-items.result ≡ entries_between (slice_cmp nat_cmp) (Included c.args.range.now.begin) (Excluded c.args.range.now.end) slots =
    c.range-key-items.ensures.between tt ∙ λ i. entries_between (slice_cmp nat_cmp) (Included (c.begin.ensures.value i)) (Excluded (c.end.ensures.value i)) slots in
    ap (λ (rows : Map). rows ++ rows_of c.into_iter-key-iterator.result) c.new-rows.ensures.items
    ∙ ap rows_of (c.into_iter-key-iterator.ensures.into_iter_gives ∙ ends)
    ∙ rows-between c.args.range.now slots
    ∙ ap (pairs_in c.args.range.now) c.self.view_is

pub returns-clause-rising : goal.returns-clause-rising
returns-clause-rising c =
    let items : Map = c.loop-key.rows.items in
    let none : c.loop-key.key-iterator ≡ [] = c.in-None.ensures.steps.0 in
    let all : items ≡ pairs_in c.args.range.now (rows_of c.self.inside.slots.entries) =
    sym (append_nil items) ∙ ap (λ (slots : Slots). items ++ rows_of slots) (sym none) ∙ c.loop-key.invariant ∙ ap (pairs_in c.args.range.now) (sym c.self.view_is) in
    subst (λ (rows : Map). IsTrue (rises rows)) (sym all) (rows-rise c.args.range.now c.self.inside.slots.entries c.range-key-items.ensures.ordered)

pub returns-clause-ordered : goal.returns-clause-ordered
returns-clause-ordered c =
    subst (λ (rows : Map). IsTrue (rises rows)) c.self.view_is (all-rise c.self.inside.slots.entries c.range-key-items.ensures.ordered)

pub returns-in_err-push_row-clause-ordered : goal.returns-in_err-push_row-clause-ordered
returns-in_err-push_row-clause-ordered c =
    subst (λ (rows : Map). IsTrue (rises rows)) c.self.view_is (all-rise c.self.inside.slots.entries c.range-key-items.ensures.ordered)
