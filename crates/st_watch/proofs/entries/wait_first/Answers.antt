use Rattle.std.proofs.Common.{◌≡◌, ◌∙◌, false, refl, sym, ap, arith, subst, take, drop}
use Rattle.std.proofs.lemmas.List.Filters.{FiltersInPlace-more_no, FiltersInPlace-more_swap}
use Rattle.std.proofs.lemmas.List.Sorted.{IsPermutation-refl, IsPermutation-trans}
use Rattle.std.specs.List.{AllByRecursion}
use Rattle.st_watch.specs.declared.entry.Entry.{Entry}
use Rattle.st_watch.specs.Layout.{waits}
use Rattle.st_watch.proofs.Lists.{all-since, filter-all, swapped-behind, within-more}
use Rattle.st_watch.proofs.entries.wait_first.Goals as goal
use Rattle.st_watch.proofs.entries.wait_first.Goals.{then-is_waiting, else-is_waiting}

pub loop-i-init : goal.loop-i-init
loop-i-init c = record {
  placed = record {
    front = sym (filter-all waits (take c.args.from c.args.entries.now) c.requires.first);
    rest = refl;
    behind = omega arith;
    within = omega arith;
    long = refl;
  };
  behind = λ k d low high. absurd (omega arith);
  moved = IsPermutation-refl c.args.entries.now;
}

module _ (c : goal.Joined-is_waiting) where
  here : waits c.index-entries-i.result ≡ c.is_waiting.result
  here = ap waits c.index-entries-i.is ∙ sym c.is_waiting.ensures

pub loop-i-preserved : goal.loop-i-preserved
loop-i-preserved c =
    elim c.if-is_waiting.branch [
      | then-is_waiting w ↦ rw (w.entries-is, w.waiting-is) (record {
        placed = FiltersInPlace-more_swap {x = c.index-entries-i.result} c.loop-i.invariant.placed (omega arith) (here c ∙ w.if-is_waiting.true) c.index-entries-i.is w.swap.ensures.by_index;
        behind = swapped-behind (λ (e : Entry). waits e ≡ false) c.loop-i.entries w.swap.new.self c.loop-i.waiting c.loop-i.i w.swap.ensures.by_index c.loop-i.invariant.behind;
        moved = IsPermutation-trans _ _ _ c.loop-i.invariant.moved w.swap.ensures.permutation;
      })
      | else-is_waiting w ↦ rw (w.entries-is, w.waiting-is) (record {
        placed = FiltersInPlace-more_no {x = c.index-entries-i.result} c.loop-i.invariant.placed (omega arith) (here c ∙ w.if-is_waiting.false) c.index-entries-i.is;
        behind = within-more (λ (e : Entry). waits e ≡ false) c.loop-i.entries c.loop-i.waiting c.loop-i.i c.index-entries-i.result (omega arith) c.loop-i.invariant.behind
            (ap waits (sym c.index-entries-i.is) ∙ here c ∙ w.if-is_waiting.false);
        moved = c.loop-i.invariant.moved;
      })
    ]

pub returns-clause-others : goal.returns-clause-others
returns-clause-others c =
    let there : c.loop-i.i ≡ c.args.to = omega arith in
    all-since (λ (e : Entry). waits e ≡ false) c.loop-i.waiting c.args.to c.loop-i.entries
    (λ k d low high. c.loop-i.invariant.behind k d low (omega arith))
    (subst (λ l. AllByRecursion (λ (e : Entry). waits e ≡ false) l)
    (sym (subst (λ n. drop n c.loop-i.entries ≡ drop n c.args.entries.now) there c.loop-i.invariant.placed.rest)) c.requires.others)
