use Rattle.std.proofs.Common.{sym, ◌∙◌, ap, ◌++◌, drop}
use Rattle.st_key.proofs.Joining.{passed, touched, placed, followed}
use Rattle.st_key.proofs.key_set.Ranges.joined.Goals as goal
use Rattle.st_key.proofs.key_set.Ranges.joined.Goals.{then-ends_before+in_ok-clone+in_ok-push, else-ends_before+else-ends_before-2+in_ok-grown-2}

pub loop-at-preserved : goal.loop-at-preserved
loop-at-preserved c =
    elim c.if-ends_before.branch [
      | then-ends_before+in_ok-clone+in_ok-push w ↦
          rw (w.out-is, w.grown-is, w.in_ok-push.ensures.items, w.in_ok-clone.ensures.copy)
          (passed c.loop-at.out.items c.deref-piece-items.result.now _ c.loop-at.at c.piece-item.result c.loop-at.grown
          c.loop-at-test.true c.piece-item.is (sym c.ends_before.ensures ∙ w.if-ends_before.true) c.loop-at.invariant)
      | else-ends_before+else-ends_before-2+in_ok-grown-2 w ↦
          rw (w.out-is, w.grown-is, w.in_ok-grown-2.ensures)
          (touched c.loop-at.out.items c.deref-piece-items.result.now _ c.loop-at.at c.piece-item.result c.loop-at.grown
          c.loop-at-test.true c.piece-item.is (sym c.ends_before.ensures ∙ w.if-ends_before.false)
          (sym w.ends_before-else-ends_before.ensures ∙ w.if-ends_before-2.false) c.loop-at.invariant)
    ]

pub returns-then-ends_before-2-clause-value : goal.returns-then-ends_before-2-clause-value
returns-then-ends_before-2-clause-value c =
    followed _ _ c.deref-piece-items.result.now c.deref.result.now _ c.loop-at.at
    (c.deref.ensures.value ∙ sym c.deref-piece-items.ensures.value) c.in_ok-extend_from_slice.ensures.items
    (ap (λ l. l ++ drop c.loop-at.at c.deref-piece-items.result.now) c.in_ok-push-2.ensures.items
    ∙ placed c.loop-at.out.items c.deref-piece-items.result.now _ c.loop-at.at c.piece-item.result c.loop-at.grown
    c.loop-at-test.true c.piece-item.is (sym c.ends_before.ensures ∙ c.if-ends_before.false)
    (sym c.ends_before-else-ends_before.ensures ∙ c.if-ends_before-2.true) c.loop-at.invariant)
