use Rattle.std.proofs.Common.{◌≡◌, ◌∙◌, ◌<◌, ◌^◌, ◌+◌, ◌-◌, ◌++◌, ◌∷◌, [], min, take, drop, sym, subst, rules, true}
use Rattle.std.specs.List.{AllByRecursion}
use Rattle.std.proofs.lemmas.List.{take_more, drop_more, take_all}
use Rattle.st_engine.specs.Holding.{points_of}
use Rattle.st_engine.specs.Replay.{Recovery, frame_on}
use Rattle.st_engine.specs.Snapshot.{has_close}
use Rattle.st_engine.proofs.Recovering.{Read, none-read, read-closed, read-on}
use Rattle.st_engine.proofs.recovery.recover_in.Goals as goal
use Rattle.st_engine.proofs.recovery.recover_in.Goals.{then-branch, else-branch}

pub loop-frame-init : goal.loop-frame-init
loop-frame-init g c = subst (λ (r : Recovery). Read 0 0 r.pairs r.last [] c.args.frames.now) (sym c.new-recovery.ensures) (none-read c.args.frames.now c.requires.numbers)

pub loop-frame-preserved : goal.loop-frame-preserved
loop-frame-preserved g c =
    let frames = c.args.frames.now in
    let i = c.loop-frame.frame-index in
    let frame = c.frame-item.result in
    let before = c.loop-frame.recovery in
    let after = c.frame.new.self in
    let taken : take (i + 1) frames ≡ take i frames ++ frame ∷ [] = search (rules, take_more) in
    let left : drop i frames ≡ frame ∷ drop (i + 1) frames = search (rules, drop_more) in
    let read = subst (λ l. Read c.loop-frame.discarded c.loop-frame.began before.pairs before.last (take i frames) l) left c.loop-frame.invariant in
    let on : frame_on (record { pairs = before.pairs; last = before.last }) frame ≡ after = sym c.in_ok-frame.ensures.on in
    subst (λ l. Read c.if-branch.discarded c.if-branch.began after.pairs after.last l (drop (i + 1) frames)) (sym taken) (elim c.if-branch.branch [
      | then-branch w ↦
          let closes : has_close frame ≡ true = sym c.in_ok-frame.ensures.closes ∙ w.if-branch.true in
          let next : w.saturating_add-began.result ≡ min (frame.seq + 1) (2 ^ 64 - 1) = search rules in
          let small : c.loop-frame.began < 2 ^ 64 = search rules in
          rw (w.began-is, w.discarded-is) (read-closed c.loop-frame.discarded c.loop-frame.began before.pairs before.last (take i frames) (drop (i + 1) frames) frame read after on closes w.saturating_add-began.result next small)
      | else-branch w ↦
          rw (w.began-is, w.discarded-is) (read-on c.loop-frame.discarded c.loop-frame.began before.pairs before.last (take i frames) (drop (i + 1) frames) frame read after on (sym c.in_ok-frame.ensures.closes ∙ w.if-branch.false))
    ])

pub returns-clause-below : goal.returns-clause-below
returns-clause-below g c = λ next all.
    let whole : take c.loop-frame.frame-index c.args.frames.now ≡ c.args.frames.now = search (rules, take_all) in
    c.loop-frame.invariant.below next (subst (AllByRecursion (λ frame. frame.seq < next)) (sym whole) all)

pub returns-clause-points : goal.returns-clause-points
returns-clause-points g c =
    let whole : take c.loop-frame.frame-index c.args.frames.now ≡ c.args.frames.now = search (rules, take_all) in
    subst (λ l. record { discarded = c.loop-frame.discarded; began = c.loop-frame.began } ≡ points_of l) whole c.loop-frame.invariant.points
