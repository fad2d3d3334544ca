use Rattle.std.proofs.Common.{◌≡◌, ◌∙◌, ◌<◌, ◌==◌, length, ap, sym, subst}
use Rattle.std.specs.List.{AllByRecursion}
use Rattle.st_ptree.specs.Entries.{pairs_of}
use Rattle.st_queue.specs.Place.{next_number}
use Rattle.st_queue.specs.Reading.{Rises}
use Rattle.st_queue.specs.declared.frame.Frame.{Frame}
use Rattle.st_engine.specs.Holding.{points_of}
use Rattle.st_engine.specs.Kept.{Stand}
use Rattle.st_engine.specs.Store.{Bounds, Store}
use Rattle.st_engine.proofs.Mounts.{mount-agrees, mount-keeps, mounts, no-frames}
use Rattle.st_engine.proofs.engine.Engine.mount.Goals as goal

pub recover-requires : goal.recover-requires
recover-requires g c = record { numbers = subst (Rises 0) (sym c.deref.ensures.value) c.in_ok-queue.ensures.numbers }

pub returns-in-Ok-clause-ok : goal.returns-in-Ok-clause-ok
returns-in-Ok-clause-ok g c =
    let r = c.in-Ok.recovered in
    let items = c.in_ok-queue.frames.items in
    let settings = c.args.settings.now in
    let store : Store = record { pairs = pairs_of r.pairs; fresh = c.is_empty.result; cursor = r.cursor; began = r.began; discarded = r.discarded } in
    let bounds : Bounds = record { quota = settings.quota; swap = settings.swap; limit = settings.limit } in
    let stand = subst (Stand r.discarded r.began (pairs_of r.pairs) r.cursor) c.deref.ensures.value c.in-Ok.ensures.stand in
    let points = subst (λ l. record { discarded = r.discarded; began = r.began } ≡ points_of l) c.deref.ensures.value c.in-Ok.ensures.points in
    let fresh = c.is_empty.ensures ∙ ap (λ n. n == 0) (sym c.deref.ensures.len ∙ ap length c.deref.ensures.value) ∙ no-frames items in
    mounts g.D.Disk.history c.args.disk c.in_ok-queue.queue c.discard_before.new.self items store bounds c.in_ok-queue.ensures.frames c.in_ok-queue.ensures.synced c.in_ok-queue.ensures.stands
    c.in_ok-queue.ensures.state c.discard_before.ensures.disk c.discard_before.ensures.state stand points fresh c.in_ok-queue.ensures.any_moment

pub returns-in-Ok-clause-agrees : goal.returns-in-Ok-clause-agrees
returns-in-Ok-clause-agrees g c =
    let r = c.in-Ok.recovered in
    let items = c.in_ok-queue.frames.items in
    let settings = c.args.settings.now in
    let store : Store = record { pairs = pairs_of r.pairs; fresh = c.is_empty.result; cursor = r.cursor; began = r.began; discarded = r.discarded } in
    let bounds : Bounds = record { quota = settings.quota; swap = settings.swap; limit = settings.limit } in
    let stand = subst (Stand r.discarded r.began (pairs_of r.pairs) r.cursor) c.deref.ensures.value c.in-Ok.ensures.stand in
    let points = subst (λ l. record { discarded = r.discarded; began = r.began } ≡ points_of l) c.deref.ensures.value c.in-Ok.ensures.points in
    let fresh = c.is_empty.ensures ∙ ap (λ n. n == 0) (sym c.deref.ensures.len ∙ ap length c.deref.ensures.value) ∙ no-frames items in
    mount-agrees g.D.Disk.history c.args.disk c.in_ok-queue.queue c.discard_before.new.self items store bounds c.in_ok-queue.ensures.frames c.in_ok-queue.ensures.synced c.in_ok-queue.ensures.stands
    c.in_ok-queue.ensures.state c.discard_before.ensures.disk c.discard_before.ensures.state stand points fresh c.tells_due.ensures

pub invariant_of-result : goal.invariant_of-result
invariant_of-result g c =
    let r = c.in-Ok.recovered in
    let items = c.in_ok-queue.frames.items in
    let settings = c.args.settings.now in
    let store : Store = record { pairs = pairs_of r.pairs; fresh = c.is_empty.result; cursor = r.cursor; began = r.began; discarded = r.discarded } in
    let bounds : Bounds = record { quota = settings.quota; swap = settings.swap; limit = settings.limit } in
    let stand = subst (Stand r.discarded r.began (pairs_of r.pairs) r.cursor) c.deref.ensures.value c.in-Ok.ensures.stand in
    let points = subst (λ l. record { discarded = r.discarded; began = r.began } ≡ points_of l) c.deref.ensures.value c.in-Ok.ensures.points in
    let fresh = c.is_empty.ensures ∙ ap (λ n. n == 0) (sym c.deref.ensures.len ∙ ap length c.deref.ensures.value) ∙ no-frames items in
    mount-keeps g.D.Disk.history c.args.disk c.in_ok-queue.queue c.discard_before.new.self items store bounds c.in_ok-queue.ensures.frames c.in_ok-queue.ensures.synced c.in_ok-queue.ensures.stands
    c.in_ok-queue.ensures.state c.discard_before.ensures.disk c.discard_before.ensures.state stand points fresh c.tells_due.ensures c.in-Ok.ensures.order
    (c.in-Ok.ensures.below (next_number c.in_ok-queue.queue.state.current)
    (subst (AllByRecursion (λ (frame : Frame). frame.seq < next_number c.in_ok-queue.queue.state.current)) (sym c.deref.ensures.value) c.in_ok-queue.ensures.next))
