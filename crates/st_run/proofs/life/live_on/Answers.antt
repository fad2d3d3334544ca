use Rattle.std.proofs.Common.{◌≡◌, ◌∙◌, [], ◌∷◌, IfSome, Some, None, inl, refl, sym, ap, subst}
use Rattle.st_disk.specs.Fuse.{Fuse, fused_faults, fused_history, inner_of}
use Rattle.st_fold.specs.declared.report.Fault.TheVariants.{Memory}
use Rattle.st_life.specs.Ended.{IsLifeOf}
use Rattle.st_life.specs.Running.{LetsThrough}
use Rattle.st_run.specs.Lived.{IsUnbegun, LivesOn, given_of, start_found}
use Rattle.st_run.specs.Opening.{FailsToOpen, IsOpenOn}
use Rattle.st_run.proofs.Living.{lets-through, lives-on, not-opened}
use Rattle.st_run.proofs.life.live_on.Goals as goal

pub live-requires-clause-fuse : goal.live-requires-clause-fuse
live-requires-clause-fuse g c =
    let told = g.D.Disk.history in
    let fused = c.new-fused.result in
    let plan = c.args.plan.now in
    let fuse = c.new-fused.ensures.fuse in
    subst (λ o. IfSome o (LetsThrough plan)) (sym c.in-Ok.ensures.ok.mounted.synced)
    (lets-through plan fused.passed fused.passes (told (inner_of fused)) c.requires.livable (ap (λ (f : Fuse). f.passed) fuse)
    (ap (λ (f : Fuse). f.passes) fuse ∙ c.passes.ensures))

pub returns-then-are_all_keys : goal.returns-then-are_all_keys
returns-then-are_all_keys g c =
    let told = g.D.Disk.history in
    let fused = c.new-fused.result in
    let plan = c.args.plan.now in
    let settings = c.args.settings.now in
    let own = c.args.own.now in
    let log = c.args.log in
    let found = c.in-Ok.opened in
    let ended = c.live.result in
    let all = c.if-are_all_keys.ensures refl in
    let is = subst (λ own. IsLifeOf told (fused_history told found.engine.disk) (start_found (given_of settings own log plan) plan found) ended ended.life) (sym c.requires.served.all) c.live.ensures.ended in
    lives-on told g.D.Disk.fault_count (given_of settings own log plan) plan c.args.disk fused c.new-fused.ensures.inner c.passes.result c.new-fused.ensures.fuse found
    (subst (λ l. IsOpenOn (fused_history told) fused own l settings found) c.as_slice.ensures c.in-Ok.ensures.ok) (c.stores_open.ensures.fresh own log c.requires.served.rises) ended c.live.ensures.unbegun
    all ended.life refl is c.live.ensures.fault c.in-Ok.ensures.no_fault c.live.ensures.log

pub returns-else-are_all_keys : goal.returns-else-are_all_keys
returns-else-are_all_keys g c =
    let told = g.D.Disk.history in
    let count = g.D.Disk.fault_count in
    let fused = c.new-fused.result in
    let plan = c.args.plan.now in
    let given = given_of c.args.settings.now c.args.own.now c.args.log plan in
    let found = c.in-Ok.opened in
    subst (λ ended. LivesOn told count given plan c.args.disk ended ended.life) (sym c.unbegun.ensures)
    (subst (λ disk. IsUnbegun told count given c.args.disk (record { life = None; disk = disk; fault = Some Memory; log = [] }))
    (sym (c.into_inner.ensures ∙ ap inner_of c.dismount.ensures))
    (not-opened told count given plan c.args.disk fused c.new-fused.ensures.inner c.passes.result c.new-fused.ensures.fuse found.engine.disk Memory (inl c.in-Ok.ensures.ok.mounted.synced)
    c.in-Ok.ensures.ok.mounted.any_moment tt))

pub returns-in-Err : goal.returns-in-Err
returns-in-Err g c =
    let told = g.D.Disk.history in
    let count = g.D.Disk.fault_count in
    let fused = c.new-fused.result in
    let plan = c.args.plan.now in
    let own = c.args.own.now in
    let log = c.args.log in
    let given = given_of c.args.settings.now own log plan in
    let refused = c.in-Err.field-0 in
    let fails = subst (λ l. FailsToOpen (fused_history told) (fused_faults count) fused own l refused) c.as_slice.ensures c.in-Err.ensures.err in
    subst (λ ended. LivesOn told count given plan c.args.disk ended ended.life) (sym c.unbegun-in-Err.ensures)
    (subst (λ disk. IsUnbegun told count given c.args.disk (record { life = None; disk = disk; fault = Some c.blame-why.result; log = [] })) (sym c.into_inner-in-Err.ensures)
    (not-opened told count given plan c.args.disk fused c.new-fused.ensures.inner c.passes.result c.new-fused.ensures.fuse refused.disk c.blame-why.result fails.came_to fails.any_moment
    (c.blame-why.ensures own log (fused_history told fused) (fused_faults count fused) fails.why)))
