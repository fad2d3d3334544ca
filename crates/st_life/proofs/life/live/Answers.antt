use Rattle.std.proofs.Common.{◌≡◌, ◌∙◌, ◌++◌, map, IfErr, IfSome, OnOk, ap, sym, subst}
use Rattle.st_board.specs.Stands.{StandsFor, Standing}
use Rattle.st_core.specs.Server.{Serving}
use Rattle.st_disk.specs.Fuse.{fused_faults, fused_history}
use Rattle.st_disk.specs.History.{Files, MayLeave}
use Rattle.st_engine.specs.Engine.{Mounted}
use Rattle.st_fold.specs.Endings.{last_event}
use Rattle.st_model.specs.Schedule.{answered_by}
use Rattle.st_model.specs.State.{State}
use Rattle.st_restart.specs.After.{OpenBehind}
use Rattle.st_life.specs.Readers.{Reading}
use Rattle.st_life.specs.Running.{EngineBehind, Playing, PlaysOut, StopsOn}
use Rattle.st_life.proofs.Ending.{fault-is, live-ended, no-flight}
use Rattle.st_life.proofs.life.live.Goals as goal

pub returns-clause-ended : goal.returns-clause-ended
returns-clause-ended g c =
    let told = g.D.Disk.history in
    let given = g.N.Story.given in
    let opening = g.N.Story.opening in
    let start = g.B.Beginning.start in
    let before = g.B.Beginning.told in
    let plan = c.args.plan.now in
    let server = c.args.server in
    let new = c.play-outcome.new.self in
    let outcome = c.play-outcome.result in
    let stopped = c.stop-ending.result in
    let stands = subst (StandsFor given opening g.N.Story.store) c.board.ensures.board c.trace.ensures.stands in
    let unbroken = c.requires.serves.sound (c.requires.serves.flight
    ∙ no-flight _ _ stands.flown (ap (λ (s : State). s.flight) c.requires.state)) in
    let board = c.into_parts-board.ensures.board ∙ ap (λ (s : Serving _ _). s.board) c.into_parts-server.ensures.server in
    let disk = c.dismount.ensures ∙ ap (λ (e : Mounted _). e.disk) c.into_parts-board.ensures.engine ∙ ap (λ (s : Serving _ _). s.engine.disk) c.into_parts-server.ensures.server in
    let opens = subst (λ o. IfSome (fused_history told o) (λ h. (images : Files) → MayLeave h images → OpenBehind given c.into_parts-server.result.0.board.state images)) (sym c.dismount.ensures) c.into_parts-board.ensures.opens in
    let opened : opening.version ≡ c.durable-opened.result =
    sym (c.durable-opened.ensures ∙ ap (λ (b : Standing). b.state.durable) c.board-2.ensures.board ∙ ap (λ (s : State). s.durable) c.requires.state) in
    let trace : new.server.board.trace ++ last_event stopped.ending ≡ c.from_vec.result =
    sym (c.from_vec.ensures ∙ c.finish.ensures ∙ ap (λ (b : Standing). b.trace ++ last_event stopped.ending) board) in
    let answers : map answered_by new.reading.sessions ≡ c.from_vec-2.result =
    sym (c.from_vec-2.ensures ∙ c.into_answers.ensures ∙ ap (λ (r : Reading). map answered_by r.sessions) c.into_parts-server.ensures.readers) in
    live-ended told g.D.Disk.fault_count c.calls_join.ensures c.disks_let_through.ensures g.met.D.CrashDisk.leaves_an_image c.a_synced_file_has_one_image.ensures
    c.calls_are_whole.ensures.made c.calls_are_whole.ensures.stopped c.calls_are_counted.ensures.stopped_passes given plan opening g.N.Story.store.fresh server c.args.readers c.from_vec-3.result start before
    new outcome c.dismount.result stopped (record { opened = c.durable-opened.result; trace = c.from_vec.result; answers = c.from_vec-2.result; ending = stopped.ending })
    c.requires.told c.requires.start c.requires.begun.fuse c.requires.trace c.requires.state (ap (λ (r : Reading). r.sessions) c.requires.readers) c.requires.synced unbroken
    (subst (λ (p : Playing _ _). OnOk outcome (PlaysOut (fused_history told) start before plan.dos p new)) c.new-running.ensures
    (subst (λ l. OnOk outcome (PlaysOut (fused_history told) start before l c.new-running.result new)) c.as_slice.ensures c.play-outcome.ensures.ok))
    (subst (λ (p : Playing _ _). IfErr outcome (StopsOn (fused_history told) start before plan.dos p new)) c.new-running.ensures
    (subst (λ l. IfErr outcome (StopsOn (fused_history told) start before l c.new-running.result new)) c.as_slice.ensures c.play-outcome.ensures.err))
    (sym disk)
    (subst (λ (s : Serving _ _). IfSome (fused_history told c.dismount.result) (λ h. (images : Files) → MayLeave h images → OpenBehind given s.board.state images)) c.into_parts-server.ensures.server opens)
    c.stop-ending.ensures
    (λ i. record { opened = opened i; trace = trace i; answers = answers i; ending = stopped.ending })

pub returns-clause-fault : goal.returns-clause-fault
returns-clause-fault g c =
    let disk = c.dismount.ensures ∙ ap (λ (e : Mounted _). e.disk) c.into_parts-board.ensures.engine ∙ ap (λ (s : Serving _ _). s.engine.disk) c.into_parts-server.ensures.server in
    let engine = subst (λ (p : Playing _ _). EngineBehind (fused_faults g.D.Disk.fault_count) p.server.engine c.play-outcome.new.self.server.engine c.play-outcome.result) c.new-running.ensures c.play-outcome.ensures.engine in
    fault-is g.D.Disk.history g.D.Disk.fault_count c.args.plan.now c.args.server.engine c.play-outcome.new.self.server.engine c.play-outcome.result c.dismount.result c.stop-ending.result (sym disk) engine c.stop-ending.ensures
