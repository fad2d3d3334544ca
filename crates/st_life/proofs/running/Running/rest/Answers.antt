use Rattle.std.proofs.Common.{◌≡◌, ◌∙◌, ◌+◌, Bool, true, cond, [], length, is_some, sym, subst, arith}
use Rattle.std.proofs.lemmas.Result.{err_from_is_err_and}
use Rattle.st_core.specs.Acts.{event_of}
use Rattle.st_disk.specs.Fuse.{fused_faults, fused_history}
use Rattle.st_life.specs.Running.{Acts}
use Rattle.st_life.proofs.Closing.{close-acts, close-stops, still-ok}
use Rattle.st_life.proofs.Leading.{lead-on, lead-stops}
use Rattle.st_life.proofs.running.Running.rest.Goals as goal

pub loop-action-smaller : goal.loop-action-smaller
loop-action-smaller g c =
    let done : c.in_ok-act.field-0 ≡ true = c.in_ok-act.ensures.done ∙ c.in-Some.ensures.made in
    let longer : length c.act.new.self.server.board.trace ≡ length c.loop-action.self.server.board.trace + 1 =
    subst (λ (t : Bool). length c.act.new.self.server.board.trace ≡ length c.loop-action.self.server.board.trace + cond t 1 0) done c.in_ok-act.ensures.longer in
    let room = c.due.ensures.room in
    omega arith

pub loop-action-preserved : goal.loop-action-preserved
loop-action-preserved g c =
    let told = fused_history g.D.Disk.history in
    let start = g.B.Beginning.start in
    let before = g.B.Beginning.told in
    let done : c.in_ok-act.field-0 ≡ true = ◌∙◌ {b = is_some (event_of g.N.Story.given c.loop-action.self.server.board.state c.in-Some.action)} c.in_ok-act.ensures.done c.in-Some.ensures.made in (
      lead-on told start before [] [] [] c.args.self.now c.loop-action.self c.act.new.self c.loop-action.invariant.0
          (close-acts told start before c.in-Some.action c.loop-action.self c.act.new.self (sym c.due.ensures.due ∙ c.in-Some.is)
          (subst (λ (t : Bool). Acts told start before c.in-Some.action t c.loop-action.self c.act.new.self) done c.in_ok-act.ensures.ok)),
      still-ok (fused_faults g.D.Disk.fault_count) c.args.self.now.server.engine c.loop-action.self.server.engine c.act.new.self.server.engine c.act.result c.in_ok-act.field-0 c.in_ok-act.was c.loop-action.invariant.1 c.act.ensures.engine,
    )

pub returns-in_err-act-clause-err : goal.returns-in_err-act-clause-err
returns-in_err-act-clause-err g c =
    let told = fused_history g.D.Disk.history in
    let start = g.B.Beginning.start in
    let before = g.B.Beginning.told in
    let p = err_from_is_err_and c.from_residual.result c.from_residual.ensures.1 in
    rw (p.1, p.2)
    (lead-stops told start before [] [] c.args.self.now c.loop-action.self c.act.new.self c.in_err-act.field-0.0 c.loop-action.invariant.0
    (close-stops told start before c.in-Some.action c.loop-action.self c.act.new.self c.in_err-act.field-0.0 (sym c.due.ensures.due ∙ c.in-Some.is)
    c.in_err-act.ensures.reached c.in_err-act.ensures.reading c.in_err-act.ensures.err))
