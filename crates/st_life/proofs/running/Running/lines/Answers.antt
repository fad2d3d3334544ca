use Rattle.std.proofs.Common.{◌+◌, drop, Ok, refl, sym, subst}
use Rattle.std.proofs.lemmas.List.{drop_more}
use Rattle.std.proofs.lemmas.Result.{err_from_is_err_and}
use Rattle.st_disk.specs.Fuse.{fused_faults, fused_history}
use Rattle.st_fold.specs.declared.plan.Act.TheVariants as act
use Rattle.st_fold.specs.declared.plan.Do.TheVariants as step_of
use Rattle.st_life.specs.Running.{LeadsOn, StopsOn}
use Rattle.st_life.proofs.Closing.{still-ok}
use Rattle.st_life.proofs.Leading.{lead-on, lead-stops}
use Rattle.st_life.proofs.running.Running.lines.Goals as goal

pub loop-one-preserved : goal.loop-one-preserved
loop-one-preserved g c =
    let lines = c.args.lines.now in
    let at = c.loop-one.one-index in (
      lead-on (fused_history g.D.Disk.history) g.B.Beginning.start g.B.Beginning.told lines (drop at lines) (drop (at + 1) lines) c.args.self.now c.loop-one.self c.line.new.self c.loop-one.invariant.0
          (subst (λ left. LeadsOn (fused_history g.D.Disk.history) g.B.Beginning.start g.B.Beginning.told left (drop (at + 1) lines) c.loop-one.self c.line.new.self)
          (sym (drop_more lines at (step_of.Act act.Apply, 0) c.loop-one-test.true)) (c.in_ok-line.ensures.ok (drop (at + 1) lines))),
      still-ok (fused_faults g.D.Disk.fault_count) c.args.self.now.server.engine c.loop-one.self.server.engine c.line.new.self.server.engine (Ok c.in_ok-line.field-0) c.in_ok-line.field-0 refl
          c.loop-one.invariant.1 c.in_ok-line.ensures.engine,
    )

pub returns-in_err-line-clause-err : goal.returns-in_err-line-clause-err
returns-in_err-line-clause-err g c =
    let p = err_from_is_err_and c.from_residual.result c.from_residual.ensures.1 in
    let lines = c.args.lines.now in
    let at = c.loop-one.one-index in
    rw (p.1, p.2)
    (lead-stops (fused_history g.D.Disk.history) g.B.Beginning.start g.B.Beginning.told lines (drop at lines) c.args.self.now c.loop-one.self c.line.new.self c.in_err-line.field-0.0 c.loop-one.invariant.0
    (subst (λ left. StopsOn (fused_history g.D.Disk.history) g.B.Beginning.start g.B.Beginning.told left c.loop-one.self c.line.new.self c.in_err-line.field-0.0)
    (sym (drop_more lines at (step_of.Act act.Apply, 0) c.loop-one-test.true)) (c.in_err-line.ensures.err (drop (at + 1) lines))))
