use Rattle.std.proofs.Common.{Ok, refl}
use Rattle.std.proofs.lemmas.Result.{err_from_is_err_and}
use Rattle.st_disk.specs.Fuse.{fused_faults, fused_history}
use Rattle.st_life.proofs.Closing.{line-ends, line-left, line-more, line-stops, still-ok}
use Rattle.st_life.proofs.running.Running.line.Goals as goal

pub returns-in_err-step-clause-err : goal.returns-in_err-step-clause-err
returns-in_err-step-clause-err g c =
    let p = err_from_is_err_and c.from_residual.result c.from_residual.ensures.1 in
    rw (p.1, p.2)
    (line-stops (fused_history g.D.Disk.history) g.B.Beginning.start g.B.Beginning.told c.args.one c.args.times c.loop-time._time c.in_err-step.field-0.0 c.args.self.now c.loop-time.self c.step.new.self
    c.loop-time-test.true c.loop-time.invariant.0 c.in_err-step.ensures.err)

pub returns-then-not-branch-clause-ok : goal.returns-then-not-branch-clause-ok
returns-then-not-branch-clause-ok g c =
    line-left (fused_history g.D.Disk.history) g.B.Beginning.start g.B.Beginning.told c.args.one c.args.times c.loop-time._time c.in_ok-step.field-0 c.args.self.now c.loop-time.self c.step.new.self
    c.loop-time-test.true c.loop-time.invariant.0 c.in_ok-step.ensures.ok c.if-not-branch.true

pub loop-time-preserved : goal.loop-time-preserved
loop-time-preserved g c = (
  line-more (fused_history g.D.Disk.history) g.B.Beginning.start g.B.Beginning.told c.args.one c.args.times c.loop-time._time c.in_ok-step.field-0 c.args.self.now c.loop-time.self c.step.new.self
      c.loop-time-test.true c.loop-time.invariant.0 c.in_ok-step.ensures.ok c.if-not-branch.false,
  still-ok (fused_faults g.D.Disk.fault_count) c.args.self.now.server.engine c.loop-time.self.server.engine c.step.new.self.server.engine (Ok c.in_ok-step.field-0) c.in_ok-step.field-0 refl
      c.loop-time.invariant.1 c.in_ok-step.ensures.engine,
)

pub returns-clause-ok : goal.returns-clause-ok
returns-clause-ok g c =
    line-ends (fused_history g.D.Disk.history) g.B.Beginning.start g.B.Beginning.told c.args.one c.args.times c.loop-time._time c.args.self.now c.loop-time.self c.loop-time-test.false c.loop-time.invariant.0
