use Rattle.std.proofs.Common.{◌∙◌, [], Err, refl, ap}
use Rattle.std.proofs.lemmas.Result.{err_from_is_err_and}
use Rattle.st_core.specs.Server.{Serving}
use Rattle.st_disk.specs.Fuse.{fused_faults, fused_history}
use Rattle.st_life.proofs.Closing.{IsStill, still-then, turns-over}
use Rattle.st_life.proofs.Leading.{lead-on, lead-stops, stops-here}
use Rattle.st_life.proofs.running.Running.play.Goals as goal

pub returns-in_err-lines-clause-err : goal.returns-in_err-lines-clause-err
returns-in_err-lines-clause-err g c =
    let p = err_from_is_err_and c.from_residual.result c.from_residual.ensures.1 in
    rw (p.1, p.2) c.in_err-lines.ensures.err

pub returns-in_err-lines-clause-engine : goal.returns-in_err-lines-clause-engine
returns-in_err-lines-clause-engine g c =
    let p = err_from_is_err_and c.from_residual.result c.from_residual.ensures.1 in
    rw (p.1, p.2) c.in_err-lines.ensures.engine

pub returns-in_err-rest-clause-err : goal.returns-in_err-rest-clause-err
returns-in_err-rest-clause-err g c =
    let p = err_from_is_err_and c.from_residual-in_err-rest.result c.from_residual-in_err-rest.ensures.1 in
    rw (p.1, p.2)
    (lead-stops (fused_history g.D.Disk.history) g.B.Beginning.start g.B.Beginning.told c.args.lines.now [] c.args.self.now c.lines.new.self c.rest.new.self c.in_err-rest.field-0.0
    c.in_ok-lines.ensures.ok c.in_err-rest.ensures.err)

pub returns-in_err-rest-clause-engine : goal.returns-in_err-rest-clause-engine
returns-in_err-rest-clause-engine g c =
    let count = fused_faults g.D.Disk.fault_count in
    let old = c.args.self.now.server.engine in
    let mid = c.lines.new.self.server.engine in
    let still : IsStill count old mid = record { faults = c.in_ok-lines.ensures.engine.0; broken = c.in_ok-lines.ensures.engine.1 } in
    let p = err_from_is_err_and c.from_residual-in_err-rest.result c.from_residual-in_err-rest.ensures.1 in
    rw (p.1, p.2) (still-then {T = Unit {0}} count old mid c.rest.new.self.server.engine (Err c.in_err-rest.field-0.0) still c.in_err-rest.ensures.engine)

pub returns-in_err-read_all-clause-err : goal.returns-in_err-read_all-clause-err
returns-in_err-read_all-clause-err g c =
    let told = fused_history g.D.Disk.history in
    let start = g.B.Beginning.start in
    let before = g.B.Beginning.told in
    let there = c.read_all.new.self in
    let p = err_from_is_err_and c.from_residual-in_err-read_all.result c.from_residual-in_err-read_all.ensures.1 in
    rw (p.1, p.2)
    (lead-stops told start before c.args.lines.now [] c.args.self.now there there _
    (lead-on told start before c.args.lines.now [] [] c.args.self.now c.rest.new.self there
    (lead-on told start before c.args.lines.now [] [] c.args.self.now c.lines.new.self c.rest.new.self c.in_ok-lines.ensures.ok c.in_ok-rest.ensures.ok)
    c.in_err-read_all.ensures.err)
    (stops-here told start before [] there there refl refl))

pub returns-in_err-read_all-clause-engine : goal.returns-in_err-read_all-clause-engine
returns-in_err-read_all-clause-engine g c =
    let p = err_from_is_err_and c.from_residual-in_err-read_all.result c.from_residual-in_err-read_all.ensures.1 in
    rw (p.1, p.2) tt

pub returns-clause-ok : goal.returns-clause-ok
returns-clause-ok g c =
    let told = fused_history g.D.Disk.history in
    let start = g.B.Beginning.start in
    let before = g.B.Beginning.told in
    let read = c.in_ok-read_all.ensures.ok in
    turns-over told start before c.args.lines.now c.args.self.now c.read_all.new.self
    (lead-on told start before c.args.lines.now [] [] c.args.self.now c.rest.new.self c.read_all.new.self
    (lead-on told start before c.args.lines.now [] [] c.args.self.now c.lines.new.self c.rest.new.self c.in_ok-lines.ensures.ok c.in_ok-rest.ensures.ok) read.0)
    read.1

pub returns-clause-engine : goal.returns-clause-engine
returns-clause-engine g c =
    let lines = c.in_ok-lines.ensures.engine in
    let rest = c.in_ok-rest.ensures.engine in (
      ap (λ (s : Serving _ _). fused_faults g.D.Disk.fault_count s.engine.disk) c.read_all.ensures.server ∙ rest.0 ∙ lines.0,
      ap (λ (s : Serving _ _). s.engine.broken) c.read_all.ensures.server ∙ rest.1 ∙ lines.1,
    )
