use Rattle.std.proofs.Common.{◌≡◌, ◌∙◌, ◌+◌, nat_eq, cond, length, is_some, ap, sym, subst}
use Rattle.std.proofs.lemmas.Result.{err_from_is_err_and}
use Rattle.st_board.specs.Stands.{StandsFor}
use Rattle.st_core.specs.Acts.{act_on, event_of, reached_by, to}
use Rattle.st_core.specs.Driving.{IsRun, ran_at, run_on}
use Rattle.st_disk.specs.Fuse.{fused_faults, fused_history}
use Rattle.st_model.specs.State.{Given}
use Rattle.st_life.specs.Running.{Acts, Playing, RefusesAct}
use Rattle.st_life.proofs.Acting.{IsDriven, acts-driven, acts-refused, done-is, is-one}
use Rattle.st_life.proofs.Telling.{if-map}
use Rattle.st_life.proofs.running.Running.act.Given as given
use Rattle.st_life.proofs.running.Running.act.Goals as goal
use Rattle.st_life.proofs.running.Running.act.Goals.{In_ok-done}

-- what stands before the act
stands-here : (g : given.Over) → (c : In_ok-done g) → StandsFor g.N.Story.given g.N.Story.opening g.N.Story.store c.self.inside.server.board
stands-here g c = subst (StandsFor g.N.Story.given g.N.Story.opening g.N.Story.store) c.board.ensures.board c.trace.ensures.stands

whole : (g : given.Over) → (c : In_ok-done g) → to c.self.inside.upto g.N.Story.given ≡ g.N.Story.given
whole g c = let upto = c.self.invariant.4 in λ i. record g.N.Story.given { upto = upto i }

acted-here : (g : given.Over) → (c : In_ok-done g) → reached_by c.drive.new.self.board ≡ act_on g.N.Story.given (reached_by c.self.inside.server.board) c.args.action
acted-here g c = c.in_ok-done.ensures.acted ∙ ap (λ (given : Given). act_on given (reached_by c.self.inside.server.board) c.args.action) (whole g c)

done-here : (g : given.Over) → (c : In_ok-done g) → c.in_ok-done.done ≡ cond (is_some (event_of g.N.Story.given c.self.inside.server.board.state c.args.action)) 1 0
done-here g c =
    done-is g.N.Story.given (reached_by c.self.inside.server.board) c.args.action c.drive.new.self.board c.in_ok-done.done (acted-here g c) c.in_ok-done.ensures.told

is-done : (g : given.Over) → (c : In_ok-done g) → nat_eq c.in_ok-done.done 1 ≡ is_some (event_of g.N.Story.given c.self.inside.server.board.state c.args.action)
is-done g c = ap (λ n. nat_eq n 1) (done-here g c) ∙ is-one (is_some (event_of g.N.Story.given c.self.inside.server.board.state c.args.action))

pub returns-clause-done : goal.returns-clause-done
returns-clause-done g c = is-done g c ∙ ap (λ (p : Playing _ _). is_some (event_of g.N.Story.given p.server.board.state c.args.action)) c.self.view_is

pub returns-clause-longer : goal.returns-clause-longer
returns-clause-longer g c =
    c.in_ok-done.ensures.told
    ∙ ap (λ n. length c.self.inside.server.board.trace + n) (done-here g c ∙ ap (λ b. cond b 1 0) (sym (is-done g c)))
    ∙ ap (λ (p : Playing _ _). length p.server.board.trace + cond (nat_eq c.in_ok-done.done 1) 1 0) c.self.view_is

pub returns-clause-ok : goal.returns-clause-ok
returns-clause-ok g c =
    let server = c.self.inside.server in
    let new = c.drive.new.self in
    let stands = stands-here g c in
    let driven : IsDriven (fused_history g.D.Disk.history) g.N.Story.given g.N.Story.opening g.N.Story.store.fresh c.args.action server new = record {
      served = stands.pieces;
      flown = stands.flown;
      bounds = c.self.invariant.2;
      unbroken = c.in_ok-done.ensures.well.broken;
      acted = acted-here g c;
      ran = if-map (fused_history g.D.Disk.history server.engine.disk) _ _ (λ h (run : IsRun (fused_history g.D.Disk.history) h new.engine
          (run_on g.N.Story.given g.N.Story.opening g.N.Story.store.fresh server.engine.bounds c.self.inside.upto (ran_at server.board server.engine h) c.args.action)).
          record { made = record { history = run.made.history; keeps = run.made.keeps }; within = run.within }) c.in_ok-done.ensures.ran;
    } in
    subst (λ p. Acts (fused_history g.D.Disk.history) g.B.Beginning.start g.B.Beginning.told c.args.action (nat_eq c.in_ok-done.done 1) p (record { server = new; reading = c.self.inside.readers })) c.self.view_is
    (acts-driven (fused_history g.D.Disk.history) g.N.Story.given g.N.Story.opening g.N.Story.store.fresh g.B.Beginning.start g.B.Beginning.told c.calls_join.ensures c.disks_let_through.ensures
    c.self.invariant.1 c.args.action (nat_eq c.in_ok-done.done 1) server new c.self.inside.readers driven (is-done g c))

pub returns-in_err-done-clause-err : goal.returns-in_err-done-clause-err
returns-in_err-done-clause-err g c =
    let p = err_from_is_err_and c.from_residual.result c.from_residual.ensures.1 in
    let server = c.self.inside.server in
    let stands = subst (StandsFor g.N.Story.given g.N.Story.opening g.N.Story.store) c.board.ensures.board c.trace.ensures.stands in
    let upto = c.self.invariant.4 in
    let both = acts-refused (fused_history g.D.Disk.history) (fused_faults g.D.Disk.fault_count) g.N.Story.given g.N.Story.opening g.N.Story.store.fresh c.self.inside.upto g.B.Beginning.start g.B.Beginning.told
    c.self.invariant.1 c.args.action server c.drive.new.self c.self.inside.readers c.in_err-done.field-0.0 stands.pieces c.self.invariant.2 (λ i. record g.N.Story.given { upto = upto i })
    c.drive.ensures.serves.flight c.in_err-done.ensures.stopped in
    rw (p.1, p.2) (subst (λ q. RefusesAct (fused_history g.D.Disk.history) g.B.Beginning.start g.B.Beginning.told c.args.action q (record { server = c.drive.new.self; reading = c.self.inside.readers }) c.in_err-done.field-0.0)
    c.self.view_is both.1)

pub returns-in_err-done-clause-reached : goal.returns-in_err-done-clause-reached
returns-in_err-done-clause-reached g c =
    let p = err_from_is_err_and c.from_residual.result c.from_residual.ensures.1 in
    let server = c.self.inside.server in
    let stands = subst (StandsFor g.N.Story.given g.N.Story.opening g.N.Story.store) c.board.ensures.board c.trace.ensures.stands in
    let upto = c.self.invariant.4 in
    let both = acts-refused (fused_history g.D.Disk.history) (fused_faults g.D.Disk.fault_count) g.N.Story.given g.N.Story.opening g.N.Story.store.fresh c.self.inside.upto g.B.Beginning.start g.B.Beginning.told
    c.self.invariant.1 c.args.action server c.drive.new.self c.self.inside.readers c.in_err-done.field-0.0 stands.pieces c.self.invariant.2 (λ i. record g.N.Story.given { upto = upto i })
    c.drive.ensures.serves.flight c.in_err-done.ensures.stopped in
    rw p.1 (both.0 ∙ ap (λ (q : Playing _ _). reached_by q.server.board) c.self.view_is)
