use Rattle.std.proofs.Common.{◌∙◌, ◌+◌, ◌≤◌, ℕ, fold, IfSome, sym, ap, subst, rules}
use Rattle.std.proofs.lemmas.List.{take_all}
use Rattle.std.proofs.lemmas.Result.{err_from_is_err_and}
use Rattle.st_core.specs.Acts.{act_on, reached_by, to}
use Rattle.st_core.specs.Driving.{IsRun, ran_at, run_on}
use Rattle.st_core.proofs.Driving.{Driven, at_most, driven-first, driven-more, driven-stopped, stopped-opens}
use Rattle.st_fold.specs.declared.plan.Act.TheVariants as act
use Rattle.st_core.proofs.server.Server.drive.Goals as goal

pub loop-action-init : goal.loop-action-init
loop-action-init g c = driven-first g.N.Story.given g.N.Story.opening g.N.Story.store c.args.upto g.D.Disk.history g.D.Disk.fault_count c.args.self.now c.args.acts.now c.requires.serves c.opens.ensures.now

pub returns-in_err-is_made-clause-stopped : goal.returns-in_err-is_made-clause-stopped
returns-in_err-is_made-clause-stopped g c =
    let p = err_from_is_err_and c.from_residual.result c.from_residual.ensures.1 in
    rw (p.1, p.2)
    (driven-stopped g.N.Story.given g.N.Story.opening g.N.Story.store c.args.upto g.D.Disk.history g.D.Disk.fault_count c.args.self.now c.args.acts.now c.loop-action.self c.act.new.self c.loop-action.action-index c.loop-action.done act.Apply _
    c.loop-action.invariant c.loop-action-test.true c.in_err-is_made.ensures.err c.in_err-is_made.ensures.due c.in_err-is_made.ensures.refused)

pub returns-in_err-is_made-clause-any_moment : goal.returns-in_err-is_made-clause-any_moment
returns-in_err-is_made-clause-any_moment g c =
    stopped-opens g.N.Story.given g.N.Story.opening g.N.Story.store c.args.upto g.D.Disk.history g.D.Disk.fault_count c.args.self.now c.args.acts.now c.loop-action.self c.act.new.self c.loop-action.action-index c.loop-action.done
    c.loop-action.invariant c.in_err-is_made.ensures.err c.act.ensures.any_moment

pub overflow_add-done : goal.overflow_add-done
overflow_add-done g c =
    let few = c.loop-action.invariant.few in
    let inside = c.loop-action-test.true in
    let one : c.count_of-done.result ≤ 1 = subst (λ n. n ≤ 1) (sym c.count_of-done.ensures) (at_most c.in_ok-is_made.is_made) in
    search rules

pub loop-action-preserved : goal.loop-action-preserved
loop-action-preserved g c =
    subst (λ (n : ℕ). Driven g.N.Story.given g.N.Story.opening g.N.Story.store c.args.upto g.D.Disk.history g.D.Disk.fault_count c.args.self.now c.args.acts.now c.act.new.self (c.loop-action.action-index + 1) (c.loop-action.done + n)) (sym c.count_of-done.ensures)
    (driven-more g.N.Story.given g.N.Story.opening g.N.Story.store c.args.upto g.D.Disk.history g.D.Disk.fault_count c.args.self.now c.args.acts.now c.loop-action.self c.act.new.self c.loop-action.action-index c.loop-action.done act.Apply c.in_ok-is_made.is_made
    c.loop-action.invariant c.loop-action-test.true c.act.ensures.serves c.in_ok-is_made.ensures.told c.in_ok-is_made.ensures.acted c.act.ensures.any_moment c.in_ok-is_made.ensures.well
    c.calls_join.ensures c.in_ok-is_made.ensures.ran)

pub returns-clause-told : goal.returns-clause-told
returns-clause-told g c = c.loop-action.invariant.counted

pub returns-clause-acted : goal.returns-clause-acted
returns-clause-acted g c =
    c.loop-action.invariant.acted
    ∙ ap (fold (act_on (to c.args.upto g.N.Story.given)) (reached_by c.args.self.now.board)) (take_all c.loop-action.action-index c.args.acts.now c.loop-action-test.false)

pub returns-clause-ran : goal.returns-clause-ran
returns-clause-ran g c =
    subst (λ acts. IfSome (g.D.Disk.history c.args.self.now.engine.disk) (λ h. IsRun g.D.Disk.history h c.loop-action.self.engine
    (fold (run_on g.N.Story.given g.N.Story.opening g.N.Story.store.fresh c.args.self.now.engine.bounds c.args.upto) (ran_at c.args.self.now.board c.args.self.now.engine h) acts)))
    (take_all c.loop-action.action-index c.args.acts.now c.loop-action-test.false)
    c.loop-action.invariant.ran

pub returns-clause-well : goal.returns-clause-well
returns-clause-well g c = c.loop-action.invariant.well

pub returns-clause-any_moment : goal.returns-clause-any_moment
returns-clause-any_moment g c = c.loop-action.invariant.opened

pub returns-clause-serves : goal.returns-clause-serves
returns-clause-serves g c = c.loop-action.invariant.serves

pub act-requires-clause-serves : goal.act-requires-clause-serves
act-requires-clause-serves g c = c.loop-action.invariant.serves
