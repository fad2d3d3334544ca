use Rattle.std.proofs.Common.{◌∙◌, [], refl, ap}
use Rattle.std.specs.List.{cons_option}
use Rattle.st_core.specs.Acts.{event_of, reached_by, to}
use Rattle.st_core.specs.Driving.{ran_at, run_on}
use Rattle.st_core.proofs.Acting.{acted-trace}
use Rattle.st_core.proofs.Moments.{told-longer}
use Rattle.st_core.proofs.Running.{run-same}
use Rattle.st_fold.specs.declared.plan.Act.TheVariants as act
use Rattle.st_core.proofs.server.Server.act.Goals as goal

pub returns-in_ok-apply-in-Apply-clause-any_moment : goal.returns-in_ok-apply-in-Apply-clause-any_moment
returns-in_ok-apply-in-Apply-clause-any_moment g c =
    let given = to c.args.upto g.N.Story.given in
    let board = c.args.self.now.board in
    told-longer g.N.Story.given g.N.Story.opening _ _ (ap (λ e. g.D.Disk.history e.disk) c.in_ok-apply-in-Apply.ensures.engine)
    board.trace (cons_option (event_of given board.state act.Apply) []) _
    (ap (λ r. r.trace) c.in_ok-apply-in-Apply.ensures.acted ∙ acted-trace given (reached_by board) act.Apply)
    c.opens.ensures.now

pub returns-in_ok-begin-in-Began-clause-any_moment : goal.returns-in_ok-begin-in-Began-clause-any_moment
returns-in_ok-begin-in-Began-clause-any_moment g c =
    let given = g.N.Story.given in
    let board = c.args.self.now.board in
    told-longer given g.N.Story.opening _ _ (ap (λ e. g.D.Disk.history e.disk) c.in_ok-begin-in-Began.ensures.engine)
    board.trace (cons_option (event_of given board.state act.Began) []) _
    (ap (λ r. r.trace) c.in_ok-begin-in-Began.ensures.acted ∙ acted-trace given (reached_by board) act.Began)
    c.opens.ensures.now

pub returns-in_ok-apply-in-Apply-clause-ran : goal.returns-in_ok-apply-in-Apply-clause-ran
returns-in_ok-apply-in-Apply-clause-ran g c =
    rw c.in-Apply.is
    (run-same g.D.Disk.history c.args.self.now.engine _
    (λ h. run_on g.N.Story.given g.N.Story.opening g.N.Story.store.fresh c.args.self.now.engine.bounds c.args.upto (ran_at c.args.self.now.board c.args.self.now.engine h) act.Apply)
    c.in_ok-apply-in-Apply.ensures.engine (λ h. refl) (λ h. refl) (λ h. refl))

pub returns-in_ok-begin-in-Began-clause-ran : goal.returns-in_ok-begin-in-Began-clause-ran
returns-in_ok-begin-in-Began-clause-ran g c =
    rw c.in-Began.is
    (run-same g.D.Disk.history c.args.self.now.engine _
    (λ h. run_on g.N.Story.given g.N.Story.opening g.N.Story.store.fresh c.args.self.now.engine.bounds c.args.upto (ran_at c.args.self.now.board c.args.self.now.engine h) act.Began)
    c.in_ok-begin-in-Began.ensures.engine (λ h. refl) (λ h. refl) (λ h. refl))
