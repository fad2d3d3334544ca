use Rattle.std.proofs.Common.{◌≡◌, ◌∙◌, ◌++◌, [], ◌∷◌, true, is_some, Some, sym, ap, rules}
use Rattle.std.specs.Option.{ForSome}
use Rattle.st_board.specs.Base.{AreChanges}
use Rattle.st_course.specs.Course.{job_after}
use Rattle.st_course.specs.Jobs.{meta_of}
use Rattle.st_fold.specs.declared.report.Event.TheVariants.{Began}
use Rattle.st_meta.specs.Stored.{IsState}
use Rattle.st_model.specs.State.{began, commit_due, commit_version}
use Rattle.st_core.proofs.Keeping.{keeps-began, served}
use Rattle.st_core.proofs.server.Server.begin.Goals as goal

pub returns-clause-serves : goal.returns-clause-serves
returns-clause-serves g c =
    let given = g.N.Story.given in
    let board = c.self.inside.board in
    let next = c.take_commit.new.self in
    let job = c.in-Some.begun in
    let due : commit_due given board.state ≡ true = sym c.in_ok-begun.ensures.due ∙ ap is_some c.in-Some.is in
    let version : job.version ≡ commit_version given board.state = search rules in
    let traced : next.trace ≡ board.trace ++ Began job.version ∷ [] = search rules in
    let state : next.state ≡ began given board.state job.version = search rules in
    let in_flight : job_after given g.N.Story.opening g.N.Story.store.fresh next.trace ≡ Some job = search rules in
    let changes : AreChanges job.ops = search rules in
    let storable : ForSome next.state.flight (λ flight. IsState (meta_of given flight)) = search rules in
    keeps-began given g.N.Story.opening g.N.Story.store g.D.Disk.history
    (record { board = board; engine = c.self.inside.engine; peer = c.self.inside.peer; cursor = c.self.inside.cursor; flight = c.self.inside.flight })
    (served c.self.view_is c.requires.serves) c.trace.ensures.stands c.course_goes_on.ensures.state c.course_goes_on.ensures.behind
    job due version next traced state in_flight changes storable
