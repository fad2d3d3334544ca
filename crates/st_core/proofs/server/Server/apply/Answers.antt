use Rattle.std.proofs.Common.{◌≡◌, ◌∙◌, Option, Some, None, is_some, sym, ap, arith}
use Rattle.std.specs.Option.{option_copied, option_map}
use Rattle.st_core.specs.Acts.{event_of, reached_by, to}
use Rattle.st_fold.specs.declared.plan.Act.TheVariants.{Apply}
use Rattle.st_fold.specs.declared.report.Event.TheVariants.{Applied}
use Rattle.st_model.specs.State.{Given, State, after_batch, next_batch}
use Rattle.st_mutation.specs.declared.batch.Batch.{Batch}
use Rattle.st_core.proofs.Acting.{acts-none, acts-some, batch-step}
use Rattle.st_core.proofs.Batches.{next-upto, within-is, within-not}
use Rattle.st_core.proofs.Keeping.{keeps-applied, served}
use Rattle.st_core.proofs.server.Server.apply.Goals as goal

-- no event comes where no batch does
event-of : (given : Given) (state : State) (found : Option Batch) → next_batch given state ≡ found → event_of given state Apply ≡ option_map (λ batch. Applied batch.version) found
event-of given state found next = ap (option_map (λ (batch : Batch). Applied batch.version)) next

pub returns-in_default-clause-told : goal.returns-in_default-clause-told
returns-in_default-clause-told g c =
    rw (← c.self.view_is)
    (let keeps = served c.self.view_is c.requires.serves in
    sym (ap is_some (event-of (to c.args.upto g.N.Story.given) c.self.inside.board.state None
    (next-upto g.N.Story.given c.self.inside.board.state c.self.inside.cursor keeps.log keeps.at keeps.still.rises c.args.upto None (ap option_copied (sym c.in_default.is) ∙ c.following.ensures.next)))))

pub returns-in_default-clause-acted : goal.returns-in_default-clause-acted
returns-in_default-clause-acted g c =
    rw (← c.self.view_is)
    (let keeps = served c.self.view_is c.requires.serves in
    sym (acts-none (to c.args.upto g.N.Story.given) (reached_by c.self.inside.board) Apply (event-of (to c.args.upto g.N.Story.given) c.self.inside.board.state None
    (next-upto g.N.Story.given c.self.inside.board.state c.self.inside.cursor keeps.log keeps.at keeps.still.rises c.args.upto None (ap option_copied (sym c.in_default.is) ∙ c.following.ensures.next)))))

pub returns-then-version-upto-clause-told : goal.returns-then-version-upto-clause-told
returns-then-version-upto-clause-told g c =
    rw (← c.self.view_is)
    (let keeps = served c.self.view_is c.requires.serves in
    let batch = c.in-Some.batch.now in
    sym (ap is_some (event-of (to c.args.upto g.N.Story.given) c.self.inside.board.state None
    (next-upto g.N.Story.given c.self.inside.board.state c.self.inside.cursor keeps.log keeps.at keeps.still.rises c.args.upto (Some batch) (ap option_copied (sym c.in-Some.is) ∙ c.following.ensures.next)
    ∙ within-not c.args.upto batch c.if-version-upto.true))))

pub returns-then-version-upto-clause-acted : goal.returns-then-version-upto-clause-acted
returns-then-version-upto-clause-acted g c =
    rw (← c.self.view_is)
    (let keeps = served c.self.view_is c.requires.serves in
    let batch = c.in-Some.batch.now in
    sym (acts-none (to c.args.upto g.N.Story.given) (reached_by c.self.inside.board) Apply (event-of (to c.args.upto g.N.Story.given) c.self.inside.board.state None
    (next-upto g.N.Story.given c.self.inside.board.state c.self.inside.cursor keeps.log keeps.at keeps.still.rises c.args.upto (Some batch) (ap option_copied (sym c.in-Some.is) ∙ c.following.ensures.next)
    ∙ within-not c.args.upto batch c.if-version-upto.true))))

pub apply-requires : goal.apply-requires
apply-requires g c = λ _.
    let keeps = served c.self.view_is c.requires.serves in
    let batch = c.in-Some.batch.now in
    let given = g.N.Story.given in
    next-upto given c.self.inside.board.state c.self.inside.cursor keeps.log keeps.at keeps.still.rises given.upto (Some batch) (ap option_copied (sym c.in-Some.is) ∙ c.following.ensures.next)
    ∙ within-is given.upto batch (let low = c.if-version-upto.false in let high = c.requires.upto in omega arith)

pub returns-clause-serves : goal.returns-clause-serves
returns-clause-serves g c =
    let keeps = served c.self.view_is c.requires.serves in
    let batch = c.in-Some.batch.now in
    let given = g.N.Story.given in
    let next : next_batch given c.self.inside.board.state ≡ Some batch =
    next-upto given c.self.inside.board.state c.self.inside.cursor keeps.log keeps.at keeps.still.rises given.upto (Some batch) (ap option_copied (sym c.in-Some.is) ∙ c.following.ensures.next)
    ∙ within-is given.upto batch (let low = c.if-version-upto.false in let high = c.requires.upto in omega arith) in
    keeps-applied given g.N.Story.opening g.N.Story.store g.D.Disk.history
    (record { board = c.self.inside.board; engine = c.self.inside.engine; peer = c.self.inside.peer; cursor = c.self.inside.cursor; flight = c.self.inside.flight })
    keeps c.trace.ensures.stands c.course_goes_on.ensures.state c.course_goes_on.ensures.behind batch next
    c.apply.new.self c.in-Ok.ensures.applied c.in-Ok.ensures.state c.rewind.new.self
    (ap (λ r. r.log) c.in-Ok-rewind.ensures.ok ∙ keeps.log) (ap (λ r. r.last) c.in-Ok-rewind.ensures.ok)

pub returns-clause-told : goal.returns-clause-told
returns-clause-told g c =
    rw (← c.self.view_is)
    (let keeps = served c.self.view_is c.requires.serves in
    let batch = c.in-Some.batch.now in
    sym (ap is_some (event-of (to c.args.upto g.N.Story.given) c.self.inside.board.state (Some batch)
    (next-upto g.N.Story.given c.self.inside.board.state c.self.inside.cursor keeps.log keeps.at keeps.still.rises c.args.upto (Some batch) (ap option_copied (sym c.in-Some.is) ∙ c.following.ensures.next)
    ∙ within-is c.args.upto batch (let low = c.if-version-upto.false in omega arith)))))

pub returns-clause-acted : goal.returns-clause-acted
returns-clause-acted g c =
    rw (← c.self.view_is)
    (let keeps = served c.self.view_is c.requires.serves in
    let batch = c.in-Some.batch.now in
    let given = to c.args.upto g.N.Story.given in
    let state = c.self.inside.board.state in
    let next : next_batch given state ≡ Some batch =
    next-upto g.N.Story.given state c.self.inside.cursor keeps.log keeps.at keeps.still.rises c.args.upto (Some batch) (ap option_copied (sym c.in-Some.is) ∙ c.following.ensures.next)
    ∙ within-is c.args.upto batch (let low = c.if-version-upto.false in omega arith) in
    (λ i. record { trace = c.in-Ok.ensures.applied i; state = c.in-Ok.ensures.state i })
    ∙ sym (acts-some given (reached_by c.self.inside.board) Apply (Applied batch.version) (after_batch state batch) (event-of given state (Some batch) next) (batch-step given state batch next)))

pub returns-in-Err-NoMemory-clause-due : goal.returns-in-Err-NoMemory-clause-due
returns-in-Err-NoMemory-clause-due g c =
    rw (← c.self.view_is)
    (let keeps = served c.self.view_is c.requires.serves in
    let batch = c.in-Some.batch.now in
    ap is_some (event-of (to c.args.upto g.N.Story.given) c.self.inside.board.state (Some batch)
    (next-upto g.N.Story.given c.self.inside.board.state c.self.inside.cursor keeps.log keeps.at keeps.still.rises c.args.upto (Some batch) (ap option_copied (sym c.in-Some.is) ∙ c.following.ensures.next)
    ∙ within-is c.args.upto batch (let low = c.if-version-upto.false in omega arith))))
