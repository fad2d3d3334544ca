use Rattle.std.proofs.Common.{◌≡◌, ◌∙◌, ◌++◌, ◌∷◌, [], true, Some, ap, sym, subst, arith}
use Rattle.std.proofs.lemmas.Option.{same_Some}
use Rattle.st_fold.specs.declared.report.Event.TheVariants as event
use Rattle.st_meta.specs.Stored.{IsState}
use Rattle.st_meta.specs.declared.state.Meta.{Meta}
use Rattle.st_model.specs.State.{Opening, State, assigned, began, commit_due, commit_version}
use Rattle.st_ptree.specs.Entries.{pairs_of}
use Rattle.st_course.specs.Jobs.{meta_of}
use Rattle.st_board.specs.Stands.{Keeps, Standing, board_of}
use Rattle.st_board.proofs.Beginning.{all-assigned}
use Rattle.st_board.proofs.Commits.{begun-of, clears-began, clears-kept, is_begun, job-begun, keeps-began, state-stored}
use Rattle.st_board.proofs.board.Board.begin_commit.Goals as goal

pub invariant_of-self-2 : goal.invariant_of-self-2
invariant_of-self-2 g c =
    let given = g.N.Story.given in
    let opening = g.N.Story.opening in
    let store = g.N.Story.store in
    let keeps = c.self.invariant.0 in
    let trace = c.self.inside.trace.items in
    let version = c.commit_version-version.result in
    let board : Standing = board_of trace c.self.inside.newest c.self.inside.durable c.self.inside.flight c.self.inside.shards c.self.inside.window (pairs_of c.self.inside.base) in
    let version_is : version ≡ commit_version given board.state = c.commit_version-version.ensures ∙ ap (λ (b : Standing). commit_version given b.state) (sym c.self.view_is) in
    let due : commit_due given board.state ≡ true = ap (λ (b : Standing). commit_due given b.state) c.self.view_is ∙ c.requires in
    let more : c.push_reserved.new.self.items ≡ trace ++ event.Began version ∷ [] =
    c.push_reserved.ensures.items ∙ ap (λ items. items ++ event.Began version ∷ []) c.reserve.ensures.items in
    let next : Meta = record { version = version; assigned = c.in_ok-clone.field-0; available = c.in_ok-clone-2.field-0 } in (
      subst (λ (s : State). Keeps given opening store (record { trace = c.push_reserved.new.self.items; state = s; window = c.self.inside.window; base = pairs_of c.self.inside.base }))
          (begun-of given opening store board keeps version c.in_ok-clone-2.field-0 c.take.new.self version_is c.in_ok-clone-2.ensures.cases c.in-Ok.ensures.ok)
          (keeps-began given opening store board keeps c.course_goes_on.ensures.behind due c.push_reserved.new.self.items (more ∙ ap (λ v. trace ++ event.Began v ∷ []) version_is)),
      c.self.invariant.1,
      c.self.invariant.2,
      (λ other is. subst (λ (m : Meta). m.assigned ≡ assigned given.own given.log m.version) (same_Some next other is)
          (c.in_ok-clone.ensures.cases ∙ c.self.invariant.2 ∙ all-assigned given opening keeps.still c.self.inside.durable.version ∙ sym (all-assigned given opening keeps.still version))),
      c.self.invariant.4 ∙ sym (clears-began given opening store board keeps c.course_goes_on.ensures.behind due c.push_reserved.new.self.items (more ∙ ap (λ v. trace ++ event.Began v ∷ []) version_is)),
      omega (arith, c.in_ok-reserve.ensures.ok, c.reserve.ensures.len, c.push_reserved.ensures.len, c.push_reserved.ensures.capacity),
    )

pub returns-clause-state : goal.returns-clause-state
returns-clause-state g c =
    let given = g.N.Story.given in
    let opening = g.N.Story.opening in
    let store = g.N.Story.store in
    let keeps = c.self.invariant.0 in
    let version = c.commit_version-version.result in
    let board : Standing = board_of c.self.inside.trace.items c.self.inside.newest c.self.inside.durable c.self.inside.flight c.self.inside.shards c.self.inside.window (pairs_of c.self.inside.base) in
    let version_is : version ≡ commit_version given board.state = c.commit_version-version.ensures ∙ ap (λ (b : Standing). commit_version given b.state) (sym c.self.view_is) in
    sym (begun-of given opening store board keeps version c.in_ok-clone-2.field-0 c.take.new.self version_is c.in_ok-clone-2.ensures.cases c.in-Ok.ensures.ok)
    ∙ is_begun given opening store board keeps
    ∙ (λ i. began given (c.self.view_is i).state (sym version_is i))

pub returns-clause-job : goal.returns-clause-job
returns-clause-job g c =
    let given = g.N.Story.given in
    let opening = g.N.Story.opening in
    let store = g.N.Story.store in
    let keeps = c.self.invariant.0 in
    let trace = c.self.inside.trace.items in
    let version = c.commit_version-version.result in
    let board : Standing = board_of trace c.self.inside.newest c.self.inside.durable c.self.inside.flight c.self.inside.shards c.self.inside.window (pairs_of c.self.inside.base) in
    let version_is : version ≡ commit_version given board.state = c.commit_version-version.ensures ∙ ap (λ (b : Standing). commit_version given b.state) (sym c.self.view_is) in
    let due : commit_due given board.state ≡ true = ap (λ (b : Standing). commit_due given b.state) c.self.view_is ∙ c.requires in
    let more : c.push_reserved.new.self.items ≡ trace ++ event.Began (commit_version given board.state) ∷ [] =
    c.push_reserved.ensures.items ∙ ap (λ items. items ++ event.Began version ∷ []) c.reserve.ensures.items ∙ ap (λ v. trace ++ event.Began v ∷ []) version_is in
    let next : Meta = record { version = version; assigned = c.in_ok-clone.field-0; available = c.in_ok-clone-2.field-0 } in
    job-begun given opening store board keeps c.course_goes_on.ensures.behind due c.push_reserved.new.self.items more
    c.as_slice.result.now next c.in_ok-ops.ops.items (c.as_slice.ensures.value ∙ c.self.invariant.4 ∙ clears-kept given opening store board keeps) version_is
    (c.in_ok-clone.ensures.cases ∙ c.self.invariant.2 ∙ all-assigned given opening keeps.still c.self.inside.durable.version) c.in_ok-clone-2.ensures.cases c.in_ok-ops.ensures.ops
    ∙ (λ i. Some (record { version = sym version_is i; ops = sym c.from_vec.ensures i }))

pub returns-clause-stored : goal.returns-clause-stored
returns-clause-stored g c =
    let given = g.N.Story.given in
    let opening = g.N.Story.opening in
    let store = g.N.Story.store in
    let version = c.commit_version-version.result in
    let flight : Opening = record { version = version; available = c.in_ok-clone-2.field-0 } in
    λ other is.
    subst (λ (f : Opening). IsState (meta_of given f)) (same_Some flight other is)
    (state-stored given opening store _ c.self.invariant.0 version c.in_ok-clone-2.field-0 (omega arith) c.in_ok-clone-2.ensures.cases)
