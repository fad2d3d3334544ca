use Rattle.std.proofs.Common.{◌≡◌, ◌∙◌, [], ◌∷◌, ℕ, List, Option, Some, None, Err, IfSome, IsTrue, is_some, length, refl, sym, ap, subst}
use Rattle.std.specs.List.{AllByRecursion, list_all}
use Rattle.std.specs.Result.{IsOkAnd}
use Rattle.std.proofs.lemmas.List.{append-nil}
use Rattle.st_board.specs.Base.{value_behind}
use Rattle.st_core.specs.Acts.{reached_by}
use Rattle.st_core.specs.Driving.{IsRun, behind_flight, ran_at}
use Rattle.st_core.specs.Server.{Serves, OpenWithin}
use Rattle.st_core.proofs.Acting.{acts-none, acts-some}
use Rattle.st_core.proofs.Ending.{commit-opens, has-event, no-event, stays-open}
use Rattle.st_core.proofs.Keeping.{keeps-ended, keeps-refused, served}
use Rattle.st_core.proofs.Opens.{base-value}
use Rattle.st_core.proofs.Refusals.{never-damaged, well-same}
use Rattle.st_core.proofs.Running.{run-commit, run-same}
use Rattle.st_course.specs.declared.job.CommitJob.{CommitJob}
use Rattle.st_disk.specs.History.{seen}
use Rattle.st_disk.specs.Moments.{ToldLeavesOnly}
use Rattle.st_engine.specs.Answers.{IsDone, Refuses, past_for}
use Rattle.st_engine.specs.Commit.{commit_of}
use Rattle.st_engine.specs.Engine.{IsLeft, kept_in}
use Rattle.st_engine.specs.Replay.{ops_on}
use Rattle.st_fold.specs.Map.{value_at}
use Rattle.st_ops.specs.Grammar.{Fits, is_change}
use Rattle.st_fold.specs.declared.plan.Act.TheVariants as act
use Rattle.st_fold.specs.declared.report.Event.{Event}
use Rattle.st_fold.specs.declared.report.Event.TheVariants.{Durable}
use Rattle.st_core.proofs.server.Server.end.Goals as goal

pub returns-in_default-clause-told : goal.returns-in_default-clause-told
returns-in_default-clause-told g c =
    rw (← c.self.view_is)
    (sym (ap is_some (no-event g.N.Story.given g.N.Story.opening g.N.Story.store g.D.Disk.history _ (served c.self.view_is c.requires.serves) c.trace.ensures.stands (sym c.take.ensures.value ∙ c.in_default.is))))

pub returns-in_default-clause-acted : goal.returns-in_default-clause-acted
returns-in_default-clause-acted g c =
    rw (← c.self.view_is)
    (sym (acts-none g.N.Story.given (reached_by c.self.inside.board) act.Durable
    (no-event g.N.Story.given g.N.Story.opening g.N.Story.store g.D.Disk.history _ (served c.self.view_is c.requires.serves) c.trace.ensures.stands (sym c.take.ensures.value ∙ c.in_default.is))))

pub returns-in_default-clause-any_moment : goal.returns-in_default-clause-any_moment
returns-in_default-clause-any_moment g c =
    rw (← c.self.view_is)
    (stays-open g.N.Story.given g.N.Story.opening g.N.Story.store g.D.Disk.history _ (served c.self.view_is c.requires.serves) c.trace.ensures.stands
    c.stores_open.ensures.untouched c.stores_open.ensures.written c.operations_change_each_key.ensures c.stored_ranges_are_of_users.ensures c.written_is_stored.ensures)

pub returns-in_default-clause-ran : goal.returns-in_default-clause-ran
returns-in_default-clause-ran g c =
    rw (← c.self.view_is)
    (subst (λ (o : Option CommitJob). IfSome (g.D.Disk.history c.self.inside.engine.disk)
    (λ h. IsRun g.D.Disk.history h c.self.inside.engine (behind_flight c.self.inside.engine.bounds (ran_at c.self.inside.board c.self.inside.engine h) o)))
    (sym c.in_default.is ∙ c.take.ensures.value ∙ (served c.self.view_is c.requires.serves).flight)
    (run-same g.D.Disk.history c.self.inside.engine c.self.inside.engine (ran_at c.self.inside.board c.self.inside.engine) refl (λ h. refl) (λ h. refl) (λ h. refl)))

pub returns-in_default-clause-well : goal.returns-in_default-clause-well
returns-in_default-clause-well g c = rw (← c.self.view_is) (well-same g.D.Disk.fault_count _ _ refl)

pub commit-requires-clause-changes : goal.commit-requires-clause-changes
commit-requires-clause-changes g c =
    subst (λ ops. IsTrue (list_all is_change ops)) (sym c.as_slice.ensures) ((served c.self.view_is c.requires.serves).changes c.in-Some.job (sym c.take.ensures.value ∙ c.in-Some.is)).changes

pub commit-requires-clause-fits : goal.commit-requires-clause-fits
commit-requires-clause-fits g c =
    subst (λ ops. AllByRecursion Fits ops) (sym c.as_slice.ensures) ((served c.self.view_is c.requires.serves).changes c.in-Some.job (sym c.take.ensures.value ∙ c.in-Some.is)).fits

pub committed-requires-clause-job : goal.committed-requires-clause-job
committed-requires-clause-job g c = sym (served c.self.view_is c.requires.serves).flight ∙ sym c.take.ensures.value ∙ c.in-Some.is

pub committed-requires-clause-base : goal.committed-requires-clause-base
committed-requires-clause-base g c = λ key users.
    ap (λ m. value_at m key) (c.in-Ok.ensures.told ∙ ap (λ s. s.pairs) c.in-Ok.ensures.ok.store ∙ ap (ops_on c.self.inside.engine.store.pairs) c.as_slice.ensures)
    ∙ c.operations_change_each_key.ensures c.self.inside.engine.store.pairs c.in-Some.job.ops key
    ∙ ap (λ v. value_behind key v c.in-Some.job.ops)
    (base-value g.N.Story.given g.N.Story.opening g.N.Story.store c.self.inside.board c.self.inside.engine.store.pairs (served c.self.view_is c.requires.serves).still c.trace.ensures.stands (served c.self.view_is c.requires.serves).made
    c.operations_change_each_key.ensures c.stored_ranges_are_of_users.ensures key users)

pub returns-in-Ok-clause-told : goal.returns-in-Ok-clause-told
returns-in-Ok-clause-told g c =
    rw (← c.self.view_is)
    (sym (ap is_some (has-event g.N.Story.given g.N.Story.opening g.N.Story.store g.D.Disk.history _ (served c.self.view_is c.requires.serves) c.trace.ensures.stands c.in-Some.job (sym c.take.ensures.value ∙ c.in-Some.is))))

pub returns-in-Ok-clause-acted : goal.returns-in-Ok-clause-acted
returns-in-Ok-clause-acted g c =
    rw (← c.self.view_is)
    ((λ i. record { trace = c.committed.ensures.trace i; state = c.committed.new.self.state })
    ∙ sym (acts-some g.N.Story.given (reached_by c.self.inside.board) act.Durable (Durable c.in-Some.job.version) c.committed.new.self.state
    (has-event g.N.Story.given g.N.Story.opening g.N.Story.store g.D.Disk.history _ (served c.self.view_is c.requires.serves) c.trace.ensures.stands c.in-Some.job (sym c.take.ensures.value ∙ c.in-Some.is))
    c.committed.ensures.state))

pub returns-in-Ok-clause-any_moment : goal.returns-in-Ok-clause-any_moment
returns-in-Ok-clause-any_moment g c =
    rw (← c.self.view_is)
    (subst (λ (t : List Event). ToldLeavesOnly (g.D.Disk.history c.self.inside.engine.disk) (g.D.Disk.history c.commit.new.self.disk)
    (OpenWithin g.N.Story.given g.N.Story.opening (length c.self.inside.board.trace) t))
    (sym c.committed.ensures.trace)
    (commit-opens g.N.Story.given g.N.Story.opening g.N.Story.store g.D.Disk.history _ (served c.self.view_is c.requires.serves) c.trace.ensures.stands
    c.stores_open.ensures.untouched c.stores_open.ensures.written c.operations_change_each_key.ensures c.stored_ranges_are_of_users.ensures c.written_is_stored.ensures
    c.in-Some.job (sym c.take.ensures.value ∙ c.in-Some.is) c.commit.new.self (Durable c.in-Some.job.version ∷ [])
    (subst (λ ops. ToldLeavesOnly (g.D.Disk.history c.self.inside.engine.disk) (g.D.Disk.history c.commit.new.self.disk) (IsLeft (g.D.Disk.history c.self.inside.engine.disk) c.self.inside.engine.store ops))
    c.as_slice.ensures (c.in-Ok.ensures.any_moment c.in-Ok.ensures.ok.was_unbroken))))

pub returns-in-Ok-clause-ran : goal.returns-in-Ok-clause-ran
returns-in-Ok-clause-ran g c =
    rw (← c.self.view_is)
    (run-commit g.D.Disk.history c.self.inside.board c.self.inside.engine c.commit.new.self c.in-Some.job _
    (sym c.in-Some.is ∙ c.take.ensures.value ∙ (served c.self.view_is c.requires.serves).flight)
    (subst (λ ops. IfSome (g.D.Disk.history c.self.inside.engine.disk)
    (λ h. IsOkAnd (commit_of c.self.inside.engine.bounds (kept_in (seen h) c.self.inside.engine) ops) (IsDone h (g.D.Disk.history c.commit.new.self.disk) c.commit.new.self)))
    c.as_slice.ensures c.in-Ok.ensures.ok.is))

pub returns-in-Ok-clause-well : goal.returns-in-Ok-clause-well
returns-in-Ok-clause-well g c =
    rw (← c.self.view_is)
    record {
      faults = c.in-Ok.ensures.no_fault;
      broken = c.in-Ok.ensures.ok.unbroken ∙ sym c.in-Ok.ensures.ok.was_unbroken;
      bounds = c.in-Ok.ensures.bounds;
      idle = λ faults is. absurd (cc (sym c.in-Ok.ensures.ok.was_unbroken ∙ is));
    }

pub returns-in-Err-clause-due : goal.returns-in-Err-clause-due
returns-in-Err-clause-due g c =
    rw (← c.self.view_is)
    (ap is_some (has-event g.N.Story.given g.N.Story.opening g.N.Story.store g.D.Disk.history _ (served c.self.view_is c.requires.serves) c.trace.ensures.stands c.in-Some.job (sym c.take.ensures.value ∙ c.in-Some.is)))

pub returns-in-Err-clause-refused : goal.returns-in-Err-clause-refused
returns-in-Err-clause-refused g c =
    rw (← c.self.view_is)
    record {
      job = c.in-Some.job;
      flies = refl;
      refuses = subst (λ ops. Refuses g.D.Disk.history ops c.self.inside.engine c.commit.new.self c.in-Err.why) c.as_slice.ensures c.in-Err.ensures.err;
      bounds = c.in-Err.ensures.bounds;
      fault = λ faults is. c.in-Err.ensures.cause.fault faults (ap Err is);
      broken = λ faults is. c.in-Err.ensures.answers.broken faults (ap Err is);
      whole = never-damaged g.D.Disk.history _ c.self.inside.engine c.commit.new.self c.in-Err.why c.in-Err.ensures.err c.in-Err.ensures.answers;
      full = λ length limit is.
          subst (λ ops. (c.self.inside.engine.broken ≡ None) × (past_for ops c.self.inside.engine ≡ Some (record { length = length; limit = limit }))) c.as_slice.ensures
          (c.in-Err.ensures.answers.full length limit (ap Err is));
    }

pub returns-in-Err-clause-any_moment : goal.returns-in-Err-clause-any_moment
returns-in-Err-clause-any_moment g c = rw (← c.self.view_is) (by_broken c.self.inside.engine.broken refl)
  where
    by_broken : (o : Option ℕ) → c.self.inside.engine.broken ≡ o
        → ToldLeavesOnly (g.D.Disk.history c.self.inside.engine.disk) (g.D.Disk.history c.commit.new.self.disk)
        (OpenWithin g.N.Story.given g.N.Story.opening (length c.self.inside.board.trace) c.self.inside.board.trace)
    by_broken None is =
        subst (λ (t : List Event). ToldLeavesOnly (g.D.Disk.history c.self.inside.engine.disk) (g.D.Disk.history c.commit.new.self.disk)
        (OpenWithin g.N.Story.given g.N.Story.opening (length c.self.inside.board.trace) t))
        (append-nil c.self.inside.board.trace)
        (commit-opens g.N.Story.given g.N.Story.opening g.N.Story.store g.D.Disk.history _ (served c.self.view_is c.requires.serves) c.trace.ensures.stands
        c.stores_open.ensures.untouched c.stores_open.ensures.written c.operations_change_each_key.ensures c.stored_ranges_are_of_users.ensures c.written_is_stored.ensures
        c.in-Some.job (sym c.take.ensures.value ∙ c.in-Some.is) c.commit.new.self []
        (subst (λ ops. ToldLeavesOnly (g.D.Disk.history c.self.inside.engine.disk) (g.D.Disk.history c.commit.new.self.disk) (IsLeft (g.D.Disk.history c.self.inside.engine.disk) c.self.inside.engine.store ops))
        c.as_slice.ensures (c.in-Err.ensures.any_moment is)))
    by_broken (Some faults) is =
        subst (λ (d : g.row.D.Denot). ToldLeavesOnly (g.D.Disk.history c.self.inside.engine.disk) (g.D.Disk.history d)
        (OpenWithin g.N.Story.given g.N.Story.opening (length c.self.inside.board.trace) c.self.inside.board.trace))
        (ap (λ e. e.disk) (sym (c.in-Err.ensures.err.untouched faults is)))
        (stays-open g.N.Story.given g.N.Story.opening g.N.Story.store g.D.Disk.history _ (served c.self.view_is c.requires.serves) c.trace.ensures.stands
        c.stores_open.ensures.untouched c.stores_open.ensures.written c.operations_change_each_key.ensures c.stored_ranges_are_of_users.ensures c.written_is_stored.ensures)

pub returns-in-Ok-clause-serves : goal.returns-in-Ok-clause-serves
returns-in-Ok-clause-serves g c =
    subst (λ (o : Option CommitJob). Serves g.N.Story.given g.N.Story.opening g.N.Story.store g.D.Disk.history
    (record { board = c.committed.new.self; engine = c.commit.new.self; peer = c.self.inside.peer; cursor = c.self.inside.cursor; flight = o }))
    (sym c.take.ensures.after)
    (keeps-ended g.N.Story.given g.N.Story.opening g.N.Story.store g.D.Disk.history _ (served c.self.view_is c.requires.serves) c.trace.ensures.stands c.course_goes_on.ensures.state c.course_goes_on.ensures.behind
    c.operations_change_each_key.ensures c.stored_ranges_are_of_users.ensures c.written_is_stored.ensures c.in-Some.job (sym c.take.ensures.value ∙ c.in-Some.is)
    c.committed.new.self c.committed.ensures.trace c.committed.ensures.state c.commit.new.self
    (ap (λ s. s.pairs) c.in-Ok.ensures.ok.store ∙ ap (ops_on c.self.inside.engine.store.pairs) c.as_slice.ensures)
    (ap (λ s. s.fresh) c.in-Ok.ensures.ok.store) c.in-Ok.ensures.ok.unbroken c.in-Ok.ensures.agrees)

pub returns-in-Err-clause-serves : goal.returns-in-Err-clause-serves
returns-in-Err-clause-serves g c =
    keeps-refused g.N.Story.given g.N.Story.opening g.N.Story.store g.D.Disk.history _ (served c.self.view_is c.requires.serves) c.trace.ensures.stands c.course_goes_on.ensures.state c.course_goes_on.ensures.behind
    c.operations_change_each_key.ensures c.stored_ranges_are_of_users.ensures c.written_is_stored.ensures c.in-Some.job (sym c.take.ensures.value ∙ c.in-Some.is)
    c.commit.new.self c.in-Err.ensures.err.store
    (λ is. subst (λ ops. ToldLeavesOnly (g.D.Disk.history c.self.inside.engine.disk) (g.D.Disk.history c.commit.new.self.disk) (IsLeft (g.D.Disk.history c.self.inside.engine.disk) c.self.inside.engine.store ops))
    c.as_slice.ensures (c.in-Err.ensures.any_moment is))
    c.in-Err.ensures.err.untouched
