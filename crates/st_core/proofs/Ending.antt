-- The end of a commit.
use Rattle.std.proofs.Common.{◌≡◌, ◌∙◌, ◌++◌, false, List, length, is_some, Option, Some, None, IfSome, refl, sym, ap, subst}
use Rattle.std.specs.Option.{option_map}
use Rattle.std.proofs.lemmas.Bool.{false≢true}
use Rattle.std.proofs.lemmas.Option.{same_Some}
use Rattle.st_board.specs.Base.{Store}
use Rattle.st_board.specs.Stands.{StandsFor}
use Rattle.st_core.specs.Acts.{event_of}
use Rattle.st_core.specs.Server.{Serves, OpenWithin, ReadNow, Serving}
use Rattle.st_core.proofs.Moments.{told-started, told-weaker, within-longer, within-now}
use Rattle.st_core.proofs.Opens.{KeyByKey, RangesOfUsers, Untouched, Written, WrittenIsStored, opens-now}
use Rattle.st_course.specs.declared.job.CommitJob.{CommitJob}
use Rattle.st_disk.specs.History.{Files, History, MayLeave}
use Rattle.st_disk.specs.Moments.{ToldLeavesOnly}
use Rattle.st_engine.specs.Engine.{IsLeft, Mounted}
use Rattle.st_fold.specs.declared.plan.Act.TheVariants as act
use Rattle.st_fold.specs.declared.report.Event.{Event}
use Rattle.st_fold.specs.declared.report.Event.TheVariants.{Durable}
use Rattle.st_model.specs.State.{Given, Opening, State}
use Rattle.st_restart.specs.After.{OpenBehind}

module _ {D P : Type 0} (given : Given) (opening : Opening) (store : Store) (told : D → Option History) (server : Serving D P)
    (keeps : Serves given opening store told server) (stands : StandsFor given opening store server.board) where
  abbrev state : State
  state = server.board.state

  abbrev trace : List Event
  trace = server.board.trace

  -- the flight of the server is that of its board
  pub same-flight : option_map (λ (job : CommitJob). job.version) server.flight ≡ option_map (λ (flight : Opening). flight.version) state.flight
  same-flight = ap (option_map (λ (job : CommitJob). job.version)) keeps.flight ∙ stands.flown

  none-flies : server.flight ≡ None → state.flight ≡ None
  none-flies none = of state.flight refl
    where
      of : (o : Option Opening) → state.flight ≡ o → state.flight ≡ None
      of None is = is
      of (Some flight) is = absurd (cc (sym (ap (option_map (λ (job : CommitJob). job.version)) none) ∙ same-flight ∙ ap (option_map (λ (f : Opening). f.version)) is))

  pub nothing-flies : is_some server.flight ≡ false → state.flight ≡ None
  nothing-flies isnt = of server.flight refl
    where
      of : (o : Option CommitJob) → server.flight ≡ o → state.flight ≡ None
      of None none = none-flies none
      of (Some job) is = absurd (false≢true (sym isnt ∙ ap is_some is))

  -- where nothing is in flight no event comes
  pub no-event : server.flight ≡ None → event_of given state act.Durable ≡ None
  no-event none = ap (option_map (λ (flight : Opening). Durable flight.version)) (none-flies none)

  -- and else that of the job's version
  pub has-event : (job : CommitJob) → server.flight ≡ Some job → event_of given state act.Durable ≡ Some (Durable job.version)
  has-event job is = of state.flight refl
    where
      of : (o : Option Opening) → state.flight ≡ o → event_of given state act.Durable ≡ Some (Durable job.version)
      of None none = absurd (cc (sym (ap (option_map (λ (j : CommitJob). j.version)) is) ∙ same-flight ∙ ap (option_map (λ (f : Opening). f.version)) none))
      of (Some flight) flies =
          ap (option_map (λ (f : Opening). Durable f.version)) flies
          ∙ ap (λ v. Some (Durable v))
          (same_Some flight.version job.version (sym (ap (option_map (λ (f : Opening). f.version)) flies) ∙ sym same-flight ∙ ap (option_map (λ (j : CommitJob). j.version)) is))

  module _ (untouched : Untouched) (written : Written) (by_key : KeyByKey) (of_users : RangesOfUsers) (is_stored : WrittenIsStored) where
    -- files that a crash leaves now open behind the trace
    opens-within : (images : Files) → ReadNow server.engine.store.fresh server.engine.store.pairs server.flight images → OpenWithin given opening (length trace) trace images
    opens-within images reads =
        within-now given opening trace state images stands.legal
        (opens-now given opening store told server keeps stands untouched written by_key of_users is_stored images reads)

    -- what a crash leaves opens behind the state
    pub opens-behind : IfSome (told server.engine.disk) (λ h. (images : Files) → MayLeave h images → OpenBehind given state images)
    opens-behind = of (told server.engine.disk) keeps.images
      where
        of : (o : Option History) → IfSome o (λ h. (images : Files) → MayLeave h images → ReadNow server.engine.store.fresh server.engine.store.pairs server.flight images)
            → IfSome o (λ h. (images : Files) → MayLeave h images → OpenBehind given state images)
        of None all = tt
        of (Some h) all = λ images may. opens-now given opening store told server keeps stands untouched written by_key of_users is_stored images (all images may)

    pub opens-here : IfSome (told server.engine.disk) (λ h. (images : Files) → MayLeave h images → OpenWithin given opening (length trace) trace images)
    opens-here = of (told server.engine.disk) keeps.images
      where
        of : (o : Option History) → IfSome o (λ h. (images : Files) → MayLeave h images → ReadNow server.engine.store.fresh server.engine.store.pairs server.flight images)
            → IfSome o (λ h. (images : Files) → MayLeave h images → OpenWithin given opening (length trace) trace images)
        of None all = tt
        of (Some h) all = λ images may. opens-within images (all images may)

    -- nothing is done to the disk
    pub stays-open : ToldLeavesOnly (told server.engine.disk) (told server.engine.disk) (OpenWithin given opening (length trace) trace)
    stays-open = told-started (told server.engine.disk) (OpenWithin given opening (length trace) trace) opens-here

    -- during a commit, whose event may follow
    pub commit-opens : (job : CommitJob) → server.flight ≡ Some job → (engine : Mounted D) (more : List Event)
        → ToldLeavesOnly (told server.engine.disk) (told engine.disk) (IsLeft (told server.engine.disk) server.engine.store job.ops)
        → ToldLeavesOnly (told server.engine.disk) (told engine.disk) (OpenWithin given opening (length trace) (trace ++ more))
    commit-opens job is engine more only =
        told-weaker (told server.engine.disk) (told engine.disk) (IsLeft (told server.engine.disk) server.engine.store job.ops) (OpenWithin given opening (length trace) (trace ++ more)) only
        (λ images left. within-longer given opening (length trace) trace more images
        (opens-within images (subst (λ (o : Option CommitJob). ReadNow server.engine.store.fresh server.engine.store.pairs o images) (sym is) left.reads)))
