-- What a server keeps over its acts.
use Rattle.std.proofs.Common.{◌≡◌, ◌∙◌, ◌++◌, ◌&&◌, ◌==◌, inl, ℕ, Bool, true, false, cond, List, [], ◌∷◌, ◌||◌, nat_lt, is_none, Option, Some, None, IfSome, IsTrue, refl, sym, ap, subst}
use Rattle.std.specs.List.{list_any}
use Rattle.std.specs.Option.{ForSome, option_map}
use Rattle.std.proofs.lemmas.Bool.{false≢true}
use Rattle.std.proofs.lemmas.List.Sums.{fold-append}
use Rattle.std.proofs.lemmas.Option.{same_Some}
use Rattle.st_board.specs.Base.{AreChanges, Store}
use Rattle.st_board.specs.Stands.{Standing, StandsFor}
use Rattle.st_core.specs.Server.{HoldsState, IsMade, Serves, ReadNow, Serving, durable_of}
use Rattle.st_core.proofs.Acting.{batch-step}
use Rattle.st_core.proofs.Batches.{commit-version, same-number}
use Rattle.st_core.proofs.Courses.{CourseGoesOn, HasCourse, job-applied, job-durable, made-applied, made-began, made-durable}
use Rattle.st_core.proofs.Opens.{KeyByKey, RangesOfUsers, WrittenIsStored, flight-stores}
use Rattle.st_course.specs.Course.{job_after, made_after}
use Rattle.st_course.specs.Jobs.{meta_of}
use Rattle.st_course.specs.declared.job.CommitJob.{CommitJob}
use Rattle.st_cursor.specs.Reading.{Reading}
use Rattle.st_disk.specs.History.{Files, History, MayLeave}
use Rattle.st_disk.specs.Moments.{ToldLeavesOnly}
use Rattle.st_engine.specs.Engine.{Agrees, IsLeft, Mounted, ToldAgrees}
use Rattle.st_engine.specs.Holding.{Reads}
use Rattle.st_engine.specs.Replay.{op_on, ops_on}
use Rattle.st_fold.specs.Map.{Map}
use Rattle.st_fold.specs.declared.report.Event.{Event}
use Rattle.st_fold.specs.declared.report.Event.TheVariants.{Applied, Began, Durable}
use Rattle.st_meta.specs.Stored.{IsState, Stores}
use Rattle.st_model.specs.Pieces.{has_rows}
use Rattle.st_model.specs.State.{Given, Opening, State, after_batch, began, commit_due, commit_version, end_commit, ended, next_batch, step}
use Rattle.st_mutation.specs.declared.batch.Batch.{Batch}
use Rattle.st_restart.specs.Agreement.{is_version}

-- a server that is the same serves the same
pub served : {D P : Type 0} {given : Given} {opening : Opening} {store : Store} {told : D → Option History} {inside now : Serving D P}
    → inside ≡ now → Serves given opening store told now → Serves given opening store told inside
served {given = given} {opening = opening} {store = store} {told = told} same serves = subst (Serves given opening store told) (sym same) serves

-- what a crash leaves now, of a disk that told before
pub left-now : (old new : Option History) (P : Files → Type 0) → ToldLeavesOnly old new P → IfSome new (λ h. (images : Files) → MayLeave h images → P images)
left-now None None P only = tt
left-now None (Some n) P only = absurd (cc (only))
left-now (Some h) None P only = absurd only
left-now (Some h) (Some n) P only = λ images may. only.each images (inl may)

module _ {D P : Type 0} (given : Given) (opening : Opening) (store : Store) (told : D → Option History) (server : Serving D P)
    (keeps : Serves given opening store told server) (stands : StandsFor given opening store server.board)
    (has : HasCourse) (goes_on : CourseGoesOn) where
  abbrev state : State
  state = server.board.state

  abbrev trace : List Event
  trace = server.board.trace

  -- ---- a batch is applied

  pub keeps-applied : (batch : Batch) → next_batch given state ≡ Some batch → (board : Standing) → board.trace ≡ trace ++ Applied batch.version ∷ []
      → board.state ≡ after_batch state batch → (cursor : Reading) → cursor.log ≡ given.log → cursor.last ≡ batch.version
      → Serves given opening store told (record server { board = board; cursor = cursor })
  keeps-applied batch next board traced is_state cursor of_log at = record {
    still = keeps.still;
    log = of_log;
    at = at ∙ ap (λ (s : State). s.newest) (sym is_state);
    flight = keeps.flight ∙ sym (ap (job_after given opening store.fresh) traced ∙ job-applied has goes_on given opening store.fresh trace state stands.legal batch.version (after_batch state batch) (batch-step given state batch next));
    changes = keeps.changes;
    storable = subst (λ (s : State). ForSome s.flight (λ flight. IsState (meta_of given flight))) (sym is_state) keeps.storable;
    made = record {
      mounted = keeps.made.mounted;
      opened = keeps.made.opened;
      made = keeps.made.made ∙ ap (ops_on keeps.made.mounted)
          (sym (ap (made_after given opening store.fresh) traced ∙ made-applied has goes_on given opening store.fresh trace state stands.legal batch.version (after_batch state batch) (batch-step given state batch next)));
    };
    stored = subst (λ (s : State). HoldsState given s server.engine.store.fresh server.engine.store.pairs) (sym is_state) (same-stored server.engine.store.fresh keeps.stored);
    version = subst (λ (s : State). IsTrue (is_version given.log s.durable)) (sym is_state) keeps.version;
    next_version = subst (λ (s : State). ForSome s.flight (λ flight. IsTrue (is_version given.log flight.version))) (sym is_state) keeps.next_version;
    images = keeps.images;
    sound = keeps.sound;
  }
    where
      same-stored : (fresh : Bool) → HoldsState given state fresh server.engine.store.pairs → HoldsState given (after_batch state batch) fresh server.engine.store.pairs
      same-stored true holds = record { durable = holds.durable; none = holds.none }
      same-stored false holds = holds

  -- ---- a commit begins

  no-flight : commit_due given state ≡ true → state.flight ≡ None
  no-flight due = of state.flight refl
    where
      of : (o : Option Opening) → state.flight ≡ o → state.flight ≡ None
      of None is = is
      of (Some flight) is = absurd (false≢true (sym (ap (λ (o : Option Opening). is_none o && (nat_lt state.durable (commit_version given state) || list_any has_rows state.pieces)) is) ∙ due))

  no-job : commit_due given state ≡ true → server.flight ≡ None
  no-job due = of server.flight refl
    where
      of : (o : Option CommitJob) → server.flight ≡ o → server.flight ≡ None
      of None is = is
      of (Some job) is =
          absurd (cc (sym (ap (option_map (λ (j : CommitJob). j.version)) (sym keeps.flight ∙ is)) ∙ stands.flown ∙ ap (option_map (λ (f : Opening). f.version)) (no-flight due)))

  begin-step : (version : ℕ) → commit_due given state ≡ true → version ≡ commit_version given state → step given state (Began version) ≡ Some (began given state version)
  begin-step version due is =
      (λ i. cond (due i && (version == sym is i)) (Some (began given state version)) None)
      ∙ ap (λ (t : Bool). cond t (Some (began given state version)) None) (same-number version)

  pub keeps-began : (job : CommitJob) → commit_due given state ≡ true → job.version ≡ commit_version given state
      → (board : Standing) → board.trace ≡ trace ++ Began job.version ∷ [] → board.state ≡ began given state job.version
      → job_after given opening store.fresh board.trace ≡ Some job → AreChanges job.ops
      → ForSome board.state.flight (λ flight. IsState (meta_of given flight))
      → Serves given opening store told (record server { board = board; flight = Some job })
  keeps-began job due versioned board traced is_state in_flight changes storable = record {
    still = keeps.still;
    log = keeps.log;
    at = keeps.at ∙ ap (λ (s : State). s.newest) (sym is_state);
    flight = sym in_flight;
    changes = λ j is. subst (λ (j : CommitJob). AreChanges j.ops) (same_Some job j is) changes;
    storable = storable;
    made = record {
      mounted = keeps.made.mounted;
      opened = keeps.made.opened;
      made = keeps.made.made ∙ ap (ops_on keeps.made.mounted)
          (sym (ap (made_after given opening store.fresh) traced ∙ made-began has goes_on given opening store.fresh trace state stands.legal job.version (began given state job.version) (begin-step job.version due versioned)));
    };
    stored = subst (λ (s : State). HoldsState given s server.engine.store.fresh server.engine.store.pairs) (sym is_state) (same-stored server.engine.store.fresh keeps.stored);
    version = subst (λ (s : State). IsTrue (is_version given.log s.durable)) (sym is_state) keeps.version;
    next_version = subst (λ (s : State). ForSome s.flight (λ flight. IsTrue (is_version given.log flight.version))) (sym is_state)
        (λ flight is. subst (λ (f : Opening). IsTrue (is_version given.log f.version)) (same_Some _ flight is)
        (subst (λ v. IsTrue (is_version given.log v)) (sym versioned) (commit-version given state keeps.version)));
    images = in_none (told server.engine.disk) (subst (λ (o : Option CommitJob). IfSome (told server.engine.disk) (λ h. (images : Files) → MayLeave h images → ReadNow server.engine.store.fresh server.engine.store.pairs o images)) (no-job due) keeps.images);
    sound = λ none. absurd (cc (none));
  }
    where
      same-stored : (fresh : Bool) → HoldsState given state fresh server.engine.store.pairs → HoldsState given (began given state job.version) fresh server.engine.store.pairs
      same-stored true holds = record { durable = holds.durable; none = holds.none }
      same-stored false holds = holds

      in_none : (o : Option History) → IfSome o (λ h. (images : Files) → MayLeave h images → ReadNow server.engine.store.fresh server.engine.store.pairs None images)
          → IfSome o (λ h. (images : Files) → MayLeave h images → ReadNow server.engine.store.fresh server.engine.store.pairs (Some job) images)
      in_none None all = tt
      in_none (Some h) all = λ images may. inl (all images may)

  -- ---- a commit ends

  module _ (by_key : KeyByKey) (of_users : RangesOfUsers) (is_stored : WrittenIsStored) (job : CommitJob) (flies : server.flight ≡ Some job) where
    in_flight : job_after given opening store.fresh trace ≡ Some job
    in_flight = sym keeps.flight ∙ flies

    pub keeps-ended : (board : Standing) → board.trace ≡ trace ++ Durable job.version ∷ [] → end_commit state job.version state.flight ≡ Some board.state
        → (engine : Mounted D) → engine.store.pairs ≡ ops_on server.engine.store.pairs job.ops → engine.store.fresh ≡ false → engine.broken ≡ None
        → ToldAgrees told engine
        → Serves given opening store told (record server { board = board; engine = engine; flight = None })
    keeps-ended board traced ends engine pairs fresh unbroken agrees = of state.flight refl
      where
        of : (o : Option Opening) → state.flight ≡ o → Serves given opening store told (record server { board = board; engine = engine; flight = None })
        of None none = absurd (cc (sym (ap (end_commit state job.version) none) ∙ ends))
        of (Some flight) is = by_version (flight.version == job.version) refl
          where
            by_version : (t : Bool) → (flight.version == job.version) ≡ t → Serves given opening store told (record server { board = board; engine = engine; flight = None })
            by_version false isnt = absurd (cc (sym (ap (end_commit state job.version) is ∙ ap (λ (t : Bool). cond t (Some (ended state flight)) None) isnt) ∙ ends))
            by_version true same = record {
              still = keeps.still;
              log = keeps.log;
              at = keeps.at ∙ ap (λ (s : State). s.newest) is_ended;
              flight = sym (ap (job_after given opening store.fresh) traced ∙ job-durable has goes_on given opening store.fresh trace state stands.legal job.version board.state ends);
              changes = λ j none. absurd (cc (none));
              storable = λ f flying. absurd (cc (sym flying ∙ ap (λ (s : State). s.flight) (sym is_ended)));
              made = record {
                mounted = keeps.made.mounted;
                opened = keeps.made.opened;
                made =
                    pairs
                    ∙ ap (λ (m : Map). ops_on m job.ops) keeps.made.made
                    ∙ sym (fold-append op_on keeps.made.mounted (made_after given opening store.fresh trace) job.ops)
                    ∙ ap (ops_on keeps.made.mounted) (sym (ap (made_after given opening store.fresh) traced ∙ made-durable has goes_on given opening store.fresh trace state stands.legal job.version board.state job ends in_flight));
              };
              stored = subst (λ (f : Bool). HoldsState given board.state f engine.store.pairs) (sym fresh)
                  (subst (λ (s : State). Stores engine.store.pairs (meta_of given (durable_of s))) is_ended
                  (subst (λ (m : Map). Stores m (meta_of given flight)) (sym pairs)
                  (flight-stores given opening store server.board server.engine.store.pairs keeps.still stands keeps.made by_key of_users server.engine.store.fresh keeps.stored is_stored job in_flight flight is (keeps.storable flight is))));
              version = subst (λ (s : State). IsTrue (is_version given.log s.durable)) is_ended (keeps.next_version flight is);
              next_version = λ f flying. absurd (cc (sym flying ∙ ap (λ (s : State). s.flight) (sym is_ended)));
              images = in_agreement (told engine.disk) (agrees unbroken);
              sound = λ none. unbroken;
            }
              where
                is_ended : ended state flight ≡ board.state
                is_ended = same_Some (ended state flight) board.state (sym (ap (end_commit state job.version) is ∙ ap (λ (t : Bool). cond t (Some (ended state flight)) None) same) ∙ ends)

                in_agreement : (o : Option History) → IfSome o (λ h. Agrees engine h) → IfSome o (λ h. (images : Files) → MayLeave h images → ReadNow engine.store.fresh engine.store.pairs None images)
                in_agreement None all = tt
                in_agreement (Some h) all = λ images may. subst (λ (f : Files). Reads engine.store.fresh engine.store.pairs f) (sym (all.stands.images images may)) all.reads

    -- a commit that is refused stays in flight
    pub keeps-refused : (engine : Mounted D) → engine.store ≡ server.engine.store
        → (server.engine.broken ≡ None → ToldLeavesOnly (told server.engine.disk) (told engine.disk) (IsLeft (told server.engine.disk) server.engine.store job.ops))
        → ((faults : ℕ) → server.engine.broken ≡ Some faults → engine ≡ server.engine)
        → Serves given opening store told (record server { engine = engine; flight = Some job })
    keeps-refused engine same only untouched = record {
      still = keeps.still;
      log = keeps.log;
      at = keeps.at;
      flight = sym in_flight;
      changes = λ j is. keeps.changes j (flies ∙ is);
      storable = keeps.storable;
      made = subst (λ s. IsMade given opening store trace s.pairs) (sym same) keeps.made;
      stored = subst (λ s. HoldsState given state s.fresh s.pairs) (sym same) keeps.stored;
      version = keeps.version;
      next_version = keeps.next_version;
      images = subst (λ s. IfSome (told engine.disk) (λ h. (images : Files) → MayLeave h images → ReadNow s.fresh s.pairs (Some job) images)) (sym same) (by_broken server.engine.broken refl);
      sound = λ none. absurd (cc (none));
    }
      where
        by_broken : (o : Option ℕ) → server.engine.broken ≡ o
            → IfSome (told engine.disk) (λ h. (images : Files) → MayLeave h images → ReadNow server.engine.store.fresh server.engine.store.pairs (Some job) images)
        by_broken None is = each (told engine.disk) (left-now (told server.engine.disk) (told engine.disk) (IsLeft (told server.engine.disk) server.engine.store job.ops) (only is))
          where
            each : (o : Option History) → IfSome o (λ h. (images : Files) → MayLeave h images → IsLeft (told server.engine.disk) server.engine.store job.ops images)
                → IfSome o (λ h. (images : Files) → MayLeave h images → ReadNow server.engine.store.fresh server.engine.store.pairs (Some job) images)
            each None all = tt
            each (Some h) all = λ images may. (all images may).reads
        by_broken (Some faults) is =
            subst (λ (e : Mounted D). IfSome (told e.disk) (λ h. (images : Files) → MayLeave h images → ReadNow server.engine.store.fresh server.engine.store.pairs (Some job) images)) (sym (untouched faults is))
            (subst (λ (o : Option CommitJob). IfSome (told server.engine.disk) (λ h. (images : Files) → MayLeave h images → ReadNow server.engine.store.fresh server.engine.store.pairs o images)) flies keeps.images)
