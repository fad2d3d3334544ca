-- An act of a server is the act of the schedule.
use Rattle.std.proofs.Common.{◌≡◌, ◌∙◌, ◌+◌, ◌-◌, ◌<◌, ◌≤◌, ◌^◌, ⊎_elim, ℕ, min, nat_le, Bool, true, false, cond, List, [], ◌∷◌, ◌++◌, fold, get_or, length, Option, Some, None, is_none, is_some, nat_eq, not, ◌&&◌, ◌==◌, Result, Ok, Err, IfSome, IsTrue, refl, sym, ap, subst, arith, length-append}
use Rattle.std.specs.List.{find}
use Rattle.std.specs.Result.{IsErrAnd}
use Rattle.std.specs.Option.{ForSome, IsSome, option_map, option_map_or}
use Rattle.std.specs.Prelude.{IfOk, unwrap_or}
use Rattle.std.proofs.lemmas.Bool.{le-leb}
use Rattle.std.proofs.lemmas.Bool.Decides.{nat_tests}
use Rattle.std.proofs.lemmas.Option.{same_Some}
use Rattle.st_board.specs.Stands.{Standing, all_served}
use Rattle.st_core.specs.Acts.{Reached, act_on, event_of as event_in, no_source, reached_by, to, with_event as with_event_in}
use Rattle.st_core.specs.Driving.{HasMade, IsRun, IsStopped, behind_commit, behind_flight, on_files, ran_at, run_on}
use Rattle.st_core.specs.Refusing.{IsOfCommit, IsOfDevice, IsRefused, IsWell}
use Rattle.st_core.specs.Server.{Serving}
use Rattle.st_core.specs.declared.refusal.DriveRefusal.{DriveRefusal}
use Rattle.st_core.specs.declared.refusal.DriveRefusal.TheVariants.{Device, NoMemory}
use Rattle.st_course.specs.Course.{job_after}
use Rattle.st_course.specs.declared.job.CommitJob.{CommitJob}
use Rattle.st_disk.specs.Calls.{HasFailed, StoppedIn, ToldStoppedIn, made}
use Rattle.st_disk.specs.History.{History, after_part, counted, fresh, seen}
use Rattle.st_disk.specs.Recorded.{Call, after_call, sync, write}
use Rattle.st_engine.specs.Answers.{CameTo, IsPast}
use Rattle.st_engine.specs.Commit.{Done, Refused, calls_of, commit_of}
use Rattle.st_engine.specs.Engine.{Mounted, kept_in}
use Rattle.st_engine.specs.Store.{Kept}
use Rattle.st_fold.specs.declared.plan.Act.{Act}
use Rattle.st_fold.specs.declared.plan.Act.TheVariants as act
use Rattle.st_fold.specs.declared.plan.Do.{Do}
use Rattle.st_fold.specs.declared.report.Event.{Event}
use Rattle.st_fold.specs.declared.report.Event.TheVariants.{Applied, Began, Durable, FetchStart}
use Rattle.st_model.specs.Pieces.{wants_block, wants_fetch}
use Rattle.st_model.specs.Schedule.{Progress, Stage, do_act, event_of, event_of_block, blown, finish_commit, lets_through, make, may_do, with_event}
use Rattle.st_model.specs.State.{Given, Opening, State, after_batch, apply_next, began, end_commit, ended, next_batch, step}
use Rattle.st_model.specs.Trace.{commit_due, commit_version, event_by}
use Rattle.st_model.specs.declared.piece.Piece.{Piece}
use Rattle.st_mutation.specs.declared.batch.Batch.{Batch}
use Rattle.st_life.specs.Play.{Start, as_played, bounds_of, commit_in_flight, ops_in_flight, stage_of}
use Rattle.st_life.specs.Readers.{Reading}
use Rattle.st_queue.specs.declared.frame.QueueRefusal.{QueueRefusal}
use Rattle.st_queue.specs.declared.frame.QueueRefusal.TheVariants as queue
use Rattle.st_life.specs.Running.{ActStops, Acts, CommitStops, IsAt, IsBegun, IsCutShort, IsPastLimit, LetsThrough, Playing, RefusesAct}
use Rattle.st_life.proofs.Telling.{if-all}
use Rattle.st_life.proofs.Played.{same-files}
use Rattle.st_life.proofs.Synced.{commits-lead}

same-number : (n : ℕ) → (n == n) ≡ true
same-number n = grind (arith, nat_tests)

-- ---- counts of calls

call-made : (call : Call) (h : History) → ((after_call call h).made ≡ h.made) × ((after_call call h).passes ≡ h.passes)
call-made (write file at bytes) h = (refl, refl)
call-made (sync file) h = (refl, refl)

-- calls are counted up to the end of the count
pub made-least : (calls : List Call) (h : History) → min (h.made + length calls) (2 ^ 64 - 1) ≤ (made calls h).made
made-least [] h = omega arith
made-least (call ∷ calls) h =
    let same = (call-made call h).0 in
    let rest = made-least calls (counted (after_call call h)) in
    omega (arith, same, rest)

pub made-most : (calls : List Call) (h : History) → (made calls h).made ≤ h.made + length calls
made-most [] h = omega arith
made-most (call ∷ calls) h =
    let same = (call-made call h).0 in
    let rest = made-most calls (counted (after_call call h)) in
    omega (arith, same, rest)

pub made-passes : (calls : List Call) (h : History) → (made calls h).passes ≡ h.passes
made-passes [] h = refl
made-passes (call ∷ calls) h = made-passes calls (counted (after_call call h)) ∙ (call-made call h).1

-- a call that failed isn't
pub failed-made : (call : Call) (h new : History) → HasFailed call h new → (new.made ≡ h.made) × (new.passes ≡ h.passes)
failed-made (write file at bytes) h new failed =
    ⊎_elim
    (λ same. (ap (λ (n : History). n.made) (same_Some new h same), ap (λ (n : History). n.passes) (same_Some new h same)))
    (λ part. let is = same_Some new (after_part file at part.0 h) part.2 in (ap (λ (n : History). n.made) is, ap (λ (n : History). n.passes) is))
    failed
failed-made (sync file) h new failed = (ap (λ (n : History). n.made) failed, ap (λ (n : History). n.passes) failed)

-- ---- events

-- where all keys are served, no act asks the source of fetches
pub same-event : (given : Given) (state : State) (one other : Piece → Event) (action : Act) → state.pieces ≡ all_served
    → event_by given state one action ≡ event_by given state other action
same-event given state one other act.Apply served = refl
same-event given state one other act.Start served = refl
same-event given state one other act.Block served =
    ap (λ pieces. option_map one (find wants_block pieces)) served ∙ sym (ap (λ pieces. option_map other (find wants_block pieces)) served)
same-event given state one other act.Began served = refl
same-event given state one other act.Durable served = refl

no-block : (given : Given) (state : State) → state.pieces ≡ all_served → event_in given state act.Block ≡ None
no-block given state served = ap (λ pieces. option_map no_source (find wants_block pieces)) served

with-some : (given : Given) (p : Progress Kept) (event : Event) (next : State) → step given p.state event ≡ Some next
    → with_event given p event ≡ record p { trace = p.trace ++ event ∷ []; state = next }
with-some given p event next some = rw some refl

-- ---- an act that was done

-- a life that is where its schedule led it
abbrev pub progress_at : {D P : Type 0} → (lines : List (Do × ℕ)) → Kept → (calls : List Call) → Playing D P → Progress Kept
progress_at lines kept calls playing = record {
  lines = lines;
  trace = playing.server.board.trace;
  state = playing.server.board.state;
  sessions = playing.reading.sessions;
  engine = kept;
  calls = length calls;
  halt = None;
}

pub at-is : {D P : Type 0} → (told : D → Option History) (h : History) (lines : List (Do × ℕ)) (playing : Playing D P) (progress : Progress Kept)
    → (at : IsAt told h lines playing progress) → progress ≡ progress_at lines progress.engine at.calls playing
at-is told h lines playing progress at = λ i. record {
  lines = at.lines_are i;
  trace = at.trace i;
  state = at.state i;
  sessions = at.sessions i;
  engine = progress.engine;
  calls = at.count i;
  halt = at.unhalted i;
}

module _ {D : Type 0} (told : D → Option History) (start : Start) (h : History)
    (within : (disk : D) (n : History) → told disk ≡ Some n → ForSome n.passes (λ k. n.made ≤ k))
    (fuse : LetsThrough start.plan h) where
  -- so many calls were let through
  pub let-through : (disk : D) (calls : List Call) → told disk ≡ Some (made calls h) → lets_through start.plan (length calls) ≡ true
  let-through disk calls is = of start.plan.kill refl
    where
      of : (kill : Option (ℕ × ℕ)) → start.plan.kill ≡ kill → option_map_or (λ (k : ℕ × ℕ). nat_le (length calls) k.0) kill true ≡ true
      of None none = refl
      of (Some kill) some =
          let passes : h.passes ≡ Some (h.made + kill.0) = fuse.passes ∙ ap (option_map (λ (k : ℕ × ℕ). h.made + k.0)) some in
          let most : (made calls h).made ≤ h.made + kill.0 = within disk (made calls h) is (h.made + kill.0) (made-passes calls h ∙ passes) in
          let few : h.made + kill.0 < 2 ^ 64 - 1 = fuse.countable (h.made + kill.0) passes in
          let least = made-least calls h in
          le-leb (length calls) kill.0 (omega (arith, most, few, least))

module _ {D P : Type 0} (told : D → Option History) (start : Start) (h : History)
    (join : (first second : List Call) (h : History) → made (first ++ second) h ≡ made second (made first h))
    (within : (disk : D) (n : History) → told disk ≡ Some n → ForSome n.passes (λ k. n.made ≤ k))
    (fuse : LetsThrough start.plan h) where
  module _ (lines : List (Do × ℕ)) (old new : Playing D P) (kept : Kept) (calls : List Call)
      (has : HasMade told h old.server.engine calls kept) (synced : (made calls h).now ≡ (fresh kept.files).now)
      (unbroken : new.server.engine.broken ≡ None) (reading : new.reading ≡ old.reading)
      (served : old.server.board.state.pieces ≡ all_served) (bounds : old.server.engine.bounds ≡ bounds_of start.given.settings) where
    abbrev state : State
    state = old.server.board.state

    abbrev trace : List Event
    trace = old.server.board.trace

    abbrev here : Progress Kept
    here = progress_at lines kept calls old

    abbrev stage : Stage Kept
    stage = stage_of start

    -- the files are as they were
    still-made : (engine : Mounted D) → HasMade told (made calls h) engine [] (kept_in (seen (made calls h)) old.server.engine) → HasMade told h engine calls kept
    still-made engine made_none = record { history = made_none.history; keeps = made_none.keeps ∙ has.keeps }

    more-made : (engine : Mounted D) (more : List Call) (behind : Kept) → HasMade told (made calls h) engine more behind → HasMade told h engine (calls ++ more) behind
    more-made engine more behind made_more = record {
      history = made_more.history ∙ ap Some (sym (join calls more h));
      keeps = ap (λ (n : History). kept_in (seen n) engine) (join calls more h) ∙ made_more.keeps;
    }

    -- no event was made
    at-none : reached_by new.server.board ≡ reached_by old.server.board → HasMade told h new.server.engine calls kept → IsAt told h lines new here
    at-none same has_made = record {
      lines_are = refl;
      trace = sym (ap (λ (r : Reached). r.trace) same);
      state = sym (ap (λ (r : Reached). r.state) same);
      sessions = sym (ap (λ (r : Reading). r.sessions) reading);
      unhalted = refl;
      calls = calls;
      made_are = has_made;
      count = refl;
      synced = synced;
      unbroken = unbroken;
    }

    -- an event was
    at-some : (event : Event) (next : State) (more : List Call) (behind : Kept)
        → reached_by new.server.board ≡ record { trace = trace ++ event ∷ []; state = next } → HasMade told h new.server.engine more behind
        → (made more h).now ≡ (fresh behind.files).now
        → IsAt told h lines new (record here { engine = behind; calls = length more; trace = trace ++ event ∷ []; state = next })
    at-some event next more behind reached has_made settled = record {
      lines_are = refl;
      trace = sym (ap (λ (r : Reached). r.trace) reached);
      state = sym (ap (λ (r : Reached). r.state) reached);
      sessions = sym (ap (λ (r : Reading). r.sessions) reading);
      unhalted = refl;
      calls = more;
      made_are = has_made;
      count = refl;
      synced = settled;
      unbroken = unbroken;
    }

    -- ---- the end of a commit

    module _ (flown : option_map (λ (job : CommitJob). job.version) (job_after start.given start.opening start.fresh trace) ≡ option_map (λ (flight : Opening). flight.version) state.flight)
        (job : CommitJob) (flies : job_after start.given start.opening start.fresh trace ≡ Some job) where
      job-ops : ops_in_flight start trace ≡ job.ops
      job-ops = ap (λ (o : Option CommitJob). option_map_or (λ (j : CommitJob). j.ops) o []) flies

      -- the commit is the one that the schedule knows
      same-commit : commit_of old.server.engine.bounds (kept_in (seen (made calls h)) old.server.engine) job.ops ≡ commit_in_flight start kept trace
      same-commit = λ i. commit_of (bounds i) (has.keeps i) (sym job-ops i)

      commit-done : (event : Event) (next : State) → step start.given state event ≡ Some next
          → reached_by new.server.board ≡ record { trace = trace ++ event ∷ []; state = next }
          → (r : Result Done Refused) → commit_in_flight start kept trace ≡ r
          → IsRun told (made calls h) new.server.engine (behind_commit (ran_at old.server.board old.server.engine (made calls h)) r)
          → IsAt told h lines new (finish_commit stage here event (as_played r))
      commit-done event next is reached (Err refused) commit run = absurd (cc (run.within))
      commit-done event next is reached (Ok done) commit run =
          let has_made = more-made new.server.engine done.calls done.behind run.made in
          let both : length (calls ++ done.calls) ≡ length calls + length done.calls = length-append calls done.calls in
          let through : lets_through start.plan (length calls + length done.calls) ≡ true =
          subst (λ n. lets_through start.plan n ≡ true) both (let-through told start h within fuse new.server.engine.disk (calls ++ done.calls) has_made.history) in
          let leads : IfOk (commit_in_flight start kept trace) (λ one. (made one.calls (fresh kept.files)).now ≡ (fresh one.behind.files).now) =
          commits-lead (bounds_of start.given.settings) kept (ops_in_flight start trace) in
          let settled : (made (calls ++ done.calls) h).now ≡ (fresh done.behind.files).now =
          ap (λ (n : History). n.now) (join calls done.calls h) ∙ same-files done.calls (made calls h) (fresh kept.files) synced
          ∙ subst (λ (r : Result Done Refused). IfOk r (λ one. (made one.calls (fresh kept.files)).now ≡ (fresh one.behind.files).now)) commit leads in
          let p : Progress Kept = record here { engine = done.behind; calls = length calls + length done.calls } in
          let finished : finish_commit stage here event (as_played (Ok done)) ≡ record p { trace = trace ++ event ∷ []; state = next } =
          ap (λ (t : Bool). cond t (with_event start.given p event) (record here { halt = Some blown })) through ∙ with-some start.given p event next is in
          subst (λ (q : Progress Kept). IsAt told h lines new q)
          ((λ i. record p { calls = both i; trace = trace ++ event ∷ []; state = next }) ∙ sym finished)
          (at-some event next (calls ++ done.calls) done.behind reached has_made settled)

    -- ---- any act

    abbrev Run : Act → Type 0
    Run action = IsRun told (made calls h) new.server.engine
        (on_files old.server.engine.bounds (ran_at old.server.board old.server.engine (made calls h)) (job_after start.given start.opening start.fresh trace) action)

    module _ (flown : option_map (λ (job : CommitJob). job.version) (job_after start.given start.opening start.fresh trace) ≡ option_map (λ (flight : Opening). flight.version) state.flight) where
      abbrev AtEvent : Act → Option Event → Type 0
      AtEvent action event = IsAt told h lines new (option_map_or (make stage here action) event here)

      -- an act that makes no commit
      acts-plainly : (action : Act) → ((event : Event) → make stage here action event ≡ with_event start.given here event)
          → ((event : Event) → event_in start.given state action ≡ Some event → IsSome (step start.given state event))
          → reached_by new.server.board ≡ act_on start.given (reached_by old.server.board) action
          → HasMade told (made calls h) new.server.engine [] (kept_in (seen (made calls h)) old.server.engine)
          → (o : Option Event) → event_in start.given state action ≡ o → AtEvent action o
      acts-plainly action plain steps acted made_none None none =
          at-none (acted ∙ ap (with_event_in start.given (reached_by old.server.board)) none) (still-made new.server.engine made_none)
      acts-plainly action plain steps acted made_none (Some event) some = by_step (step start.given state event) refl (steps event some)
        where
          by_step : (o : Option State) → step start.given state event ≡ o → IsSome o → AtEvent action (Some event)
          by_step None is has_step = absurd (cc (has_step))
          by_step (Some next) is has_step =
              subst (λ (q : Progress Kept). IsAt told h lines new q) (sym (plain event ∙ with-some start.given here event next is))
              (at-some event next calls kept
              (acted ∙ ap (with_event_in start.given (reached_by old.server.board)) some
              ∙ ap (λ (o : Option State). record { trace = trace ++ event ∷ []; state = unwrap_or o state }) is)
              (still-made new.server.engine made_none) synced)

      no-job : state.flight ≡ None → job_after start.given start.opening start.fresh trace ≡ None
      no-job none = of (job_after start.given start.opening start.fresh trace) refl
        where
          of : (o : Option CommitJob) → job_after start.given start.opening start.fresh trace ≡ o → o ≡ None
          of None is = refl
          of (Some job) is = absurd (cc (sym (ap (option_map (λ (j : CommitJob). j.version)) is) ∙ flown ∙ ap (option_map (λ (f : Opening). f.version)) none))

      -- the end of the commit in flight, or of none
      acts-durable : ((event : Event) → event_in start.given state act.Durable ≡ Some event → IsSome (step start.given state event))
          → reached_by new.server.board ≡ act_on start.given (reached_by old.server.board) act.Durable → Run act.Durable
          → (flight : Option Opening) → state.flight ≡ flight → AtEvent act.Durable (option_map (λ (f : Opening). Durable f.version) flight)
      acts-durable steps acted run None none =
          at-none (acted ∙ ap (λ (o : Option Opening). with_event_in start.given (reached_by old.server.board) (option_map (λ (f : Opening). Durable f.version) o)) none)
          (still-made new.server.engine
          (subst (λ (o : Option CommitJob). IsRun told (made calls h) new.server.engine (behind_flight old.server.engine.bounds (ran_at old.server.board old.server.engine (made calls h)) o)) (no-job none) run).made)
      acts-durable steps acted run (Some flight) some = by_job (job_after start.given start.opening start.fresh trace) refl
        where
          event : Event
          event = Durable flight.version

          is_event : event_in start.given state act.Durable ≡ Some event
          is_event = ap (option_map (λ (f : Opening). Durable f.version)) some

          by_step : (job : CommitJob) → job_after start.given start.opening start.fresh trace ≡ Some job
              → (o : Option State) → step start.given state event ≡ o → IsSome o → AtEvent act.Durable (Some event)
          by_step job flies None is has_step = absurd (cc (has_step))
          by_step job flies (Some next) is has_step =
              commit-done flown job flies event next is
              (acted ∙ ap (with_event_in start.given (reached_by old.server.board)) is_event
              ∙ ap (λ (o : Option State). record { trace = trace ++ event ∷ []; state = unwrap_or o state }) is)
              (commit_in_flight start kept trace) refl
              (subst (λ (r : Result Done Refused). IsRun told (made calls h) new.server.engine (behind_commit (ran_at old.server.board old.server.engine (made calls h)) r)) (same-commit flown job flies)
              (subst (λ (o : Option CommitJob). IsRun told (made calls h) new.server.engine (behind_flight old.server.engine.bounds (ran_at old.server.board old.server.engine (made calls h)) o)) flies run))

          by_job : (o : Option CommitJob) → job_after start.given start.opening start.fresh trace ≡ o → AtEvent act.Durable (Some event)
          by_job None none = absurd (cc (sym (ap (option_map (λ (j : CommitJob). j.version)) none) ∙ flown ∙ ap (option_map (λ (f : Opening). f.version)) some))
          by_job (Some job) flies = by_step job flies (step start.given state event) refl (steps event is_event)

      acts-at : (action : Act) → ((event : Event) → event_in start.given state action ≡ Some event → IsSome (step start.given state event))
          → reached_by new.server.board ≡ act_on start.given (reached_by old.server.board) action → Run action
          → AtEvent action (event_in start.given state action)
      acts-at act.Apply steps acted run = acts-plainly act.Apply (λ event. refl) steps acted run.made (event_in start.given state act.Apply) refl
      acts-at act.Start steps acted run = acts-plainly act.Start (λ event. refl) steps acted run.made (event_in start.given state act.Start) refl
      acts-at act.Block steps acted run =
          subst (AtEvent act.Block) (sym (no-block start.given state served))
          (at-none (acted ∙ ap (with_event_in start.given (reached_by old.server.board)) (no-block start.given state served)) (still-made new.server.engine run.made))
      acts-at act.Began steps acted run = acts-plainly act.Began (λ event. refl) steps acted run.made (event_in start.given state act.Began) refl
      acts-at act.Durable steps acted run = acts-durable steps acted run state.flight refl

      -- the act of the schedule
      pub acts-here : (action : Act) → ((event : Event) → event_in start.given state action ≡ Some event → IsSome (step start.given state event))
          → reached_by new.server.board ≡ act_on start.given (reached_by old.server.board) action → Run action
          → IsAt told h lines new (do_act stage here action)
      acts-here action steps acted run =
          subst (AtEvent action) (sym (same-event start.given state (event_of_block start.given start.plan trace state) no_source action served)) (acts-at action steps acted run)

-- ---- an act of a server

-- the event of an act may come
steps-made : (given : Given) (state : State) (action : Act) (event : Event) → state.pieces ≡ all_served → event_in given state action ≡ Some event → IsSome (step given state event)
steps-made given state act.Apply event served is = of (next_batch given state) refl is
  where
    of : (o : Option Batch) → next_batch given state ≡ o → option_map (λ (batch : Batch). Applied batch.version) o ≡ Some event → IsSome (step given state event)
    of None none e = absurd (cc (e))
    of (Some batch) some e =
        subst (λ (v : Event). IsSome (step given state v)) (same_Some (Applied batch.version) event e)
        (ap is_some (ap (apply_next state batch.version) some ∙ ap (λ (t : Bool). cond t (Some (after_batch state batch)) None) (same-number batch.version)))
steps-made given state act.Start event served is =
    absurd (cc (sym (ap (λ pieces. option_map (λ piece. FetchStart piece.begin state.newest) (find (wants_fetch state.durable) pieces)) served) ∙ is))
steps-made given state act.Block event served is = absurd (cc (sym (no-block given state served) ∙ is))
steps-made given state act.Began event served is = of (commit_due given state) refl is
  where
    of : (t : Bool) → commit_due given state ≡ t → cond t (Some (Began (commit_version given state))) None ≡ Some event → IsSome (step given state event)
    of false none e = absurd (cc (e))
    of true some e =
        subst (λ (v : Event). IsSome (step given state v)) (same_Some (Began (commit_version given state)) event e)
        (ap is_some ((λ i. cond (some i && (commit_version given state == commit_version given state)) (Some (began given state (commit_version given state))) None)
        ∙ ap (λ (t : Bool). cond t (Some (began given state (commit_version given state))) None) (same-number (commit_version given state))))
steps-made given state act.Durable event served is = of state.flight refl is
  where
    of : (o : Option Opening) → state.flight ≡ o → option_map (λ (f : Opening). Durable f.version) o ≡ Some event → IsSome (step given state event)
    of None none e = absurd (cc (e))
    of (Some flight) some e =
        subst (λ (v : Event). IsSome (step given state v)) (same_Some (Durable flight.version) event e)
        (ap is_some (ap (end_commit state flight.version) some ∙ ap (λ (t : Bool). cond t (Some (ended state flight)) None) (same-number flight.version)))

-- what a server that was driven tells of one act
pub record IsDriven {D P : Type 0} (told : D → Option History) (given : Given) (opening : Opening) (no_frame : Bool) (action : Act) (old new : Serving D P) : Type 0 where
  pub served : old.board.state.pieces ≡ all_served
  pub flown : option_map (λ (job : CommitJob). job.version) (job_after given opening no_frame old.board.trace) ≡ option_map (λ (flight : Opening). flight.version) old.board.state.flight
  pub bounds : old.engine.bounds ≡ bounds_of given.settings
  pub unbroken : new.engine.broken ≡ old.engine.broken
  pub acted : reached_by new.board ≡ act_on given (reached_by old.board) action
  pub ran : IfSome (told old.engine.disk) (λ h. IsRun told h new.engine
      (on_files old.engine.bounds (ran_at old.board old.engine h) (job_after given opening no_frame old.board.trace) action))

-- so it is the act of the schedule
pub acts-driven : {D P : Type 0} → (told : D → Option History) (given : Given) (opening : Opening) (no_frame : Bool) (start : Start) (before : Option History)
    → (join : (first second : List Call) (h : History) → made (first ++ second) h ≡ made second (made first h))
    → (within : (disk : D) (n : History) → told disk ≡ Some n → ForSome n.passes (λ k. n.made ≤ k))
    → IsBegun given opening no_frame start before → (action : Act) (done : Bool) (old new : Serving D P) (reading : Reading)
    → IsDriven told given opening no_frame action old new → done ≡ is_some (event_in given old.board.state action)
    → Acts told start before action done (record { server = old; reading = reading }) (record { server = new; reading = reading })
acts-driven told given opening no_frame start before join within begun action done old new reading driven is_done = of before begun.fuse
  where
    here : IsDriven told start.given start.opening start.fresh action old new
    here =
        subst (λ (g : Given). IsDriven told g start.opening start.fresh action old new) (sym begun.given_is)
        (subst (λ (o : Opening). IsDriven told given o start.fresh action old new) (sym begun.opening_is)
        (subst (λ (f : Bool). IsDriven told given opening f action old new) (sym begun.fresh_is) driven))

    event-is : (p : Progress Kept) → p.state ≡ old.board.state → event_of (stage_of start) p action ≡ event_in given old.board.state action
    event-is p is =
        same-event start.given p.state (event_of_block start.given start.plan p.trace p.state) no_source action (ap (λ (s : State). s.pieces) is ∙ driven.served)
        ∙ (λ i. event_in (begun.given_is i) (is i) action)

    of : (o : Option History) → IfSome o (LetsThrough start.plan) → Acts told start o action done (record { server = old; reading = reading }) (record { server = new; reading = reading })
    of None fuse = tt
    of (Some h) fuse = λ lines progress at.
        let may : may_do (stage_of start) progress action ≡ done =
        ap (λ (e : Option Event). not (is_none e)) (event-is progress at.state) ∙ some-is (event_in given old.board.state action) ∙ sym is_done in
        let is = at-is told h lines (record { server = old; reading = reading }) progress at in
        let behind : IsAt told h lines (record { server = new; reading = reading }) (do_act (stage_of start) progress action) =
        subst (λ (p : Progress Kept). IsAt told h lines (record { server = new; reading = reading }) (do_act (stage_of start) p action)) (sym is)
        (acts-here told start h join within fuse lines (record { server = old; reading = reading }) (record { server = new; reading = reading }) progress.engine at.calls at.made_are at.synced
        (driven.unbroken ∙ at.unbroken) refl driven.served here.bounds here.flown action (λ event. steps-made start.given old.board.state action event driven.served) here.acted
        (subst (λ (o : Option History). IfSome o (λ h. IsRun told h new.engine
        (on_files old.engine.bounds (ran_at old.board old.engine h) (job_after start.given start.opening start.fresh old.board.trace) action))) at.made_are.history here.ran)) in
        (may, by-done progress done may behind)
      where
        some-is : (e : Option Event) → not (is_none e) ≡ is_some e
        some-is None = refl
        some-is (Some event) = refl

        by-done : {lines : List (Do × ℕ)} → (progress : Progress Kept) (t : Bool) → may_do (stage_of start) progress action ≡ t → IsAt told h lines (record { server = new; reading = reading }) (do_act (stage_of start) progress action)
            → IsAt told h lines (record { server = new; reading = reading }) (cond t (do_act (stage_of start) progress action) progress)
        by-done progress true may behind = behind
        by-done {lines} progress false may behind = subst (λ (p : Progress Kept). IsAt told h lines (record { server = new; reading = reading }) p) (undone (event_of (stage_of start) progress action) refl may) behind
          where
            undone : (e : Option Event) → event_of (stage_of start) progress action ≡ e → not (is_none (event_of (stage_of start) progress action)) ≡ false → do_act (stage_of start) progress action ≡ progress
            undone None none isnt = ap (λ (e : Option Event). option_map_or (make (stage_of start) progress action) e progress) none
            undone (Some event) some isnt = absurd (cc (sym (ap (λ (e : Option Event). not (is_none e)) some) ∙ isnt))

-- how many events an act makes
pub done-is : (given : Given) (reached : Reached) (action : Act) (new : Standing) (done : ℕ) → reached_by new ≡ act_on given reached action → length new.trace ≡ length reached.trace + done
    → done ≡ cond (is_some (event_in given reached.state action)) 1 0
done-is given reached action new done acted counted = of (event_in given reached.state action) refl
  where
    of : (o : Option Event) → event_in given reached.state action ≡ o → done ≡ cond (is_some o) 1 0
    of None none =
        let same : length new.trace ≡ length reached.trace = ap (λ (r : Reached). length r.trace) (acted ∙ ap (with_event_in given reached) none) in
        omega (arith, same, counted)
    of (Some event) some =
        let more : length new.trace ≡ length (reached.trace ++ event ∷ []) = ap (λ (r : Reached). length r.trace) (acted ∙ ap (with_event_in given reached) some) in
        omega (arith, more, counted, length-append reached.trace (event ∷ []))

-- ---- an act that was refused

-- a list of one is cut at that one
record IsAlone {A : Type 0} (one : A) (before : List A) (at : A) : Type 0 where
  none : before ≡ []
  same : at ≡ one

alone : {A : Type 0} (one : A) (before : List A) (at : A) (after : List A) → one ∷ [] ≡ before ++ at ∷ after → IsAlone one before at
alone one [] at after is = record { none = refl; same = sym (ap (λ l. get_or l 0 one) is) }
alone one (x ∷ []) at after is = absurd (cc (is))
alone one (x ∷ y ∷ before) at after is = absurd (cc (is))

module _ {D P : Type 0} (told : D → Option History) (count : D → ℕ) (start : Start) (h : History) (action : Act) (old new : Serving D P) (reading : Reading)
    (bounds : old.engine.bounds ≡ bounds_of start.given.settings)
    (before : Mounted D) (well : IsWell count old.engine before)
    (still : IfSome (told old.engine.disk) (λ h. IsRun told h before (ran_at old.board old.engine h)))
    (flies : new.flight ≡ job_after start.given start.opening start.fresh old.board.trace)
    (lines : List (Do × ℕ)) (progress : Progress Kept) (at : IsAt told h lines (record { server = old; reading = reading }) progress) where
  -- the engine before it
  before-made : HasMade told h before at.calls progress.engine
  before-made = of (subst (λ (o : Option History). IfSome o (λ h. IsRun told h before (ran_at old.board old.engine h))) at.made_are.history still)
    where
      of : IsRun told (made at.calls h) before (ran_at old.board old.engine (made at.calls h)) → HasMade told h before at.calls progress.engine
      of run = record { history = run.made.history; keeps = run.made.keeps ∙ at.made_are.keeps }

  module _ (refusal : QueueRefusal) (of_device : IsOfDevice refusal) (commit : IsOfCommit told count before new.engine new.flight refusal) where
    before-unbroken : before.broken ≡ None
    before-unbroken = well.broken ∙ at.unbroken

    ops-are : ops_in_flight start progress.trace ≡ commit.job.ops
    ops-are =
        ap (ops_in_flight start) at.trace
        ∙ ap (λ (o : Option CommitJob). option_map_or (λ (j : CommitJob). j.ops) o []) (sym flies ∙ commit.flies)

    outcome-is : commit_of before.bounds (kept_in (seen (made at.calls h)) before) commit.job.ops ≡ commit_in_flight start progress.engine progress.trace
    outcome-is = λ i. commit_of ((well.bounds ∙ bounds) i) (before-made.keeps i) (sym ops-are i)

    came-to : CameTo told commit.job.ops before (told new.engine.disk) refusal
    came-to = commit.refuses.came_to before-unbroken

    cut-short : (faults : ℕ) → refusal ≡ queue.DiskFault faults → IsCutShort told start h at.calls progress new.engine.disk
    cut-short faults is = of (told new.engine.disk) refl
        (subst (λ (o : Option History). ToldStoppedIn (λ files. calls_of (commit_of before.bounds (kept_in files before) commit.job.ops)) o (told new.engine.disk)) before-made.history
        (subst (CameTo told commit.job.ops before (told new.engine.disk)) is came-to))
      where
        of : (o : Option History) → told new.engine.disk ≡ o
            → ToldStoppedIn (λ files. calls_of (commit_of before.bounds (kept_in files before) commit.job.ops)) (Some (made at.calls h)) (told new.engine.disk)
            → IsCutShort told start h at.calls progress new.engine.disk
        of None none stopped = absurd (subst (ToldStoppedIn (λ files. calls_of (commit_of before.bounds (kept_in files before) commit.job.ops)) (Some (made at.calls h))) none stopped)
        of (Some now) some stopped = record {
          now = now;
          told_is = some;
          stopped = subst (λ (r : Result Done Refused). StoppedIn (calls_of r) (made at.calls h) now) outcome-is
              (subst (ToldStoppedIn (λ files. calls_of (commit_of before.bounds (kept_in files before) commit.job.ops)) (Some (made at.calls h))) some stopped);
        }

    past-limit : (long limit : ℕ) → refusal ≡ queue.Full long limit → IsPastLimit told start h at.calls progress new.engine.disk long limit
    past-limit long limit is = of (commit_in_flight start progress.engine progress.trace) refl
        (subst (λ (r : Result Done Refused). IsErrAnd r (IsPast (made at.calls h) (told new.engine.disk) long limit)) outcome-is
        (subst (λ (o : Option History). IfSome o (λ h. IsErrAnd (commit_of before.bounds (kept_in (seen h) before) commit.job.ops) (IsPast h (told new.engine.disk) long limit))) before-made.history
        (subst (CameTo told commit.job.ops before (told new.engine.disk)) is came-to)))
      where
        of : (r : Result Done Refused) → commit_in_flight start progress.engine progress.trace ≡ r → IsErrAnd r (IsPast (made at.calls h) (told new.engine.disk) long limit)
            → IsPastLimit told start h at.calls progress new.engine.disk long limit
        of (Ok done) is past = absurd past
        of (Err refused) is past = record { refused = refused; is = is; past = past.past; told_is = past.history }

    commit-stops : (r : QueueRefusal) → refusal ≡ r → CommitStops told start h at.calls progress new.engine.disk r
    commit-stops (queue.DiskFault faults) is = cut-short faults is
    commit-stops (queue.Full long limit) is = past-limit long limit is
    commit-stops (queue.Broken faults) is = absurd (cc (sym before-unbroken ∙ commit.broken faults is))
    commit-stops (queue.Damaged file at) is = absurd (subst IsOfDevice is of_device)
    commit-stops queue.NoMemory is = absurd (subst IsOfDevice is of_device)

  module _ (served : old.board.state.pieces ≡ all_served) where
    stops-durable : (due : IsTrue (is_some (event_in start.given old.board.state act.Durable)))
        → (event : Event) × (event_of (stage_of start) progress act.Durable ≡ Some event)
    stops-durable due = of (event_in start.given old.board.state act.Durable) refl due
      where
        event-is : event_of (stage_of start) progress act.Durable ≡ event_in start.given old.board.state act.Durable
        event-is = ap (λ (s : State). event_in start.given s act.Durable) at.state

        of : (o : Option Event) → event_in start.given old.board.state act.Durable ≡ o → IsTrue (is_some o)
            → (event : Event) × (event_of (stage_of start) progress act.Durable ≡ Some event)
        of None none due = absurd (cc (due))
        of (Some event) some due = (event, event-is ∙ some)

    pub act-refused : (why : DriveRefusal) → IsTrue (is_some (event_in start.given old.board.state action)) → IsRefused told count before new.engine new.flight action why
        → ActStops told start h at.calls progress new.engine.disk action why
    act-refused NoMemory due refused = tt
    act-refused (Device refusal) due (is_durable, of_device, commit) =
        let event = stops-durable (subst (λ (a : Act). IsTrue (is_some (event_in start.given old.board.state a))) is_durable due) in
        (is_durable, event.0, event.1, commit-stops refusal of_device commit refusal refl)

-- what a server that was stopped tells of one act
pub acts-refused : {D P : Type 0} → (told : D → Option History) (count : D → ℕ) (given : Given) (opening : Opening) (no_frame : Bool) (upto : ℕ) (start : Start) (began : Option History)
    → IsBegun given opening no_frame start began → (action : Act) (old new : Serving D P) (reading : Reading) (why : DriveRefusal)
    → old.board.state.pieces ≡ all_served → old.engine.bounds ≡ bounds_of given.settings → to upto given ≡ given
    → new.flight ≡ job_after given opening no_frame new.board.trace
    → IsStopped given opening no_frame upto told count old (action ∷ []) new why
    → (reached_by new.board ≡ reached_by old.board) × RefusesAct told start began action (record { server = old; reading = reading }) (record { server = new; reading = reading }) why
acts-refused told count given opening no_frame upto start began begun action old new reading why served bounds whole flies stopped = (reached-is, if-all began _ of)
  where
    only : IsAlone action stopped.done stopped.stop
    only = alone action stopped.done stopped.stop stopped.left stopped.whole

    reached-is : reached_by new.board ≡ reached_by old.board
    reached-is = stopped.reached ∙ ap (fold (act_on (to upto given)) (reached_by old.board)) only.none

    still : IfSome (told old.engine.disk) (λ h. IsRun told h stopped.before (ran_at old.board old.engine h))
    still = subst (λ (acts : List Act). IfSome (told old.engine.disk) (λ h. IsRun told h stopped.before (fold (run_on given opening no_frame old.engine.bounds upto) (ran_at old.board old.engine h) acts)))
        only.none stopped.ran

    due : IsTrue (is_some (event_in start.given old.board.state action))
    due = subst (λ (o : Option Event). IsTrue (is_some o))
        (λ i. event_in ((whole ∙ sym begun.given_is) i) (reached-is i).state (only.same i)) stopped.due

    flies-there : new.flight ≡ job_after start.given start.opening start.fresh old.board.trace
    flies-there = flies ∙ (λ i. job_after (sym begun.given_is i) (sym begun.opening_is i) (sym begun.fresh_is i) (reached-is i).trace)

    of : (h : History) → (lines : List (Do × ℕ)) (progress : Progress Kept) → (at : IsAt told h lines (record { server = old; reading = reading }) progress)
        → ActStops told start h at.calls progress new.engine.disk action why
    of h lines progress at =
        act-refused told count start h action old new reading (bounds ∙ ap (λ (g : Given). bounds_of g.settings) (sym begun.given_is)) stopped.before stopped.well still flies-there lines progress at served why due
        (subst (λ (a : Act). IsRefused told count stopped.before new.engine new.flight a why) only.same stopped.refused)

-- one event or none
pub is-one : (b : Bool) → nat_eq (cond b 1 0) 1 ≡ b
is-one true = refl
is-one false = refl
