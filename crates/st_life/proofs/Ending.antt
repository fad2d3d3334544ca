-- The end of a life: which life it is, and what it leaves.
use Rattle.std.proofs.Common.{◌≡◌, ◌∙◌, ◌+◌, ◌-◌, ◌<◌, ◌≤◌, ◌^◌, ◌⊎◌, if◌then◌else◌, ⊎_elim, inl, inr, ℕ, suc, min, nat_le, Bool, true, false, cond, is_none, List, [], ◌∷◌, ◌++◌, map, take, length, Option, Some, None, Result, Ok, Err, IfErr, IfSome, OnOk, refl, sym, ap, subst, arith, length-append}
use Rattle.std.proofs.Math.Seq.{take-append_seam}
use Rattle.std.proofs.lemmas.Bool.{lt-leb}
use Rattle.std.proofs.lemmas.Option.{same_Some}
use Rattle.std.specs.Option.{ForSome, option_map, option_map_or}
use Rattle.st_core.specs.Acts.{Reached, reached_by}
use Rattle.st_core.specs.Server.{Serving}
use Rattle.st_core.specs.declared.refusal.DriveRefusal.{DriveRefusal}
use Rattle.st_core.specs.declared.refusal.DriveRefusal.TheVariants.{Device, NoMemory}
use Rattle.st_course.specs.declared.job.CommitJob.{CommitJob}
use Rattle.st_disk.specs.Calls.{StoppedIn, made}
use Rattle.st_disk.specs.Fuse.{fused_faults, fused_history, inner_of}
use Rattle.st_disk.specs.History.{FileStates, Files, History, MayLeave, after_sync, fresh, of_file, risen, seen}
use Rattle.st_disk.specs.Left.{left}
use Rattle.st_disk.specs.Recorded.{Call}
use Rattle.st_disk.specs.declared.fused.Fused.{Fused}
use Rattle.st_engine.specs.Commit.{Done, Past, Refused}
use Rattle.st_engine.specs.Engine.{Mounted}
use Rattle.st_engine.specs.Store.{Kept}
use Rattle.st_fold.specs.Endings.{last_event}
use Rattle.st_fold.specs.declared.plan.Do.{Do}
use Rattle.st_fold.specs.declared.plan.LifePlan.{LifePlan}
use Rattle.st_fold.specs.declared.report.Ending.{Ending}
use Rattle.st_fold.specs.declared.report.Ending.TheVariants as ending
use Rattle.st_fold.specs.declared.report.Event.{Event}
use Rattle.st_fold.specs.declared.report.Event.TheVariants.{Opened}
use Rattle.st_fold.specs.declared.report.Fault.{Fault}
use Rattle.st_fold.specs.declared.report.Fault.TheVariants as fault
use Rattle.st_fold.specs.declared.report.Life.{Life}
use Rattle.st_model.specs.Report.{requests_of}
use Rattle.st_model.specs.Schedule.{Halt, LeadsTo, Progress, Stage, answered_by, begin, blown, ending_by, finish_commit, lets_through, life_of, next, past_limit, unpolled, with_event}
use Rattle.st_model.specs.State.{Given, Opening, State, first_state}
use Rattle.st_mutation.specs.declared.batch.Batch.{Batch}
use Rattle.st_queue.specs.Writing.{IsSynced}
use Rattle.st_queue.specs.declared.frame.QueueRefusal.TheVariants as queue
use Rattle.st_restart.specs.After.{OpenBehind}
use Rattle.st_life.specs.Ended.{IsAboveLeast, IsCutOff, IsFaultOf, IsPlayedOut, OpensBehind, WritesWhole, fault_at, is_failure, start_at}
use Rattle.st_life.specs.Stopping.{IsFaulted, IsLeftBy, IsStopped}
use Rattle.st_life.specs.declared.ended.LifeEnded.{LifeEnded}
use Rattle.st_life.specs.declared.ended.Stopped.{Stopped}
use Rattle.st_engine.specs.Commit.{calls_of}
use Rattle.st_life.specs.Leaving.{carried_out, crash_of, files_left, leaves, passes_left, states_behind}
use Rattle.st_life.specs.Play.{Start, as_played, commit_in_flight, stage_of}
use Rattle.st_life.specs.Readers.{Reading}
use Rattle.st_life.specs.Running.{EngineBehind, IsAt, IsCutShort, IsPastLimit, LetsThrough, Playing, PlaysOut, StopsOn}
use Rattle.st_life.proofs.Acting.{failed-made, let-through, made-least, made-most, made-passes}
use Rattle.st_life.proofs.Leading.{leads-on, leads-once}
use Rattle.st_life.proofs.Played.{same-files}
use Rattle.st_life.proofs.Synced.{commits-synced}

-- ---- disks

-- files that are synced have one image
one-image : ((file : ℕ) (h : History) (images : Files) → MayLeave (after_sync file h) images → of_file file images ≡ of_file file (seen h))
    → (files images : Files) → MayLeave (fresh files) images → images ≡ files
one-image law files images may =
    let zeroth = law 0 (fresh files) images may in
    let first = law 1 (fresh files) images may in
    λ i. (zeroth i, first i)

module _ {D : Type 0} (told : D → Option History) where
  -- what opens over a fuse does so below it
  below-opens : (start : Start) (state : State) (fused : Fused D) → OpensBehind start state (fused_history told fused) → OpensBehind start state (told (inner_of fused))
  below-opens start state fused opens = of (told (inner_of fused)) refl
    where
      over : Option History → Option History
      over o = option_map (λ (h : History). record h { made = fused.passed; passes = fused.passes }) o

      of : (o : Option History) → told (inner_of fused) ≡ o → OpensBehind start state o
      of None none = tt
      of (Some n) some = subst (λ (o : Option History). OpensBehind start state (over o)) some opens

  -- the history below has the files of the one over the fuse
  record Below (fused : Fused D) (n : History) : Type 0 where
    inner : History
    told_is : told (inner_of fused) ≡ Some inner
    now_is : inner.now ≡ n.now
    part_is : inner.in_part ≡ n.in_part

  below : (fused : Fused D) (n : History) → fused_history told fused ≡ Some n → Below fused n
  below fused n is = of (told (inner_of fused)) refl
    where
      over : Option History → Option History
      over o = option_map (λ (h : History). record h { made = fused.passed; passes = fused.passes }) o

      of : (o : Option History) → told (inner_of fused) ≡ o → Below fused n
      of None none = absurd (cc (sym (ap over none) ∙ is))
      of (Some inner) some =
          let same : record inner { made = fused.passed; passes = fused.passes } ≡ n = same_Some (record inner { made = fused.passed; passes = fused.passes }) n (sym (ap over some) ∙ is) in
          record { inner = inner; told_is = some; now_is = ap (λ (m : History). m.now) same; part_is = ap (λ (m : History). m.in_part) same }

-- ---- the life

module _ {D P : Type 0} (told : D → Option History) (count : D → ℕ) (log : List Batch) (start : Start) (h : History)
    (join : (first second : List Call) (h : History) → made (first ++ second) h ≡ made second (made first h))
    (within : (disk : Fused D) (n : History) → fused_history told disk ≡ Some n → ForSome n.passes (λ k. n.made ≤ k))
    (fuse : LetsThrough start.plan h)
    (leaves-image : (disk : D) (n : History) (choice : ℕ) → told disk ≡ Some n → MayLeave n (left choice n.now))
    (synced-image : (file : ℕ) (h : History) (images : Files) → MayLeave (after_sync file h) images → of_file file images ≡ of_file file (seen h))
    (part-made : (calls : List Call) (h : History) → (made calls h).in_part ≡ h.in_part)
    (part-stopped : (calls : List Call) (old new : History) (stopped : StoppedIn calls old new) → new.in_part ≡ old.in_part → new ≡ made stopped.carried old)
    (passes-stopped : (calls : List Call) (old new : History) → StoppedIn calls old new → new.passes ≡ old.passes)
    (fused : Fused D) (new : Playing (Fused D) P) (disk-is : new.server.engine.disk ≡ fused)
    (opens : OpensBehind start new.server.board.state (fused_history told fused)) where
  abbrev stage : Stage Kept
  stage = stage_of start

  abbrev pub made-life : Ending → Life
  made-life how = record {
    opened = start.opening.version;
    trace = new.server.board.trace ++ last_event how;
    answers = map answered_by new.reading.sessions;
    ending = how;
  }

  abbrev pub ended-of : Stopped D → LifeEnded D
  ended-of stopped = record { life = Some (made-life stopped.ending); disk = stopped.disk; fault = stopped.fault; log = log }

  module _ (stopped : Stopped D) (last : Progress Kept) (leads : LeadsTo stage (begin stage) last) (trace : last.trace ≡ new.server.board.trace)
      (state : last.state ≡ new.server.board.state) (sessions : last.sessions ≡ new.reading.sessions) where
    abbrev ended : LifeEnded D
    ended = ended-of stopped

    same-life : (p : Progress Kept) → p.trace ≡ last.trace → p.sessions ≡ last.sessions → (how : Ending) → stopped.ending ≡ how → made-life stopped.ending ≡ life_of stage p how
    same-life p p-trace p-sessions how is = λ i. record {
      opened = start.opening.version;
      trace = sym (p-trace ∙ trace) i ++ last_event (is i);
      answers = map answered_by (sym (p-sessions ∙ sessions) i);
      ending = is i;
    }

    -- the disk below opens
    opens-below : OpensBehind start last.state (told (inner_of fused))
    opens-below = subst (λ (s : State). OpensBehind start s (told (inner_of fused))) (sym state) (below-opens told start new.server.board.state fused opens)

    opens-restarted : (choice : ℕ) → told stopped.disk ≡ option_map (λ (n : History). fresh (left choice n.now)) (told (inner_of fused)) → OpensBehind start last.state (told stopped.disk)
    opens-restarted choice is = subst (λ (o : Option History). OpensBehind start last.state o) (sym is) (of (told (inner_of fused)) refl)
      where
        of : (o : Option History) → told (inner_of fused) ≡ o → OpensBehind start last.state (option_map (λ (n : History). fresh (left choice n.now)) o)
        of None none = tt
        of (Some n) some = λ images may.
            subst (λ (f : Files). OpenBehind start.given last.state f) (sym (one-image synced-image (left choice n.now) images may))
            (subst (λ (o : Option History). OpensBehind start last.state o) some opens-below (left choice n.now) (leaves-image (inner_of fused) n choice some))

    opens-same : told stopped.disk ≡ told (inner_of fused) → OpensBehind start last.state (told stopped.disk)
    opens-same is = subst (λ (o : Option History). OpensBehind start last.state o) (sym is) opens-below

    -- it was cut short by a failure
    cut-off : last.halt ≡ None → stopped.ending ≡ ending.Faulted → told stopped.disk ≡ told (inner_of fused) → IsCutOff told start ended (made-life stopped.ending)
    cut-off unhalted faulted same = record {
      broken = (last, leads, unhalted, same-life last refl refl ending.Faulted faulted);
      opens = opens-same same;
    }

    -- ---- where its disk was left, or restarted

    module _ (q : Progress Kept) (q-leads : LeadsTo stage (begin stage) q) (over : next stage q ≡ None) (q-trace : q.trace ≡ last.trace) (q-state : q.state ≡ last.state) (q-sessions : q.sessions ≡ last.sessions)
        (unfaulted : fault_at q.halt ≡ None) where
      -- the files behind its calls
      abbrev Behind : Type 0
      Behind = WritesWhole told → (n : History) → told (inner_of fused) ≡ Some n → n.now ≡ states_behind start q

      closed-left : stopped.disk ≡ inner_of fused → crash_of (ending_by start.plan q.halt) start.plan ≡ None
          → Behind → ((n : History) → told (inner_of fused) ≡ Some n → n.now ≡ (fresh (seen n)).now)
          → WritesWhole told → IfSome (told stopped.disk) (λ n. n.now ≡ (fresh (leaves start q)).now)
      closed-left same uncrashed behind settled whole = subst (λ (d : D). IfSome (told d) (λ n. n.now ≡ (fresh (leaves start q)).now)) (sym same) (of (told (inner_of fused)) refl)
        where
          of : (o : Option History) → told (inner_of fused) ≡ o → IfSome o (λ n. n.now ≡ (fresh (leaves start q)).now)
          of None none = tt
          of (Some n) some =
              settled n some
              ∙ ap (λ (states : FileStates). (fresh (files_left None states)).now) (behind whole n some)
              ∙ ap (λ (crash : Option ℕ). (fresh (files_left crash (states_behind start q))).now) (sym uncrashed)

      killed-left : (choice : ℕ) → told stopped.disk ≡ option_map (λ (n : History). fresh (left choice n.now)) (told (inner_of fused))
          → crash_of (ending_by start.plan q.halt) start.plan ≡ Some choice → Behind
          → WritesWhole told → IfSome (told stopped.disk) (λ n. n.now ≡ (fresh (leaves start q)).now)
      killed-left choice is crashed behind whole = subst (λ (o : Option History). IfSome o (λ n. n.now ≡ (fresh (leaves start q)).now)) (sym is) (of (told (inner_of fused)) refl)
        where
          of : (o : Option History) → told (inner_of fused) ≡ o → IfSome (option_map (λ (n : History). fresh (left choice n.now)) o) (λ n. n.now ≡ (fresh (leaves start q)).now)
          of None none = tt
          of (Some n) some =
              ap (λ (states : FileStates). (fresh (left choice states)).now) (behind whole n some)
              ∙ ap (λ (crash : Option ℕ). (fresh (files_left crash (states_behind start q))).now) (sym crashed)

      left-by : last.halt ≡ None → (how-closed : start.plan.kill ≡ None → ending_by start.plan q.halt ≡ ending.Closed)
          → (how-killed : (kill : ℕ × ℕ) → start.plan.kill ≡ Some kill → ending_by start.plan q.halt ≡ ending.Killed)
          → Behind → (start.plan.kill ≡ None → (n : History) → told (inner_of fused) ≡ Some n → n.now ≡ (fresh (seen n)).now)
          → IsLeftBy told count start.plan.kill (inner_of fused) stopped
          → IsPlayedOut told start ended (made-life stopped.ending) ⊎ (is_failure ended.fault ≡ true) × IsCutOff told start ended (made-life stopped.ending)
      left-by unhalted how-closed how-killed behind settled by = of start.plan.kill refl by
        where
          of : (kill : Option (ℕ × ℕ)) → start.plan.kill ≡ kill → IsLeftBy told count kill (inner_of fused) stopped
              → IsPlayedOut told start ended (made-life stopped.ending) ⊎ (is_failure ended.fault ≡ true) × IsCutOff told start ended (made-life stopped.ending)
          of None none (closed, no_fault, same) = inl (record {
            plays = (q, q-leads, over, same-life q q-trace q-sessions ending.Closed closed ∙ ap (life_of stage q) (sym (how-closed none)));
            fault_is = no_fault ∙ sym unfaulted;
            opens = subst (λ (s : State). OpensBehind start s (told stopped.disk)) (sym q-state) (opens-same (ap told same));
            left = closed-left same (ap (λ (e : Ending). crash_of e start.plan) (how-closed none)) behind (settled none);
          })
          of (Some kill) some by =
              ⊎_elim
              (λ restarted. inl (record {
                plays = (q, q-leads, over, same-life q q-trace q-sessions ending.Killed restarted.0 ∙ ap (life_of stage q) (sym (how-killed kill some)));
                fault_is = restarted.1 ∙ sym unfaulted;
                opens = subst (λ (s : State). OpensBehind start s (told stopped.disk)) (sym q-state) (opens-restarted kill.1 restarted.2);
                left = killed-left kill.1 restarted.2 (ap (λ (e : Ending). crash_of e start.plan) (how-killed kill some) ∙ ap (option_map (λ (k : ℕ × ℕ). k.1)) some) behind;
              }))
              (λ failed. inr (failed.1, cut-off unhalted failed.0 failed.2)) by

  -- ---- how the steps ended

  module _ (stopped : Stopped D) where
    abbrev Outcome : Type 0
    Outcome = IsPlayedOut told start (ended-of stopped) (made-life stopped.ending)
        ⊎ (is_failure stopped.fault ≡ true) × IsCutOff told start (ended-of stopped) (made-life stopped.ending)

    -- the schedule and the closing came to their end
    pub over-ends : (last : Progress Kept) → LeadsTo stage (begin stage) last → IsAt (fused_history told) h [] new last → next stage last ≡ None
        → IsLeftBy told count start.plan.kill (inner_of fused) stopped → Outcome
    over-ends last leads at over by =
        left-by stopped last leads at.trace at.state at.sessions last leads over refl refl refl (ap fault_at at.unhalted) at.unhalted
        (λ none. ap (ending_by start.plan) at.unhalted ∙ ap (λ (k : Option (ℕ × ℕ)). if is_none k then ending.Closed else ending.Killed) none)
        (λ kill some. ap (ending_by start.plan) at.unhalted ∙ ap (λ (k : Option (ℕ × ℕ)). if is_none k then ending.Closed else ending.Killed) some)
        (λ whole n some. now-is n some ∙ at.synced
        ∙ ap (λ (halt : Option Halt). (made (carried_out start.plan last.calls halt (calls_of (commit_in_flight start last.engine last.trace))) (fresh last.engine.files)).now) (sym at.unhalted))
        (λ none n some. settled n (now-is n some ∙ at.synced)) by
      where
        disk-told : fused_history told fused ≡ Some (made at.calls h)
        disk-told = ap (fused_history told) (sym disk-is) ∙ at.made_are.history

        now-is : (n : History) → told (inner_of fused) ≡ Some n → n.now ≡ (made at.calls h).now
        now-is n some =
            let there = below told fused (made at.calls h) disk-told in
            ap (λ (m : History). m.now) (same_Some n there.inner (sym some ∙ there.told_is)) ∙ there.now_is

        settled : (n : History) → n.now ≡ (fresh last.engine.files).now → n.now ≡ (fresh (seen n)).now
        settled n is = is ∙ ap (λ (f : Files). (fresh f).now) (sym (λ i. ((is i).0.seen, (is i).1.seen)))

    -- it was cut short
    pub failure-ends : (last : Progress Kept) → LeadsTo stage (begin stage) last → last.halt ≡ None → last.trace ≡ new.server.board.trace → last.state ≡ new.server.board.state
        → last.sessions ≡ new.reading.sessions → (why : Fault) → is_failure (Some why) ≡ true → IsFaulted (Some why) (inner_of fused) stopped → Outcome
    failure-ends last leads unhalted trace state sessions why fails (faulted, with_fault, same) =
        inr (ap is_failure with_fault ∙ fails, cut-off stopped last leads trace state sessions unhalted faulted (ap told same))

    module _ (last : Progress Kept) (leads : LeadsTo stage (begin stage) last) (lines : List (Do × ℕ)) (old : Playing (Fused D) P) (at : IsAt (fused_history told) h lines old last)
        (board : reached_by new.server.board ≡ reached_by old.server.board) (reading : new.reading ≡ old.reading)
        (left-lines : List (Do × ℕ)) (event : Event)
        (comes : next stage last ≡ Some (finish_commit stage (record last { lines = left-lines }) event (as_played (commit_in_flight start last.engine last.trace)))) where
      trace-is : last.trace ≡ new.server.board.trace
      trace-is = at.trace ∙ sym (ap (λ (r : Reached). r.trace) board)

      state-is : last.state ≡ new.server.board.state
      state-is = at.state ∙ sym (ap (λ (r : Reached). r.state) board)

      sessions-is : last.sessions ≡ new.reading.sessions
      sessions-is = at.sessions ∙ sym (ap (λ (r : Reading). r.sessions) reading)

      -- the frame is past the limit of its file
      pub limit-ends : (long limit : ℕ) → IsPastLimit (fused_history told) start h at.calls last fused long limit → IsFaulted (Some (fault.Full long limit)) (inner_of fused) stopped → Outcome
      limit-ends long limit past (faulted, with_fault, same) = inl (record {
        plays = (q, leads-on stage (begin stage) last q leads (leads-once stage last q (comes ∙ ap Some finished)), refl, same-life stopped last leads trace-is state-is sessions-is q refl refl ending.Faulted faulted);
        fault_is = with_fault;
        opens = opens-same stopped last leads trace-is state-is sessions-is (ap told same);
        left = λ whole. subst (λ (d : D). IfSome (told d) (λ n. n.now ≡ (fresh (leaves start q)).now)) (sym same) (of (told (inner_of fused)) refl);
      })
        where
          refused : Refused
          refused = past.refused

          under : Below told fused (made refused.calls (made at.calls h))
          under = below told fused (made refused.calls (made at.calls h)) past.told_is

          all-calls : ℕ
          all-calls = last.calls + length refused.calls

          q : Progress Kept
          q = record last { lines = left-lines; calls = all-calls; halt = Some (past_limit long limit) }

          told-all : fused_history told fused ≡ Some (made (at.calls ++ refused.calls) h)
          told-all = past.told_is ∙ ap Some (sym (join at.calls refused.calls h))

          through : lets_through start.plan all-calls ≡ true
          through =
              subst (λ n. lets_through start.plan n ≡ true) (length-append at.calls refused.calls ∙ ap (λ n. n + length refused.calls) (sym at.count))
              (let-through (fused_history told) start h within fuse fused (at.calls ++ refused.calls) told-all)

          finished : finish_commit stage (record last { lines = left-lines }) event (as_played (commit_in_flight start last.engine last.trace)) ≡ q
          finished =
              ap (λ (r : Result Done Refused). finish_commit stage (record last { lines = left-lines }) event (as_played r)) past.is
              ∙ ap (λ (t : Bool). cond t (record last { lines = left-lines; calls = all-calls; halt = Some (past_limit refused.past.length refused.past.limit) }) (record last { lines = left-lines; halt = Some blown })) through
              ∙ ap (λ (p : Past). record last { lines = left-lines; calls = all-calls; halt = Some (past_limit p.length p.limit) }) past.past

          behind : (made refused.calls (made at.calls h)).now ≡ (made refused.calls (fresh last.engine.files)).now
          behind = same-files refused.calls (made at.calls h) (fresh last.engine.files) at.synced

          settled : (made refused.calls (fresh last.engine.files)).now ≡ (fresh (seen (made refused.calls (fresh last.engine.files)))).now
          settled = subst (λ (calls : List Call). IsSynced (made calls (fresh last.engine.files))) (ap calls_of past.is) (commits-synced _ last.engine _)

          leaves-is : leaves start q ≡ seen (made refused.calls (fresh last.engine.files))
          leaves-is = ap (λ (calls : List Call). seen (made calls (fresh last.engine.files))) (ap calls_of past.is)

          of : (o : Option History) → told (inner_of fused) ≡ o → IfSome o (λ n. n.now ≡ (fresh (leaves start q)).now)
          of None none = tt
          of (Some n) some =
              ap (λ (m : History). m.now) (same_Some n under.inner (sym some ∙ under.told_is)) ∙ under.now_is ∙ behind ∙ settled ∙ ap (λ (f : Files). (fresh f).now) (sym leaves-is)

      -- the fuse was blown in its calls
      pub blown-ends : IsCutShort (fused_history told) start h at.calls last fused → ForSome (fused_history told fused) (λ n. n.passes ≡ Some n.made)
          → (whole-before : WritesWhole told → h.in_part ≡ 0)
          → IsLeftBy told count start.plan.kill (inner_of fused) stopped → Outcome
      blown-ends cut spent whole-before by = of start.plan.kill refl
        where
          stop : StoppedIn (calls_of (commit_in_flight start last.engine last.trace)) (made at.calls h) cut.now
          stop = cut.stopped

          carried : List Call
          carried = stop.carried

          there : Below told fused cut.now
          there = below told fused cut.now cut.told_is

          of : (kill : Option (ℕ × ℕ)) → start.plan.kill ≡ kill → Outcome
          of None none =
              absurd (cc (sym (spent cut.now cut.told_is), passes-stopped _ _ _ stop, made-passes at.calls h, fuse.passes, ap (option_map (λ (k : ℕ × ℕ). h.made + k.0)) none))
          of (Some kill) some =
              left-by stopped last leads trace-is state-is sessions-is q
              (leads-on stage (begin stage) last q leads (leads-once stage last q (comes ∙ ap Some finished))) refl refl refl refl refl at.unhalted
              (λ none. absurd (cc (none, some))) (λ k is. refl) behind (λ none. absurd (cc (none, some))) by
            where
              passes : h.passes ≡ Some (h.made + kill.0)
              passes = fuse.passes ∙ ap (option_map (λ (k : ℕ × ℕ). h.made + k.0)) some

              spent-at : cut.now.made ≡ h.made + kill.0
              spent-at = same_Some cut.now.made (h.made + kill.0) (sym (spent cut.now cut.told_is) ∙ passes-stopped _ _ _ stop ∙ made-passes at.calls h ∙ passes)

              made-at : cut.now.made ≡ (made carried (made at.calls h)).made
              made-at = (failed-made stop.failed (made carried (made at.calls h)) cut.now stop.left).0

              joined : made (at.calls ++ carried) h ≡ made carried (made at.calls h)
              joined = join at.calls carried h

              most : (made carried (made at.calls h)).made ≤ h.made + length (at.calls ++ carried)
              most = subst (λ (n : History). n.made ≤ h.made + length (at.calls ++ carried)) joined (made-most (at.calls ++ carried) h)

              least : min (h.made + length (at.calls ++ carried)) (2 ^ 64 - 1) ≤ (made carried (made at.calls h)).made
              least = subst (λ (n : History). min (h.made + length (at.calls ++ carried)) (2 ^ 64 - 1) ≤ n.made) joined (made-least (at.calls ++ carried) h)

              few : h.made + kill.0 < 2 ^ 64 - 1
              few = fuse.countable (h.made + kill.0) passes

              both : length (at.calls ++ carried) ≡ last.calls + length carried
              both = length-append at.calls carried ∙ ap (λ n. n + length carried) (sym at.count)

              spent-in : last.calls + length carried ≡ kill.0
              spent-in = omega (arith, spent-at, made-at, most, least, few, both)

              whole : length (calls_of (commit_in_flight start last.engine last.trace)) ≡ length carried + suc (length stop.rest)
              whole = ap (λ (l : List Call). length l) stop.parts ∙ length-append carried (stop.failed ∷ stop.rest)

              over-spent : (n : ℕ) → n ≡ length (calls_of (commit_in_flight start last.engine last.trace)) → lets_through start.plan (last.calls + n) ≡ false
              over-spent n is =
                  ap (λ (k : Option (ℕ × ℕ)). option_map_or (λ (k : ℕ × ℕ). nat_le (last.calls + n) k.0) k true) some
                  ∙ lt-leb (last.calls + n) kill.0 (omega (arith, is, whole, spent-in))

              q : Progress Kept
              q = record last { lines = left-lines; halt = Some blown }

              by-outcome : (r : Result Done Refused) → commit_in_flight start last.engine last.trace ≡ r
                  → finish_commit stage (record last { lines = left-lines }) event (as_played r) ≡ q
              by-outcome (Ok done) is =
                  ap (λ (t : Bool). cond t (with_event start.given (record last { lines = left-lines; engine = done.behind; calls = last.calls + length done.calls }) event) q)
                  (over-spent (length done.calls) (sym (ap (λ (r : Result Done Refused). length (calls_of r)) is)))
              by-outcome (Err refused) is =
                  ap (λ (t : Bool). cond t (record last { lines = left-lines; calls = last.calls + length refused.calls; halt = Some (past_limit refused.past.length refused.past.limit) }) q)
                  (over-spent (length refused.calls) (sym (ap (λ (r : Result Done Refused). length (calls_of r)) is)))

              finished : finish_commit stage (record last { lines = left-lines }) event (as_played (commit_in_flight start last.engine last.trace)) ≡ q
              finished = by-outcome (commit_in_flight start last.engine last.trace) refl

              taken : take (passes_left start.plan last.calls) (calls_of (commit_in_flight start last.engine last.trace)) ≡ carried
              taken =
                  (λ i. take (option_map_or (λ (k : ℕ × ℕ). k.0 - last.calls) (some i) 0) (stop.parts i))
                  ∙ ap (λ n. take n (carried ++ stop.failed ∷ stop.rest)) (let e : kill.0 - last.calls ≡ length carried = omega (arith, spent-in) in e)
                  ∙ take-append_seam carried (stop.failed ∷ stop.rest)

              behind : WritesWhole told → (n : History) → told (inner_of fused) ≡ Some n → n.now ≡ states_behind start q
              behind whole n is =
                  let same : n ≡ there.inner = same_Some n there.inner (sym is ∙ there.told_is) in
                  let none-new : cut.now.in_part ≡ 0 = sym there.part_is ∙ ap (λ (m : History). m.in_part) (sym same) ∙ whole (inner_of fused) n is in
                  let none-old : (made at.calls h).in_part ≡ 0 = part-made at.calls h ∙ whole-before whole in
                  let left-is : cut.now ≡ made carried (made at.calls h) = part-stopped _ _ _ stop (none-new ∙ sym none-old) in
                  ap (λ (m : History). m.now) same ∙ there.now_is ∙ ap (λ (m : History). m.now) left-is
                  ∙ same-files carried (made at.calls h) (fresh last.engine.files) at.synced
                  ∙ ap (λ (calls : List Call). (made calls (fresh last.engine.files)).now) (sym taken)

-- ---- a life, from its beginning

-- how its steps ended, and what that left
pub record IsLived {D P : Type 0} (told : D → Option History) (count : D → ℕ) (start : Start) (before : Option History) (old new : Playing (Fused D) P)
    (outcome : Result Unit DriveRefusal) (fused : Fused D) (stopped : Stopped D) : Type 0 where
  pub told_is : before ≡ fused_history told old.server.engine.disk
  pub fuse : IfSome before (LetsThrough start.plan)
  pub begins : IfSome before (λ h. IsAt (fused_history told) h start.plan.dos old (begin (stage_of start)))
  pub ok : OnOk outcome (PlaysOut (fused_history told) start before start.plan.dos old new)
  pub err : IfErr outcome (StopsOn (fused_history told) start before start.plan.dos old new)
  pub disk_is : new.server.engine.disk ≡ fused
  pub opens : OpensBehind start new.server.board.state (fused_history told fused)
  pub stops : IsStopped told count start.plan fused outcome stopped

module _ {D P : Type 0} (told : D → Option History) (count : D → ℕ) (log : List Batch) (start : Start) (before : Option History)
    (join : (first second : List Call) (h : History) → made (first ++ second) h ≡ made second (made first h))
    (within : (disk : Fused D) (n : History) → fused_history told disk ≡ Some n → ForSome n.passes (λ k. n.made ≤ k))
    (leaves-image : (disk : D) (n : History) (choice : ℕ) → told disk ≡ Some n → MayLeave n (left choice n.now))
    (synced-image : (file : ℕ) (h : History) (images : Files) → MayLeave (after_sync file h) images → of_file file images ≡ of_file file (seen h))
    (part-made : (calls : List Call) (h : History) → (made calls h).in_part ≡ h.in_part)
    (part-stopped : (calls : List Call) (old new : History) (stopped : StoppedIn calls old new) → new.in_part ≡ old.in_part → new ≡ made stopped.carried old)
    (passes-stopped : (calls : List Call) (old new : History) → StoppedIn calls old new → new.passes ≡ old.passes)
    (old new : Playing (Fused D) P) (outcome : Result Unit DriveRefusal) (fused : Fused D) (stopped : Stopped D)
    (lived : IsLived told count start before old new outcome fused stopped) where
  abbrev life-there : Life
  life-there = record {
    opened = start.opening.version;
    trace = new.server.board.trace ++ last_event stopped.ending;
    answers = map answered_by new.reading.sessions;
    ending = stopped.ending;
  }

  abbrev ended-there : LifeEnded D
  ended-there = record { life = Some life-there; disk = stopped.disk; fault = stopped.fault; log = log }

  pub lives : IfSome before (λ h. IsPlayedOut told start ended-there life-there ⊎ (is_failure stopped.fault ≡ true) × IsCutOff told start ended-there life-there)
  lives = of before refl lived.fuse lived.begins lived.ok lived.err
    where
      by-outcome : (h : History) → before ≡ Some h → LetsThrough start.plan h → IsAt (fused_history told) h start.plan.dos old (begin (stage_of start))
          → (o : Result Unit DriveRefusal) → IsStopped told count start.plan fused o stopped
          → OnOk o (PlaysOut (fused_history told) start (Some h) start.plan.dos old new) → IfErr o (StopsOn (fused_history told) start (Some h) start.plan.dos old new)
          → IsPlayedOut told start ended-there life-there ⊎ (is_failure stopped.fault ≡ true) × IsCutOff told start ended-there life-there
      by-outcome h some fuse at (Ok done) stops ok err =
          let there = ok (begin (stage_of start)) at in
          over-ends told count log start h join within fuse leaves-image synced-image part-made part-stopped passes-stopped fused new lived.disk_is lived.opens stopped there.0 there.1 there.2 there.3 stops
      by-outcome h some fuse at (Err NoMemory) stops ok err =
          let there = err (begin (stage_of start)) at in
          failure-ends told count log start h join within fuse leaves-image synced-image part-made part-stopped passes-stopped fused new lived.disk_is lived.opens stopped there.last there.leads there.at.unhalted
          (there.at.trace ∙ sym (ap (λ (r : Reached). r.trace) there.board)) (there.at.state ∙ sym (ap (λ (r : Reached). r.state) there.board)) (there.at.sessions ∙ sym (ap (λ (r : Reading). r.sessions) there.reading))
          fault.Memory refl stops
      by-outcome h some fuse at (Err (Device (queue.DiskFault faults))) stops ok err =
          let there = err (begin (stage_of start)) at in
          ⊎_elim
          (λ spent.
          blown-ends told count log start h join within fuse leaves-image synced-image part-made part-stopped passes-stopped fused new lived.disk_is lived.opens stopped there.last there.leads there.lines there.before there.at
          there.board there.reading there.by.0 there.by.1 there.by.2 (subst (λ (d : Fused D). IsCutShort (fused_history told) start h there.at.calls there.last d) lived.disk_is there.by.3) spent.0
          (λ whole. let under = below told old.server.engine.disk h (sym lived.told_is ∙ some) in sym under.part_is ∙ whole (inner_of old.server.engine.disk) under.inner under.told_is) spent.1)
          (λ failed.
          failure-ends told count log start h join within fuse leaves-image synced-image part-made part-stopped passes-stopped fused new lived.disk_is lived.opens stopped there.last there.leads there.at.unhalted
          (there.at.trace ∙ sym (ap (λ (r : Reached). r.trace) there.board)) (there.at.state ∙ sym (ap (λ (r : Reached). r.state) there.board)) (there.at.sessions ∙ sym (ap (λ (r : Reading). r.sessions) there.reading))
          (fault.Device (count (inner_of fused))) refl failed.1) stops
      by-outcome h some fuse at (Err (Device (queue.Full long limit))) stops ok err =
          let there = err (begin (stage_of start)) at in
          limit-ends told count log start h join within fuse leaves-image synced-image part-made part-stopped passes-stopped fused new lived.disk_is lived.opens stopped there.last there.leads there.lines there.before there.at
          there.board there.reading there.by.0 there.by.1 there.by.2 long limit (subst (λ (d : Fused D). IsPastLimit (fused_history told) start h there.at.calls there.last d long limit) lived.disk_is there.by.3) stops
      by-outcome h some fuse at (Err (Device (queue.Broken faults))) stops ok err = absurd stops
      by-outcome h some fuse at (Err (Device (queue.Damaged file place))) stops ok err = absurd stops
      by-outcome h some fuse at (Err (Device queue.NoMemory)) stops ok err = absurd stops

      of : (o : Option History) → before ≡ o → IfSome o (LetsThrough start.plan) → IfSome o (λ h. IsAt (fused_history told) h start.plan.dos old (begin (stage_of start)))
          → OnOk outcome (PlaysOut (fused_history told) start o start.plan.dos old new) → IfErr outcome (StopsOn (fused_history told) start o start.plan.dos old new)
          → IfSome o (λ h. IsPlayedOut told start ended-there life-there ⊎ (is_failure stopped.fault ≡ true) × IsCutOff told start ended-there life-there)
      of None none fuse begins ok err = tt
      of (Some h) some fuse begins ok err = by-outcome h some fuse begins outcome lived.stops ok err

-- ---- what a life begins with, and its fault

-- a life that did nothing yet is where its schedule begins
pub begins-at : {D P : Type 0} → (told : Fused D → Option History) (h : History) (given : Given) (plan : LifePlan) (opening : Opening) (no_frame : Bool) (server : Serving (Fused D) P) (readers : Reading) (start : Start)
    → start ≡ start_at given plan opening no_frame server h → told server.engine.disk ≡ Some h → server.board.trace ≡ Opened opening.version ∷ [] → server.board.state ≡ first_state given opening
    → readers.sessions ≡ map unpolled (requests_of plan) → h.now ≡ (fresh (seen h)).now → server.engine.broken ≡ None
    → IsAt told h start.plan.dos (record { server = server; reading = readers }) (begin (stage_of start))
begins-at told h given plan opening no_frame server readers start is told_is trace state sessions synced unbroken =
    subst (λ (s : Start). IsAt told h s.plan.dos (record { server = server; reading = readers }) (begin (stage_of s))) (sym is) (record {
      lines_are = refl;
      trace = sym trace;
      state = sym state;
      sessions = sym sessions;
      unhalted = refl;
      calls = [];
      made_are = record { history = told_is; keeps = refl };
      count = refl;
      synced = synced;
      unbroken = unbroken;
    })

-- what rose above the count of a disk is above what each has at least
above-least : {D : Type 0} → (count : D → ℕ) (old now : D) → risen (count old) ≤ count now → IsAboveLeast count now
above-least count old now rose least every = let low = every old in omega (arith, low, rose)

any-before : {D : Type 0} → (before : ℕ) (count : D → ℕ) (old now : D) (why : Option Fault) → IsFaultOf (count old) count now why → IsFaultOf before count now why
any-before before count old now None of = tt
any-before before count old now (Some (fault.Device faults)) of =
    (of.0, inr (⊎_elim (above-least count old now) (λ above. above) of.1))
any-before before count old now (Some (fault.Full long limit)) of = tt
any-before before count old now (Some fault.Memory) of = tt
any-before before count old now (Some fault.Words) of = of
any-before before count old now (Some (fault.Script line kind)) of = of
any-before before count old now (Some (fault.Read faults)) of = of
any-before before count old now (Some (fault.Peer faults)) of = of
any-before before count old now (Some (fault.Damaged damage)) of = of
any-before before count old now (Some (fault.Foreign part)) of = of

-- the fault with which a life is over
pub fault-is : {D : Type 0} → (told : D → Option History) (count : D → ℕ) (plan : LifePlan) (old new : Mounted (Fused D)) (outcome : Result Unit DriveRefusal) (fused : Fused D) (stopped : Stopped D)
    → new.disk ≡ fused → EngineBehind (fused_faults count) old new outcome → IsStopped told count plan fused outcome stopped
    → IsFaultOf (fused_faults count old.disk) count stopped.disk stopped.fault
fault-is {D = D} told count plan old new outcome fused stopped disk engine stops = of outcome engine stops
  where
    left-is : (kill : Option (ℕ × ℕ)) → IsLeftBy told count kill (inner_of fused) stopped → IsFaultOf (fused_faults count old.disk) count stopped.disk stopped.fault
    left-is None (closed, none, same) = subst (λ (f : Option Fault). IsFaultOf (fused_faults count old.disk) count stopped.disk f) (sym none) tt
    left-is (Some kill) by =
        ⊎_elim
        (λ restarted. subst (λ (f : Option Fault). IsFaultOf (fused_faults count old.disk) count stopped.disk f) (sym restarted.1) tt)
        (λ failed. any-before (fused_faults count old.disk) count (inner_of fused) stopped.disk stopped.fault failed.3) by

    faulted-is : (why : Fault) → IsFaulted (Some why) (inner_of fused) stopped → IsFaultOf (fused_faults count old.disk) count (inner_of fused) (Some why) → IsFaultOf (fused_faults count old.disk) count stopped.disk stopped.fault
    faulted-is why (faulted, with_fault, same) of =
        subst (λ (f : Option Fault). IsFaultOf (fused_faults count old.disk) count stopped.disk f) (sym with_fault)
        (subst (λ (d : D). IsFaultOf (fused_faults count old.disk) count d (Some why)) (sym same) of)

    of : (o : Result Unit DriveRefusal) → EngineBehind (fused_faults count) old new o → IsStopped told count plan fused o stopped → IsFaultOf (fused_faults count old.disk) count stopped.disk stopped.fault
    of (Ok done) engine stops = left-is plan.kill stops
    of (Err NoMemory) engine stops = faulted-is fault.Memory stops tt
    of (Err (Device (queue.DiskFault faults))) engine stops =
        ⊎_elim
        (λ spent. left-is plan.kill spent.1)
        (λ failed. faulted-is (fault.Device (count (inner_of fused))) failed.1
        (refl, inl (subst (λ n. risen (fused_faults count old.disk) ≤ n) (ap (fused_faults count) disk ∙ failed.0) engine.1))) stops
    of (Err (Device (queue.Full long limit))) engine stops = faulted-is (fault.Full long limit) stops tt
    of (Err (Device (queue.Broken faults))) engine stops = absurd stops
    of (Err (Device (queue.Damaged file place))) engine stops = absurd stops
    of (Err (Device queue.NoMemory)) engine stops = absurd stops

-- no job is in flight where no commit is
pub no-flight : (o : Option CommitJob) (flight : Option Opening) → option_map (λ (job : CommitJob). job.version) o ≡ option_map (λ (f : Opening). f.version) flight → flight ≡ None → o ≡ None
no-flight None flight flown none = refl
no-flight (Some job) flight flown none = absurd (cc (flown ∙ ap (option_map (λ (f : Opening). f.version)) none))

module _ {D P : Type 0} (told : D → Option History) (count : D → ℕ)
    (join : (first second : List Call) (h : History) → made (first ++ second) h ≡ made second (made first h))
    (within : (disk : Fused D) (n : History) → fused_history told disk ≡ Some n → ForSome n.passes (λ k. n.made ≤ k))
    (leaves-image : (disk : D) (n : History) (choice : ℕ) → told disk ≡ Some n → MayLeave n (left choice n.now))
    (synced-image : (file : ℕ) (h : History) (images : Files) → MayLeave (after_sync file h) images → of_file file images ≡ of_file file (seen h))
    (part-made : (calls : List Call) (h : History) → (made calls h).in_part ≡ h.in_part)
    (part-stopped : (calls : List Call) (old new : History) (stopped : StoppedIn calls old new) → new.in_part ≡ old.in_part → new ≡ made stopped.carried old)
    (passes-stopped : (calls : List Call) (old new : History) → StoppedIn calls old new → new.passes ≡ old.passes)
    (given : Given) (plan : LifePlan) (opening : Opening) (no_frame : Bool) (server : Serving (Fused D) P) (readers : Reading) (log : List Batch) (start : Start) (before : Option History)
    (new : Playing (Fused D) P) (outcome : Result Unit DriveRefusal) (fused : Fused D) (stopped : Stopped D) (life : Life)
    (told-is : before ≡ fused_history told server.engine.disk) (starts : IfSome before (λ h. start ≡ start_at given plan opening no_frame server h)) (fuse : IfSome before (LetsThrough start.plan))
    (trace : server.board.trace ≡ Opened opening.version ∷ []) (state : server.board.state ≡ first_state given opening) (sessions : readers.sessions ≡ map unpolled (requests_of plan))
    (synced : IfSome (fused_history told server.engine.disk) (λ h. h.now ≡ (fresh (seen h)).now)) (unbroken : server.engine.broken ≡ None)
    (ok : OnOk outcome (PlaysOut (fused_history told) start before plan.dos (record { server = server; reading = readers }) new))
    (err : IfErr outcome (StopsOn (fused_history told) start before plan.dos (record { server = server; reading = readers }) new))
    (disk-is : new.server.engine.disk ≡ fused)
    (opens : IfSome (fused_history told fused) (λ h. (images : Files) → MayLeave h images → OpenBehind given new.server.board.state images))
    (stops : IsStopped told count plan fused outcome stopped)
    (life-is : record { opened = opening.version; trace = new.server.board.trace ++ last_event stopped.ending; answers = map answered_by new.reading.sessions; ending = stopped.ending } ≡ life) where
  abbrev Is : History → Life → Type 0
  Is h one =
      IsPlayedOut told (start_at given plan opening no_frame server h) (record { life = Some one; disk = stopped.disk; fault = stopped.fault; log = log }) one
      ⊎ (is_failure stopped.fault ≡ true) × IsCutOff told (start_at given plan opening no_frame server h) (record { life = Some one; disk = stopped.disk; fault = stopped.fault; log = log }) one

  pub live-ended : IfSome (fused_history told server.engine.disk) (λ h. Is h life)
  live-ended = subst (λ (one : Life). IfSome (fused_history told server.engine.disk) (λ h. Is h one)) life-is
      (subst (λ (o : Option History). IfSome o (λ h. Is h made-there)) told-is (of before refl starts fuse ok err))
    where
      made-there : Life
      made-there = record { opened = opening.version; trace = new.server.board.trace ++ last_event stopped.ending; answers = map answered_by new.reading.sessions; ending = stopped.ending }

      old : Playing (Fused D) P
      old = record { server = server; reading = readers }

      of : (o : Option History) → before ≡ o → IfSome o (λ h. start ≡ start_at given plan opening no_frame server h) → IfSome o (LetsThrough start.plan)
          → OnOk outcome (PlaysOut (fused_history told) start o plan.dos old new) → IfErr outcome (StopsOn (fused_history told) start o plan.dos old new)
          → IfSome o (λ h. Is h made-there)
      of None none is fuse ok err = tt
      of (Some h) some is fuse ok err =
          let s = start_at given plan opening no_frame server h in
          let disk = sym told-is ∙ some in
          lives told count log s (Some h) join within leaves-image synced-image part-made part-stopped passes-stopped old new outcome fused stopped (record {
            told_is = sym some ∙ told-is;
            fuse = subst (λ (s : Start). LetsThrough s.plan h) is fuse;
            begins = begins-at (fused_history told) h given plan opening no_frame server readers s refl disk trace state sessions
                (subst (λ (o : Option History). IfSome o (λ h. h.now ≡ (fresh (seen h)).now)) disk synced) unbroken;
            ok = subst (λ (s : Start). OnOk outcome (PlaysOut (fused_history told) s (Some h) plan.dos old new)) is ok;
            err = subst (λ (s : Start). IfErr outcome (StopsOn (fused_history told) s (Some h) plan.dos old new)) is err;
            disk_is = disk-is;
            opens = opens;
            stops = stops;
          })
