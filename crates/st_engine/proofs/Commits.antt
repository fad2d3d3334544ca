-- What an engine keeps once a commit is appended or refused, and what its answer tells.
use Rattle.std.proofs.Common.{◌≡◌, ◌∙◌, ◌<◌, ◌≤◌, ◌⊎◌, ◌+◌, ◌^◌, ℕ, max, Bool, true, false, if◌then◌else◌, List, Option, Some, None, Result, Ok, Err, IfSome, IsTrue, inl, inr, refl, sym, ap, subst, arith}
use Rattle.std.specs.List.{list_all}
use Rattle.std.specs.Option.{option_map, option_or}
use Rattle.std.proofs.lemmas.Bool.{false≢true}
use Rattle.std.specs.Result.{IsErrAnd, IsOkAnd}
use Rattle.st_disk.specs.History.{History, seen}
use Rattle.st_disk.specs.Moments.{ToldLeavesOnly}
use Rattle.st_disk.specs.Calls.{StoppedIn, ToldStoppedIn, made}
use Rattle.st_fold.specs.Map.{Map}
use Rattle.st_ops.specs.Grammar.{has_form, is_change}
use Rattle.st_ops.specs.Reading.{reading}
use Rattle.st_ops.specs.declared.op.Op.{Op}
use Rattle.st_queue.specs.Due.{due_of}
use Rattle.st_queue.specs.Mounting.{IsOfWriting, IsOutside}
use Rattle.st_queue.specs.Place.{next_number}
use Rattle.st_queue.specs.Queue.{Opened, after_refusal, is_due, with_discarded}
use Rattle.st_queue.specs.Writing.{ToldSettled, behind_frame}
use Rattle.st_queue.specs.declared.frame.Frame.{Frame}
use Rattle.st_queue.specs.declared.frame.QueueRefusal.{QueueRefusal}
use Rattle.st_queue.specs.declared.frame.QueueRefusal.TheVariants.{Broken, Damaged, DiskFault, Full, NoMemory}
use Rattle.st_queue.specs.declared.place.Place.{Place}
use Rattle.st_queue.specs.declared.state.State.{State}
use Rattle.st_engine.specs.Answers.{Answers, CameTo, Commits, HasLessOrMore, IsDone, IsPast, Refuses, ToldFewer, ToldOneMore, broken_behind, calls_for, past_for, payload_for, place_for}
use Rattle.st_engine.specs.Commit.{Done, Past, Refused, begin_calls, calls_in, calls_of, commit_of, commit_with, files_behind, frame_in, frame_place, is_ended_by, outcome, past_end, past_in, past_number, place_in, store_behind}
use Rattle.st_engine.specs.Engine.{Agrees, IsLeft, Keeps, Mounted, ToldAgrees, kept_in, over}
use Rattle.st_engine.specs.Holding.{began_behind}
use Rattle.st_engine.specs.Replay.{frame_on, ops_on}
use Rattle.st_engine.specs.Snapshot.{cursor_behind, has_close, room_of, snap, whole_of}
use Rattle.st_engine.specs.Store.{Store}
use Rattle.st_engine.proofs.Cases.{same_Err}
use Rattle.st_engine.proofs.Histories.{all-less}
use Rattle.st_engine.proofs.Items.{closes_frame}
use Rattle.st_engine.proofs.Mounts.{ToldFresh, ToldStandsOn, agreed-fresh, agreed-stands, first-closes, fresh-less, fresh-more, leaves-either, leaves-none, place-next, stands-closed, stands-less, stands-more, told-agrees, untold}
use Rattle.st_engine.proofs.Refusals.{RefusedAt, outcome-done, unbroken-before}
use Rattle.st_engine.proofs.Runs.{seen-fresh}
use Rattle.st_engine.proofs.Snapshots.{commit_frame}
use Rattle.st_engine.proofs.Sorted.{Sorted}

-- where a snapshot in progress stands behind a commit
abbrev pub state_behind : Bool → ℕ → State → State
state_behind ended began state = if ended then with_discarded (max state.discarded began) state else state

abbrev pub begin_behind : Bool → ℕ → ℕ → ℕ
begin_behind ended began seq = if ended then began_behind seq else began

-- what that leaves
module _ {T : Type 0} (part : State → T) (same : (discarded : ℕ) (state : State) → part (with_discarded discarded state) ≡ part state) where
  part-behind : (ended : Bool) (began : ℕ) (state : State) → part (state_behind ended began state) ≡ part state
  part-behind true began state = same (max state.discarded began) state
  part-behind false began state = refl

discarded-behind : (ended : Bool) (began : ℕ) (state : State) → (state_behind ended began state).discarded ≡ (if ended then max state.discarded began else state.discarded)
discarded-behind true began state = refl
discarded-behind false began state = refl

-- what a commit comes to is told by what the engine knows, where that agrees with its disk
agreed-commit : {D : Type 0} → (ops : List Op) (old : Mounted D) (h : History) → Agrees old h
    → commit_with old.bounds.limit old.due old.place (payload_for ops old) (seen h) (store_behind old.bounds.quota (place_for old).next ops old.store) ≡ commit_of old.bounds (kept_in (seen h) old) ops
agreed-commit ops old h agrees = λ i. commit_with old.bounds.limit (agrees.due_is i) (agrees.place_is i) (payload_for ops old) (seen h)
    (store_behind old.bounds.quota (frame_place (agrees.due_is i) (agrees.place_is i)).next ops old.store)

-- and so are the calls among which it was cut short
agreed-stopped : {D : Type 0} → (ops : List Op) (old : Mounted D) (told now : Option History) → IfSome told (λ h. Agrees old h)
    → ((behind : Store) → ToldStoppedIn (λ files. calls_of (commit_with old.bounds.limit old.due old.place (payload_for ops old) files behind)) told now)
    → ToldStoppedIn (λ files. calls_of (commit_of old.bounds (kept_in files old) ops)) told now
agreed-stopped ops old None now agrees stopped = stopped old.store
agreed-stopped ops old (Some h) None agrees stopped = stopped old.store
agreed-stopped ops old (Some h) (Some n) agrees stopped =
    subst (λ (r : Result Done Refused). StoppedIn (calls_of r) h n) (agreed-commit ops old h agrees) (stopped (store_behind old.bounds.quota (place_for old).next ops old.store))

none-both : {T : Type 0} → (a b : Option T) → option_or a b ≡ None → (a ≡ None) × (b ≡ None)
none-both None b none = (refl, none)
none-both (Some x) b none = absurd (cc (none))

-- a commit that made its calls is done
is-done : {D : Type 0} → (ops : List Op) (old new : Mounted D) (told now : Option History) → IfSome told (λ h. Agrees old h) → past_for ops old ≡ None
    → now ≡ option_map (λ h. made (calls_for ops old (seen h)) h) told → new.store ≡ store_behind old.bounds.quota (place_for old).next ops old.store
    → IfSome told (λ h. IsOkAnd (commit_of old.bounds (kept_in (seen h) old) ops) (IsDone h now new))
is-done ops old new None now agrees within calls store = tt
is-done {D} ops old new (Some h) now agrees within calls store =
    let both = none-both (past_number old.due old.place) (past_end old.bounds.limit (place_for old) (payload_for ops old)) within in
    let list = calls_for ops old (seen h) in
    let behind : Store = store_behind old.bounds.quota (place_for old).next ops old.store in
    let done : Done = record { calls = list; behind = record { files = files_behind list (seen h); store = behind } } in
    let ok : outcome (past_number old.due old.place) (past_end old.bounds.limit (place_for old) (payload_for ops old)) (begin_calls old.due old.place (seen h)) done ≡ Ok done =
    outcome-done (past_number old.due old.place) (past_end old.bounds.limit (place_for old) (payload_for ops old)) (begin_calls old.due old.place (seen h)) done both.0 both.1 in
    let is : IsDone h now new done = record { history = calls; behind = λ i. record { files = seen-fresh list h i; store = store i } } in
    subst (λ (r : Result Done Refused). IsOkAnd r (IsDone h now new)) (sym ok ∙ agreed-commit ops old h agrees) is

-- What an append of a payload that answered Ok did to a queue.
pub record IsWritten {D : Type 0} (history : D → Option History) (old new : Opened D) (payload : List ℕ) (seq : ℕ) : Type 0 where
  pub unbroken : old.state.broken ≡ None
  pub still : new.state.broken ≡ old.state.broken
  pub within : past_in old.state payload ≡ None
  pub calls : history new.disk ≡ option_map (λ h. made (calls_in old.state payload (seen h)) h) (history old.disk)
  pub more : ToldOneMore old.state.discarded (frame_in old.state payload) (history old.disk) (history new.disk)
  pub leaves : ToldLeavesOnly (history old.disk) (history new.disk) (HasLessOrMore old.state.discarded (frame_in old.state payload) (history old.disk))
  pub settled : ToldSettled (history new.disk) new.state.current
  pub place : new.state.current ≡ Some (behind_frame (place_in old.state) payload)
  pub number : seq ≡ (place_in old.state).next
  pub discarded : new.state.discarded ≡ old.state.discarded
  pub swap : new.state.swap ≡ old.state.swap
  pub limit : new.state.limit ≡ old.state.limit

-- What one that was refused left.
pub record IsUnwritten {D : Type 0} (history : D → Option History) (old new : Opened D) (payload : List ℕ) (refusal : QueueRefusal) : Type 0 where
  pub broken : new.state.broken ≡ (after_refusal refusal old.state).broken
  pub refuses : IsOfWriting refusal
  pub is_broken : (faults : ℕ) → refusal ≡ Broken faults → old.state.broken ≡ Some faults
  pub stopped : old.state.broken ≡ None → IsOutside refusal → (behind : Store)
      → ToldStoppedIn (λ files. calls_of (commit_with old.state.limit (is_due old.state) old.state.current payload files behind)) (history old.disk) (history new.disk)
  pub full : (long limit : ℕ) → refusal ≡ Full long limit → RefusedAt old.state payload (history new.disk) long limit (history old.disk)
  pub leaves : old.state.broken ≡ None → ToldLeavesOnly (history old.disk) (history new.disk) (HasLessOrMore old.state.discarded (frame_in old.state payload) (history old.disk))
  pub settled : new.state.broken ≡ None → ToldSettled (history new.disk) new.state.current
  pub stays : new.state.broken ≡ None → ToldFewer old.state.discarded (history old.disk) (history new.disk)
  pub untouched : (faults : ℕ) → old.state.broken ≡ Some faults → new ≡ old
  pub next : next_number new.state.current ≡ next_number old.state.current
  pub discarded : new.state.discarded ≡ old.state.discarded
  pub swap : new.state.swap ≡ old.state.swap
  pub limit : new.state.limit ≡ old.state.limit

-- what a commit that is done leaves in all
pub record IsAnswered {D : Type 0} (history : D → Option History) (ops : List Op) (old new : Mounted D) : Type 0 where
  pub commits : Commits history ops old new
  pub leaves : ToldLeavesOnly (history old.disk) (history new.disk) (IsLeft (history old.disk) old.store ops)
  pub keeps : Keeps history new

-- and one that is refused
pub record IsRefused {D : Type 0} (history : D → Option History) (ops : List Op) (old new : Mounted D) (refusal : QueueRefusal) : Type 0 where
  pub refuses : Refuses history ops old new refusal
  pub leaves : old.broken ≡ None → ToldLeavesOnly (history old.disk) (history new.disk) (IsLeft (history old.disk) old.store ops)
  pub keeps : Keeps history new

-- what the files tell of when a next file is due
abbrev pub ToldDue : Option History → State → Type 0
ToldDue told state = IfSome told (λ h. is_due state ≡ due_of state.swap state.discarded (seen h))

module _ {D : Type 0} (history : D → Option History) (queue : Opened D) (pairs : Map) (fresh : Bool) (cursor : Option (List ℕ)) (began quota : ℕ) (ops : List Op) (changes : IsTrue (list_all is_change ops)) (sorted : Sorted pairs)
    (keeps : Keeps history (over queue pairs fresh cursor began quota)) where
  abbrev old : Mounted D
  old = over queue pairs fresh cursor began quota

  abbrev payload : List ℕ
  payload = payload_for ops old

  abbrev frame : Frame
  frame = frame_in queue.state payload

  new_is : began ≤ frame.seq
  new_is = subst (λ (n : ℕ). began ≤ n) (sym (place-next (is_due queue.state) queue.state.current)) keeps.numbered

  kept : queue.state.discarded ≤ frame.seq
  kept = omega (arith, keeps.order, new_is)

  module _ (read : reading payload ≡ Ok (whole_of quota cursor pairs ops)) where
    on : frame_on (record { pairs = pairs; last = cursor }) frame ≡ record { pairs = ops_on pairs ops; last = cursor_behind cursor (room_of quota ops) (ops_on pairs ops) }
    on = commit_frame ops changes pairs sorted cursor (room_of quota ops) frame read

    -- a crash during the append
    pub commit-leaves : (new : Option History) → queue.state.broken ≡ None → ToldLeavesOnly (history queue.disk) new (HasLessOrMore queue.state.discarded frame (history queue.disk))
        → ToldLeavesOnly (history queue.disk) new (IsLeft (history queue.disk) old.store ops)
    commit-leaves new unbroken leaves =
        leaves-either old.store frame (ops_on pairs ops) (cursor_behind cursor (room_of quota ops) (ops_on pairs ops)) on kept new_is (history queue.disk) new ops refl
        (agreed-stands (history queue.disk) old (keeps.agrees unbroken)) (agreed-fresh (history queue.disk) old (keeps.agrees unbroken)) leaves

    -- behind a commit that is done
    module _ (mid new : Opened D) (seq : ℕ) (written : IsWritten history queue mid payload seq) (small : began < 2 ^ 64)
        (form : IsTrue (has_form (whole_of quota cursor pairs ops)))
        (disk_is : new.disk ≡ mid.disk) (state_is : new.state ≡ state_behind (is_ended_by quota old.store ops) began mid.state) where
      abbrev ended : Bool
      ended = is_ended_by quota old.store ops

      abbrev pub done : Mounted D
      done = over new (ops_on pairs ops) false (cursor_behind cursor (room_of quota ops) (ops_on pairs ops)) (begin_behind ended began (place_in queue.state).next) quota

      now-is : history new.disk ≡ history mid.disk
      now-is = ap history disk_is

      done-part : {T : Type 0} → (part : State → T) → ((discarded : ℕ) (state : State) → part (with_discarded discarded state) ≡ part state) → part new.state ≡ part mid.state
      done-part part same = ap part state_is ∙ part-behind part same ended began mid.state

      done-current : new.state.current ≡ mid.state.current
      done-current = done-part (λ s. s.current) (λ d s. refl)

      done-unbroken : new.state.broken ≡ None
      done-unbroken = done-part (λ s. s.broken) (λ d s. refl) ∙ written.still ∙ written.unbroken

      done-discarded : new.state.discarded ≡ (if ended then max queue.state.discarded began else queue.state.discarded)
      done-discarded = ap (λ (s : State). s.discarded) state_is ∙ discarded-behind ended began mid.state ∙ ap (λ (d : ℕ). if ended then max d began else d) written.discarded

      pub done-bounds : done.bounds ≡ old.bounds
      done-bounds =
          let swap = done-part (λ s. s.swap) (λ d s. refl) ∙ written.swap in
          let limit = done-part (λ s. s.limit) (λ d s. refl) ∙ written.limit in λ i. record { quota = quota; swap = swap i; limit = limit i }

      done-store : done.store ≡ store_behind quota (place_in queue.state).next ops old.store
      done-store = λ i. record {
        pairs = ops_on pairs ops;
        fresh = false;
        cursor = cursor_behind cursor (room_of quota ops) (ops_on pairs ops);
        began = begin_behind ended began (place_in queue.state).next;
        discarded = done-discarded i;
      }

      agrees : IfSome (history queue.disk) (λ h. Agrees old h)
      agrees = keeps.agrees written.unbroken

      calls : history new.disk ≡ option_map (λ h. made (calls_for ops old (seen h)) h) (history queue.disk)
      calls = now-is ∙ written.calls

      pub commits : Commits history ops old done
      commits = record {
        was_unbroken = written.unbroken;
        unbroken = done-unbroken;
        within = written.within;
        calls = calls;
        store = done-store;
        place = done-current ∙ written.place;
        is = is-done ops old done (history queue.disk) (history new.disk) agrees written.within calls done-store;
        appends = subst (λ (n : Option History). ToldOneMore queue.state.discarded frame (history queue.disk) n) (sym now-is) written.more;
        first = first-closes old.store (history queue.disk) quota ops (agreed-stands (history queue.disk) old agrees);
      }

      pub done-leaves : ToldLeavesOnly (history queue.disk) (history new.disk) (IsLeft (history queue.disk) old.store ops)
      done-leaves = subst (λ (n : Option History). ToldLeavesOnly (history queue.disk) n (IsLeft (history queue.disk) old.store ops)) (sym now-is) (commit-leaves (history mid.disk) written.unbroken written.leaves)

      none : history queue.disk ≡ None → history mid.disk ≡ None
      none = untold _ _ _ written.leaves

      stands : ToldStandsOn (history new.disk) done.store
      stands =
          subst (λ (n : Option History). ToldStandsOn n done.store) (sym now-is) (subst (λ (s : Store). ToldStandsOn (history mid.disk) s) (sym done-store) (by_end ended refl))
        where
          closes : ended ≡ true → IsTrue (has_close frame)
          closes is = closes_frame ops (snap cursor (room_of quota ops) (ops_on pairs ops)) frame changes form read is

          by_end : (b : Bool) → ended ≡ b → ToldStandsOn (history mid.disk) (record {
            pairs = ops_on pairs ops;
            fresh = false;
            cursor = cursor_behind cursor (room_of quota ops) (ops_on pairs ops);
            began = if b then began_behind (place_in queue.state).next else began;
            discarded = if b then max queue.state.discarded began else queue.state.discarded;
          })
          by_end true is = stands-closed old.store frame (ops_on pairs ops) (cursor_behind cursor (room_of quota ops) (ops_on pairs ops)) on kept new_is (began_behind frame.seq) (closes is) (history queue.disk) (history mid.disk) mid.state.current none
              (agreed-stands (history queue.disk) old agrees) written.settled written.more
          by_end false is = stands-more old.store frame (ops_on pairs ops) (cursor_behind cursor (room_of quota ops) (ops_on pairs ops)) on kept new_is (history queue.disk) (history mid.disk) mid.state.current none
              (agreed-stands (history queue.disk) old agrees) written.settled written.more

      settled : ToldSettled (history new.disk) new.state.current
      settled = subst (λ (n : Option History). ToldSettled n new.state.current) (sym now-is) (subst (λ (p : Option Place). ToldSettled (history mid.disk) p) (sym done-current) written.settled)

      fresh-now : ToldFresh (history new.disk) false
      fresh-now = subst (λ (n : Option History). ToldFresh n false) (sym now-is) (fresh-more queue.state.discarded frame (history queue.disk) (history mid.disk) none written.more)

      module _ (due : new.state.broken ≡ None → ToldDue (history new.disk) new.state) where
        pub done-agrees : ToldAgrees history done
        done-agrees unbroken = told-agrees (history new.disk) done stands fresh-now settled (due unbroken)

        number-now : next_number new.state.current ≡ frame.seq + 1
        number-now = ap next_number (done-current ∙ written.place)

        pub done-keeps : Keeps history done
        done-keeps = record { agrees = done-agrees; order = order ended refl; numbered = numbered ended refl; untouched = λ e. absurd (false≢true e) }
          where
            order : (b : Bool) → ended ≡ b → new.state.discarded ≤ begin_behind ended began frame.seq
            order true is = rw (done-discarded, is) (omega (arith, keeps.order, new_is, small))
            order false is = rw (done-discarded, is) keeps.order

            numbered : (b : Bool) → ended ≡ b → begin_behind ended began frame.seq ≤ next_number new.state.current
            numbered true is = rw (number-now, is) (omega arith)
            numbered false is = rw (number-now, is) (omega (arith, new_is))

        pub answered : IsAnswered history ops old done
        answered = record { commits = commits; leaves = done-leaves; keeps = done-keeps }

    -- behind one that was refused by the queue
    module _ (mid : Opened D) (refusal : QueueRefusal) (unwritten : IsUnwritten history queue mid payload refusal) where
      abbrev pub left : Mounted D
      left = over mid pairs fresh cursor began quota

      pub left-bounds : left.bounds ≡ old.bounds
      left-bounds = let swap = unwritten.swap in let limit = unwritten.limit in λ i. record { quota = quota; swap = swap i; limit = limit i }

      left-store : left.store ≡ old.store
      left-store = let discarded = unwritten.discarded in λ i. record { pairs = pairs; fresh = fresh; cursor = cursor; began = began; discarded = discarded i }

      pub refuses : Refuses history ops old left refusal
      refuses = record {
        store = left-store;
        broken = unwritten.broken ∙ broken-as refusal;
        came_to = λ unbroken. came-to refusal refl unbroken;
        fewer = unwritten.stays;
        untouched = λ faults was. ap (λ (q : Opened D). over q pairs fresh cursor began quota) (unwritten.untouched faults was);
      }
        where
          broken-as : (refusal : QueueRefusal) → (after_refusal refusal queue.state).broken ≡ broken_behind refusal queue.state.broken
          broken-as (DiskFault faults) = refl
          broken-as NoMemory = refl
          broken-as (Full long limit) = refl
          broken-as (Broken faults) = refl
          broken-as (Damaged file at) = refl

          refused-told : (told : Option History) (long limit : ℕ) → IfSome told (λ h. Agrees old h) → RefusedAt queue.state payload (history mid.disk) long limit told
              → IfSome told (λ h. IsErrAnd (commit_of old.bounds (kept_in (seen h) old) ops) (IsPast h (history mid.disk) long limit))
          refused-told None long limit agrees refused = tt
          refused-told (Some h) long limit agrees refused =
              subst (λ (r : Result Done Refused). IsErrAnd r (IsPast h (history mid.disk) long limit)) (agreed-commit ops old h agrees) (refused (store_behind quota (place_in queue.state).next ops old.store))

          came-to : (r : QueueRefusal) → refusal ≡ r → queue.state.broken ≡ None → CameTo history ops old (history mid.disk) r
          came-to (DiskFault faults) is unbroken = agreed-stopped ops old (history queue.disk) (history mid.disk) (keeps.agrees unbroken) (unwritten.stopped unbroken (subst IsOutside (sym is) tt))
          came-to NoMemory is unbroken = inr (agreed-stopped ops old (history queue.disk) (history mid.disk) (keeps.agrees unbroken) (unwritten.stopped unbroken (subst IsOutside (sym is) tt)))
          came-to (Full long limit) is unbroken = refused-told (history queue.disk) long limit (keeps.agrees unbroken) (unwritten.full long limit is)
          came-to (Broken faults) is unbroken = let was = unwritten.is_broken faults is in absurd (cc (was, unbroken))
          came-to (Damaged file at) is unbroken = absurd (subst IsOfWriting is unwritten.refuses)

      pub left-leaves : queue.state.broken ≡ None → ToldLeavesOnly (history queue.disk) (history mid.disk) (IsLeft (history queue.disk) old.store ops)
      left-leaves unbroken = commit-leaves (history mid.disk) unbroken (unwritten.leaves unbroken)

      module _ (due : mid.state.broken ≡ None → ToldDue (history mid.disk) mid.state) where
        pub left-agrees : ToldAgrees history left
        left-agrees unbroken =
            let was = unbroken-before refusal queue.state (sym unwritten.broken ∙ unbroken) in
            let agrees = keeps.agrees was in
            let none = untold _ _ _ (unwritten.leaves was) in
            told-agrees (history mid.disk) left
            (subst (λ (s : Store). ToldStandsOn (history mid.disk) s) (sym left-store)
            (stands-less old.store (history queue.disk) (history mid.disk) mid.state.current none (agreed-stands (history queue.disk) old agrees) (unwritten.settled unbroken) (unwritten.stays unbroken)))
            (fresh-less old.store (history queue.disk) (history mid.disk) none (agreed-stands (history queue.disk) old agrees) (agreed-fresh (history queue.disk) old agrees) (unwritten.stays unbroken))
            (unwritten.settled unbroken) (due unbroken)

        pub left-keeps : Keeps history left
        left-keeps = record {
          agrees = left-agrees;
          order = subst (λ (d : ℕ). d ≤ began) (sym unwritten.discarded) keeps.order;
          numbered = subst (λ (n : ℕ). began ≤ n) (sym unwritten.next) keeps.numbered;
          untouched = keeps.untouched;
        }

        pub refused : IsRefused history ops old left refusal
        refused = record { refuses = refuses; leaves = left-leaves; keeps = left-keeps }

-- behind one for which memory was wanting before any call
pub none-refuses : {D : Type 0} → (history : D → Option History) (ops : List Op) (old : Mounted D) → Refuses history ops old old NoMemory
none-refuses history ops old = record {
  store = refl;
  broken = refl;
  came_to = λ unbroken. inl refl;
  fewer = λ unbroken. all-less old.store.discarded (history old.disk);
  untouched = λ faults was. refl;
}

pub none-leaves : {D : Type 0} → (history : D → Option History) (ops : List Op) (old : Mounted D) → Keeps history old → old.broken ≡ None
    → ToldLeavesOnly (history old.disk) (history old.disk) (IsLeft (history old.disk) old.store ops)
none-leaves history ops old keeps unbroken =
    leaves-none old.store (history old.disk) ops (agreed-stands (history old.disk) old (keeps.agrees unbroken)) (agreed-fresh (history old.disk) old (keeps.agrees unbroken))

-- Which refusal comes when. For want of memory there is none but that.
module _ {D T : Type 0} (ops : List Op) (old : Mounted D) where
  pub none-answers : Answers {T = T} ops old (Err NoMemory)
  none-answers = record {
    broken = λ faults is. let other = same_Err {T = T} NoMemory (Broken faults) (Err NoMemory) refl is in absurd (cc (other));
    was_broken = λ faults was. inr refl;
    full = λ long limit is. let other = same_Err {T = T} NoMemory (Full long limit) (Err NoMemory) refl is in absurd (cc (other));
    past = λ past unbroken is. inr tt;
  }

  -- as the queue answered
  pub refused-answers : (refusal : QueueRefusal) → ((faults : ℕ) → refusal ≡ Broken faults → old.broken ≡ Some faults) → ((faults : ℕ) → old.broken ≡ Some faults → refusal ≡ Broken faults)
      → ((long limit : ℕ) → refusal ≡ Full long limit → (old.broken ≡ None) × (past_for ops old ≡ Some (record { length = long; limit = limit })))
      → ((past : Past) → old.broken ≡ None → past_for ops old ≡ Some past → (refusal ≡ Full past.length past.limit) ⊎ IsOutside refusal)
      → Answers {T = T} ops old (Err refusal)
  refused-answers refusal broken was_broken full past = record {
    broken = λ faults is. broken faults (same_Err {T = T} refusal (Broken faults) (Err refusal) refl is);
    was_broken = λ faults was. inl (was_broken faults was);
    full = λ long limit is. full long limit (same_Err {T = T} refusal (Full long limit) (Err refusal) refl is);
    past = past;
  }

  -- and a commit that is done wasn't refused
  pub done-answers : (value : T) → old.broken ≡ None → past_for ops old ≡ None → Answers {T = T} ops old (Ok value)
  done-answers value unbroken within = record {
    broken = λ faults is. absurd (cc (is));
    was_broken = λ faults was. absurd (cc (was, unbroken));
    full = λ long limit is. absurd (cc (is));
    past = λ past was is. absurd (cc (is, within));
  }
