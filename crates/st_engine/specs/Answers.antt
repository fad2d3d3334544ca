-- What the calls of an engine do, and which refusal comes when.
use Rattle.std.specs.Prelude.{◌≡◌, ◌≤◌, ◌⊎◌, ℕ, List, [], ◌∷◌, ◌++◌, Option, Some, None, Result, Ok, Err, IfSome, IsTrue}
use Rattle.std.specs.Option.{option_map}
use Rattle.std.specs.Result.{IsErrAnd, IsOkAnd}
use Rattle.st_disk.specs.Calls.{ToldStoppedIn, made}
use Rattle.st_disk.specs.History.{History, Files, seen}
use Rattle.st_disk.specs.Moments.{ToldLeavesOnly}
use Rattle.st_disk.specs.Recorded.{Call}
use Rattle.st_engine.specs.Commit.{Done, Past, Refused, calls_of, commit_calls, commit_of, frame_place, is_ended_by, past_of, payload_of, store_behind}
use Rattle.st_engine.specs.Engine.{Mounted, kept_in}
use Rattle.st_engine.specs.Store.{Bounds, mount_of}
use Rattle.st_ops.specs.declared.op.Op.{Op}
use Rattle.st_queue.specs.Frames.{Damage}
use Rattle.st_queue.specs.Mounting.{IsImageOf, IsOfMount, IsOutside, IsSyncedOrStopped, after_both}
use Rattle.st_queue.specs.Writing.{HasLess, behind_frame, frame_of, frames_now, frames_of}
use Rattle.st_queue.specs.declared.frame.Frame.{Frame}
use Rattle.st_queue.specs.declared.frame.QueueRefusal.{QueueRefusal}
use Rattle.st_queue.specs.declared.frame.QueueRefusal.TheVariants.{Broken, Damaged, DiskFault, Full, NoMemory}
use Rattle.st_queue.specs.declared.place.Place.{Place}
use Rattle.st_queue.specs.declared.queue.QueueMount.{QueueMount}

-- There are the frames that were, less some that were discarded, and this one behind them.
pub record HasOneMore (from : ℕ) (frame : Frame) (older new : Result (List Frame) Damage) : Type 0 where
  pub left : List Frame
  pub less : HasLess from older (Ok left)
  pub others : new ≡ Ok (left ++ frame ∷ [])

-- of two histories of a disk that may not tell them
abbrev pub ToldOneMore : ℕ → Frame → Option History → Option History → Type 0
ToldOneMore from frame told new = IfSome told (λ h. IfSome new (λ n. HasOneMore from frame (frames_now h) (frames_now n)))

-- files with the frames that the disk had, less some that were discarded, or with this one behind them
abbrev pub HasLessOrMore : ℕ → Frame → Option History → Files → Type 0
HasLessOrMore from frame told images =
    IfSome told (λ h. HasLess from (frames_now h) (frames_of images) ⊎ HasOneMore from frame (frames_now h) (frames_of images))

-- the frames that were, less some that were discarded
abbrev pub ToldFewer : ℕ → Option History → Option History → Type 0
ToldFewer from told new = IfSome told (λ h. IfSome new (λ n. HasLess from (frames_now h) (frames_now n)))

-- where the next frame of an engine will stand, and its payload, for these operations
abbrev pub place_for : {D : Type 0} → Mounted D → Place
place_for engine = frame_place engine.due engine.place

abbrev pub payload_for : {D : Type 0} → List Op → Mounted D → List ℕ
payload_for ops engine = payload_of engine.bounds.quota engine.store ops

-- its calls then, where its disk reads as these files
abbrev pub calls_for : {D : Type 0} → List Op → Mounted D → Files → List Call
calls_for ops engine files = commit_calls engine.due engine.place (payload_for ops engine) files

-- what is past its bound then
abbrev pub past_for : {D : Type 0} → List Op → Mounted D → Option Past
past_for ops engine = past_of engine.bounds.limit engine.due engine.place (payload_for ops engine)

-- A commit is done, with these calls, and this is what the engine keeps behind it.
pub record IsDone {D : Type 0} (h : History) (now : Option History) (new : Mounted D) (done : Done) : Type 0 where
  pub history : now ≡ Some (made done.calls h)
  pub behind : kept_in (seen (made done.calls h)) new ≡ done.behind

-- What a commit that answers Ok did: it made its calls, and what they say of an engine whose disk tells its files; its frame
-- is behind the others; and store and place are those behind it. The first one of an empty disk ends a snapshot, where the
-- quota isn't 0.
pub record Commits {D : Type 0} (history : D → Option History) (ops : List Op) (old new : Mounted D) : Type 0 where
  pub was_unbroken : old.broken ≡ None
  pub unbroken : new.broken ≡ None
  pub within : past_for ops old ≡ None
  pub calls : history new.disk ≡ option_map (λ h. made (calls_for ops old (seen h)) h) (history old.disk)
  pub store : new.store ≡ store_behind old.bounds.quota (place_for old).next ops old.store
  pub place : new.place ≡ Some (behind_frame (place_for old) (payload_for ops old))
  pub is : IfSome (history old.disk) (λ h. IsOkAnd (commit_of old.bounds (kept_in (seen h) old) ops) (IsDone h (history new.disk) new))
  pub appends : ToldOneMore old.store.discarded (frame_of (place_for old) (payload_for ops old)) (history old.disk) (history new.disk)
  pub first : 1 ≤ old.bounds.quota → IfSome (history old.disk) (λ h. frames_now h ≡ Ok [] → IsTrue (is_ended_by old.bounds.quota old.store ops))

-- a commit is refused, with this length and limit, behind these calls
pub record IsPast (h : History) (now : Option History) (length limit : ℕ) (refused : Refused) : Type 0 where
  pub past : refused.past ≡ record { length = length; limit = limit }
  pub history : now ≡ Some (made refused.calls h)

-- How far a refused commit came. Where the disk failed, some of its calls were carried out, and the next one wasn't; the same
-- holds where memory was wanting, or it came to none of them. Where something is past its bound, it made those before that is
-- found.
abbrev pub CameTo : {D : Type 0} → (D → Option History) → List Op → Mounted D → Option History → QueueRefusal → Type 0
CameTo history ops old now (DiskFault faults) =
    ToldStoppedIn (λ files. calls_of (commit_of old.bounds (kept_in files old) ops)) (history old.disk) now
CameTo history ops old now NoMemory =
    (now ≡ history old.disk) ⊎ ToldStoppedIn (λ files. calls_of (commit_of old.bounds (kept_in files old) ops)) (history old.disk) now
CameTo history ops old now (Full length limit) =
    IfSome (history old.disk) (λ h. IsErrAnd (commit_of old.bounds (kept_in (seen h) old) ops) (IsPast h now length limit))
CameTo history ops old now (Broken faults) = ⊥
CameTo history ops old now (Damaged file at) = ⊥

-- a fault of the disk breaks an engine
abbrev pub broken_behind : QueueRefusal → Option ℕ → Option ℕ
broken_behind (DiskFault faults) broken = Some faults
broken_behind NoMemory broken = broken
broken_behind (Full length limit) broken = broken
broken_behind (Broken faults) broken = broken
broken_behind (Damaged file at) broken = broken

-- What a commit that is refused leaves: the store, and the frames less some that were discarded. A broken engine stays as it is.
pub record Refuses {D : Type 0} (history : D → Option History) (ops : List Op) (old new : Mounted D) (refusal : QueueRefusal) : Type 0 where
  pub store : new.store ≡ old.store
  pub broken : new.broken ≡ broken_behind refusal old.broken
  pub came_to : old.broken ≡ None → CameTo history ops old (history new.disk) refusal
  pub fewer : new.broken ≡ None → ToldFewer old.store.discarded (history old.disk) (history new.disk)
  pub untouched : (faults : ℕ) → old.broken ≡ Some faults → new ≡ old

-- Which refusal of a commit comes when. Want of memory may come at any time, and a fault of the disk where no fault came before.
pub record Answers {D T : Type 0} (ops : List Op) (old : Mounted D) (result : Result T QueueRefusal) : Type 0 where
  pub broken : (faults : ℕ) → result ≡ Err (Broken faults) → old.broken ≡ Some faults
  pub was_broken : (faults : ℕ) → old.broken ≡ Some faults → IsErrAnd result (λ refusal. (refusal ≡ Broken faults) ⊎ (refusal ≡ NoMemory))
  pub full : (length limit : ℕ) → result ≡ Err (Full length limit)
      → (old.broken ≡ None) × (past_for ops old ≡ Some (record { length = length; limit = limit }))
  pub past : (past : Past) → old.broken ≡ None → past_for ops old ≡ Some past
      → IsErrAnd result (λ refusal. (refusal ≡ Full past.length past.limit) ⊎ IsOutside refusal)

-- What a mount that answers Ok made: the store of the files, of which both were synced, and an engine with these bounds.
pub record Mounts {D : Type 0} (history : D → Option History) (disk : D) (bounds : Bounds) (engine : Mounted D) : Type 0 where
  pub is : IfSome (history disk) (λ h. mount_of (seen h) ≡ Ok (kept_in (seen h) engine))
  pub synced : history engine.disk ≡ option_map after_both (history disk)
  pub unbroken : engine.broken ≡ None
  pub bounds_are : engine.bounds ≡ bounds
  pub any_moment : ToldLeavesOnly (history disk) (history engine.disk) (IsImageOf (history disk))

-- What one that is refused leaves, and which refusal comes when: damage is where the files have no reading.
pub record FailsToMount {D : Type 0} (history : D → Option History) (disk : D) (refused : QueueMount D) : Type 0 where
  pub of_mount : IsOfMount refused.why
  pub damaged : (file at : ℕ) → refused.why ≡ Damaged file at
      → IfSome (history disk) (λ h. mount_of (seen h) ≡ Err (record { file = file; at = at }))
  pub synced : (file at : ℕ) → refused.why ≡ Damaged file at → history refused.disk ≡ option_map after_both (history disk)
  pub came_to : IsSyncedOrStopped (history disk) (history refused.disk)
  pub any_moment : ToldLeavesOnly (history disk) (history refused.disk) (IsImageOf (history disk))
