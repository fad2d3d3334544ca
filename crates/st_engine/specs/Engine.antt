-- An engine as its callers see it, and what it knows of its disk.
use Rattle.std.specs.Prelude.{◌≡◌, ◌≤◌, ◌⊎◌, ℕ, Bool, true, false, List, [], Option, None, Ok, IfSome}
use Rattle.st_disk.specs.History.{History, Files, MayLeave, seen}
use Rattle.st_fold.specs.Map.{Map}
use Rattle.st_engine.specs.Kept.{Stand}
use Rattle.st_engine.specs.Holding.{HasEnd, Reads}
use Rattle.st_engine.specs.Replay.{ops_on}
use Rattle.st_engine.specs.Store.{Bounds, Kept, Store}
use Rattle.st_ops.specs.declared.op.Op.{Op}
use Rattle.st_queue.specs.Due.{due_of}
use Rattle.st_queue.specs.Place.{current, next_number}
use Rattle.st_queue.specs.Queue.{Opened, is_due}
use Rattle.st_queue.specs.Writing.{frames_now, frames_of}
use Rattle.st_queue.specs.declared.frame.Frame.{Frame}
use Rattle.st_queue.specs.declared.place.Place.{Place}

-- Its disk, its store, the end of its current file, whether the next frame goes to the other file, the count of the fault
-- after which it writes nothing, and its bounds.
pub record Mounted (D : Type 0) : Type 0 where
  pub disk : D
  pub store : Store
  pub place : Option Place
  pub due : Bool
  pub broken : Option ℕ
  pub bounds : Bounds

-- an engine over a queue, with what it remembers beside it
abbrev pub over : {D : Type 0} → Opened D → Map → Bool → Option (List ℕ) → ℕ → ℕ → Mounted D
over queue pairs fresh cursor began quota = record {
  disk = queue.disk;
  store = record { pairs = pairs; fresh = fresh; cursor = cursor; began = began; discarded = queue.state.discarded };
  place = queue.state.current;
  due = is_due queue.state;
  broken = queue.state.broken;
  bounds = record { quota = quota; swap = queue.state.swap; limit = queue.state.limit };
}

-- the engine's store, in these files
abbrev pub kept_in : {D : Type 0} → Files → Mounted D → Kept
kept_in files engine = record { files = files; store = engine.store }

-- The disk has frames that are enough for the store's map, whichever of the discarded ones are gone; and a crash leaves what
-- it reads as.
pub record StandsOn (h : History) (store : Store) : Type 0 where
  pub frames : List Frame
  pub read : frames_now h ≡ Ok frames
  pub stand : Stand store.discarded store.began store.pairs store.cursor frames
  pub images : (images : Files) → MayLeave h images → images ≡ seen h

-- The disk is as the engine remembers it: it has the store, and the files alone tell which of them comes next.
pub record Agrees {D : Type 0} (engine : Mounted D) (h : History) : Type 0 where
  pub stands : StandsOn h engine.store
  pub reads : Reads engine.store.fresh engine.store.pairs (seen h)
  pub place_is : engine.place ≡ current (seen h)
  pub due_is : engine.due ≡ due_of engine.bounds.swap engine.store.discarded (seen h)

-- this is so where the disk tells its history, until a fault
abbrev pub ToldAgrees : {D : Type 0} → (D → Option History) → Mounted D → Type 0
ToldAgrees history engine = engine.broken ≡ None → IfSome (history engine.disk) (λ h. Agrees engine h)

-- what an engine keeps
pub record Keeps {D : Type 0} (history : D → Option History) (engine : Mounted D) : Type 0 where
  pub agrees : ToldAgrees history engine
  pub order : engine.store.discarded ≤ engine.store.began
  pub numbered : engine.store.began ≤ next_number engine.place
  -- a store without a frame has no pair
  pub untouched : engine.store.fresh ≡ true → engine.store.pairs ≡ []

-- A crash during a commit of the operations leaves the store before it, or the one behind it; and where a snapshot ended in a
-- frame before, one does in a frame of what is left.
pub record IsLeft (told : Option History) (old : Store) (ops : List Op) (images : Files) : Type 0 where
  pub reads : Reads old.fresh old.pairs images ⊎ Reads false (ops_on old.pairs ops) images
  pub keeps_an_end : IfSome told (λ h. HasEnd (frames_now h) → HasEnd (frames_of images))
