-- A queue as its callers see it, and what its calls do.
use Rattle.std.specs.Prelude.{◌≡◌, ◌<◌, ◌≤◌, ◌+◌, ◌-◌, ◌^◌, ◌&&◌, ℕ, min, Bool, true, false, List, length, Option, Some, None, Result, Ok, Err}
use Rattle.std.specs.Option.{option_map, ForSome}
use Rattle.st_disk.specs.History.{History, seen, with_file}
use Rattle.st_queue.specs.Due.{Knows, has_reached, is_released, last_behind}
use Rattle.st_queue.specs.Mounting.{IsOutside}
use Rattle.st_queue.specs.Place.{next_file, next_place, spent}
use Rattle.st_queue.specs.Prepared.{ToldPrepared}
use Rattle.st_queue.specs.Reading.{Fits}
use Rattle.st_queue.specs.Writing.{IsSettled}
use Rattle.st_queue.specs.declared.frame.QueueRefusal.{QueueRefusal}
use Rattle.st_queue.specs.declared.frame.QueueRefusal.TheVariants.{Damaged, NoMemory, DiskFault, Broken, Full}
use Rattle.st_queue.specs.declared.place.Place.{Place}
use Rattle.st_queue.specs.declared.state.State.{State}

-- the queue's disk, and what it knows of it
pub record Opened (D : Type 0) : Type 0 where
  pub disk : D
  pub state : State

-- A next file is due where no file is live; or where the current file's end is at `swap` or behind it, and all frames of the
-- other live file are discarded.
abbrev pub is_due_at : State → Option Place → Bool
is_due_at state None = true
is_due_at state (Some place) = has_reached state.swap place && is_released state.older state.discarded

abbrev pub is_due : State → Bool
is_due state = is_due_at state state.current

-- the file's length once the payload is appended; it stands still at its type's end
abbrev pub end_behind : Place → List ℕ → ℕ
end_behind place payload = min (place.gate + 14 + length payload) (2 ^ 64 - 1)

-- a fault breaks the queue
abbrev pub broken_by : QueueRefusal → Option ℕ
broken_by (DiskFault faults) = Some faults
broken_by NoMemory = None
broken_by (Damaged file at) = None
broken_by (Broken faults) = None
broken_by (Full length limit) = None

-- The state with another end of its current file, with its next file shut and made ready, once that file is entered, and
-- after a refusal of a call that reached the disk.
abbrev pub with_current : Option Place → State → State
with_current current state = record {
  current = current;
  prepared = None;
  unshut = state.unshut;
  older = state.older;
  discarded = state.discarded;
  broken = state.broken;
  swap = state.swap;
  limit = state.limit;
}

abbrev pub with_prepared : Option Place → State → State
with_prepared prepared state = record {
  current = state.current;
  prepared = prepared;
  unshut = with_file (next_file state.current) false state.unshut;
  older = None;
  discarded = state.discarded;
  broken = state.broken;
  swap = state.swap;
  limit = state.limit;
}

abbrev pub with_entered : State → State
with_entered state = record {
  current = state.prepared;
  prepared = None;
  unshut = with_file (next_file state.current) true state.unshut;
  older = last_behind state.current;
  discarded = state.discarded;
  broken = state.broken;
  swap = state.swap;
  limit = state.limit;
}

abbrev pub with_broken : Option ℕ → State → State
with_broken broken state = record {
  current = state.current;
  prepared = state.prepared;
  unshut = state.unshut;
  older = state.older;
  discarded = state.discarded;
  broken = broken;
  swap = state.swap;
  limit = state.limit;
}

abbrev pub with_discarded : ℕ → State → State
with_discarded discarded state = record {
  current = state.current;
  prepared = state.prepared;
  unshut = state.unshut;
  older = state.older;
  discarded = discarded;
  broken = state.broken;
  swap = state.swap;
  limit = state.limit;
}

-- the state after a refusal
abbrev pub after_refusal : QueueRefusal → State → State
after_refusal (DiskFault faults) state = with_broken (Some faults) state
after_refusal NoMemory state = state
after_refusal (Damaged file at) state = state
after_refusal (Broken faults) state = state
after_refusal (Full length limit) state = state

-- these refusals come before any call of the disk
abbrev pub IsBefore : QueueRefusal → Type 0
IsBefore (Broken faults) = Unit {0}
IsBefore (Full length limit) = Unit {0}
IsBefore (DiskFault faults) = ⊥
IsBefore NoMemory = ⊥
IsBefore (Damaged file at) = ⊥

-- a fact unless the disk failed, in this call or before
abbrev pub UnlessFailed : {T : Type 0} → Result T QueueRefusal → Type 0 → Type 0
UnlessFailed (Ok value) fact = fact
UnlessFailed (Err NoMemory) fact = fact
UnlessFailed (Err (Damaged file at)) fact = fact
UnlessFailed (Err (Full length limit)) fact = fact
UnlessFailed (Err (DiskFault faults)) fact = Unit {0}
UnlessFailed (Err (Broken faults)) fact = Unit {0}

-- A refusal of `recycle` leaves all but which file is shut and made ready.
pub record IsKept (refusal : QueueRefusal) (old new : State) : Type 0 where
  pub current : new.current ≡ old.current
  pub unprepared : IsOutside refusal → new.prepared ≡ None
  pub discarded : new.discarded ≡ old.discarded
  pub broken : new.broken ≡ (after_refusal refusal old).broken
  pub swap : new.swap ≡ old.swap
  pub limit : new.limit ≡ old.limit
  pub before : IsBefore refusal → new ≡ old

-- the state of a queue that was just mounted
pub record IsMounted (swap limit : ℕ) (state : State) : Type 0 where
  pub unprepared : state.prepared ≡ None
  pub none_discarded : state.discarded ≡ 0
  pub unbroken : state.broken ≡ None
  pub swap_is : state.swap ≡ swap
  pub limit_is : state.limit ≡ limit

-- the payload's frame is past the limit, with its end and that limit
pub record IsPast (state : State) (payload : List ℕ) (long limit : ℕ) : Type 0 where
  pub unbroken : state.broken ≡ None
  pub ends : option_map (λ place. end_behind place payload) state.current ≡ Some long
  pub above : state.limit < long
  pub bound : limit ≡ state.limit

-- No next file can be begun, with the number that is past its bound: the generation, or else the next frame's.
pub record IsSpent (state : State) (long limit : ℕ) : Type 0 where
  pub unbroken : state.broken ≡ None
  pub number : spent state.current ≡ Some long
  pub bound : limit ≡ 2 ^ 62

-- the end of a file that was made ready: the next file has its header behind a closed gate
pub record IsReady (told : Option History) (current : Option Place) (place : Place) : Type 0 where
  pub next : place ≡ next_place current
  pub fits : Fits place
  pub prepared : ToldPrepared told place

-- What a queue keeps of its disk until a fault: the disk is settled, and reads as frames up to the end of the current file.
pub record Holds (told : Option History) (state : State) : Type 0 where
  pub small : state.limit ≤ 2 ^ 30
  pub fits : ForSome state.current Fits
  pub settled : state.broken ≡ None → ForSome told (λ h. IsSettled h state.current)
  pub known : state.broken ≡ None → ForSome told (λ h. Knows (seen h) state.unshut state.older)
  pub ready : state.broken ≡ None → ForSome state.prepared (λ place. IsReady told state.current place)
