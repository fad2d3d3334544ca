-- What a commit makes of an engine, where neither memory nor the disk fails it.
use Rattle.std.specs.Prelude.{ℕ, ◌+◌, ◌^◌, max, nat_lt, Bool, false, if◌then◌else◌, List, [], ◌++◌, Option, Some, None, Result, Ok, Err}
use Rattle.std.specs.List.{list_any}
use Rattle.std.specs.Option.{option_map, option_or}
use Rattle.st_disk.specs.Calls.{made}
use Rattle.st_disk.specs.History.{Files, fresh, seen}
use Rattle.st_disk.specs.Recorded.{Call}
use Rattle.st_engine.specs.Holding.{began_behind}
use Rattle.st_engine.specs.Replay.{ops_on}
use Rattle.st_engine.specs.Snapshot.{cursor_behind, is_end, room_of, snap, whole_of}
use Rattle.st_engine.specs.Store.{Bounds, Kept, Store}
use Rattle.st_ops.specs.Spelling.{spelt}
use Rattle.st_ops.specs.declared.op.Op.{Op}
use Rattle.st_queue.specs.Writing.{append_calls, enter_calls, frame_of, recycle_calls}
use Rattle.st_queue.specs.Due.{due_of}
use Rattle.st_queue.specs.Place.{current, next_file, next_generation, next_number, next_place, spent}
use Rattle.st_queue.specs.Queue.{end_behind, is_due}
use Rattle.st_queue.specs.declared.frame.Frame.{Frame}
use Rattle.st_queue.specs.declared.place.Place.{Place}
use Rattle.st_queue.specs.declared.state.State.{State}

-- the payload of a commit of these operations to a store
abbrev pub payload_of : ℕ → Store → List Op → List ℕ
payload_of quota store ops = spelt (whole_of quota store.cursor store.pairs ops)

-- the snapshot in progress ends with it
abbrev pub is_ended_by : ℕ → Store → List Op → Bool
is_ended_by quota store ops = list_any is_end (snap store.cursor (room_of quota ops) (ops_on store.pairs ops))

-- The store behind the commit, whose frame has this number. Where a snapshot ends with it, the next one begins behind it, and
-- what is before the ended one isn't needed.
abbrev pub store_behind : ℕ → ℕ → List Op → Store → Store
store_behind quota seq ops store = record {
  pairs = ops_on store.pairs ops;
  fresh = false;
  cursor = cursor_behind store.cursor (room_of quota ops) (ops_on store.pairs ops);
  began = if is_ended_by quota store ops then began_behind seq else store.began;
  discarded = if is_ended_by quota store ops then max store.discarded store.began else store.discarded;
}

-- where the frame will stand: at the end of the current file, or in the next one where that is due
abbrev pub frame_place : Bool → Option Place → Place
frame_place due None = next_place None
frame_place due (Some place) = if due then next_place (Some place) else place

-- What is past its bound: a number, or the end of a frame.
pub record Past : Type 0 where
  pub length : ℕ
  pub limit : ℕ

-- a next file is due, and its generation or its first number is past its bound
abbrev pub past_number : Bool → Option Place → Option Past
past_number due place = if due then option_map (λ number. record { length = number; limit = 2 ^ 62 }) (spent place) else None

-- the frame of a payload would end past the limit of its file
abbrev pub past_end : ℕ → Place → List ℕ → Option Past
past_end limit place payload =
    if nat_lt limit (end_behind place payload) then Some (record { length = end_behind place payload; limit = limit }) else None

-- what is past its bound, where a next file is due or not, and the current file ends at this place
abbrev pub past_of : ℕ → Bool → Option Place → List ℕ → Option Past
past_of limit due place payload = option_or (past_number due place) (past_end limit (frame_place due place) payload)

-- the calls that make a next file ready and enter it, where it is due
abbrev pub begin_calls : Bool → Option Place → Files → List Call
begin_calls due place files =
    if due
    then recycle_calls (next_file place) (next_generation place) (next_number place) files ++ enter_calls (next_file place)
    else []

-- all calls of a commit with this payload
abbrev pub commit_calls : Bool → Option Place → List ℕ → Files → List Call
commit_calls due place payload files = begin_calls due place files ++ append_calls (frame_place due place) payload

-- How many they are: four, four more where a next file is due, and two more where that is to be shut first.
abbrev pub count_of : Bool → Bool → ℕ
count_of due unshut = 4 + (if due then 4 + (if unshut then 2 else 0) else 0)

-- the files behind calls
abbrev pub files_behind : List Call → Files → Files
files_behind calls files = seen (made calls (fresh files))

-- A commit that is done: its calls, and what is kept behind them.
pub record Done : Type 0 where
  pub calls : List Call
  pub behind : Kept

-- One that is refused: what is past its bound, and the calls before that was found.
pub record Refused : Type 0 where
  pub past : Past
  pub calls : List Call

-- A next file without a number is found before any call, and the end of the frame once that file is begun.
abbrev pub outcome : Option Past → Option Past → List Call → Done → Result Done Refused
outcome (Some past) end begun done = Err (record { past = past; calls = [] })
outcome None (Some past) begun done = Err (record { past = past; calls = begun })
outcome None None begun done = Ok done

-- all calls that it makes
abbrev pub calls_of : Result Done Refused → List Call
calls_of (Ok done) = done.calls
calls_of (Err refused) = refused.calls

-- what a commit comes to with this payload, and this store behind it
abbrev pub commit_with : ℕ → Bool → Option Place → List ℕ → Files → Store → Result Done Refused
commit_with limit due place payload files store =
    let calls : List Call = commit_calls due place payload files in
    outcome (past_number due place) (past_end limit (frame_place due place) payload) (begin_calls due place files)
    (record { calls = calls; behind = record { files = files_behind calls files; store = store } })

-- what a commit of these operations comes to
abbrev pub commit_of : Bounds → Kept → List Op → Result Done Refused
commit_of bounds kept ops =
    let due : Bool = due_of bounds.swap kept.store.discarded kept.files in
    let place : Option Place = current kept.files in
    commit_with bounds.limit due place (payload_of bounds.quota kept.store ops) kept.files
    (store_behind bounds.quota (frame_place due place).next ops kept.store)

-- The same of a queue in this state: where its next frame will stand, its calls, and what is past its bound.
abbrev pub place_in : State → Place
place_in state = frame_place (is_due state) state.current

abbrev pub begin_in : State → Files → List Call
begin_in state files = begin_calls (is_due state) state.current files

abbrev pub calls_in : State → List ℕ → Files → List Call
calls_in state payload files = commit_calls (is_due state) state.current payload files

abbrev pub past_in : State → List ℕ → Option Past
past_in state payload = past_of state.limit (is_due state) state.current payload

-- the frame of a payload there
abbrev pub frame_in : State → List ℕ → Frame
frame_in state payload = frame_of (place_in state) payload
