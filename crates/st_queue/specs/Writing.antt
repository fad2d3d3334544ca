-- What a queue writes to its disk, and what a crash may leave meanwhile.
use Rattle.std.specs.Prelude.{◌≡◌, ◌<◌, ◌⊎◌, ◌+◌, ℕ, if◌then◌else◌, List, [], ◌∷◌, ◌++◌, length, take, drop, All, Option, Some, Result, Ok, Err, IfSome, IsOk, OnOk, IsErrOf}
use Rattle.std.specs.Option.{option_map}
use Rattle.st_num.specs.Number.{little_bytes}
use Rattle.st_disk.specs.FileState.{settled}
use Rattle.st_disk.specs.History.{History, Files, of_file, with_file, seen}
use Rattle.st_disk.specs.Images.{IsTorn}
use Rattle.st_disk.specs.Moments.{ToldLeavesOnly}
use Rattle.st_disk.specs.Recorded.{Call, write, sync}
use Rattle.st_disk.specs.Calls.{made}
use Rattle.st_queue.specs.Frames.{Damage, frames, mark}
use Rattle.st_queue.specs.Place.{current, is_unshut, other_file}
use Rattle.st_queue.specs.declared.frame.Frame.{Frame}
use Rattle.st_queue.specs.declared.frame.QueueRefusal.{QueueRefusal}
use Rattle.st_queue.specs.declared.frame.QueueRefusal.TheVariants.{NoMemory}
use Rattle.st_queue.specs.declared.place.Place.{Place}

-- a frame behind its gate, with the next gate closed
unfoldable pub frame_bytes : ℕ → List ℕ → List ℕ
frame_bytes number payload = little_bytes 4 (length payload) ++ little_bytes 8 number ++ payload ++ 0 ∷ []

-- a header behind its gate, with the first frame's gate closed
unfoldable pub header_bytes : ℕ → ℕ → List ℕ
header_bytes generation first = mark ++ little_bytes 8 generation ++ little_bytes 8 first ++ 0 ∷ []

-- one write to a file, and a sync of it
abbrev pub put_calls : ℕ → ℕ → List ℕ → List Call
put_calls file at bytes = write file at bytes ∷ sync file ∷ []

unfoldable pub after_put : ℕ → ℕ → List ℕ → History → History
after_put file at bytes h = made (put_calls file at bytes) h

-- what the other file reads as
abbrev pub beside : ℕ → Option History → Option (List ℕ)
beside file told = option_map (λ h. of_file (other_file file) (seen h)) told

-- The frame is on the disk before its gate is opened.
abbrev pub append_calls : Place → List ℕ → List Call
append_calls place payload =
    put_calls place.file (place.gate + 1) (frame_bytes place.next payload) ++ put_calls place.file place.gate (1 ∷ [])

unfoldable pub appended : Place → List ℕ → History → History
appended place payload h = made (append_calls place payload) h

-- a file is shut where it has no byte, or an open gate
abbrev pub shut_calls : ℕ → Files → List Call
shut_calls file files = if is_unshut (of_file file files) then put_calls file 0 (0 ∷ []) else []

unfoldable pub shut_first : ℕ → History → History
shut_first file h = made (shut_calls file (seen h)) h

-- The file is shut on the disk before its header is written.
abbrev pub head_calls : ℕ → ℕ → ℕ → List Call
head_calls file generation first = put_calls file 1 (header_bytes generation first)

abbrev pub recycle_calls : ℕ → ℕ → ℕ → Files → List Call
recycle_calls file generation first files = shut_calls file files ++ head_calls file generation first

unfoldable pub recycled : ℕ → ℕ → ℕ → History → History
recycled file generation first h = made (recycle_calls file generation first (seen h)) h

-- the gate of the file is opened
abbrev pub enter_calls : ℕ → List Call
enter_calls file = put_calls file 0 (1 ∷ [])

unfoldable pub entered : ℕ → History → History
entered file h = made (enter_calls file) h

-- nothing is unsynced
abbrev pub IsSynced : History → Type 0
IsSynced h = h.now ≡ (settled (seen h).0, settled (seen h).1)

-- the frames that a disk reads as
abbrev pub frames_now : History → Result (List Frame) Damage
frames_now h = frames (seen h).0 (seen h).1

abbrev pub told_frames : Option History → Option (Result (List Frame) Damage)
told_frames told = option_map frames_now told

abbrev pub frames_of : Files → Result (List Frame) Damage
frames_of files = frames files.0 files.1

-- one frame more, behind the others
abbrev pub with_frame : Frame → Result (List Frame) Damage → Result (List Frame) Damage
with_frame frame (Ok older) = Ok (older ++ frame ∷ [])
with_frame frame (Err damage) = Err damage

-- the frame of a payload that is appended at a place
abbrev pub frame_of : Place → List ℕ → Frame
frame_of place payload = record { seq = place.next; file = place.file; at = place.gate; payload = payload }

-- the place behind that frame
abbrev pub behind_frame : Place → List ℕ → Place
behind_frame place payload = record {
  file = place.file;
  generation = place.generation;
  gate = place.gate + (13 + length payload);
  next = place.next + 1;
}

-- The disk is synced and has frames, and this is the end of its current file.
pub record IsSettled (h : History) (place : Option Place) : Type 0 where
  pub synced : IsSynced h
  pub readable : IsOk (frames_now h)
  pub ends : place ≡ current (seen h)

abbrev pub ToldSettled : Option History → Option Place → Type 0
ToldSettled told place = IfSome told (λ h. IsSettled h place)

-- a write that a crash cut short, of so many bytes at a place of a file: the other file stays
pub record IsTornAt (file at count : ℕ) (files images : Files) : Type 0 where
  pub torn : IsTorn at count (of_file file files) (of_file file images)
  pub other : images ≡ with_file file (of_file file images) files

abbrev pub LeavesTorn : ℕ → ℕ → ℕ → Option History → Files → Type 0
LeavesTorn file at count told images = IfSome told (λ h. IsTornAt file at count (seen h) images)

-- the files have the frames that the disk had
abbrev pub HasFrames : Option History → Files → Type 0
HasFrames told images = IfSome told (λ h. frames_of images ≡ frames_now h)

-- they have these, or this one more
abbrev pub HasFramesOrMore : Frame → Option History → Files → Type 0
HasFramesOrMore frame told images =
    IfSome told (λ h. (frames_of images ≡ frames_now h) ⊎ (frames_of images ≡ with_frame frame (frames_now h)))

-- What an append of a frame does to a settled disk: at Ok the disk has the frame behind the others and is settled. Want of
-- memory leaves the frames. A crash at any moment leaves the frames, or these and the new one.
pub record Appends {T : Type 0} (told new : Option History) (place : Place) (payload : List ℕ) (result : Result T QueueRefusal) : Type 0 where
  pub calls : OnOk result (new ≡ option_map (appended place payload) told)
  pub frames : OnOk result (told_frames new ≡ option_map (with_frame (frame_of place payload)) (told_frames told))
  pub settled : OnOk result (ToldSettled new (Some (behind_frame place payload)))
  pub stays : IsErrOf result NoMemory → ToldSettled new (Some place)
  pub same : IsErrOf result NoMemory → told_frames new ≡ told_frames told
  pub any_moment : ToldLeavesOnly told new (HasFramesOrMore (frame_of place payload) told)

-- Some of the first frames may be gone, which all have a number below this one.
pub record IsLess (from : ℕ) (older left : List Frame) : Type 0 where
  pub gone : ℕ
  pub others : left ≡ drop gone older
  pub discarded : All (λ frame. frame.seq < from) (take gone older)

abbrev pub HasLess : ℕ → Result (List Frame) Damage → Result (List Frame) Damage → Type 0
HasLess from (Ok older) (Ok left) = IsLess from older left
HasLess from (Ok older) (Err damage) = ⊥
HasLess from (Err damage) left = left ≡ Err damage

-- they have the frames that the disk had, less some that were discarded
abbrev pub HasFramesLess : ℕ → Option History → Files → Type 0
HasFramesLess from told images = IfSome told (λ h. HasLess from (frames_now h) (frames_of images))

-- the disk reads as these frames, less some that were discarded
abbrev pub ToldLess : ℕ → Option History → Option History → Type 0
ToldLess from told new = IfSome new (λ h. HasFramesLess from told (seen h))
