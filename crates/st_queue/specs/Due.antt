-- When a queue goes on to its other file, and what it knows of both files for that.
use Rattle.std.specs.Prelude.{◌≡◌, ℕ, ◌+◌, ◌&&◌, nat_lt, nat_le, if◌then◌else◌, Bool, true, List, [], Option, Some, None, Result, Ok, Err}
use Rattle.std.specs.List.{list_all}
use Rattle.st_disk.specs.History.{Files, of_file}
use Rattle.st_queue.specs.Frames.{Damage, is_live, file_frames}
use Rattle.st_queue.specs.Place.{current, current_file, is_unshut, other_file}
use Rattle.st_queue.specs.declared.frame.Frame.{Frame}
use Rattle.st_queue.specs.declared.place.Place.{Place}

-- the frames of a reading, none where there is damage
abbrev pub frames_or_none : Result (List Frame) Damage → List Frame
frames_or_none (Ok frames) = frames
frames_or_none (Err damage) = []

-- the frames of a file, none where it isn't live
abbrev pub live_frames : ℕ → List ℕ → List Frame
live_frames file bytes = if is_live bytes then frames_or_none (file_frames file bytes) else []

abbrev pub older_beside : Files → Option ℕ → List Frame
older_beside files None = []
older_beside files (Some file) = live_frames (other_file file) (of_file (other_file file) files)

-- The frames of the live file that isn't current: none where no two files are live.
abbrev pub older_frames : Files → List Frame
older_frames files = older_beside files (current_file files)

-- all these frames are discarded: they have a number below this one
abbrev pub are_discarded : ℕ → List Frame → Bool
are_discarded discarded frames = list_all (λ frame. nat_lt frame.seq discarded) frames

-- a file that ends at this place has so many bytes, with the gate behind its last frame
abbrev pub has_reached : ℕ → Place → Bool
has_reached count place = nat_le count (place.gate + 1)

abbrev pub due_at : ℕ → ℕ → List Frame → Option Place → Bool
due_at swap discarded older None = true
due_at swap discarded older (Some place) = has_reached swap place && are_discarded discarded older

-- A next file is due where no file is live; or where the current file's end is at `swap` or behind it, and the other file
-- is shut or all its frames are discarded.
abbrev pub due_of : ℕ → ℕ → Files → Bool
due_of swap discarded files = due_at swap discarded (older_frames files) (current files)

-- the number behind the last frame of a file that ends at this place, where it has frames
abbrev pub behind_last : Place → Option ℕ
behind_last place = if nat_lt 28 place.gate then Some place.next else None

-- the same of the current file, where one is live
abbrev pub last_behind : Option Place → Option ℕ
last_behind None = None
last_behind (Some place) = behind_last place

-- frames that end before this number are discarded, where there are any
abbrev pub is_released : Option ℕ → ℕ → Bool
is_released None discarded = true
is_released (Some behind) discarded = nat_le behind discarded

-- What a queue knows of its files: which of them are to be shut before a header is written, and before which number the
-- older file's frames end.
pub record Knows (files : Files) (unshut : Bool × Bool) (older : Option ℕ) : Type 0 where
  pub unshut_is : unshut ≡ (is_unshut files.0, is_unshut files.1)
  pub older_is : (discarded : ℕ) → is_released older discarded ≡ are_discarded discarded (older_frames files)
