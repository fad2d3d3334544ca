-- Where the current file of a queue ends, and what comes next.
use Rattle.std.specs.Prelude.{ℕ, zero, ◌+◌, ◌^◌, ◌==◌, ◌||◌, nat_lt, if◌then◌else◌, Bool, List, length, slice_index, sum_by, Option, Some, None, Result, Ok, Err}
use Rattle.st_disk.specs.History.{Files, of_file}
use Rattle.st_queue.specs.Frames.{Damage, is_live, is_open, generation, first_number, file_frames}
use Rattle.st_queue.specs.declared.frame.Frame.{Frame}
use Rattle.st_queue.specs.declared.place.Place.{Place}

-- how many bytes the frames take in their file, each with its gate
abbrev pub frames_size : List Frame → ℕ
frames_size frames = sum_by (λ frame. 13 + length frame.payload) frames

-- The live file of the greater generation.
abbrev pub current_file : Files → Option ℕ
current_file files =
    if is_live files.0
    then (if is_live files.1 then (if nat_lt (generation files.0) (generation files.1) then Some 1 else Some 0) else Some 0)
    else if is_live files.1 then Some 1
    else None

-- the end of a file with these frames: the gate behind the last one, and the number of the next
abbrev pub end_of : ℕ → List ℕ → Result (List Frame) Damage → Option Place
end_of file bytes (Ok frames) =
    Some (record { file = file; generation = generation bytes; gate = 28 + frames_size frames; next = first_number bytes + length frames })
end_of file bytes (Err damage) = None

abbrev pub end_in : Files → Option ℕ → Option Place
end_in files None = None
end_in files (Some file) = end_of file (of_file file files) (file_frames file (of_file file files))

-- the end of the current file, where one is live
abbrev pub current : Files → Option Place
current files = end_in files (current_file files)

-- the other one of the two files
abbrev pub other_file : ℕ → ℕ
other_file zero = 1
other_file file = 0

-- The file that comes next, its generation and its first number.
abbrev pub next_file : Option Place → ℕ
next_file None = 0
next_file (Some place) = other_file place.file

abbrev pub next_generation : Option Place → ℕ
next_generation None = 1
next_generation (Some place) = place.generation + 1

abbrev pub next_number : Option Place → ℕ
next_number None = 0
next_number (Some place) = place.next

-- where the first frame of that file will stand
abbrev pub next_place : Option Place → Place
next_place current = record { file = next_file current; generation = next_generation current; gate = 28; next = next_number current }

-- The number that no file may have, where the next one would have it: its generation, or else its first number.
abbrev pub spent : Option Place → Option ℕ
spent current =
    if nat_lt (2 ^ 62) (next_generation current) then Some (next_generation current)
    else if nat_lt (2 ^ 62) (next_number current) then Some (next_number current)
    else None

-- a file without a byte, or with an open gate, is shut before its header is written
abbrev pub is_unshut : List ℕ → Bool
is_unshut bytes = length bytes == 0 || is_open (slice_index bytes 0)
