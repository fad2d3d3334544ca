-- What a reading of the files answers.
use Rattle.std.specs.Prelude.{◌≡◌, ◌<◌, ◌≤◌, ◌+◌, ◌^◌, ℕ, List, [], ◌∷◌, length, drop, Option, Some, None, Result, Ok, Err, Vec}
use Rattle.std.specs.declared.alloc.Global.{Global}
use Rattle.std.specs.Option.{ForSome}
use Rattle.st_disk.specs.History.{Files}
use Rattle.st_queue.specs.Due.{Knows}
use Rattle.st_queue.specs.Frames.{Damage, behind, frames_from}
use Rattle.st_queue.specs.Place.{current}
use Rattle.st_queue.specs.Writing.{frames_of}
use Rattle.st_queue.specs.declared.frame.Frame.{Frame}
use Rattle.st_queue.specs.declared.place.Place.{Place}
use Rattle.st_queue.specs.declared.reading.Reading.{Reading}
use Rattle.st_queue.specs.declared.frame.QueueRefusal.{QueueRefusal}
use Rattle.st_queue.specs.declared.frame.QueueRefusal.TheVariants.{Damaged, NoMemory, DiskFault, Broken, Full}

-- the frames, or where they can't be read; want of memory tells nothing
abbrev pub Answers : Result (List Frame) Damage → Result (Vec Frame Global) QueueRefusal → Type 0
Answers reading (Ok frames) = reading ≡ Ok frames.items
Answers reading (Err (Damaged file at)) = reading ≡ Err (record { file = file; at = at })
Answers reading (Err NoMemory) = Unit {0}
Answers reading (Err (DiskFault faults)) = ⊥
Answers reading (Err (Broken faults)) = ⊥
Answers reading (Err (Full length limit)) = ⊥

-- the numbers of a place leave room for a frame behind it
abbrev pub Fits : Place → Type 0
Fits place = (place.file < 2) × (place.gate < 2 ^ 63) × (place.next ≤ 2 ^ 62 + place.gate) × (place.generation ≤ 2 ^ 62)

-- The frames of two files, the end of their current one and what is known of both, or where they can't be read.
abbrev pub IsReading : Files → Result Reading QueueRefusal → Type 0
IsReading files (Ok reading) =
    (frames_of files ≡ Ok reading.frames.items) × (reading.current ≡ current files) × ForSome reading.current Fits
    × Knows files reading.unshut reading.older
IsReading files (Err (Damaged file at)) = frames_of files ≡ Err (record { file = file; at = at })
IsReading files (Err NoMemory) = Unit {0}
IsReading files (Err (DiskFault faults)) = Unit {0}
IsReading files (Err (Broken faults)) = Unit {0}
IsReading files (Err (Full length limit)) = Unit {0}

-- the numbers of these frames rise, from this one on
abbrev pub Rises : ℕ → List Frame → Type 0
Rises from [] = Unit {0}
Rises from (frame ∷ frames) = (from ≤ frame.seq) × Rises (frame.seq + 1) frames

-- What stands at a gate: nothing more, a frame and how far on the next gate is, or damage.
abbrev pub IsNext : ℕ → ℕ → ℕ → List ℕ → Result (Option (Frame × ℕ)) QueueRefusal → Type 0
IsNext file number place bytes (Ok None) = frames_from file number place 0 bytes ≡ Ok []
IsNext file number place bytes (Ok (Some next)) =
    (13 ≤ next.1) × (next.1 < length bytes)
    × (frames_from file number place 0 bytes ≡ behind next.0 (frames_from file (number + 1) (place + next.1) 0 (drop next.1 bytes)))
IsNext file number place bytes (Err (Damaged f at)) = frames_from file number place 0 bytes ≡ Err (record { file = f; at = at })
IsNext file number place bytes (Err NoMemory) = Unit {0}
IsNext file number place bytes (Err (DiskFault faults)) = ⊥
IsNext file number place bytes (Err (Broken faults)) = ⊥
IsNext file number place bytes (Err (Full length limit)) = ⊥
