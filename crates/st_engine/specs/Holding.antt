-- What two files hold.
use Rattle.std.specs.Prelude.{◌≡◌, ◌+◌, ◌-◌, ◌^◌, ℕ, min, Bool, true, false, if◌then◌else◌, List, [], fold, Result, Ok, Err, IsTrue}
use Rattle.std.specs.Cmp.Lexicographic.{slice_cmp}
use Rattle.std.specs.FinMap.Entries.{is_sorted}
use Rattle.std.specs.List.{list_any}
use Rattle.std.specs.Ordering.{nat_cmp}
use Rattle.st_disk.specs.History.{Files}
use Rattle.st_fold.specs.Map.{Map}
use Rattle.st_engine.specs.Replay.{replay}
use Rattle.st_engine.specs.Snapshot.{has_close, has_end}
use Rattle.st_queue.specs.Frames.{Damage}
use Rattle.st_queue.specs.Writing.{frames_of}
use Rattle.st_queue.specs.declared.frame.Frame.{Frame}

-- The files mount to this map: their frames make it of the empty map, and of every map where a snapshot ends in one of them.
pub record MountsTo (pairs : Map) (files : Files) : Type 0 where
  pub frames : List Frame
  pub read : frames_of files ≡ Ok frames
  pub from_empty : replay [] frames ≡ pairs
  pub from_any : IsTrue (list_any has_end frames) → (start : Map) → IsTrue (is_sorted (slice_cmp nat_cmp) start) → replay start frames ≡ pairs

-- whether there is no frame
abbrev pub is_none_read : Result (List Frame) Damage → Bool
is_none_read (Ok []) = true
is_none_read reading = false

-- The files are a fresh store, which has no frame, or one that isn't; and they mount to the map.
pub record Reads (fresh : Bool) (pairs : Map) (files : Files) : Type 0 where
  pub mounts : MountsTo pairs files
  pub fresh_is : is_none_read (frames_of files) ≡ fresh

-- a snapshot ends in one of the frames
abbrev pub HasEnd : Result (List Frame) Damage → Type 0
HasEnd (Ok frames) = IsTrue (list_any has_end frames)
HasEnd (Err damage) = ⊥

-- where the next snapshot begins, behind a frame with this number
abbrev pub began_behind : ℕ → ℕ
began_behind seq = min (seq + 1) (2 ^ 64 - 1)

-- The number below which frames aren't needed, and the one where the snapshot in progress begins.
pub record Points : Type 0 where
  pub discarded : ℕ
  pub began : ℕ

-- Where a snapshot ends in a frame, the next one begins behind it, and what is before the ended one isn't needed.
abbrev pub points_on : Points → Frame → Points
points_on points frame = if has_close frame then record { discarded = points.began; began = began_behind frame.seq } else points

abbrev pub points_of : List Frame → Points
points_of frames = fold points_on (record { discarded = 0; began = 0 }) frames
