-- What a disk of two files, 0 and 1, reads as, and what a crash now or earlier may have left.
use Rattle.std.specs.Prelude.{◌≡◌, ◌≤◌, ◌+◌, ◌-◌, ◌^◌, ◌⊎◌, ℕ, zero, if◌then◌else◌, List, [], ◌∷◌, ◌++◌, length, drop, min, Option, Some, None}
use Rattle.st_disk.specs.FileState.{FileState, IsImage, settled, with_bytes, has_unsynced}

-- file 0 and file 1
abbrev pub Files : Type 0
Files = List ℕ × List ℕ

abbrev pub FileStates : Type 0
FileStates = FileState × FileState

-- what stands for one of the two files
abbrev pub of_file : {X : Type 0} → ℕ → X × X → X
of_file zero both = both.0
of_file file both = both.1

abbrev pub with_file : {X : Type 0} → ℕ → X → X × X → X × X
with_file zero x both = (x, both.1)
with_file file x both = (both.0, x)

-- A count goes up by one, and stands still at the end of its type.
abbrev pub risen : ℕ → ℕ
risen count = min (count + 1) (2 ^ 64 - 1)

pub record History : Type 0 where
  -- the files as they are now
  pub now : FileStates
  -- as they were before each call that changed them, the first one first
  pub past : List FileStates
  -- how many calls of `write_at` and `sync` were carried out, those that changed nothing among them
  pub made : ℕ
  -- how many of them the disk lets through in all; None: each of them
  pub passes : Option ℕ
  -- how many writes failed and were done in part
  pub in_part : ℕ

-- a disk with these files, all of them synced
abbrev pub fresh : Files → History
fresh files = record { now = (settled files.0, settled files.1); past = []; made = 0; passes = None; in_part = 0 }

-- what a read gives of each file
abbrev pub seen : History → Files
seen h = (h.now.0.seen, h.now.1.seen)

-- the moment: how many calls have changed the files
abbrev pub moment : History → ℕ
moment h = length h.past

-- the history after a write of these bytes at a place of a file
abbrev pub after_write : ℕ → ℕ → List ℕ → History → History
after_write file at bytes h = record h {
  now = with_file file (with_bytes at bytes (of_file file h.now)) h.now;
  past = h.past ++ h.now ∷ [];
}

-- the history after a sync of a file, which adds no moment where nothing is unsynced
abbrev pub after_sync : ℕ → History → History
after_sync file h = record h {
  now = with_file file (settled (of_file file h.now).seen) h.now;
  past = if has_unsynced (of_file file h.now) then h.past ++ h.now ∷ [] else h.past;
}

-- one call more was carried out
abbrev pub counted : History → History
counted h = record h { made = risen h.made }

-- the history after a write that failed, which left these bytes at a place of a file
abbrev pub after_part : ℕ → ℕ → List ℕ → History → History
after_part file at bytes h = record (after_write file at bytes h) { in_part = h.in_part + 1 }

-- A write that failed may be done in part: nothing was written, or some bytes at this place, no more of them.
abbrev pub IsPartlyWritten : ℕ → ℕ → List ℕ → Option History → Option History → Type 0
IsPartlyWritten file at bytes None new = new ≡ None
IsPartlyWritten file at bytes (Some h) new =
    (new ≡ Some h) ⊎ ((part : List ℕ) × (length part ≤ length bytes) × (new ≡ Some (after_part file at part h)))

-- a crash may leave these files
abbrev pub CanLeave : FileStates → Files → Type 0
CanLeave files images = IsImage files.0 images.0 × IsImage files.1 images.1

-- a crash now may leave these files
abbrev pub MayLeave : History → Files → Type 0
MayLeave h images = CanLeave h.now images

-- a crash at one of these states may have left these files
abbrev pub MayHaveLeft : List FileStates → Files → Type 0
MayHaveLeft [] images = ⊥
MayHaveLeft (files ∷ past) images = CanLeave files images ⊎ MayHaveLeft past images

-- a crash at some moment from this one on may have left these files
abbrev pub LeftSince : History → ℕ → Files → Type 0
LeftSince h from images = MayLeave h images ⊎ MayHaveLeft (drop from h.past) images
