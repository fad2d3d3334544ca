-- A shut file that has its header, before its gate is opened.
use Rattle.std.specs.Prelude.{◌≡◌, ◌≤◌, ℕ, Bool, true, false, List, length, slice_index, Option, Some, Result, OnOk, IsErrOf}
use Rattle.std.specs.Option.{option_map, ForSome}
use Rattle.st_disk.specs.History.{History, of_file, seen}
use Rattle.st_disk.specs.Moments.{ToldLeavesOnly}
use Rattle.st_queue.specs.Due.{are_discarded, older_frames}
use Rattle.st_queue.specs.Frames.{is_open, has_header, generation, first_number}
use Rattle.st_queue.specs.Place.{is_unshut, next_file, next_generation, next_number, next_place}
use Rattle.st_queue.specs.Writing.{HasFrames, HasFramesLess, ToldSettled, ToldLess, after_put, entered, header_bytes, shut_first, told_frames}
use Rattle.st_queue.specs.declared.frame.QueueRefusal.{QueueRefusal}
use Rattle.st_queue.specs.declared.frame.QueueRefusal.TheVariants.{NoMemory}
use Rattle.st_queue.specs.declared.place.Place.{Place}

pub record IsPrepared (bytes : List ℕ) (made first : ℕ) : Type 0 where
  pub long : 29 ≤ length bytes
  pub sound : has_header bytes ≡ true
  pub made_is : generation bytes ≡ made
  pub first_is : first_number bytes ≡ first
  pub closed : is_open (slice_index bytes 0) ≡ false
  pub empty : slice_index bytes 28 ≡ 0

-- the file of this place has its header, with the generation and the first number of the place
abbrev pub ToldPrepared : Option History → Place → Type 0
ToldPrepared told place = ForSome told (λ h. IsPrepared (of_file place.file (seen h)) place.generation place.next)

-- the flag tells whether the file is to be shut
abbrev pub ToldUnshut : ℕ → Bool → Option History → Type 0
ToldUnshut file unshut told = ForSome told (λ h. unshut ≡ is_unshut (of_file file (seen h)))

-- all frames of the live file that isn't current are discarded
abbrev pub ToldReleased : ℕ → Option History → Type 0
ToldReleased from told = ForSome told (λ h. are_discarded from (older_frames (seen h)) ≡ true)

-- What a step does to a settled disk whose current file ends at this place: the next file is shut, gets its header, is
-- entered. Want of memory leaves the disk. The frames that stood in the file are gone once it is shut, so they are to be
-- discarded before; from then on a crash at any moment leaves the frames.
pub record Shuts (told new : Option History) (current : Option Place) (result : Result (Unit {0}) QueueRefusal) : Type 0 where
  pub calls : OnOk result (new ≡ option_map (shut_first (next_file current)) told)
  pub settled : OnOk result (ToldSettled new current × ToldUnshut (next_file current) false new)
  pub same : IsErrOf result NoMemory → new ≡ told
  pub less : (from : ℕ) → ToldReleased from told → OnOk result (ToldLess from told new)
  pub any_moment : (from : ℕ) → ToldReleased from told → ToldLeavesOnly told new (HasFramesLess from told)

pub record Heads (told new : Option History) (current : Option Place) (result : Result (Unit {0}) QueueRefusal) : Type 0 where
  pub calls : OnOk result (new ≡ option_map (after_put (next_file current) 1 (header_bytes (next_generation current) (next_number current))) told)
  pub settled : OnOk result (ToldSettled new current × ToldPrepared new (next_place current))
  pub frames : OnOk result (told_frames new ≡ told_frames told)
  pub same : IsErrOf result NoMemory → new ≡ told
  pub any_moment : ToldLeavesOnly told new (HasFrames told)

pub record Enters (told new : Option History) (place : Place) (result : Result (Unit {0}) QueueRefusal) : Type 0 where
  pub calls : OnOk result (new ≡ option_map (entered place.file) told)
  pub settled : OnOk result (ToldSettled new (Some place) × (told_frames new ≡ told_frames told))
  pub same : IsErrOf result NoMemory → new ≡ told
  pub any_moment : ToldLeavesOnly told new (HasFrames told)
