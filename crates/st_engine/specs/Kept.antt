-- Which frames an engine keeps, and why they are enough.
use Rattle.std.specs.Prelude.{◌≡◌, ◌≤◌, ℕ, Bool, true, List, [], ◌∷◌, ◌++◌, fold, Option, IsTrue}
use Rattle.std.specs.List.{AllByRecursion}
use Rattle.st_fold.specs.Map.{Map}
use Rattle.st_queue.specs.declared.frame.Frame.{Frame}
use Rattle.st_engine.specs.Replay.{frame_on, from_map}
use Rattle.st_engine.specs.Snapshot.{has_close}

-- a snapshot ends in the last of these frames
abbrev pub ends_behind : Frame → List Frame → Bool
ends_behind frame [] = has_close frame
ends_behind frame (next ∷ frames) = ends_behind next frames

-- and where there is no frame there is nothing to end
abbrev pub ends_there : List Frame → Bool
ends_there [] = true
ends_there (frame ∷ frames) = ends_behind frame frames

-- The frames are those from before the last whole snapshot, which aren't needed any more; those of that snapshot; and those
-- since. The numbers of the latter are at or above the one up to which frames are discarded, and at or above the one from
-- which the snapshot in progress began.
pub record Parts (discarded began : ℕ) (frames : List Frame) : Type 0 where
  pub past : List Frame
  pub whole : List Frame
  pub since : List Frame
  pub parts : frames ≡ past ++ (whole ++ since)
  pub past_ends : IsTrue (ends_there past)
  pub whole_ends : IsTrue (ends_there whole)
  pub none_past : whole ≡ [] → past ≡ []
  pub kept : AllByRecursion (λ frame. discarded ≤ frame.seq) (whole ++ since)
  pub new : AllByRecursion (λ frame. began ≤ frame.seq) since

-- the frames make this map of the empty one, and the snapshot in progress has come to this key
abbrev pub Make : Map → Option (List ℕ) → List Frame → Type 0
Make pairs cursor frames = fold frame_on (from_map []) frames ≡ record { pairs = pairs; last = cursor }

-- what an engine keeps of the frames on its disk
pub record Stand (discarded began : ℕ) (pairs : Map) (cursor : Option (List ℕ)) (frames : List Frame) : Type 0 where
  pub make : Make pairs cursor frames
  pub parts : Parts discarded began frames
