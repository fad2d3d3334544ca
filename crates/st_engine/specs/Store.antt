-- What an engine remembers of its store.
use Rattle.std.specs.Prelude.{ℕ, Bool, List, [], fold, Option, Result, Ok}
use Rattle.std.specs.Result.{result_map_both}
use Rattle.st_disk.specs.History.{Files}
use Rattle.st_fold.specs.Map.{Map}
use Rattle.st_engine.specs.Holding.{Points, is_none_read, points_of}
use Rattle.st_engine.specs.Replay.{Recovery, frame_on, from_map}
use Rattle.st_queue.specs.Frames.{Damage}
use Rattle.st_queue.specs.Writing.{frames_of}
use Rattle.st_queue.specs.declared.frame.Frame.{Frame}

-- The map, whether no frame was ever read or written, the key of the last item of the snapshot in progress, the number of that
-- snapshot's first frame, and the number below which frames aren't needed.
pub record Store : Type 0 where
  pub pairs : Map
  pub fresh : Bool
  pub cursor : Option (List ℕ)
  pub began : ℕ
  pub discarded : ℕ

-- How many bytes of snapshot a commit writes beside its own; and the lengths of a file, in bytes, from which on it is left for
-- the other one, and which it can't pass.
pub record Bounds : Type 0 where
  pub quota : ℕ
  pub swap : ℕ
  pub limit : ℕ

-- a store, and the files that it is in
pub record Kept : Type 0 where
  pub files : Files
  pub store : Store

-- the store that frames are
abbrev pub store_of : List Frame → Store
store_of frames =
    let recovery : Recovery = fold frame_on (from_map []) frames in
    let points : Points = points_of frames in
    record {
      pairs = recovery.pairs;
      fresh = is_none_read (Ok frames);
      cursor = recovery.last;
      began = points.began;
      discarded = points.discarded;
    }

-- what a mount of files keeps, or where they are damaged
abbrev pub mount_of : Files → Result Kept Damage
mount_of files = result_map_both (λ frames. record { files = files; store = store_of frames }) (λ damage. damage) (frames_of files)
