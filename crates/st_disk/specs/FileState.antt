-- One file of a disk: what it reads as, and what a crash may leave of it.
use Rattle.std.specs.Prelude.{◌≡◌, ◌<◌, ◌≤◌, ◌+◌, ℕ, Bool, true, false, List, ◌++◌, length, take, drop, map, slice_index, slice_index_or}
use Rattle.std.specs.List.{list_any}

pub record FileState : Type 0 where
  -- the bytes as the last sync left them
  pub synced : List ℕ
  -- the bytes that a read gives
  pub seen : List ℕ
  -- of each of these, whether it was written since that sync
  pub written : List Bool

-- these items at a place of the list, over what stood there and past its end
abbrev pub overwritten : {X : Type 0} → ℕ → List X → List X → List X
overwritten at items old = take at old ++ items ++ drop (at + length items) old

-- a file with these bytes, all of them synced
abbrev pub settled : List ℕ → FileState
settled bytes = record { synced = bytes; seen = bytes; written = map (λ _. false) bytes }

-- a file after a write of these bytes at a place
abbrev pub with_bytes : ℕ → List ℕ → FileState → FileState
with_bytes at bytes file = record {
  synced = file.synced;
  seen = overwritten at bytes file.seen;
  written = overwritten at (map (λ _. true) bytes) file.written;
}

-- something was written since the last sync
abbrev pub has_unsynced : FileState → Bool
has_unsynced file = list_any (λ mark. mark) file.written

-- A crash may leave this of the file: any bytes at the places that were written since the last sync, at the others
-- what was synced, and a length from the synced one to the one that it reads as.
pub record IsImage (file : FileState) (image : List ℕ) : Type 0 where
  pub no_shorter : length file.synced ≤ length image
  pub no_longer : length image ≤ length file.seen
  pub elsewhere : (place : ℕ) → place < length image → slice_index_or file.written place false ≡ false → slice_index image place ≡ slice_index file.synced place
