-- The rolling snapshot: the pairs of the map that a commit writes beside its operations, from the key behind the cursor on.
use Rattle.std.specs.Prelude.{ℕ, ◌+◌, ◌-◌, Bool, true, false, ◌&&◌, ◌++◌, nat_lt, if◌then◌else◌, List, [], ◌∷◌, length, filter, sum_by, Option, Some, None}
use Rattle.std.specs.List.{list_any}
use Rattle.st_fold.specs.Map.{Map}
use Rattle.st_ops.specs.Grammar.{has_form}
use Rattle.st_ops.specs.Spelling.{spelled}
use Rattle.st_ops.specs.declared.op.Op.{Op}
use Rattle.st_ops.specs.declared.op.Op.TheVariants.{SnapItem, SnapEnd, Commit}
use Rattle.st_queue.specs.declared.frame.Frame.{Frame}
use Rattle.st_engine.specs.Replay.{is_above, ops_of, ops_on}

-- the item of a pair
abbrev pub item_of : List ℕ × List ℕ → Op
item_of pair = SnapItem pair.0 pair.1

-- how many bytes an operation takes, and how many a list of them
abbrev pub size_of : Op → ℕ
size_of op = length (spelled op)

abbrev pub sizes_of : List Op → ℕ
sizes_of ops = sum_by size_of ops

-- Items of these pairs, each while there is room left for at least one byte. Where no pair is left the snapshot ends.
abbrev pub items_within : ℕ → Map → List Op
items_within room [] = SnapEnd ∷ []
items_within room (pair ∷ pairs) = if nat_lt 0 room then item_of pair ∷ items_within (room - size_of (item_of pair)) pairs else []

-- the key of the last of these items, none where the snapshot ends; before them it is this one
abbrev pub last_within : Option (List ℕ) → ℕ → Map → Option (List ℕ)
last_within cursor room [] = None
last_within cursor room (pair ∷ pairs) = if nat_lt 0 room then last_within (Some pair.0) (room - size_of (item_of pair)) pairs else cursor

-- the pairs that a snapshot whose last item has this key has still to write
abbrev pub still_of : Option (List ℕ) → Map → Map
still_of cursor pairs = filter (λ pair. is_above cursor pair.0) pairs

-- What a snapshot writes next, where it has so many bytes of room; and the key of its last item then.
abbrev pub snap : Option (List ℕ) → ℕ → Map → List Op
snap cursor room pairs = items_within room (still_of cursor pairs)

abbrev pub cursor_behind : Option (List ℕ) → ℕ → Map → Option (List ℕ)
cursor_behind cursor room pairs = last_within cursor room (still_of cursor pairs)

-- the room of a commit: the quota, and as many bytes as its operations take
abbrev pub room_of : ℕ → List Op → ℕ
room_of quota ops = quota + sizes_of ops

abbrev pub is_end : Op → Bool
is_end SnapEnd = true
is_end op = false

-- a snapshot ends in the frame
abbrev pub has_end : Frame → Bool
has_end frame = list_any is_end (ops_of frame)

-- the frame's operations are a payload's, and a snapshot ends among them
abbrev pub has_close : Frame → Bool
has_close frame = has_form (ops_of frame) && has_end frame

-- the operations of a commit's payload: its own, what the snapshot writes behind them, and Commit. This is the map before.
abbrev pub whole_of : ℕ → Option (List ℕ) → Map → List Op → List Op
whole_of quota cursor pairs ops = ops ++ snap cursor (room_of quota ops) (ops_on pairs ops) ++ Commit ∷ []
