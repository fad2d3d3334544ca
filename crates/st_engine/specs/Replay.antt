-- What operations make of a map, and what a recovery reads from frames.
use Rattle.std.specs.Prelude.{ℕ, Bool, true, not, ◌&&◌, List, [], fold, filter, Option, Some, None}
use Rattle.std.specs.Result.{result_unwrap_or}
use Rattle.st_fold.specs.Map.{Map, apply}
use Rattle.st_key.specs.Spans.{key_less}
use Rattle.st_mutation.specs.declared.batch.Mutation.TheVariants as mutation
use Rattle.st_ops.specs.Reading.{reading}
use Rattle.st_ops.specs.declared.op.Op.{Op}
use Rattle.st_ops.specs.declared.op.Op.TheVariants.{Set, Clear, SnapItem, SnapEnd}
use Rattle.st_queue.specs.declared.frame.Frame.{Frame}

-- The map after an operation: sets and clears change it as those of a log do, and no other operation does.
abbrev pub op_on : Map → Op → Map
op_on pairs (Set key value) = apply pairs (mutation.Set key value)
op_on pairs (Clear begin end) = apply pairs (mutation.Clear (record { begin = begin; end = end }))
op_on pairs op = pairs

-- the map after operations, in their order
abbrev pub ops_on : Map → List Op → Map
ops_on pairs ops = fold op_on pairs ops

-- The map of a recovery so far, and the key of the last item of a snapshot that hasn't ended.
pub record Recovery : Type 0 where
  pub pairs : Map
  pub last : Option (List ℕ)

-- a key is above the last item; each is where there is none
abbrev pub is_above : Option (List ℕ) → List ℕ → Bool
is_above None key = true
is_above (Some last) key = key_less last key

-- the pairs of the keys up to this one
abbrev pub kept_to : List ℕ → Map → Map
kept_to last pairs = filter (λ pair. not (key_less last pair.0)) pairs

-- An item of a snapshot clears the keys between the item before and its own, and sets its own. The end of a snapshot clears
-- the keys above its last item.
abbrev pub recovered_by : Recovery → Op → Recovery
recovered_by r (SnapItem key value) = record {
  pairs = apply (filter (λ pair. not (is_above r.last pair.0 && key_less pair.0 key)) r.pairs) (mutation.Set key value);
  last = Some key;
}
recovered_by r SnapEnd = record { pairs = filter (λ pair. not (is_above r.last pair.0)) r.pairs; last = None }
recovered_by r op = record { pairs = op_on r.pairs op; last = r.last }

-- the operations of a frame
abbrev pub ops_of : Frame → List Op
ops_of frame = result_unwrap_or (reading frame.payload) []

-- the recovery after a frame
abbrev pub frame_on : Recovery → Frame → Recovery
frame_on r frame = fold recovered_by r (ops_of frame)

-- a recovery that begins at this map
abbrev pub from_map : Map → Recovery
from_map pairs = record { pairs = pairs; last = None }

-- the map that frames make of this one
abbrev pub replay : Map → List Frame → Map
replay start frames = (fold frame_on (from_map start) frames).pairs
