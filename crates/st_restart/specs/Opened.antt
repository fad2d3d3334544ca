-- What a server's store opens as.
use Rattle.std.specs.Prelude.{◌≡◌, ℕ, Bool, true, false, List, [], ◌∷◌, filter, Result, Ok, Err}
use Rattle.std.specs.Result.{result_map_both}
use Rattle.st_board.specs.declared.opening.Opening.{Opening}
use Rattle.st_disk.specs.History.{Files}
use Rattle.st_engine.specs.Holding.{is_none_read}
use Rattle.st_engine.specs.Replay.{replay}
use Rattle.st_fold.specs.Map.{Map}
use Rattle.st_fold.specs.declared.report.Damage.{Damage}
use Rattle.st_fold.specs.declared.report.Damage.TheVariants.{File, Meta}
use Rattle.st_key.specs.Spans.{Span, holds}
use Rattle.st_key.specs.declared.part.MetaPart.{MetaPart}
use Rattle.st_meta.specs.Reading.{meta_of}
use Rattle.st_meta.specs.declared.state.Meta.{Meta as State}
use Rattle.st_meta.specs.declared.state.MetaRefusal.{MetaRefusal}
use Rattle.st_meta.specs.declared.state.MetaRefusal.TheVariants as why
use Rattle.st_ptree.specs.Entries.{pairs_of}
use Rattle.st_queue.specs.Frames.{Damage as Place}
use Rattle.st_queue.specs.Writing.{frames_of}
use Rattle.st_queue.specs.declared.frame.Frame.{Frame}

-- What a store opens as: whether it has no frame, its version, the keys that are assigned at it, those of them that are
-- available, and their pairs.
pub record Opened : Type 0 where
  pub fresh : Bool
  pub version : ℕ
  pub assigned : List Span
  pub available : List Span
  pub base : Map

-- a store without a frame has all that the server owns, and no pair of it
abbrev pub opened_fresh : (own : List Span) → Opened
opened_fresh own = record { fresh = true; version = 0; assigned = own; available = own; base = [] }

-- one with frames has what the state says that it stores, and of its pairs those of the keys that are available
abbrev pub opened_with : Map → State → Opened
opened_with pairs state = record {
  fresh = false;
  version = state.version;
  assigned = state.assigned;
  available = state.available;
  base = filter (λ pair. holds state.available pair.0) pairs;
}

-- the keys beside those of users at which a store keeps its state
abbrev pub stored_keys : Span
stored_keys = record { begin = 255 ∷ []; end = 255 ∷ 255 ∷ 255 ∷ [] }

-- what a store with this map opens as, or which part of the stored state its pairs aren't
abbrev pub opened_as : (own : List Span) → (fresh : Bool) → Map → Result Opened MetaPart
opened_as own true pairs = Ok (opened_fresh own)
opened_as own false pairs = result_map_both (opened_with pairs) (λ which. which) (meta_of pairs)

-- what files with these frames open as
abbrev pub opened_of : (own : List Span) → Result (List Frame) Place → Result Opened Damage
opened_of own (Ok frames) = result_map_both (λ opened. opened) Meta (opened_as own (is_none_read (Ok frames)) (replay [] frames))
opened_of own (Err place) = Err (File place.file place.at)

-- What files open as, or where they are damaged.
abbrev pub opened : (own : List Span) → Files → Result Opened Damage
opened own files = opened_of own (frames_of files)

-- what an opening is, by whether its store has no frame
abbrev pub as_opened : Bool → Opening → Opened
as_opened fresh opening = record {
  fresh = fresh;
  version = opening.version;
  assigned = opening.assigned;
  available = opening.available;
  base = pairs_of opening.base;
}

-- the answer of a call that opens a store so, but for want of memory
abbrev pub OpensAs : Bool → Result Opening MetaRefusal → Result Opened MetaPart → Type 0
OpensAs fresh (Ok opening) answer = answer ≡ Ok (as_opened fresh opening)
OpensAs fresh (Err (why.BadMeta which)) answer = answer ≡ Err which
OpensAs fresh (Err why.NoMemory) answer = Unit {0}
