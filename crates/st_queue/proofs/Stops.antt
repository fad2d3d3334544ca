-- How far a call of the queue came in its list of calls, where it failed.
use Rattle.std.proofs.Common.{◌≡◌, ◌+◌, ◌∙◌, if◌then◌else◌, ℕ, Bool, true, List, [], ◌∷◌, Option, Some, None, Result, Ok, Err, IfErr, refl, sym, subst}
use Rattle.std.specs.Option.{option_map}
use Rattle.st_disk.specs.History.{History, after_write, counted}
use Rattle.st_disk.specs.Recorded.{Call, write, sync}
use Rattle.st_disk.specs.Calls.{StoppedIn, ToldStoppedIn, told_stopped-at, told_stopped-none, told_stopped-first, told_stopped-second}
use Rattle.st_queue.specs.Place.{next_file}
use Rattle.st_queue.specs.Prepared.{ToldUnshut}
use Rattle.st_queue.specs.Writing.{after_put, append_calls, frame_bytes, head_calls, put_calls, recycle_calls, shut_calls, shut_first}
use Rattle.st_queue.specs.declared.place.Place.{Place}

-- a fact of each refusal
pub if_err : {T E : Type 0} (result : Result T E) (P : E → Type 0) → ((refusal : E) → P refusal) → IfErr result P
if_err (Ok value) P each = tt
if_err (Err refusal) P each = each refusal

-- nothing of a write and a sync was done
pub put_stops-none : (file at : ℕ) (bytes : List ℕ) (told new : Option History) → new ≡ told → ToldStoppedIn (λ _. put_calls file at bytes) told new
put_stops-none file at bytes told new same = told_stopped-none (write file at bytes) (sync file ∷ []) told new same

-- the write was done
pub put_stops-sync : (file at : ℕ) (bytes : List ℕ) (told new : Option History) → new ≡ option_map (λ h. counted (after_write file at bytes h)) told → ToldStoppedIn (λ _. put_calls file at bytes) told new
put_stops-sync file at bytes told new wrote = told_stopped-at (write file at bytes ∷ []) (sync file) [] told new wrote

module _ (place : Place) (payload : List ℕ) where
  abbrev body : List Call
  body = put_calls place.file (place.gate + 1) (frame_bytes place.next payload)

  -- an append stopped before its first call, in its first write or in its second one
  pub append_stops-none : (told : Option History) → ToldStoppedIn (λ _. append_calls place payload) told told
  append_stops-none told = told_stopped-none (write place.file (place.gate + 1) (frame_bytes place.next payload)) (sync place.file ∷ put_calls place.file place.gate (1 ∷ [])) told told refl

  pub append_stops-first : (told new : Option History) → ToldStoppedIn (λ _. body) told new → ToldStoppedIn (λ _. append_calls place payload) told new
  append_stops-first told new stopped = told_stopped-first (λ _. body) (λ _. put_calls place.file place.gate (1 ∷ [])) told new stopped

  pub append_stops-second : (told mid new : Option History) → mid ≡ option_map (after_put place.file (place.gate + 1) (frame_bytes place.next payload)) told → ToldStoppedIn (λ _. put_calls place.file place.gate (1 ∷ [])) mid new → ToldStoppedIn (λ _. append_calls place payload) told new
  unfolding after_put
  append_stops-second told mid new wrote stopped = told_stopped-second (λ _. body) (put_calls place.file place.gate (1 ∷ [])) told mid new wrote stopped

-- a file stopped being shut
pub shut_stops : (current : Option Place) (told new : Option History) (flag : Bool) → flag ≡ true → ToldUnshut (next_file current) flag told → ToldStoppedIn (λ _. put_calls (next_file current) 0 (0 ∷ [])) told new → ToldStoppedIn (shut_calls (next_file current)) told new
shut_stops current None new flag flag_is unshut stopped = stopped
shut_stops current (Some h) None flag flag_is unshut stopped = stopped
shut_stops current (Some h) (Some new) flag flag_is unshut stopped =
    subst (λ (b : Bool). StoppedIn (if b then put_calls (next_file current) 0 (0 ∷ []) else []) h new) (sym flag_is ∙ unshut h refl) stopped

-- a recycle stopped while the file was shut, or while its header was written
pub recycle_stops-first : (file generation first : ℕ) (told new : Option History) → ToldStoppedIn (shut_calls file) told new → ToldStoppedIn (recycle_calls file generation first) told new
recycle_stops-first file generation first told new stopped = told_stopped-first (shut_calls file) (λ _. head_calls file generation first) told new stopped

pub recycle_stops-second : (file generation first : ℕ) (told mid new : Option History) → mid ≡ option_map (shut_first file) told → ToldStoppedIn (λ _. head_calls file generation first) mid new → ToldStoppedIn (recycle_calls file generation first) told new
unfolding shut_first
recycle_stops-second file generation first told mid new shut stopped = told_stopped-second (shut_calls file) (head_calls file generation first) told mid new shut stopped
