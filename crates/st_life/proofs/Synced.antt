-- Commits leave nothing unsynced.
use Rattle.std.proofs.Common.{◌≡◌, ℕ, zero, suc, ◌+◌, Bool, true, false, List, [], ◌∷◌, ◌++◌, Option, Some, None, refl, sym, ◌∙◌, ap, subst, cond, slice_index, slice_index_or}
use Rattle.std.proofs.Math.ListN.{get_or-map}
use Rattle.std.proofs.lemmas.Bool.{cond-false}
use Rattle.std.specs.Result.{IfOk}
use Rattle.st_disk.specs.Calls.{made, made-append}
use Rattle.st_disk.specs.FileState.{FileState, settled, with_bytes}
use Rattle.st_disk.specs.History.{Files, FileStates, History, fresh, of_file, seen}
use Rattle.st_disk.specs.Left.{generator_of, left, torn, torn_at, torn_byte, torn_from}
use Rattle.st_disk.specs.Recorded.{Call}
use Rattle.rand_pcg.specs.Lcg.{Lcg}
use Rattle.rand_pcg.specs.Pcg.{pcg32}
use Rattle.st_engine.specs.Commit.{Done, Past, begin_calls, commit_calls, commit_of, frame_place, outcome, past_end, past_number, payload_of}
use Rattle.st_engine.specs.Store.{Bounds, Kept}
use Rattle.st_ops.specs.declared.op.Op.{Op}
use Rattle.st_queue.specs.Due.{due_of}
use Rattle.st_queue.specs.Place.{current, is_unshut, next_file, next_generation, next_number}
use Rattle.st_queue.specs.Writing.{IsSynced, append_calls, enter_calls, frame_bytes, head_calls, header_bytes, put_calls, recycle_calls, shut_calls}
use Rattle.st_queue.specs.declared.place.Place.{Place}
use Rattle.st_model.specs.Schedule.{Halt, Progress, ending_by, no_block}
use Rattle.st_engine.specs.Commit.{calls_of}
use Rattle.st_life.specs.Leaving.{carried_out, crash_of, files_left, leaves}
use Rattle.st_life.specs.Play.{Start, commit_in_flight}

-- calls that leave nothing unsynced, where nothing was
KeepSynced : List Call → Type 0
KeepSynced calls = (disk : History) → IsSynced disk → IsSynced (made calls disk)

module _ where
  put-synced : (file at : ℕ) (bytes : List ℕ) → KeepSynced (put_calls file at bytes)
  unfolding KeepSynced
  put-synced zero at bytes disk synced =
      ap (λ (other : FileState). (settled (with_bytes at bytes disk.now.0).seen, other)) (ap (λ (files : FileStates). files.1) synced)
  put-synced (suc file) at bytes disk synced =
      ap (λ (other : FileState). (other, settled (with_bytes at bytes disk.now.1).seen)) (ap (λ (files : FileStates). files.0) synced)

  none-synced : KeepSynced []
  unfolding KeepSynced
  none-synced disk synced = synced

  both-synced : (first second : List Call) → KeepSynced first → KeepSynced second → KeepSynced (first ++ second)
  unfolding KeepSynced
  both-synced first second one two disk synced =
      subst IsSynced (sym (made-append first second disk)) (two (made first disk) (one disk synced))

  -- some calls or none
  either-synced : (some : Bool) (calls : List Call) → KeepSynced calls → KeepSynced (cond some calls [])
  either-synced true calls keep = keep
  either-synced false calls keep = none-synced

  append-synced : (place : Place) (payload : List ℕ) → KeepSynced (append_calls place payload)
  append-synced place payload =
      both-synced _ _ (put-synced place.file (place.gate + 1) (frame_bytes place.next payload)) (put-synced place.file place.gate (1 ∷ []))

  begin-synced : (due : Bool) (place : Option Place) (files : Files) → KeepSynced (begin_calls due place files)
  begin-synced due place files =
      either-synced due (recycle_calls (next_file place) (next_generation place) (next_number place) files ++ enter_calls (next_file place))
      (both-synced (recycle_calls (next_file place) (next_generation place) (next_number place) files) (enter_calls (next_file place))
      (both-synced (shut_calls (next_file place) files) (head_calls (next_file place) (next_generation place) (next_number place))
      (either-synced (is_unshut (of_file (next_file place) files)) (put_calls (next_file place) 0 (0 ∷ [])) (put-synced (next_file place) 0 (0 ∷ [])))
      (put-synced (next_file place) 1 (header_bytes (next_generation place) (next_number place))))
      (put-synced (next_file place) 0 (1 ∷ [])))

  commit-synced : (due : Bool) (place : Option Place) (payload : List ℕ) (files : Files) → KeepSynced (commit_calls due place payload files)
  commit-synced due place payload files =
      both-synced (begin_calls due place files) (append_calls (frame_place due place) payload) (begin-synced due place files)
      (append-synced (frame_place due place) payload)

-- ---- commits

outcome-synced : (files : Files) (past end : Option Past) (begun : List Call) (done : Done) → KeepSynced begun → KeepSynced done.calls
    → IsSynced (made (calls_of (outcome past end begun done)) (fresh files))
unfolding KeepSynced
outcome-synced files (Some past) end begun done of_begun of_done = refl
outcome-synced files None (Some past) begun done of_begun of_done = of_begun (fresh files) refl
outcome-synced files None None begun done of_begun of_done = of_done (fresh files) refl

outcome-files : (files : Files) (past end : Option Past) (begun : List Call) (done : Done) → KeepSynced done.calls
    → done.behind.files ≡ seen (made done.calls (fresh files))
    → IfOk (outcome past end begun done) (λ one. (made one.calls (fresh files)).now ≡ (fresh one.behind.files).now)
unfolding KeepSynced
outcome-files files (Some past) end begun done of_done is = tt
outcome-files files None (Some past) begun done of_done is = tt
outcome-files files None None begun done of_done is = of_done (fresh files) refl ∙ ap (λ (f : Files). (fresh f).now) (sym is)

pub commits-synced : (bounds : Bounds) (kept : Kept) (ops : List Op) → IsSynced (made (calls_of (commit_of bounds kept ops)) (fresh kept.files))
commits-synced bounds kept ops =
    let due = due_of bounds.swap kept.store.discarded kept.files in
    let place = current kept.files in
    let payload = payload_of bounds.quota kept.store ops in
    outcome-synced kept.files (past_number due place) (past_end bounds.limit (frame_place due place) payload) (begin_calls due place kept.files) _
    (begin-synced due place kept.files) (commit-synced due place payload kept.files)

pub commits-lead : (bounds : Bounds) (kept : Kept) (ops : List Op)
    → IfOk (commit_of bounds kept ops) (λ done. (made done.calls (fresh kept.files)).now ≡ (fresh done.behind.files).now)
commits-lead bounds kept ops =
    let due = due_of bounds.swap kept.store.discarded kept.files in
    let place = current kept.files in
    let payload = payload_of bounds.quota kept.store ops in
    outcome-files kept.files (past_number due place) (past_end bounds.limit (frame_place due place) payload) (begin_calls due place kept.files) _
    (commit-synced due place payload kept.files) refl

-- ---- what is left where nothing is unsynced

unwritten : (bytes : List ℕ) (place : ℕ) → slice_index_or (settled bytes).written place false ≡ false
unwritten bytes place = get_or-map (λ _. false) bytes place 0

torn-settled : (whole : List ℕ) (place : ℕ) (bytes : List ℕ) (generator : Lcg) → torn_from (settled whole) place bytes generator ≡ (bytes, generator)
torn-settled whole place [] generator = refl
torn-settled whole place (byte ∷ bytes) generator =
    let here : torn_at (settled whole) place byte generator ≡ (byte, generator) =
    cond-false (slice_index_or (settled whole).written place false)
    (torn_byte (pcg32 generator).0 (slice_index whole place) byte, (pcg32 generator).1) (byte, generator) (unwritten whole place) in
    ap (λ (first : ℕ × Lcg).
    (first.0 ∷ (torn_from (settled whole) (place + 1) bytes first.1).0, (torn_from (settled whole) (place + 1) bytes first.1).1)) here
    ∙ ap (λ (rest : List ℕ × Lcg). (byte ∷ rest.0, rest.1)) (torn-settled whole (place + 1) bytes generator)

torn-both : (files : Files) (generator : Lcg) → torn (fresh files).now generator ≡ files
torn-both files generator =
    ap (λ (first : List ℕ × Lcg). (first.0, (torn_from (settled files.1) 0 files.1 first.1).0)) (torn-settled files.0 0 files.0 generator)
    ∙ ap (λ (second : List ℕ × Lcg). (files.0, second.0)) (torn-settled files.1 0 files.1 generator)

left-settled : (choice : ℕ) (files : Files) → left choice (fresh files).now ≡ files
left-settled zero files = refl
left-settled (suc zero) files = refl
left-settled (suc (suc choice)) files = torn-both files (generator_of (suc (suc choice)))

left-whole : (choice : Option ℕ) (files : Files) → files_left choice (fresh files).now ≡ files
left-whole None files = refl
left-whole (Some choice) files = left-settled choice files

module _ (start : Start) (last : Progress Kept) where
  -- what it leaves, by why it halted
  left-by : Option Halt → Files
  left-by halt =
      files_left (crash_of (ending_by start.plan halt) start.plan)
      (made (carried_out start.plan last.calls halt (calls_of (commit_in_flight start last.engine last.trace))) (fresh last.engine.files)).now

  pub rest-leaves : last.halt ≡ None → leaves start last ≡ last.engine.files
  unfolding left-by
  rest-leaves is = ap left-by is ∙ left-whole (crash_of (ending_by start.plan None) start.plan) last.engine.files

  pub unserved-leaves : last.halt ≡ Some no_block → leaves start last ≡ last.engine.files
  unfolding left-by
  unserved-leaves is = ap left-by is
