-- Worked scripts and the files that their lives leave, computed from the definitions alone.
use Rattle.std.proofs.Common.{◌≡◌, ℕ, zero, suc, List, [], ◌∷◌, length, map, Option, Some, None, Result, Ok, Err, refl}
use Rattle.std.specs.Option.{option_and_then, option_map}
use Rattle.std.specs.Result.{result_map_both, result_ok}
use Rattle.st_disk.specs.FileState.{overwritten}
use Rattle.st_disk.specs.History.{Files}
use Rattle.st_fold.specs.declared.plan.LifePlan.{LifePlan}
use Rattle.st_fold.specs.declared.plan.Script.{Script}
use Rattle.st_fold.specs.declared.plan.Settings.{Settings}
use Rattle.st_fold.specs.declared.report.Damage.{Damage}
use Rattle.st_fold.specs.declared.report.Damage.TheVariants.{File}
use Rattle.st_fold.specs.declared.report.Ending.{Ending}
use Rattle.st_fold.specs.declared.report.Ending.TheVariants as ending
use Rattle.st_fold.specs.declared.report.Event.TheVariants.{Opened, Applied, Began, Durable}
use Rattle.st_fold.specs.declared.report.Life.{Life}
use Rattle.st_fold.specs.declared.request.Answer.TheVariants.{Value}
use Rattle.st_mutation.specs.declared.batch.Batch.{Batch}
use Rattle.st_mutation.specs.declared.batch.Mutation.TheVariants.{Set}
use Rattle.st_model.specs.Schedule.{Halt, past_limit, readers_at_end}
use Rattle.st_model.specs.State.{base_of}
use Rattle.st_queue.specs.Frames.{first_number, generation}
use Rattle.st_queue.specs.Writing.{frame_bytes, frames_of, header_bytes}
use Rattle.st_restart.specs.Agreement.{first_difference, opening_of}
use Rattle.st_restart.specs.Opened.{opened}
use Rattle.st_life.proofs.RowParts.{a, answered, apply, empty, flush, gets, life, life_to, poll, script_of, sets, with_window}
use Rattle.st_life.proofs.Runs.{Run, calls_in, last_of, lives_of, run}
use Rattle.st_life.specs.Play.{start_on}

-- ---- two files that take turns

-- so many bytes 2a
abbrev stars : ℕ → List ℕ
stars zero = []
stars (suc count) = 42 ∷ stars count

abbrev five : List Batch
five =
    record { version = 1; moves = []; mutations = Set (96 ∷ []) (stars 300) ∷ Set a (49 ∷ []) ∷ [] } ∷ sets 2 (50 ∷ []) ∷ sets 3 (51 ∷ [])
    ∷ sets 4 (52 ∷ []) ∷ sets 5 (53 ∷ []) ∷ []

-- files are left at once, and each commit writes one item more of the snapshot
abbrev turning : Settings
turning = record (with_window 1) { swap = 64; quota = 1 }

abbrev flushing : LifePlan
flushing = record (life_to 5) {
  dos = apply 2 ∷ flush ∷ apply 1 ∷ flush ∷ apply 1 ∷ flush ∷ apply 1 ∷ flush ∷ [];
  kill = Some (34, 0);
}

abbrev asking : LifePlan
asking = record (life_to 5) { asks = gets 1 1 4 ∷ []; dos = poll 1 ∷ [] }

abbrev two_files : Script
two_files = script_of turning five (flushing ∷ asking ∷ [])

abbrev flushed : Life
flushed = life 0
    (Opened 0 ∷ Applied 1 ∷ Applied 2 ∷ Began 1 ∷ Durable 1 ∷ Applied 3 ∷ Began 2 ∷ Durable 2 ∷ Applied 4 ∷ Began 3 ∷ Durable 3 ∷ Applied 5
    ∷ Began 4 ∷ Durable 4 ∷ [])
    [] ending.Killed

abbrev asked : Life
asked = life 4 (Opened 4 ∷ Applied 5 ∷ []) (answered 1 (1 ∷ []) (Value (52 ∷ [])) ∷ []) ending.Closed

two_files_take_turns : lives_of (run 48 two_files (flushing ∷ asking ∷ []) ([], [])) ≡ Some (flushed ∷ asked ∷ [])
unfolding readers_at_end frame_bytes header_bytes
two_files_take_turns = refl

-- lives that make one to four commits make so many calls: 10, 10 more, 4 more and 10 more
calls_of_commits : map (λ upto. calls_in 48 two_files (life_to upto) ([], [])) (2 ∷ 3 ∷ 4 ∷ 5 ∷ [])
    ≡ Some 10 ∷ Some 20 ∷ Some 24 ∷ Some 34 ∷ []
unfolding readers_at_end frame_bytes header_bytes
calls_of_commits = refl

-- the length of each file, its generation and its first number
abbrev headers : Files → List (ℕ × ℕ × ℕ)
headers files = map (λ bytes. (length bytes, generation bytes, first_number bytes)) (files.0 ∷ files.1 ∷ [])

-- of each frame its number, its file, its place and the length of its payload
abbrev frames : Files → Option (List (ℕ × ℕ × ℕ × ℕ))
frames files = result_ok (result_map_both (map (λ frame. (frame.seq, frame.file, frame.at, length frame.payload))) (λ damage. damage) (frames_of files))

abbrev turned : Files
turned = (run 48 two_files (flushing ∷ []) ([], [])).behind

turned_headers : headers turned ≡ (874, 3, 3) ∷ (683, 2, 1) ∷ []
unfolding readers_at_end frame_bytes header_bytes
turned_headers = refl

turned_frames : frames turned ≡ Some ((1, 1, 28, 416) ∷ (2, 1, 457, 212) ∷ (3, 0, 28, 416) ∷ [])
unfolding readers_at_end frame_bytes header_bytes
turned_frames = refl

-- ---- a file that can't get longer

abbrev two : List Batch
two = sets 1 (49 ∷ []) ∷ empty 2 ∷ []

abbrev closing : LifePlan
closing = record (life_to 2) { dos = apply 2 ∷ flush ∷ [] }

abbrev asking_last : LifePlan
asking_last = record (life_to 2) { lasts = gets 1 0 2 ∷ [] }

abbrev file_full : Script
file_full = script_of (record (with_window 1) { limit = 200 }) two (closing ∷ asking_last ∷ [])

abbrev filled : Run
filled = run 16 file_full (closing ∷ asking_last ∷ []) ([], [])

full_faults : lives_of filled ≡ Some (life 0 (Opened 0 ∷ Applied 1 ∷ Applied 2 ∷ Began 1 ∷ []) [] ending.Faulted ∷ [])
unfolding readers_at_end frame_bytes header_bytes
full_faults = refl

-- what is past its bound, and that the file was begun before that was found
abbrev why : ℕ → Script → LifePlan → Option Halt
why steps script plan = option_and_then (λ start. (last_of steps start).halt) (result_ok (start_on script plan ([], [])))

full_is_past : why 16 file_full closing ≡ Some (past_limit 254 200)
unfolding readers_at_end frame_bytes header_bytes
full_is_past = refl

full_headers : headers filled.behind ≡ (29, 1, 0) ∷ (0, 0, 0) ∷ []
unfolding readers_at_end frame_bytes header_bytes
full_headers = refl

-- where one of the six calls before that isn't let through, the life is killed there
abbrev full_within : ℕ → Option (List Ending)
full_within calls =
    let plan : LifePlan = record closing { kill = Some (calls, 0) } in
    option_map (map (λ one. one.ending)) (lives_of (run 16 file_full (plan ∷ []) ([], [])))

full_or_killed : map full_within (0 ∷ 1 ∷ 2 ∷ 3 ∷ 4 ∷ 5 ∷ 6 ∷ 7 ∷ [])
    ≡ Some (ending.Killed ∷ []) ∷ Some (ending.Killed ∷ []) ∷ Some (ending.Killed ∷ []) ∷ Some (ending.Killed ∷ []) ∷ Some (ending.Killed ∷ [])
    ∷ Some (ending.Killed ∷ []) ∷ Some (ending.Faulted ∷ []) ∷ Some (ending.Faulted ∷ []) ∷ []
unfolding readers_at_end frame_bytes header_bytes
full_or_killed = refl

-- ---- the store of another script

abbrev dying : LifePlan
dying = record closing { kill = Some (10, 0) }

abbrev first_commit : Script
first_commit = script_of (with_window 1) two (dying ∷ asking_last ∷ [])

abbrev store : Files
store = (run 16 first_commit (dying ∷ []) ([], [])).behind

store_headers : headers store ≡ (254, 1, 0) ∷ (0, 0, 0) ∷ []
unfolding readers_at_end frame_bytes header_bytes
store_headers = refl

-- how a store opens, and the first key of it that isn't the log's
abbrev opening : Script → Files → Result (ℕ × Option (List ℕ)) Damage
opening script files =
    result_map_both (λ one. (one.version, first_difference one.base (base_of script.log (opening_of one)))) (λ damage. damage)
    (opened script.own files)

own_store : opening first_commit store ≡ Ok (1, None)
unfolding readers_at_end frame_bytes header_bytes
own_store = refl

abbrev other_log : List Batch
other_log = sets 1 (50 ∷ []) ∷ empty 2 ∷ []

foreign_store : opening (record first_commit { log = other_log }) store ≡ Ok (1, Some a)
unfolding readers_at_end frame_bytes header_bytes
foreign_store = refl

-- another byte at place 1
abbrev damaged : Files
damaged = (overwritten 1 (0 ∷ []) store.0, store.1)

damaged_store : opening first_commit damaged ≡ Err (File 0 1)
unfolding readers_at_end frame_bytes header_bytes
damaged_store = refl
