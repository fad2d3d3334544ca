-- Worked scripts that are killed while keys are fetched or were taken away, computed from the definitions alone.
use Rattle.std.proofs.Common.{◌≡◌, ℕ, List, [], ◌∷◌, ◌++◌, drop, map, take, Option, Some, refl}
use Rattle.std.specs.List.{range_with_len}
use Rattle.std.specs.Option.{option_map}
use Rattle.std.specs.Result.{result_ok}
use Rattle.rand_core.specs.Pcg32Seed.{pcg32_seed}
use Rattle.rand_core.specs.Steps.{u32_at, word_bytes}
use Rattle.st_disk.specs.History.{Files}
use Rattle.st_fold.specs.declared.plan.Act.{Act}
use Rattle.st_fold.specs.declared.plan.Act.TheVariants as act
use Rattle.st_fold.specs.declared.plan.Do.{Do}
use Rattle.st_fold.specs.declared.plan.Do.TheVariants as step_of
use Rattle.st_fold.specs.declared.plan.LifePlan.{LifePlan}
use Rattle.st_fold.specs.declared.plan.Script.{Script}
use Rattle.st_fold.specs.declared.report.Ending.{Ending}
use Rattle.st_fold.specs.declared.report.Ending.TheVariants as ending
use Rattle.st_fold.specs.declared.report.Event.{Event}
use Rattle.st_fold.specs.declared.report.Event.TheVariants.{Opened, FetchStart, Block, Began}
use Rattle.st_fold.specs.declared.request.Answer.{Answer}
use Rattle.st_fold.specs.declared.request.Answer.TheVariants.{Value, WrongShard}
use Rattle.st_fold.specs.declared.request.Ask.TheVariants as ask
use Rattle.st_key.specs.Spans.{Span}
use Rattle.st_mutation.specs.declared.batch.Batch.{Batch}
use Rattle.st_mutation.specs.declared.batch.Move.TheVariants.{Assign, Release}
use Rattle.st_mutation.specs.declared.batch.Mutation.{Mutation}
use Rattle.st_mutation.specs.declared.batch.Mutation.TheVariants.{Set}
use Rattle.st_model.specs.Schedule.{readers_at_end}
use Rattle.st_ops.specs.declared.op.Op.TheVariants as op
use Rattle.st_queue.specs.Writing.{frame_bytes, header_bytes}
use Rattle.st_life.proofs.RowParts.{a, apply, empty, flush, gets, life_to, poll, script_of, sets, with_window}
use Rattle.st_life.proofs.Runs.{Run, lives_of, run}
use Rattle.st_life.specs.Play.{ops_in_flight, start_on}

abbrev set : (byte value : ℕ) → Mutation
set byte value = Set (byte ∷ []) (value ∷ [])

abbrev does : Act → Do × ℕ
does action = (step_of.Act action, 1)

-- of each life how it opened, how it ended, and what it answered
abbrev told : Run → Option (List (ℕ × Ending × List Answer))
told made = option_map (map (λ one. (one.opened, one.ending, map (λ answered. answered.answer) one.answers))) (lives_of made)

-- ---- killed while keys are fetched

abbrev from_a : Span
from_a = record { begin = a; end = 255 ∷ [] }

abbrev fetching : (calls choice : ℕ) → LifePlan
fetching calls choice = record (life_to 5) {
  asks = record (gets 1 1 4) { ask = ask.Get (98 ∷ []) 4 } ∷ record (gets 2 1 4) { ask = ask.Get (98 ∷ []) 4 } ∷ gets 3 1 5 ∷ [];
  dos =
      apply 2 ∷ does act.Start ∷ does act.Block ∷ apply 1 ∷ does act.Block ∷ flush ∷ apply 1 ∷ poll 1 ∷ apply 1 ∷ flush ∷ poll 2 ∷ [];
  kill = Some (calls, choice);
}

abbrev fetched : LifePlan
fetched = record (life_to 5) { lasts = gets 4 0 5 ∷ [] }

abbrev moving : List Batch
moving =
    record { version = 1; moves = []; mutations = set 97 49 ∷ set 98 50 ∷ set 99 51 ∷ set 100 52 ∷ [] }
    ∷ record { version = 2; moves = Assign from_a ∷ []; mutations = [] } ∷ record { version = 3; moves = []; mutations = set 98 57 ∷ [] }
    ∷ empty 4 ∷ empty 5 ∷ []

abbrev fetch_crash : (calls choice : ℕ) → Script
fetch_crash calls choice = record (script_of (record (with_window 1) { block = 2 }) moving (fetching calls choice ∷ fetched ∷ [])) {
  own = record { begin = []; end = a } ∷ [];
}

abbrev crashed : (calls choice : ℕ) → Option (List (ℕ × Ending × List Answer))
crashed calls choice = option_map (drop 1) (told (run 64 (fetch_crash calls choice) (fetching calls choice ∷ fetched ∷ []) ([], [])))

-- the second life opens at this version, and reads what was fetched
abbrev reopens : ℕ → Option (List (ℕ × Ending × List Answer))
reopens version = Some ((version, ending.Closed, Value (49 ∷ []) ∷ []) ∷ [])

-- it makes its first commit with ten calls, and its second with four
fetch_crash_synced : map (λ calls. crashed calls 0) (range_with_len 0 15)
    ≡ map (λ calls. reopens 0) (range_with_len 0 10) ++ map (λ calls. reopens 2) (range_with_len 10 4) ++ reopens 4 ∷ []
unfolding readers_at_end frame_bytes header_bytes
fetch_crash_synced = refl

fetch_crash_written : map (λ calls. crashed calls 1) (range_with_len 0 15)
    ≡ map (λ calls. reopens 0) (range_with_len 0 9) ++ map (λ calls. reopens 2) (range_with_len 9 4) ++ reopens 4 ∷ reopens 4 ∷ []
unfolding readers_at_end frame_bytes header_bytes
fetch_crash_written = refl

-- whatever stays of what wasn't synced, it reads what was fetched
fetch_crash_torn : map {A = ℕ} (λ choice. map (λ calls. option_map (map (λ one. one.2)) (crashed calls choice)) (range_with_len 0 15)) (2 ∷ 3 ∷ [])
    ≡ map {A = ℕ} (λ choice. map (λ calls. Some ((Value (49 ∷ []) ∷ []) ∷ [])) (range_with_len 0 15)) (2 ∷ 3 ∷ [])
unfolding readers_at_end frame_bytes header_bytes pcg32_seed word_bytes u32_at
fetch_crash_torn = refl

-- its first commit clears the keys that weren't available, and then has the rows that it fetched
abbrev half : Files
half = (run 64 (fetch_crash 10 0) (fetching 10 0 ∷ []) ([], [])).behind

abbrev half_fetched : List Event
half_fetched = Opened 2 ∷ FetchStart a 2 ∷ Block a (99 ∷ []) ∷ Began 2 ∷ []

clears_first : option_map (λ start. take 3 (ops_in_flight start half_fetched)) (result_ok (start_on (fetch_crash 10 0) fetched half))
    ≡ Some (op.Clear a (255 ∷ []) ∷ op.Set a (49 ∷ []) ∷ op.Set (98 ∷ []) (50 ∷ []) ∷ [])
unfolding readers_at_end frame_bytes header_bytes
clears_first = refl

-- ---- killed behind keys that were taken away and given back

abbrev of_a : Span
of_a = record { begin = a; end = 98 ∷ [] }

abbrev taking : LifePlan
taking = record (life_to 4) { asks = gets 1 1 4 ∷ []; dos = apply 4 ∷ flush ∷ does act.Start ∷ poll 1 ∷ []; kill = Some (10, 0) }

abbrev giving : LifePlan
giving = record (life_to 9) { asks = gets 2 1 1 ∷ []; lasts = gets 3 0 9 ∷ []; dos = poll 1 ∷ [] }

abbrev reassigned : Script
reassigned = script_of (with_window 3)
    (sets 1 (49 ∷ []) ∷ record { version = 2; moves = Release of_a ∷ []; mutations = [] }
    ∷ record { version = 3; moves = Assign of_a ∷ []; mutations = [] } ∷ empty 4 ∷ empty 5 ∷ empty 6 ∷ empty 7 ∷ empty 8 ∷ empty 9 ∷ [])
    (taking ∷ giving ∷ [])

reassigned_keys_come_back : told (run 64 reassigned (taking ∷ giving ∷ []) ([], []))
    ≡ Some ((0, ending.Killed, WrongShard a ∷ []) ∷ (1, ending.Closed, Value (49 ∷ []) ∷ Value (49 ∷ []) ∷ []) ∷ [])
unfolding readers_at_end frame_bytes header_bytes
reassigned_keys_come_back = refl
