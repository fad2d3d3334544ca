-- Worked scripts, their lives and the files that they leave, computed from the definitions alone.
use Rattle.std.proofs.Common.{◌≡◌, ℕ, List, [], ◌∷◌, ◌++◌, map, take, Option, Some, refl}
use Rattle.std.specs.Option.{option_map}
use Rattle.std.specs.Result.{IsOkAnd}
use Rattle.rand_core.specs.Pcg32Seed.{pcg32_seed}
use Rattle.rand_core.specs.Steps.{u32_at, word_bytes}
use Rattle.st_fold.specs.declared.plan.LifePlan.{LifePlan}
use Rattle.st_fold.specs.declared.plan.Script.{Script}
use Rattle.st_fold.specs.declared.report.Ending.TheVariants as ending
use Rattle.st_fold.specs.declared.report.Event.TheVariants.{Opened, Applied, Began, Durable}
use Rattle.st_fold.specs.declared.report.Life.{Life}
use Rattle.st_fold.specs.declared.request.Answer.TheVariants.{Value, Absent, TooOld, FutureVersion}
use Rattle.st_mutation.specs.declared.batch.Batch.{Batch}
use Rattle.st_model.specs.Schedule.{readers_at_end}
use Rattle.st_queue.specs.Writing.{frame_bytes, header_bytes}
use Rattle.st_life.proofs.RowParts.{answered, apply, empty, flush, gets, life, life_to, poll, script_of, sets, with_window}
use Rattle.st_life.proofs.Runs.{Run, are-played, lives_of, run}
use Rattle.st_life.specs.Lives.{ArePlayed, IsServed}
use Rattle.st_life.specs.Play.{start_on}

-- ---- a window that moves, over two lives

abbrev nine : List Batch
nine =
    sets 1 (49 ∷ []) ∷ sets 2 (50 ∷ []) ∷ sets 3 (51 ∷ []) ∷ sets 4 (52 ∷ []) ∷ sets 5 (53 ∷ []) ∷ sets 6 (54 ∷ []) ∷ sets 7 (55 ∷ [])
    ∷ sets 8 (56 ∷ []) ∷ sets 9 (57 ∷ []) ∷ []

abbrev moving : LifePlan
moving = record (life_to 9) {
  asks = gets 1 1 3 ∷ gets 2 1 4 ∷ gets 3 1 9 ∷ [];
  dos = apply 9 ∷ flush ∷ [];
}

abbrev window_moves : Script
window_moves = script_of (with_window 5) nine (moving ∷ [])

abbrev moved : Life
moved = life 0
    (Opened 0 ∷ Applied 1 ∷ Applied 2 ∷ Applied 3 ∷ Applied 4 ∷ Applied 5 ∷ Applied 6 ∷ Applied 7 ∷ Applied 8 ∷ Applied 9 ∷ Began 4
    ∷ Durable 4 ∷ [])
    (answered 1 (12 ∷ []) (TooOld 4) ∷ answered 2 (12 ∷ []) (Value (52 ∷ [])) ∷ answered 3 (12 ∷ []) (Value (57 ∷ [])) ∷ [])
    ending.Closed

window_is_moved : lives_of (run 24 window_moves (moving ∷ []) ([], [])) ≡ Some (moved ∷ [])
unfolding readers_at_end frame_bytes header_bytes
window_is_moved = refl

abbrev after_moves : LifePlan
after_moves = record (life_to 9) {
  asks = gets 4 1 4 ∷ gets 5 1 5 ∷ [];
  lasts = gets 6 0 9 ∷ [];
  dos = poll 4 ∷ [];
}

abbrev second_life : Script
second_life = script_of (with_window 5) nine (moving ∷ after_moves ∷ [])

abbrev moved_on : Life
moved_on = life 4 (Opened 4 ∷ Applied 5 ∷ Applied 6 ∷ Applied 7 ∷ Applied 8 ∷ Applied 9 ∷ [])
    (answered 4 (1 ∷ []) (Value (52 ∷ [])) ∷ answered 5 (1 ∷ 1 ∷ 1 ∷ []) (FutureVersion 4 3) ∷ answered 6 (6 ∷ []) (Value (57 ∷ [])) ∷ [])
    ending.Closed

-- it opens at what the first one made durable
second_life_goes_on : lives_of (run 24 second_life (moving ∷ after_moves ∷ []) ([], [])) ≡ Some (moved ∷ moved_on ∷ [])
unfolding readers_at_end frame_bytes header_bytes
second_life_goes_on = refl

second_life_is_played : ArePlayed second_life (moving ∷ after_moves ∷ []) ([], []) (moved ∷ moved_on ∷ [])
    (run 24 second_life (moving ∷ after_moves ∷ []) ([], [])).behind
second_life_is_played =
    are-played 24 second_life (moving ∷ after_moves ∷ []) ([], []) (moved ∷ moved_on ∷ []) second_life_goes_on

-- before the first batch there is no value
abbrev getting_first : LifePlan
getting_first = record (life_to 9) { asks = gets 1 1 0 ∷ []; dos = poll 1 ∷ [] }

nothing_at_0 : option_map (map (λ one. one.answers)) (lives_of (run 24 (script_of (with_window 5) nine (getting_first ∷ [])) (getting_first ∷ []) ([], [])))
    ≡ Some ((answered 1 (1 ∷ []) Absent ∷ []) ∷ [])
unfolding readers_at_end frame_bytes header_bytes
nothing_at_0 = refl

-- ---- a first commit that is cut off

abbrev two : List Batch
two = sets 1 (49 ∷ []) ∷ empty 2 ∷ []

abbrev dying : (calls choice : ℕ) → LifePlan
dying calls choice = record (life_to 2) { dos = apply 2 ∷ flush ∷ []; kill = Some (calls, choice) }

abbrev asking_last : LifePlan
asking_last = record (life_to 2) { lasts = gets 1 0 2 ∷ [] }

abbrev first_commit : (calls choice : ℕ) → Script
first_commit calls choice = script_of (with_window 1) two (dying calls choice ∷ asking_last ∷ [])

abbrev killed : (calls choice : ℕ) → Run
killed calls choice = run 16 (first_commit calls choice) (dying calls choice ∷ asking_last ∷ []) ([], [])

abbrev ten : List ℕ
ten = 0 ∷ 1 ∷ 2 ∷ 3 ∷ 4 ∷ 5 ∷ 6 ∷ 7 ∷ 8 ∷ 9 ∷ 10 ∷ []

abbrev cut_off : Life
cut_off = life 0 (Opened 0 ∷ Applied 1 ∷ Applied 2 ∷ Began 1 ∷ []) [] ending.Killed

abbrev committed : Life
committed = life 0 (Opened 0 ∷ Applied 1 ∷ Applied 2 ∷ Began 1 ∷ Durable 1 ∷ []) [] ending.Killed

abbrev from_0 : Life
from_0 = life 0 (Opened 0 ∷ Applied 1 ∷ Applied 2 ∷ Began 1 ∷ Durable 1 ∷ []) (answered 1 (5 ∷ []) (Value (49 ∷ [])) ∷ []) ending.Closed

abbrev from_1 : Life
from_1 = life 1 (Opened 1 ∷ Applied 2 ∷ []) (answered 1 (2 ∷ []) (Value (49 ∷ [])) ∷ []) ending.Closed

-- what was synced is left
first_commit_synced : map (λ calls. lives_of (killed calls 0)) ten
    ≡ Some (cut_off ∷ from_0 ∷ []) ∷ Some (cut_off ∷ from_0 ∷ []) ∷ Some (cut_off ∷ from_0 ∷ []) ∷ Some (cut_off ∷ from_0 ∷ []) ∷ Some (cut_off ∷ from_0 ∷ [])
    ∷ Some (cut_off ∷ from_0 ∷ []) ∷ Some (cut_off ∷ from_0 ∷ []) ∷ Some (cut_off ∷ from_0 ∷ []) ∷ Some (cut_off ∷ from_0 ∷ []) ∷ Some (cut_off ∷ from_0 ∷ [])
    ∷ Some (committed ∷ from_1 ∷ []) ∷ []
unfolding readers_at_end frame_bytes header_bytes
first_commit_synced = refl

-- both lives are served ones
dying_is_served : IsOkAnd (start_on (first_commit 3 0) (dying 3 0) ([], [])) (IsServed (first_commit 3 0) (dying 3 0))
unfolding frame_bytes header_bytes
dying_is_served = record {
  is_given = refl;
  is_to_do = refl;
  servable = record { own = refl; no_moves = (refl, (refl, tt)); available = refl };
  servable_plan = record { asks = tt; lasts = tt; dos = (tt, (tt, tt)); no_fails = refl };
}

next_is_served : IsOkAnd (start_on (first_commit 10 0) asking_last (run 16 (first_commit 10 0) (dying 10 0 ∷ []) ([], [])).behind)
    (IsServed (first_commit 10 0) asking_last)
unfolding readers_at_end frame_bytes header_bytes
next_is_served = record {
  is_given = refl;
  is_to_do = refl;
  servable = record { own = refl; no_moves = (refl, (refl, tt)); available = refl };
  servable_plan = record { asks = tt; lasts = (record { last = refl; versioned = refl }, tt); dos = tt; no_fails = refl };
}

-- or all that was written
first_commit_written : map (λ calls. lives_of (killed calls 1)) ten
    ≡ Some (cut_off ∷ from_0 ∷ []) ∷ Some (cut_off ∷ from_0 ∷ []) ∷ Some (cut_off ∷ from_0 ∷ []) ∷ Some (cut_off ∷ from_0 ∷ []) ∷ Some (cut_off ∷ from_0 ∷ [])
    ∷ Some (cut_off ∷ from_0 ∷ []) ∷ Some (cut_off ∷ from_0 ∷ []) ∷ Some (cut_off ∷ from_0 ∷ []) ∷ Some (cut_off ∷ from_0 ∷ []) ∷ Some (cut_off ∷ from_1 ∷ [])
    ∷ Some (committed ∷ from_1 ∷ []) ∷ []
unfolding readers_at_end frame_bytes header_bytes
first_commit_written = refl

-- or any bytes in the place of those that weren't synced
abbrev but_nine : List ℕ
but_nine = 0 ∷ 1 ∷ 2 ∷ 3 ∷ 4 ∷ 5 ∷ 6 ∷ 7 ∷ 8 ∷ 10 ∷ []

abbrev none_or_all : List (Option (List Life))
none_or_all = map (λ calls. Some (cut_off ∷ from_0 ∷ [])) (take 9 but_nine) ++ Some (committed ∷ from_1 ∷ []) ∷ []

first_commit_torn : map (λ choice. map (λ calls. lives_of (killed calls choice)) but_nine) (2 ∷ 3 ∷ 7 ∷ [])
    ≡ none_or_all ∷ none_or_all ∷ none_or_all ∷ []
unfolding readers_at_end frame_bytes header_bytes pcg32_seed word_bytes u32_at
first_commit_torn = refl

-- Behind nine calls the frame's gate alone isn't synced. The first word of the choice's generator decides what is left of it:
-- that of 7 is 1 modulo 4, so the new byte stays, and of the others from 2 to 9 none makes it a 1
gate_is_torn : map (λ choice. lives_of (killed 9 choice)) (2 ∷ 3 ∷ 4 ∷ 5 ∷ 6 ∷ 7 ∷ 8 ∷ 9 ∷ [])
    ≡ Some (cut_off ∷ from_0 ∷ []) ∷ Some (cut_off ∷ from_0 ∷ []) ∷ Some (cut_off ∷ from_0 ∷ []) ∷ Some (cut_off ∷ from_0 ∷ [])
    ∷ Some (cut_off ∷ from_0 ∷ []) ∷ Some (cut_off ∷ from_1 ∷ []) ∷ Some (cut_off ∷ from_0 ∷ []) ∷ Some (cut_off ∷ from_0 ∷ []) ∷ []
unfolding readers_at_end frame_bytes header_bytes pcg32_seed word_bytes u32_at
gate_is_torn = refl
