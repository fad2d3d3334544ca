-- Worked scripts whose lives are read and closed, with the reports that they demand.
use Rattle.std.proofs.Common.{◌≡◌, false, List, [], ◌∷◌, length, None, Some, refl, ap, inl, arith}
use Rattle.st_fold.specs.declared.plan.Act.TheVariants.{Apply}
use Rattle.st_fold.specs.declared.plan.LifePlan.{LifePlan}
use Rattle.st_fold.specs.declared.plan.Script.{Script}
use Rattle.st_fold.specs.declared.report.Ending.TheVariants as ending
use Rattle.st_fold.specs.declared.report.Event.{Event}
use Rattle.st_fold.specs.declared.report.Event.TheVariants.{Opened, Applied, Began, Durable, Watched}
use Rattle.st_fold.specs.declared.report.Fault.TheVariants as fault
use Rattle.st_fold.specs.declared.report.Life.{Life}
use Rattle.st_fold.specs.declared.request.Answer.TheVariants.{Value, TooOld, FutureVersion, WrongShard, Stopped}
use Rattle.st_fold.specs.declared.request.Ask.TheVariants as ask
use Rattle.st_model.specs.Pieces.{all_keys}
use Rattle.st_model.specs.Report.{Begun, IsDemanded, IsLife, fresh, given_by}
use Rattle.st_model.specs.Schedule.{Plays, readers_at_end}
use Rattle.st_model.specs.Trace.{state_after}
use Rattle.st_model.proofs.Demands.{begun, closes, closes_alone, two_lives}
use Rattle.st_model.proofs.Played.{plays}
use Rattle.st_model.proofs.RowParts.{all, answered, asks, does, empty, flush, gets, key, life, life_to, poll, sets, settings, span, stage}

-- ---- a batch is applied, and a get at its version finds its value

abbrev getting : LifePlan
getting = record (life_to 1) { asks = gets 1 1 97 1 ∷ []; dos = does Apply 1 ∷ poll 1 1 ∷ [] }

abbrev first_get : Script
first_get = record { settings = settings; own = all_keys ∷ []; log = sets 1 97 49 ∷ []; lives = getting ∷ [] }

abbrev applied : List Event
applied = Opened 0 ∷ Applied 1 ∷ []

abbrev got : Life
got = life 0 applied (answered 1 (2 ∷ []) (Value (key 49)) ∷ []) ending.Closed

first_get_demanded : IsDemanded first_get (fresh first_get) 0 None (begun getting (fresh first_get) got ∷ [])
first_get_demanded =
    closes_alone first_get getting applied got.answers refl
    (closes (given_by first_get getting) (fresh first_get) getting applied got.answers (refl, refl, tt) refl refl refl refl refl refl refl refl refl)

first_get_played : Plays (stage first_get getting (fresh first_get) 10) got
unfolding readers_at_end
first_get_played = plays (stage first_get getting (fresh first_get) 10) 100 refl refl

-- ---- a version that never comes is polled as often as `patience` says

abbrev waiting : LifePlan
waiting = record (life_to 0) { asks = gets 1 1 97 1 ∷ [] }

abbrev future_version : Script
future_version = record { settings = settings; own = all_keys ∷ []; log = []; lives = waiting ∷ [] }

abbrev waited : Life
waited = life 0 (Opened 0 ∷ []) (answered 1 (1 ∷ 1 ∷ 1 ∷ []) (FutureVersion 0 3) ∷ []) ending.Closed

future_version_demanded : IsDemanded future_version (fresh future_version) 0 None (begun waiting (fresh future_version) waited ∷ [])
future_version_demanded =
    closes_alone future_version waiting (Opened 0 ∷ []) waited.answers refl
    (closes (given_by future_version waiting) (fresh future_version) waiting (Opened 0 ∷ []) waited.answers (refl, refl, tt)
    refl refl refl refl refl refl refl refl refl)

future_version_played : Plays (stage future_version waiting (fresh future_version) 10) waited
unfolding readers_at_end
future_version_played = plays (stage future_version waiting (fresh future_version) 10) 100 refl refl

-- ---- a commit moves the window, in which versions are read. The next life opens at its version

abbrev moving : LifePlan
moving = record (life_to 9) {
  asks = gets 1 1 97 3 ∷ gets 2 1 97 4 ∷ gets 3 1 97 9 ∷ [];
  dos = does Apply 9 ∷ flush ∷ [];
}

abbrev moved_on : LifePlan
moved_on = record (life_to 9) {
  asks = gets 4 1 97 4 ∷ gets 5 1 97 5 ∷ [];
  lasts = gets 6 0 97 9 ∷ [];
  dos = poll 1 4 ∷ [];
}

abbrev window_moves : Script
window_moves = record {
  settings = record settings { window = 5 };
  own = all_keys ∷ [];
  log =
      sets 1 97 49 ∷ sets 2 97 50 ∷ sets 3 97 51 ∷ sets 4 97 52 ∷ sets 5 97 53 ∷ sets 6 97 54 ∷ sets 7 97 55 ∷ sets 8 97 56
      ∷ sets 9 97 57 ∷ [];
  lives = moving ∷ [];
}

abbrev second_life : Script
second_life = record window_moves { lives = moving ∷ moved_on ∷ [] }

abbrev nine_applied : List Event
nine_applied =
    Opened 0 ∷ Applied 1 ∷ Applied 2 ∷ Applied 3 ∷ Applied 4 ∷ Applied 5 ∷ Applied 6 ∷ Applied 7 ∷ Applied 8 ∷ Applied 9
    ∷ Began 4 ∷ Durable 4 ∷ []

abbrev moved : Life
moved = life 0 nine_applied
    (answered 1 (12 ∷ []) (TooOld 4) ∷ answered 2 (12 ∷ []) (Value (key 52)) ∷ answered 3 (12 ∷ []) (Value (key 57)) ∷ [])
    ending.Closed

moves_legally : IsLife (given_by window_moves moving) (all 0) moving moved
moves_legally =
    closes (given_by window_moves moving) (all 0) moving nine_applied moved.answers (refl, refl, (refl, refl, (refl, refl, tt)))
    refl refl refl refl refl refl refl refl refl

window_moves_demanded : IsDemanded window_moves (fresh window_moves) 0 None (begun moving (all 0) moved ∷ [])
window_moves_demanded = closes_alone window_moves moving nine_applied moved.answers refl moves_legally

window_moves_played : Plays (stage window_moves moving (all 0) 10) moved
unfolding readers_at_end
window_moves_played = plays (stage window_moves moving (all 0) 10) 100 refl refl

abbrev five_applied : List Event
five_applied = Opened 4 ∷ Applied 5 ∷ Applied 6 ∷ Applied 7 ∷ Applied 8 ∷ Applied 9 ∷ []

abbrev lived_on : Life
lived_on = life 4 five_applied
    (answered 4 (1 ∷ []) (Value (key 52)) ∷ answered 5 (1 ∷ 1 ∷ 1 ∷ []) (FutureVersion 4 3) ∷ answered 6 (6 ∷ []) (Value (key 57)) ∷ [])
    ending.Closed

second_life_demanded : IsDemanded second_life (fresh second_life) 0 None (begun moving (all 0) moved ∷ begun moved_on (all 4) lived_on ∷ [])
second_life_demanded =
    two_lives second_life (begun moving (all 0) moved) (begun moved_on (all 4) lived_on) refl refl moves_legally refl (inl (refl, refl))
    (closes (given_by second_life moved_on) (all 4) moved_on five_applied lived_on.answers (refl, refl, (refl, refl, (refl, refl, tt)))
    refl refl refl refl refl refl refl refl refl)
    refl

second_life_played : Plays (stage second_life moved_on (all 4) 4) lived_on
unfolding readers_at_end
second_life_played = plays (stage second_life moved_on (all 4) 4) 100 refl refl

-- ---- keys that the server never owned

abbrev asking_beside : LifePlan
asking_beside = record (life_to 1) { asks = gets 1 1 98 1 ∷ asks 2 1 (ask.Rows (span (key 96) (key 99)) 5 1000 false 1) ∷ [] }

abbrev not_held : Script
not_held = record { settings = settings; own = span [] (key 97) ∷ []; log = empty 1 ∷ []; lives = asking_beside ∷ [] }

abbrev refused : Life
refused = life 0 applied (answered 1 (2 ∷ []) (WrongShard (key 98)) ∷ answered 2 (2 ∷ []) (WrongShard (key 97)) ∷ []) ending.Closed

not_held_demanded : IsDemanded not_held (fresh not_held) 0 None (begun asking_beside (fresh not_held) refused ∷ [])
not_held_demanded =
    closes_alone not_held asking_beside applied refused.answers refl
    (closes (given_by not_held asking_beside) (fresh not_held) asking_beside applied refused.answers (refl, refl, (refl, refl, tt))
    refl refl refl refl refl refl refl refl refl)

not_held_played : Plays (stage not_held asking_beside (fresh not_held) 10) refused
unfolding readers_at_end
not_held_played = plays (stage not_held asking_beside (fresh not_held) 10) 100 refl refl

watched_beside : state_after (given_by not_held asking_beside) (fresh not_held) (Opened 0 ∷ Applied 1 ∷ Watched 1 (key 98) None ∷ []) ≡ None
watched_beside = refl

-- ---- reports of these scripts that aren't demanded

-- a reader whose second request was polled before its first
place_falls : IsLife (given_by window_moves moving) (all 0) moving
    (life 0 nine_applied
    (answered 1 (12 ∷ []) (TooOld 4) ∷ answered 2 (11 ∷ []) (Value (key 52)) ∷ answered 3 (12 ∷ []) (Value (key 57)) ∷ []) ending.Closed)
    → ⊥
place_falls is_life = omega (arith, (is_life.in_order 1).0)

-- a life that was killed in its commit, of which a request is answered as the next life would, where that commit is durable
answers_from_next_life : IsLife (given_by window_moves moving) (all 0) (record moving { kill = Some (3, 0) })
    (life 0
    (Opened 0 ∷ Applied 1 ∷ Applied 2 ∷ Applied 3 ∷ Applied 4 ∷ Applied 5 ∷ Applied 6 ∷ Applied 7 ∷ Applied 8 ∷ Applied 9 ∷ Began 4 ∷ [])
    (answered 1 (12 ∷ []) (TooOld 4) ∷ answered 2 [] Stopped ∷ answered 3 [] Stopped ∷ []) ending.Killed) → ⊥
answers_from_next_life is_life = let e : TooOld 4 ≡ Value (key 51) = is_life.answered.1 in cc

-- a life after one that faulted
goes_on_after_a_fault : (second : Begun) → IsDemanded second_life (fresh second_life) 9 (Some fault.Memory)
    (begun moving (all 0)
    (life 0 (Opened 0 ∷ []) (answered 1 [] Stopped ∷ answered 2 [] Stopped ∷ answered 3 [] Stopped ∷ []) ending.Faulted) ∷ second ∷ []) → ⊥
goes_on_after_a_fault second report =
    let e : 1 ≡ 0 = ap length (report.lives_are.3 refl) in
    omega (arith, e)

-- a life that tells another version than it opened at, and the lives of a script in another order
opens_otherwise : IsLife (given_by first_get getting) (fresh first_get) getting (record got { opened = 1 }) → ⊥
opens_otherwise is_life = omega (arith, is_life.opened)

in_another_order : (second : Begun) → IsDemanded (record second_life { lives = moved_on ∷ moving ∷ [] }) (fresh second_life) 0 None
    (begun moving (all 0) moved ∷ second ∷ []) → ⊥
in_another_order second report =
    let e : 3 ≡ 2 = ap (λ (plan : LifePlan). length plan.asks) report.lives_are.0 in
    omega (arith, e)
