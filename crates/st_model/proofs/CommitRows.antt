-- A worked script that is killed in its first commit or after it, with the reports that it demands.
use Rattle.std.proofs.Common.{◌≡◌, ℕ, true, false, List, [], ◌∷◌, None, Some, refl, inl, inr, arith}
use Rattle.st_fold.specs.declared.plan.Act.TheVariants.{Apply, Began}
use Rattle.st_fold.specs.declared.plan.Do.TheVariants.{Flush}
use Rattle.st_fold.specs.declared.plan.LifePlan.{LifePlan}
use Rattle.st_fold.specs.declared.plan.Script.{Script}
use Rattle.st_fold.specs.declared.report.Ending.TheVariants as ending
use Rattle.st_fold.specs.declared.report.Event.{Event}
use Rattle.st_fold.specs.declared.report.Event.TheVariants.{Opened, Applied, Durable}
use Rattle.st_fold.specs.declared.report.Event.TheVariants as event
use Rattle.st_fold.specs.declared.report.Fault.TheVariants as fault
use Rattle.st_fold.specs.declared.report.Life.{Life}
use Rattle.st_fold.specs.declared.request.Answer.TheVariants.{Value}
use Rattle.st_model.specs.Pieces.{all_keys}
use Rattle.st_model.specs.Report.{EndsWithin, IsDemanded, IsLife, fresh, given_by}
use Rattle.st_model.specs.Schedule.{Plays, Stage, full, readers_at_end}
use Rattle.st_model.proofs.Demands.{begun, closes, closes_alone, dies_at_rest, dies_in_flight, ends_faulted, faults, how_killed, last_place, two_lives}
use Rattle.st_model.proofs.Played.{plays}
use Rattle.st_model.proofs.RowParts.{all, answered, does, empty, flush, gets, key, life, life_to, poll, sets, settings, stage}

-- the life that is killed after so many calls to the disk
abbrev dying : ℕ → LifePlan
dying calls = record (life_to 2) { dos = does Apply 2 ∷ flush ∷ []; kill = Some (calls, 0) }

abbrev asking_at_end : LifePlan
asking_at_end = record (life_to 2) { lasts = gets 1 0 97 2 ∷ [] }

abbrev first_commit : ℕ → Script
first_commit calls = record {
  settings = record settings { window = 1 };
  own = all_keys ∷ [];
  log = sets 1 97 49 ∷ empty 2 ∷ [];
  lives = dying calls ∷ asking_at_end ∷ [];
}

-- ---- after 3 calls, in the middle of the commit: the next life opens as this one did

abbrev flying : List Event
flying = Opened 0 ∷ Applied 1 ∷ Applied 2 ∷ event.Began 1 ∷ []

abbrev died_in_flight : Life
died_in_flight = life 0 flying [] ending.Killed

abbrev committed : List Event
committed = Opened 0 ∷ Applied 1 ∷ Applied 2 ∷ event.Began 1 ∷ Durable 1 ∷ []

abbrev from_nothing : Life
from_nothing = life 0 committed (answered 1 (5 ∷ []) (Value (key 49)) ∷ []) ending.Closed

flies_legally : IsLife (given_by (first_commit 3) (dying 3)) (all 0) (dying 3) died_in_flight
flies_legally = dies_in_flight (given_by (first_commit 3) (dying 3)) (all 0) (dying 3) flying [] 3 0 tt refl refl refl refl refl refl refl refl refl

in_flight_demanded : IsDemanded (first_commit 3) (fresh (first_commit 3)) 0 None
    (begun (dying 3) (all 0) died_in_flight ∷ begun asking_at_end (all 0) from_nothing ∷ [])
in_flight_demanded =
    two_lives (first_commit 3) (begun (dying 3) (all 0) died_in_flight) (begun asking_at_end (all 0) from_nothing) refl refl flies_legally
    refl (inl (refl, refl))
    (closes (given_by (first_commit 3) asking_at_end) (all 0) asking_at_end committed from_nothing.answers (refl, refl, tt)
    refl refl refl refl refl refl refl refl refl)
    refl

flies_as_written : Plays (stage (first_commit 3) (dying 3) (all 0) 10) died_in_flight
unfolding readers_at_end
flies_as_written = plays (stage (first_commit 3) (dying 3) (all 0) 10) 100 refl refl

-- the killed life left a closed gate, which the next one needn't close again
begins_anew_as_written : Plays (stage (first_commit 3) asking_at_end (all 0) 8) from_nothing
unfolding readers_at_end
begins_anew_as_written = plays (stage (first_commit 3) asking_at_end (all 0) 8) 100 refl refl

-- ---- after all 10 calls of the commit, at rest: the next life opens at its version

abbrev died_at_rest : Life
died_at_rest = life 0 committed [] ending.Killed

abbrev from_commit : Life
from_commit = life 1 (Opened 1 ∷ Applied 2 ∷ []) (answered 1 (2 ∷ []) (Value (key 49)) ∷ []) ending.Closed

rests_legally : IsLife (given_by (first_commit 10) (dying 10)) (all 0) (dying 10) died_at_rest
rests_legally = dies_at_rest (given_by (first_commit 10) (dying 10)) (all 0) (dying 10) committed [] 10 0 tt refl refl refl refl refl refl refl refl

at_rest_demanded : IsDemanded (first_commit 10) (fresh (first_commit 10)) 0 None
    (begun (dying 10) (all 0) died_at_rest ∷ begun asking_at_end (all 1) from_commit ∷ [])
at_rest_demanded =
    two_lives (first_commit 10) (begun (dying 10) (all 0) died_at_rest) (begun asking_at_end (all 1) from_commit) refl refl rests_legally
    refl (inl (refl, refl))
    (closes (given_by (first_commit 10) asking_at_end) (all 1) asking_at_end (Opened 1 ∷ Applied 2 ∷ []) from_commit.answers (refl, refl, tt)
    refl refl refl refl refl refl refl refl refl)
    refl

rests_as_written : Plays (stage (first_commit 10) (dying 10) (all 0) 10) died_at_rest
unfolding readers_at_end
rests_as_written = plays (stage (first_commit 10) (dying 10) (all 0) 10) 100 refl refl

goes_on_as_written : Plays (stage (first_commit 10) asking_at_end (all 1) 4) from_commit
unfolding readers_at_end
goes_on_as_written = plays (stage (first_commit 10) asking_at_end (all 1) 4) 100 refl refl

-- ---- its first commit would make a file longer than it may get, which is seen after the 6 calls that turn to the file

abbrev committing : LifePlan
committing = record (life_to 2) { dos = does Apply 2 ∷ flush ∷ [] }

abbrev file_full : Script
file_full = record (first_commit 0) {
  settings = record settings { window = 1; limit = 200 };
  lives = committing ∷ asking_at_end ∷ [];
}

abbrev filled : Life
filled = life 0 flying [] ending.Faulted

file_full_demanded : IsDemanded file_full (fresh file_full) 10 (Some (fault.Full 254 200)) (begun committing (all 0) filled ∷ [])
file_full_demanded =
    ends_faulted file_full committing (asking_at_end ∷ []) filled (fault.Full 254 200) refl
    (faults (given_by file_full committing) (all 0) committing flying [] tt refl refl refl refl refl refl) refl (λ e. omega (arith, e)) tt

abbrev past_limit : LifePlan → Stage ℕ
past_limit plan = record (stage file_full plan (all 0) 10) { commit = λ next events. full 6 254 200 }

fills_as_written : Plays (past_limit committing) filled
unfolding readers_at_end
fills_as_written = plays (past_limit committing) 100 refl refl

-- a life that is killed before these calls are made, and one that isn't
dies_before_it_fills : Plays (past_limit (dying 5)) died_in_flight
unfolding readers_at_end
dies_before_it_fills = plays (past_limit (dying 5)) 100 refl refl

fills_before_it_dies : Plays (past_limit (dying 6)) filled
unfolding readers_at_end
fills_before_it_dies = plays (past_limit (dying 6)) 100 refl refl

-- ---- a commit that was begun is ended by the first of two flushes, and the second makes one more

abbrev flushing_twice : LifePlan
flushing_twice = record (life_to 3) {
  asks = gets 1 1 97 3 ∷ [];
  dos = does Apply 2 ∷ does Began 1 ∷ does Apply 1 ∷ (Flush, 2) ∷ poll 1 1 ∷ [];
}

abbrev two_flushes : Script
two_flushes = record {
  settings = record settings { window = 1 };
  own = all_keys ∷ [];
  log = sets 1 97 49 ∷ sets 2 97 50 ∷ sets 3 97 51 ∷ [];
  lives = flushing_twice ∷ [];
}

abbrev two_commits : List Event
two_commits = Opened 0 ∷ Applied 1 ∷ Applied 2 ∷ event.Began 1 ∷ Applied 3 ∷ Durable 1 ∷ event.Began 2 ∷ Durable 2 ∷ []

abbrev flushed_twice : Life
flushed_twice = life 0 two_commits (answered 1 (8 ∷ []) (Value (key 51)) ∷ []) ending.Closed

two_flushes_demanded : IsDemanded two_flushes (fresh two_flushes) 0 None (begun flushing_twice (all 0) flushed_twice ∷ [])
two_flushes_demanded =
    closes_alone two_flushes flushing_twice two_commits flushed_twice.answers refl
    (closes (given_by two_flushes flushing_twice) (all 0) flushing_twice two_commits flushed_twice.answers (refl, refl, tt)
    refl refl refl refl refl refl refl refl refl)

two_flushes_played : Plays (stage two_flushes flushing_twice (all 0) 10) flushed_twice
unfolding readers_at_end
two_flushes_played = plays (stage two_flushes flushing_twice (all 0) 10) 100 refl refl

-- ---- a life that is killed in its third commit: of its calls 10 are those of the first one and 4 those of the second

abbrev dying_third : LifePlan
dying_third = record (life_to 4) {
  dos = does Apply 2 ∷ flush ∷ does Apply 1 ∷ flush ∷ does Apply 1 ∷ flush ∷ [];
  kill = Some (17, 0);
}

abbrev three_commits : Script
three_commits = record two_flushes { log = sets 1 97 49 ∷ sets 2 97 50 ∷ sets 3 97 51 ∷ sets 4 97 52 ∷ []; lives = dying_third ∷ [] }

abbrev third_flying : List Event
third_flying =
    Opened 0 ∷ Applied 1 ∷ Applied 2 ∷ event.Began 1 ∷ Durable 1 ∷ Applied 3 ∷ event.Began 2 ∷ Durable 2 ∷ Applied 4 ∷ event.Began 3 ∷ []

third_dies : IsLife (given_by three_commits dying_third) (all 0) dying_third (life 0 third_flying [] ending.Killed)
third_dies =
    dies_in_flight (given_by three_commits dying_third) (all 0) dying_third third_flying [] 17 0 tt refl refl refl refl refl refl refl refl refl

third_dies_as_written : Plays (stage three_commits dying_third (all 0) 10) (life 0 third_flying [] ending.Killed)
unfolding readers_at_end
third_dies_as_written = plays (stage three_commits dying_third (all 0) 10) 100 refl refl

-- ---- how many calls two commits and a part of a third one may make

fewest : EndsWithin 2 8
fewest = (omega arith, omega arith)

most : EndsWithin 2 29
most = (omega arith, omega arith)

too_few : EndsWithin 2 7 → ⊥
too_few within = omega (arith, within.0)

too_many : EndsWithin 2 30 → ⊥
too_many within = omega (arith, within.1)

-- ---- reports of these scripts that aren't demanded

-- killed three calls in where no commit was begun
dies_without_a_flight : IsLife (given_by (first_commit 3) (dying 3)) (all 0) (dying 3) (life 0 (Opened 0 ∷ []) [] ending.Killed) → ⊥
dies_without_a_flight is_life =
    elim (how_killed (given_by (first_commit 3) (dying 3)) (all 0) (dying 3) (Opened 0 ∷ []) [] 3 0 refl is_life) [
      | inl rest ↦ (let e : false ≡ true = rest.0 in cc)
      | inr flight ↦ (let e : false ≡ true = flight.0 in cc)
    ]

-- killed after as many calls as a commit can make, and it isn't durable
dies_not_durable : IsLife (given_by (first_commit 10) (dying 10)) (all 0) (dying 10) died_in_flight → ⊥
dies_not_durable is_life =
    elim (how_killed (given_by (first_commit 10) (dying 10)) (all 0) (dying 10) flying [] 10 0 refl is_life) [
      | inl rest ↦ (let e : false ≡ true = rest.0 in cc)
      | inr flight ↦ omega (arith, flight.1.1)
    ]

-- a request of the end that was answered before the life was at rest
answers_before_rest : IsLife (given_by (first_commit 3) asking_at_end) (all 0) asking_at_end
    (life 0 committed (answered 1 (3 ∷ []) (Value (key 49)) ∷ []) ending.Closed) → ⊥
answers_before_rest is_life =
    omega (
      arith,
      last_place (given_by (first_commit 3) asking_at_end) (all 0) asking_at_end committed (answered 1 (3 ∷ []) (Value (key 49)) ∷ []) 3 refl
          is_life,
    )

-- one that was closed though it was to be killed
closes_unasked : IsLife (given_by (first_commit 10) (dying 10)) (all 0) (dying 10) (life 0 committed [] ending.Closed) → ⊥
closes_unasked is_life = let e : Some (10, 0) ≡ None = is_life.ends.to_close in cc
