-- A worked script that is killed while keys are fetched, wherever its commits are cut off, with the reports that it demands.
use Rattle.std.proofs.Common.{◌≡◌, ℕ, ◌<◌, ◌≤◌, true, false, List, [], ◌∷◌, None, Some, refl, inl, inr, arith}
use Rattle.std.proofs.lemmas.Bool.{le-leb, lt-ltb}
use Rattle.st_fold.specs.declared.plan.LifePlan.{LifePlan}
use Rattle.st_fold.specs.declared.plan.Script.{Script}
use Rattle.st_fold.specs.declared.report.Ending.TheVariants as ending
use Rattle.st_fold.specs.declared.report.Event.{Event}
use Rattle.st_fold.specs.declared.report.Event.TheVariants.{Opened, Applied, FetchStart, Block, Began, Durable}
use Rattle.st_fold.specs.declared.report.Life.{Life}
use Rattle.st_fold.specs.declared.request.Answer.TheVariants.{Value, WrongShard, Stopped}
use Rattle.st_model.specs.Report.{Begun, IsDemanded, IsLife, fresh, given_by}
use Rattle.st_model.specs.Schedule.{Plays, readers_at_end}
use Rattle.st_model.specs.State.{Opening}
use Rattle.st_model.proofs.Demands.{begun, closes, dies_at_rest, dies_in_flight, how_killed, two_lives}
use Rattle.st_model.proofs.FetchRows.{below_a, fetched, fetching, shard_fetch, two_blocks}
use Rattle.st_model.proofs.Played.{plays}
use Rattle.st_model.proofs.RowParts.{all, answered, gets, key, life, life_to, stage}

-- the life that fetches is killed after so many calls to the disk, and the next one reads what was fetched
abbrev dying : ℕ → ℕ → LifePlan
dying calls choice = record fetching { kill = Some (calls, choice) }

abbrev asking_at_end : LifePlan
asking_at_end = record (life_to 5) { lasts = gets 4 0 97 5 ∷ [] }

abbrev fetch_crash : ℕ → ℕ → Script
fetch_crash calls choice = record shard_fetch { lives = dying calls choice ∷ asking_at_end ∷ [] }

abbrev holding_below_a : ℕ → Opening
holding_below_a version = record { version = version; available = below_a ∷ [] }

-- ---- the three places at which it may die

abbrev to_first_commit : List Event
to_first_commit =
    Opened 0 ∷ Applied 1 ∷ Applied 2 ∷ FetchStart (key 97) 2 ∷ Block (key 97) (key 99) ∷ Applied 3 ∷ Block (key 97) (key 255) ∷ Began 2
    ∷ []

abbrev died_first : Life
died_first = life 0 to_first_commit (answered 1 [] Stopped ∷ answered 2 [] Stopped ∷ answered 3 [] Stopped ∷ []) ending.Killed

dies_first : (calls choice : ℕ) → calls < 10
    → IsLife (given_by (fetch_crash calls choice) (dying calls choice)) (holding_below_a 0) (dying calls choice) died_first
dies_first calls choice few =
    dies_in_flight (given_by (fetch_crash calls choice) (dying calls choice)) (holding_below_a 0) (dying calls choice) to_first_commit
    died_first.answers calls choice (refl, refl, (refl, refl, (refl, refl, tt))) refl refl refl refl refl refl refl
    (le-leb 0 calls (omega arith)) (lt-ltb calls 10 few)

abbrev to_second_commit : List Event
to_second_commit =
    Opened 0 ∷ Applied 1 ∷ Applied 2 ∷ FetchStart (key 97) 2 ∷ Block (key 97) (key 99) ∷ Applied 3 ∷ Block (key 97) (key 255)
    ∷ Began 2 ∷ Durable 2 ∷ Applied 4 ∷ Applied 5 ∷ Began 4 ∷ []

abbrev died_second : Life
died_second = life 0 to_second_commit
    (answered 1 (10 ∷ []) (WrongShard (key 98)) ∷ answered 2 [] Stopped ∷ answered 3 [] Stopped ∷ []) ending.Killed

dies_second : (calls choice : ℕ) → 10 ≤ calls → calls < 14
    → IsLife (given_by (fetch_crash calls choice) (dying calls choice)) (holding_below_a 0) (dying calls choice) died_second
dies_second calls choice some few =
    dies_in_flight (given_by (fetch_crash calls choice) (dying calls choice)) (holding_below_a 0) (dying calls choice) to_second_commit
    died_second.answers calls choice (refl, refl, (refl, refl, (refl, refl, tt))) refl refl refl refl refl refl refl
    (le-leb 4 calls (omega (arith, some))) (lt-ltb calls 20 (omega (arith, few)))

abbrev died_at_rest : Life
died_at_rest = life 0 two_blocks fetched.answers ending.Killed

rests : (calls choice : ℕ) → IsLife (given_by (fetch_crash calls choice) (dying calls choice)) (holding_below_a 0) (dying calls choice) died_at_rest
rests calls choice =
    dies_at_rest (given_by (fetch_crash calls choice) (dying calls choice)) (holding_below_a 0) (dying calls choice) two_blocks
    fetched.answers calls choice (refl, refl, (refl, refl, (refl, refl, tt))) refl refl refl refl refl refl refl refl

-- ---- the three versions at which the next life may open

abbrev from_0 : List Event
from_0 =
    Opened 0 ∷ Applied 1 ∷ Applied 2 ∷ Began 1 ∷ Durable 1 ∷ FetchStart (key 97) 2 ∷ Block (key 97) (key 99) ∷ Began 1 ∷ Durable 1
    ∷ Block (key 97) (key 255) ∷ Began 1 ∷ Durable 1 ∷ Applied 3 ∷ Began 2 ∷ Durable 2 ∷ Applied 4 ∷ Began 3 ∷ Durable 3 ∷ Applied 5
    ∷ Began 4 ∷ Durable 4 ∷ []

abbrev lived_from_0 : Life
lived_from_0 = life 0 from_0 (answered 4 (21 ∷ []) (Value (key 49)) ∷ []) ending.Closed

abbrev from_2 : List Event
from_2 =
    Opened 2 ∷ FetchStart (key 97) 2 ∷ Block (key 97) (key 99) ∷ Began 2 ∷ Durable 2 ∷ Block (key 97) (key 255) ∷ Began 2 ∷ Durable 2
    ∷ Applied 3 ∷ Applied 4 ∷ Began 3 ∷ Durable 3 ∷ Applied 5 ∷ Began 4 ∷ Durable 4 ∷ []

abbrev lived_from_2 : Life
lived_from_2 = life 2 from_2 (answered 4 (15 ∷ []) (Value (key 49)) ∷ []) ending.Closed

abbrev from_4 : List Event
from_4 = Opened 4 ∷ Applied 5 ∷ []

abbrev lived_from_4 : Life
lived_from_4 = life 4 from_4 (answered 4 (2 ∷ []) (Value (key 49)) ∷ []) ending.Closed

lives_from_0 : (calls choice : ℕ) → IsLife (given_by (fetch_crash calls choice) asking_at_end) (holding_below_a 0) asking_at_end lived_from_0
lives_from_0 calls choice =
    closes (given_by (fetch_crash calls choice) asking_at_end) (holding_below_a 0) asking_at_end from_0 lived_from_0.answers
    (refl, refl, tt) refl refl refl refl refl refl refl refl refl

lives_from_2 : (calls choice : ℕ) → IsLife (given_by (fetch_crash calls choice) asking_at_end) (holding_below_a 2) asking_at_end lived_from_2
lives_from_2 calls choice =
    closes (given_by (fetch_crash calls choice) asking_at_end) (holding_below_a 2) asking_at_end from_2 lived_from_2.answers
    (refl, refl, tt) refl refl refl refl refl refl refl refl refl

lives_from_4 : (calls choice : ℕ) → IsLife (given_by (fetch_crash calls choice) asking_at_end) (all 4) asking_at_end lived_from_4
lives_from_4 calls choice =
    closes (given_by (fetch_crash calls choice) asking_at_end) (all 4) asking_at_end from_4 lived_from_4.answers (refl, refl, tt)
    refl refl refl refl refl refl refl refl refl

-- ---- reports of both lives, by the number of calls

abbrev both : ℕ → ℕ → Life → Opening → Life → List Begun
both calls choice first opening second =
    begun (dying calls choice) (holding_below_a 0) first ∷ begun asking_at_end opening second ∷ []

-- killed in its first commit, it leaves nothing, or that commit
before_first : (calls choice : ℕ) → calls < 10
    → IsDemanded (fetch_crash calls choice) (fresh (fetch_crash calls choice)) 0 None (both calls choice died_first (holding_below_a 0) lived_from_0)
before_first calls choice few =
    two_lives (fetch_crash calls choice) (begun (dying calls choice) (holding_below_a 0) died_first)
    (begun asking_at_end (holding_below_a 0) lived_from_0) refl refl (dies_first calls choice few) refl (inl (refl, refl))
    (lives_from_0 calls choice) refl

behind_first : (calls choice : ℕ) → calls < 10
    → IsDemanded (fetch_crash calls choice) (fresh (fetch_crash calls choice)) 0 None (both calls choice died_first (holding_below_a 2) lived_from_2)
behind_first calls choice few =
    two_lives (fetch_crash calls choice) (begun (dying calls choice) (holding_below_a 0) died_first)
    (begun asking_at_end (holding_below_a 2) lived_from_2) refl refl (dies_first calls choice few) refl (inr refl)
    (lives_from_2 calls choice) refl

-- killed in its second one, it leaves the first one, or both
before_second : (calls choice : ℕ) → 10 ≤ calls → calls < 14
    → IsDemanded (fetch_crash calls choice) (fresh (fetch_crash calls choice)) 0 None (both calls choice died_second (holding_below_a 2) lived_from_2)
before_second calls choice some few =
    two_lives (fetch_crash calls choice) (begun (dying calls choice) (holding_below_a 0) died_second)
    (begun asking_at_end (holding_below_a 2) lived_from_2) refl refl (dies_second calls choice some few) refl (inl (refl, refl))
    (lives_from_2 calls choice) refl

behind_second : (calls choice : ℕ) → 10 ≤ calls → calls < 14
    → IsDemanded (fetch_crash calls choice) (fresh (fetch_crash calls choice)) 0 None (both calls choice died_second (all 4) lived_from_4)
behind_second calls choice some few =
    two_lives (fetch_crash calls choice) (begun (dying calls choice) (holding_below_a 0) died_second)
    (begun asking_at_end (all 4) lived_from_4) refl refl (dies_second calls choice some few) refl (inr refl)
    (lives_from_4 calls choice) refl

-- with more calls it comes to rest
at_rest : (calls choice : ℕ)
    → IsDemanded (fetch_crash calls choice) (fresh (fetch_crash calls choice)) 0 None (both calls choice died_at_rest (all 4) lived_from_4)
at_rest calls choice =
    two_lives (fetch_crash calls choice) (begun (dying calls choice) (holding_below_a 0) died_at_rest)
    (begun asking_at_end (all 4) lived_from_4) refl refl (rests calls choice) refl (inl (refl, refl)) (lives_from_4 calls choice) refl

-- ---- these are the lives that the schedule makes

dies_first_as_written : Plays (stage (fetch_crash 9 0) (dying 9 0) (holding_below_a 0) 10) died_first
unfolding readers_at_end
dies_first_as_written = plays (stage (fetch_crash 9 0) (dying 9 0) (holding_below_a 0) 10) 100 refl refl

dies_second_as_written : Plays (stage (fetch_crash 10 0) (dying 10 0) (holding_below_a 0) 10) died_second
unfolding readers_at_end
dies_second_as_written = plays (stage (fetch_crash 10 0) (dying 10 0) (holding_below_a 0) 10) 100 refl refl

dies_second_late_as_written : Plays (stage (fetch_crash 13 0) (dying 13 0) (holding_below_a 0) 10) died_second
unfolding readers_at_end
dies_second_late_as_written = plays (stage (fetch_crash 13 0) (dying 13 0) (holding_below_a 0) 10) 100 refl refl

rests_as_written : Plays (stage (fetch_crash 14 0) (dying 14 0) (holding_below_a 0) 10) died_at_rest
unfolding readers_at_end
rests_as_written = plays (stage (fetch_crash 14 0) (dying 14 0) (holding_below_a 0) 10) 100 refl refl

lives_from_0_as_written : Plays (stage (fetch_crash 9 0) asking_at_end (holding_below_a 0) 4) lived_from_0
unfolding readers_at_end
lives_from_0_as_written = plays (stage (fetch_crash 9 0) asking_at_end (holding_below_a 0) 4) 100 refl refl

lives_from_2_as_written : Plays (stage (fetch_crash 13 0) asking_at_end (holding_below_a 2) 4) lived_from_2
unfolding readers_at_end
lives_from_2_as_written = plays (stage (fetch_crash 13 0) asking_at_end (holding_below_a 2) 4) 100 refl refl

lives_from_4_as_written : Plays (stage (fetch_crash 14 0) asking_at_end (all 4) 4) lived_from_4
unfolding readers_at_end
lives_from_4_as_written = plays (stage (fetch_crash 14 0) asking_at_end (all 4) 4) 100 refl refl

-- ---- a life that was killed after fewer calls than its commits make

dies_too_late : IsLife (given_by (fetch_crash 3 0) (dying 3 0)) (holding_below_a 0) (dying 3 0) died_second → ⊥
dies_too_late is_life =
    elim (how_killed (given_by (fetch_crash 3 0) (dying 3 0)) (holding_below_a 0) (dying 3 0) to_second_commit died_second.answers 3 0 refl
    is_life) [
      | inl rest ↦ (let e : false ≡ true = rest.0 in cc)
      | inr flight ↦ omega (arith, flight.1.0)
    ]
