-- Worked scripts with watches, with the reports that they demand.
use Rattle.std.proofs.Common.{◌≡◌, ℕ, true, false, List, [], ◌∷◌, ◌++◌, map, Option, None, Some, refl}
use Rattle.st_mutation.specs.declared.batch.Move.TheVariants.{Release}
use Rattle.st_mutation.specs.declared.batch.Mutation.TheVariants.{Set}
use Rattle.st_fold.specs.declared.plan.Act.TheVariants.{Apply}
use Rattle.st_fold.specs.declared.plan.LifePlan.{LifePlan}
use Rattle.st_fold.specs.declared.plan.Script.{Script}
use Rattle.st_fold.specs.declared.report.Ending.TheVariants as ending
use Rattle.st_fold.specs.declared.report.Event.{Event}
use Rattle.st_fold.specs.declared.report.Event.TheVariants.{Opened, Applied, Began, Watched, Unwatched, Closed, Killed}
use Rattle.st_fold.specs.declared.report.Life.{Life}
use Rattle.st_fold.specs.declared.request.Answer.TheVariants.{Fired, Waiting, WrongShard, TooManyWatches, Stopped}
use Rattle.st_fold.specs.declared.request.Ask.TheVariants as ask
use Rattle.st_fold.specs.declared.request.Request.{Request}
use Rattle.st_model.specs.declared.piece.Phase.TheVariants as phase
use Rattle.st_model.specs.Pieces.{all_keys}
use Rattle.st_model.specs.Report.{IsDemanded, IsLife, fresh, given_by}
use Rattle.st_model.specs.Schedule.{Plays, readers_at_end}
use Rattle.st_model.specs.Session.{over, never}
use Rattle.st_model.specs.State.{Given}
use Rattle.st_model.specs.Trace.{state_after, state_at}
use Rattle.st_model.specs.Watching.{Demanded, led_to, names}
use Rattle.st_model.proofs.Demands.{begun, closes, closes_alone, dies_in_flight}
use Rattle.st_model.proofs.Played.{plays}
use Rattle.st_model.proofs.RowParts.{all, answered, asks, batch, does, empty, key, life, life_to, poll, sets, settings, span, stage}

abbrev watches : ℕ → ℕ → ℕ → Option (List ℕ) → Request
watches number reader byte value = asks number reader (ask.Watch (key byte) value)

-- ---- the value turns and turns back between two polls

abbrev watching : LifePlan
watching = record (life_to 3) {
  asks = watches 1 1 97 (Some (key 65)) ∷ [];
  dos = does Apply 1 ∷ poll 1 1 ∷ does Apply 2 ∷ poll 1 1 ∷ [];
}

abbrev watch_fires : Script
watch_fires = record {
  settings = settings;
  own = all_keys ∷ [];
  log = sets 1 97 65 ∷ sets 2 97 66 ∷ sets 3 97 65 ∷ [];
  lives = watching ∷ [];
}

abbrev looked_twice : List Event
looked_twice = Opened 0 ∷ Applied 1 ∷ Watched 1 (key 97) (Some (key 65)) ∷ Applied 2 ∷ Applied 3 ∷ Unwatched 1 ∷ []

abbrev fired : Life
fired = life 0 looked_twice (answered 1 (2 ∷ 5 ∷ []) (Fired 2) ∷ []) ending.Closed

watch_fires_demanded : IsDemanded watch_fires (fresh watch_fires) 0 None (begun watching (all 0) fired ∷ [])
watch_fires_demanded =
    closes_alone watch_fires watching looked_twice fired.answers refl
    (closes (given_by watch_fires watching) (all 0) watching looked_twice fired.answers (refl, refl, tt)
    refl refl refl refl refl refl refl refl refl)

watch_fires_played : Plays (stage watch_fires watching (all 0) 10) fired
unfolding readers_at_end
watch_fires_played = plays (stage watch_fires watching (all 0) 10) 100 refl refl

-- ---- the key is taken away

abbrev watch_lost : Script
watch_lost = record watch_fires { log = sets 1 97 65 ∷ batch 2 (Release (span (key 97) (key 98)) ∷ []) [] ∷ sets 3 97 65 ∷ [] }

abbrev lost : Life
lost = life 0 looked_twice (answered 1 (2 ∷ 5 ∷ []) (WrongShard (key 97)) ∷ []) ending.Closed

watch_lost_demanded : IsDemanded watch_lost (fresh watch_lost) 0 None (begun watching (all 0) lost ∷ [])
watch_lost_demanded =
    closes_alone watch_lost watching looked_twice lost.answers refl
    (closes (given_by watch_lost watching) (all 0) watching looked_twice lost.answers (refl, refl, tt)
    refl refl refl refl refl refl refl refl refl)

watch_lost_played : Plays (stage watch_lost watching (all 0) 10) lost
unfolding readers_at_end
watch_lost_played = plays (stage watch_lost watching (all 0) 10) 100 refl refl

-- ---- one watch alone may stand

abbrev watching_both : LifePlan
watching_both = record (life_to 0) {
  asks = watches 1 1 97 None ∷ watches 2 2 98 None ∷ [];
  dos = poll 1 1 ∷ poll 2 1 ∷ [];
}

abbrev one_watch : Script
one_watch = record { settings = record settings { watches = 1 }; own = all_keys ∷ []; log = []; lives = watching_both ∷ [] }

abbrev watched_once : List Event
watched_once = Opened 0 ∷ Watched 1 (key 97) None ∷ Unwatched 1 ∷ []

abbrev one_stood : Life
one_stood = life 0 watched_once (answered 1 (1 ∷ 2 ∷ 2 ∷ []) Waiting ∷ answered 2 (2 ∷ []) (TooManyWatches 1) ∷ []) ending.Closed

one_watch_demanded : IsDemanded one_watch (fresh one_watch) 0 None (begun watching_both (all 0) one_stood ∷ [])
one_watch_demanded =
    closes_alone one_watch watching_both watched_once one_stood.answers refl
    (closes (given_by one_watch watching_both) (all 0) watching_both watched_once one_stood.answers (refl, refl, (refl, refl, tt))
    refl refl refl refl refl refl refl refl refl)

one_watch_played : Plays (stage one_watch watching_both (all 0) 10) one_stood
unfolding readers_at_end
one_watch_played = plays (stage one_watch watching_both (all 0) 10) 100 refl refl

-- ---- two watches of one reader, the second registered by the poll after the one that answered the first

abbrev watching_twice : LifePlan
watching_twice = record (life_to 2) {
  asks = watches 1 1 97 None ∷ watches 2 1 97 (Some (key 49)) ∷ [];
  dos = poll 1 1 ∷ does Apply 2 ∷ poll 1 1 ∷ poll 1 1 ∷ [];
}

abbrev watch_polls : Script
watch_polls = record { settings = settings; own = all_keys ∷ []; log = sets 1 97 49 ∷ empty 2 ∷ []; lives = watching_twice ∷ [] }

abbrev one_after_the_other : List Event
one_after_the_other =
    Opened 0 ∷ Watched 1 (key 97) None ∷ Applied 1 ∷ Applied 2 ∷ Unwatched 1 ∷ Watched 2 (key 97) (Some (key 49)) ∷ Unwatched 2 ∷ []

abbrev both_watched : Life
both_watched = life 0 one_after_the_other (answered 1 (1 ∷ 4 ∷ []) (Fired 1) ∷ answered 2 (5 ∷ 6 ∷ 6 ∷ []) Waiting ∷ []) ending.Closed

watch_polls_demanded : IsDemanded watch_polls (fresh watch_polls) 0 None (begun watching_twice (all 0) both_watched ∷ [])
watch_polls_demanded =
    closes_alone watch_polls watching_twice one_after_the_other both_watched.answers refl
    (closes (given_by watch_polls watching_twice) (all 0) watching_twice one_after_the_other both_watched.answers (refl, refl, (refl, refl, tt))
    refl refl refl refl refl refl refl refl refl)

watch_polls_played : Plays (stage watch_polls watching_twice (all 0) 10) both_watched
unfolding readers_at_end
watch_polls_played = plays (stage watch_polls watching_twice (all 0) 10) 100 refl refl

-- ---- a life is killed in a commit while a watch stands

abbrev watching_to_death : LifePlan
watching_to_death = record (life_to 2) { asks = watches 1 1 97 None ∷ []; dos = poll 1 1 ∷ does Apply 2 ∷ []; kill = Some (3, 0) }

abbrev watch_dies : Script
watch_dies = record {
  settings = record settings { window = 1 };
  own = all_keys ∷ [];
  log = sets 1 97 49 ∷ empty 2 ∷ [];
  lives = watching_to_death ∷ life_to 2 ∷ [];
}

abbrev watched_to_death : List Event
watched_to_death = Opened 0 ∷ Watched 1 (key 97) None ∷ Applied 1 ∷ Applied 2 ∷ Began 1 ∷ []

abbrev died : Life
died = life 0 watched_to_death (answered 1 (1 ∷ []) Stopped ∷ []) ending.Killed

dies_watching : IsLife (given_by watch_dies watching_to_death) (all 0) watching_to_death died
dies_watching =
    dies_in_flight (given_by watch_dies watching_to_death) (all 0) watching_to_death watched_to_death died.answers 3 0 (refl, refl, tt)
    refl refl refl refl refl refl refl refl refl

watch_dies_played : Plays (stage watch_dies watching_to_death (all 0) 10) died
unfolding readers_at_end
watch_dies_played = plays (stage watch_dies watching_to_death (all 0) 10) 100 refl refl

-- ---- a watch of a key that isn't served is refused so, also where no more may stand

abbrev watching_beside : LifePlan
watching_beside = record (life_to 0) { asks = watches 1 1 96 None ∷ watches 2 2 97 None ∷ []; dos = poll 1 1 ∷ poll 2 1 ∷ [] }

abbrev watch_beside : Script
watch_beside = record {
  settings = record settings { watches = 1 };
  own = span [] (key 97) ∷ [];
  log = [];
  lives = watching_beside ∷ [];
}

abbrev stood_beside : List Event
stood_beside = Opened 0 ∷ Watched 1 (key 96) None ∷ Unwatched 1 ∷ []

abbrev refused_beside : Life
refused_beside = life 0 stood_beside (answered 1 (1 ∷ 2 ∷ 2 ∷ []) Waiting ∷ answered 2 (2 ∷ []) (WrongShard (key 97)) ∷ []) ending.Closed

watch_beside_demanded : IsDemanded watch_beside (fresh watch_beside) 0 None (begun watching_beside (fresh watch_beside) refused_beside ∷ [])
watch_beside_demanded =
    closes_alone watch_beside watching_beside stood_beside refused_beside.answers refl
    (closes (given_by watch_beside watching_beside) (fresh watch_beside) watching_beside stood_beside refused_beside.answers
    (refl, refl, (refl, refl, tt)) refl refl refl refl refl refl refl refl refl)

watch_beside_played : Plays (stage watch_beside watching_beside (fresh watch_beside) 10) refused_beside
unfolding readers_at_end
watch_beside_played = plays (stage watch_beside watching_beside (fresh watch_beside) 10) 100 refl refl

-- ---- at the end the readers poll in the order of their numbers, whatever that of their requests

abbrev watching_in_turn : LifePlan
watching_in_turn = record (life_to 0) { asks = watches 1 2 97 None ∷ watches 2 1 98 None ∷ [] }

abbrev two_watchers : Script
two_watchers = record { settings = settings; own = all_keys ∷ []; log = []; lives = watching_in_turn ∷ [] }

abbrev stood_in_turn : List Event
stood_in_turn = Opened 0 ∷ Watched 2 (key 98) None ∷ Unwatched 2 ∷ Watched 1 (key 97) None ∷ Unwatched 1 ∷ []

abbrev both_stood : Life
both_stood = life 0 stood_in_turn (answered 1 (3 ∷ 4 ∷ 4 ∷ []) Waiting ∷ answered 2 (1 ∷ 2 ∷ 2 ∷ []) Waiting ∷ []) ending.Closed

two_watchers_demanded : IsDemanded two_watchers (fresh two_watchers) 0 None (begun watching_in_turn (all 0) both_stood ∷ [])
two_watchers_demanded =
    closes_alone two_watchers watching_in_turn stood_in_turn both_stood.answers refl
    (closes (given_by two_watchers watching_in_turn) (all 0) watching_in_turn stood_in_turn both_stood.answers (refl, refl, (refl, refl, tt))
    refl refl refl refl refl refl refl refl refl)

two_watchers_played : Plays (stage two_watchers watching_in_turn (all 0) 10) both_stood
unfolding readers_at_end
two_watchers_played = plays (stage two_watchers watching_in_turn (all 0) 10) 100 refl refl

-- ---- a watch that may be polled once alone

abbrev watching_shortly : LifePlan
watching_shortly = record (life_to 0) { asks = watches 1 1 97 None ∷ [] }

abbrev impatient : Script
impatient = record { settings = record settings { patience = 1 }; own = all_keys ∷ []; log = []; lives = watching_shortly ∷ [] }

abbrev stood_shortly : Life
stood_shortly = life 0 watched_once (answered 1 (1 ∷ []) Waiting ∷ []) ending.Closed

impatient_demanded : IsDemanded impatient (fresh impatient) 0 None (begun watching_shortly (all 0) stood_shortly ∷ [])
impatient_demanded =
    closes_alone impatient watching_shortly watched_once stood_shortly.answers refl
    (closes (given_by impatient watching_shortly) (all 0) watching_shortly watched_once stood_shortly.answers (refl, refl, tt)
    refl refl refl refl refl refl refl refl refl)

impatient_played : Plays (stage impatient watching_shortly (all 0) 10) stood_shortly
unfolding readers_at_end
impatient_played = plays (stage impatient watching_shortly (all 0) 10) 100 refl refl

-- ---- other polls of these watches

abbrev turning : Given
turning = given_by watch_fires watching

abbrev watched_legally : List Event
watched_legally = looked_twice ++ Closed ∷ []

-- where the watch stands
watch_stands : state_at turning (all 0) watched_legally 3
    ≡ Some (record {
      newest = 1;
      oldest = 0;
      durable = 0;
      available = all_keys ∷ [];
      flight = None;
      pieces = record { begin = []; end = key 255; phase = phase.Readable } ∷ [];
      watches = record { number = 1; key = key 97; value = Some (key 65); since = 1 } ∷ [];
    })
watch_stands = refl

-- polled once more after its answer, or registered elsewhere
polled_on : led_to turning (all 0) watched_legally (watches 1 1 97 (Some (key 65))) (2 ∷ 5 ∷ 5 ∷ []) ≡ never
polled_on = refl

registered_elsewhere : led_to turning (all 0) watched_legally (watches 1 1 97 (Some (key 65))) (1 ∷ 5 ∷ []) ≡ never
registered_elsewhere = refl

-- cut short while it waits
cut_short : Demanded true turning (all 0) (Opened 0 ∷ Applied 1 ∷ Watched 1 (key 97) (Some (key 65)) ∷ Killed ∷ [])
    (watches 1 1 97 (Some (key 65))) (2 ∷ 3 ∷ []) Stopped
cut_short = refl

named : map (λ event. names (watches 1 1 97 (Some (key 65))) (2 ∷ 5 ∷ []) 2 event)
    (Watched 1 (key 97) (Some (key 65)) ∷ Watched 2 (key 97) (Some (key 65)) ∷ Watched 1 (key 97) None ∷ Unwatched 1 ∷ [])
    ≡ true ∷ false ∷ false ∷ false ∷ []
named = refl

-- the batch that takes the key away turns its value too: it is lost then
loses_at_once : led_to
    (record turning {
      log = sets 1 97 65 ∷ batch 2 (Release (span (key 97) (key 98)) ∷ []) (Set (key 97) (key 66) ∷ []) ∷ empty 3 ∷ [];
    })
    (all 0) watched_legally (watches 1 1 97 (Some (key 65))) (2 ∷ 5 ∷ []) ≡ over (WrongShard (key 97))
loses_at_once = refl

-- a watch of a key that isn't served, refused at its first poll, and never registered
refused : led_to (given_by watch_lost watching) (all 0) (Opened 0 ∷ Applied 1 ∷ Applied 2 ∷ Applied 3 ∷ Closed ∷ []) (watches 1 1 97 None) (4 ∷ [])
    ≡ over (WrongShard (key 97))
refused = refl

watched_unserved : state_after (given_by watch_lost watching) (all 0) (Opened 0 ∷ Applied 1 ∷ Applied 2 ∷ Watched 1 (key 97) None ∷ []) ≡ None
watched_unserved = refl

-- one watch more than may stand, one that stands already, and one that is released twice
too_many : state_after (given_by one_watch watching_both) (all 0) (Opened 0 ∷ Watched 1 (key 97) None ∷ Watched 2 (key 98) None ∷ []) ≡ None
too_many = refl

watched_twice : state_after turning (all 0) (Opened 0 ∷ Watched 1 (key 97) None ∷ Watched 1 (key 97) None ∷ []) ≡ None
watched_twice = refl

unwatched_twice : state_after turning (all 0) (Opened 0 ∷ Watched 1 (key 97) None ∷ Unwatched 1 ∷ Unwatched 1 ∷ []) ≡ None
unwatched_twice = refl

-- a watch that fires at its first poll is released by the event after its registration
fires_at_once : led_to (given_by watch_polls watching_twice) (all 0) (Opened 0 ∷ Applied 1 ∷ Watched 1 (key 97) None ∷ Unwatched 1 ∷ [])
    (watches 1 1 97 None) (2 ∷ [])
    ≡ over (Fired 1)
fires_at_once = refl

-- ---- reports of these scripts that aren't demanded

-- a watch that no request made
watches_unasked : IsLife (given_by watch_fires watching) (all 0) watching
    (life 0 (Opened 0 ∷ Applied 1 ∷ Watched 1 (key 97) (Some (key 65)) ∷ Applied 2 ∷ Applied 3 ∷ Unwatched 1 ∷ Watched 2 (key 98) None ∷ [])
    fired.answers ending.Closed) → ⊥
watches_unasked is_life = let e : false ≡ true = is_life.named in cc

-- one that was answered by its second poll and not released
not_released : IsLife (given_by watch_fires watching) (all 0) watching
    (life 0 (Opened 0 ∷ Applied 1 ∷ Watched 1 (key 97) (Some (key 65)) ∷ Applied 2 ∷ Applied 3 ∷ []) fired.answers ending.Closed) → ⊥
not_released is_life = is_life.answered.1

-- one that was stopped with its life, and released all the same
released_though_stopped : IsLife (given_by watch_dies watching_to_death) (all 0) watching_to_death
    (life 0 (Opened 0 ∷ Watched 1 (key 97) None ∷ Applied 1 ∷ Applied 2 ∷ Unwatched 1 ∷ Began 1 ∷ []) (answered 1 (1 ∷ []) Stopped ∷ [])
    ending.Killed) → ⊥
released_though_stopped is_life = is_life.answered.1

-- one that comes again once it was released
watches_again : IsLife (given_by watch_fires watching) (all 0) watching
    (life 0
    (Opened 0 ∷ Applied 1 ∷ Watched 1 (key 97) (Some (key 65)) ∷ Applied 2 ∷ Applied 3 ∷ Unwatched 1 ∷ Watched 1 (key 97) (Some (key 65)) ∷ [])
    fired.answers ending.Closed) → ⊥
watches_again is_life = let e : false ≡ true = is_life.named in cc
