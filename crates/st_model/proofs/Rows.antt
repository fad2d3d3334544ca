-- Lives that worked schedules make of a server that owns all keys.
use Rattle.std.proofs.Common.{◌≡◌, ℕ, pos, true, false, [], ◌∷◌, refl}
use Rattle.st_mutation.specs.declared.batch.Mutation.TheVariants.{Set, Clear}
use Rattle.st_fold.specs.declared.plan.Act.TheVariants.{Apply}
use Rattle.st_fold.specs.declared.report.Ending.TheVariants as ending
use Rattle.st_fold.specs.declared.report.Event.TheVariants.{Opened, Applied, Closed}
use Rattle.st_fold.specs.declared.report.Answered.{Answered}
use Rattle.st_fold.specs.declared.request.Answer.{Answer}
use Rattle.st_fold.specs.declared.request.Answer.TheVariants.{Value, Absent, FutureVersion, Stopped}
use Rattle.st_fold.specs.declared.request.Answer.TheVariants as answer
use Rattle.st_fold.specs.declared.request.Ask.{Ask}
use Rattle.st_fold.specs.declared.request.Ask.TheVariants.{Rows, Select}
use Rattle.st_fold.specs.declared.request.Found.TheVariants as to
use Rattle.st_fold.specs.declared.request.Request.{Request}
use Rattle.st_key.specs.Spans.{Span}
use Rattle.st_model.specs.Pieces.{all_keys}
use Rattle.st_model.specs.Plain.{plain_stage}
use Rattle.st_model.specs.Report.{requests_of}
use Rattle.st_model.specs.Schedule.{BreaksOff, Plays, Stage, readers_at_end}
use Rattle.st_model.specs.State.{Given}
use Rattle.st_model.proofs.Played.{breaks_off, plays}
use Rattle.st_model.proofs.RowParts.{does, gets, given_to, playing, poll, sets}

-- ---- lives. The keys a and b are 97 and 98, the values 1 and 2 are 49 and 50

abbrev two_readers_stage : Stage (Unit {0})
two_readers_stage = plain_stage (given_to 2 (sets 1 97 49 ∷ sets 2 97 50 ∷ []))
    (playing 2 (gets 1 1 97 1 ∷ gets 2 2 97 2 ∷ gets 3 1 97 2 ∷ []) (poll 2 1 ∷ does Apply 1 ∷ poll 1 1 ∷ poll 2 1 ∷ does Apply 1 ∷ poll 1 1 ∷ []))

-- two readers take turns: the second waits for version 2 while the first reads version 1, and each reads the key as it
-- was at the version
two_readers : Plays two_readers_stage
    (record {
      opened = 0;
      trace = Opened 0 ∷ Applied 1 ∷ Applied 2 ∷ Closed ∷ [];
      answers =
          record { request = 1; places = 2 ∷ []; answer = Value (49 ∷ []) }
          ∷ record { request = 2; places = 1 ∷ 2 ∷ 3 ∷ []; answer = Value (50 ∷ []) }
          ∷ record { request = 3; places = 3 ∷ []; answer = Value (50 ∷ []) } ∷ [];
      ending = ending.Closed;
    })
unfolding readers_at_end
two_readers = plays two_readers_stage 100 refl refl

abbrev overwritten_stage : Stage (Unit {0})
overwritten_stage = plain_stage (given_to 2 (sets 1 97 49 ∷ sets 2 97 50 ∷ []))
    (playing 2 (gets 1 1 97 1 ∷ gets 2 1 97 2 ∷ gets 3 1 98 2 ∷ []) [])

-- an old version is read after the key was overwritten, and a key that was never set is absent
overwritten : Plays overwritten_stage
    (record {
      opened = 0;
      trace = Opened 0 ∷ Applied 1 ∷ Applied 2 ∷ Closed ∷ [];
      answers =
          record { request = 1; places = 3 ∷ []; answer = Value (49 ∷ []) }
          ∷ record { request = 2; places = 3 ∷ []; answer = Value (50 ∷ []) }
          ∷ record { request = 3; places = 3 ∷ []; answer = Absent } ∷ [];
      ending = ending.Closed;
    })
unfolding readers_at_end
overwritten = plays overwritten_stage 100 refl refl

abbrev version_zero_stage : Stage (Unit {0})
version_zero_stage = plain_stage (given_to 1 (sets 1 97 49 ∷ [])) (playing 1 (gets 1 1 97 0 ∷ []) (poll 1 1 ∷ []))

-- at version 0, which each store has, every key is absent
version_zero : Plays version_zero_stage
    (record {
      opened = 0;
      trace = Opened 0 ∷ Applied 1 ∷ Closed ∷ [];
      answers = record { request = 1; places = 1 ∷ []; answer = Absent } ∷ [];
      ending = ending.Closed;
    })
unfolding readers_at_end
version_zero = plays version_zero_stage 100 refl refl

abbrev nothing_due_stage : Stage (Unit {0})
nothing_due_stage = plain_stage (given_to 1 (sets 1 97 49 ∷ sets 2 97 50 ∷ []))
    (playing 1 (gets 1 1 97 1 ∷ []) (does Apply 3 ∷ poll 2 1 ∷ poll 1 5 ∷ does Apply 1 ∷ []))

-- acts that aren't due and polls of a reader without requests do nothing, and a batch above the life's version isn't
-- applied
nothing_due : Plays nothing_due_stage
    (record {
      opened = 0;
      trace = Opened 0 ∷ Applied 1 ∷ Closed ∷ [];
      answers = record { request = 1; places = 2 ∷ []; answer = Value (49 ∷ []) } ∷ [];
      ending = ending.Closed;
    })
unfolding readers_at_end
nothing_due = plays nothing_due_stage 100 refl refl

abbrev stopped_stage : Stage (Unit {0})
stopped_stage = plain_stage (given_to 1 []) (playing 1 (gets 1 1 97 1 ∷ gets 2 2 97 0 ∷ []) (poll 1 1 ∷ []))

-- a request that a fault leaves open was stopped
stopped : BreaksOff stopped_stage
    (record {
      opened = 0;
      trace = Opened 0 ∷ [];
      answers =
          record { request = 1; places = 1 ∷ []; answer = Stopped }
          ∷ record { request = 2; places = []; answer = Stopped } ∷ [];
      ending = ending.Faulted;
    })
stopped = breaks_off stopped_stage 1 refl refl

abbrev lasts_wait_stage : Stage (Unit {0})
lasts_wait_stage = plain_stage (given_to 2 (sets 1 97 49 ∷ sets 2 97 50 ∷ []))
    (record (playing 2 (gets 2 1 97 1 ∷ gets 4 2 97 3 ∷ []) (does Apply 1 ∷ poll 1 1 ∷ poll 2 2 ∷ []))
    { lasts = gets 1 0 97 2 ∷ gets 3 0 97 3 ∷ gets 5 0 98 0 ∷ [] })

-- the requests of the end are polled when the life is at rest and the readers have their answers, as often as `patience`
-- says; a reader that is told to poll before does nothing for them
lasts_wait : Plays lasts_wait_stage
    (record {
      opened = 0;
      trace = Opened 0 ∷ Applied 1 ∷ Applied 2 ∷ Closed ∷ [];
      answers =
          record { request = 1; places = 3 ∷ []; answer = Value (50 ∷ []) }
          ∷ record { request = 2; places = 2 ∷ []; answer = Value (49 ∷ []) }
          ∷ record { request = 3; places = 3 ∷ 3 ∷ 3 ∷ []; answer = FutureVersion 2 3 }
          ∷ record { request = 4; places = 2 ∷ 2 ∷ 3 ∷ []; answer = FutureVersion 2 3 }
          ∷ record { request = 5; places = 3 ∷ []; answer = Absent } ∷ [];
      ending = ending.Closed;
    })
unfolding readers_at_end
lasts_wait = plays lasts_wait_stage 100 refl refl

-- the keys a, b and c get the values 1, 2 and 3; those from a up to c are cleared; b gets the value 9
abbrev clears : Given
clears = given_to 3 (
    record { version = 1; moves = []; mutations = Set (97 ∷ []) (49 ∷ []) ∷ Set (98 ∷ []) (50 ∷ []) ∷ Set (99 ∷ []) (51 ∷ []) ∷ [] }
    ∷ record { version = 2; moves = []; mutations = Clear (record { begin = 97 ∷ []; end = 99 ∷ [] }) ∷ [] }
    ∷ sets 3 98 57 ∷ [])

abbrev asking_this : ℕ → Ask → Request
asking_this number ask = record { number = number; reader = 1; ask = ask }

abbrev answered_there : ℕ → Answer → Answered
answered_there number answer = record { request = number; places = 4 ∷ []; answer = answer }

abbrev a_to_c : Span
a_to_c = record { begin = 97 ∷ []; end = 100 ∷ [] }

abbrev ranges_stage : Stage (Unit {0})
ranges_stage = plain_stage clears (playing 3 (
    asking_this 1 (Rows a_to_c 10 2 false 1) ∷ asking_this 2 (Rows a_to_c 10 3 true 1)
    ∷ asking_this 3 (Rows a_to_c 3 1000 false 1) ∷ asking_this 4 (Rows all_keys 1 1000 true 3) ∷ []) [])

-- rows both ways: the byte limit, of 2, is met by the first row, of 2 bytes; one of 3 bytes lets a second row in; of
-- three rows that are wanted all come; and one row of two is wanted, from the last key on
ranges : Plays ranges_stage
    (record {
      opened = 0;
      trace = Opened 0 ∷ Applied 1 ∷ Applied 2 ∷ Applied 3 ∷ Closed ∷ [];
      answers =
          answered_there 1 (answer.Rows ((97 ∷ [], 49 ∷ []) ∷ []) true)
          ∷ answered_there 2 (answer.Rows ((99 ∷ [], 51 ∷ []) ∷ (98 ∷ [], 50 ∷ []) ∷ []) true)
          ∷ answered_there 3 (answer.Rows ((97 ∷ [], 49 ∷ []) ∷ (98 ∷ [], 50 ∷ []) ∷ (99 ∷ [], 51 ∷ []) ∷ []) false)
          ∷ answered_there 4 (answer.Rows ((99 ∷ [], 51 ∷ []) ∷ []) true) ∷ [];
      ending = ending.Closed;
    })
unfolding readers_at_end
ranges = plays ranges_stage 100 refl refl

abbrev selectors_stage : Stage (Unit {0})
selectors_stage = plain_stage clears (playing 3 (
    asking_this 1 (Select (99 ∷ []) false (pos 0) all_keys 1) ∷ asking_this 2 (Select (97 ∷ []) true (pos 1) all_keys 3)
    ∷ asking_this 3 (Select (98 ∷ []) false (pos 0) all_keys 3) ∷ asking_this 4 (Select (99 ∷ []) true (pos 1) all_keys 3) ∷ []) [])

-- selectors: to a key, before the first and after the last
selectors : Plays selectors_stage
    (record {
      opened = 0;
      trace = Opened 0 ∷ Applied 1 ∷ Applied 2 ∷ Applied 3 ∷ Closed ∷ [];
      answers =
          answered_there 1 (answer.KeyIs (to.Key (98 ∷ []))) ∷ answered_there 2 (answer.KeyIs (to.Key (98 ∷ [])))
          ∷ answered_there 3 (answer.KeyIs to.Before) ∷ answered_there 4 (answer.KeyIs to.After) ∷ [];
      ending = ending.Closed;
    })
unfolding readers_at_end
selectors = plays selectors_stage 100 refl refl

-- the requests of the end stand among the others by their numbers
in_order : requests_of (record (playing 0 (gets 1 1 97 0 ∷ gets 3 2 97 0 ∷ []) []) { lasts = gets 2 0 97 0 ∷ gets 4 0 97 0 ∷ [] })
    ≡ gets 1 1 97 0 ∷ gets 2 0 97 0 ∷ gets 3 2 97 0 ∷ gets 4 0 97 0 ∷ []
in_order = refl
