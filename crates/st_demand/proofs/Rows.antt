-- Worked lives with commits of a server that owns all keys: one that closes, three that are killed, and one whose commit would
-- make a file longer than it may get. Their commits are told by how many calls they make. The key a is the byte 97.
use Rattle.std.proofs.Common.{◌≡◌, ℕ, ◌+◌, ◌*◌, ◌<◌, true, false, List, [], ◌∷◌, ◌++◌, Option, None, Some, refl, sym, ap, ◌∙◌, subst, inl, inr, arith}
use Rattle.std.proofs.lemmas.List.{same_from_push}
use Rattle.std.specs.Option.{option_map_or}
use Rattle.st_key.specs.Spans.{all_keys}
use Rattle.st_mutation.specs.declared.batch.Batch.{Batch}
use Rattle.st_mutation.specs.declared.batch.Mutation.TheVariants.{Set}
use Rattle.st_fold.specs.declared.plan.Act.TheVariants.{Apply}
use Rattle.st_fold.specs.declared.plan.Do.TheVariants.{Act, Flush, Poll}
use Rattle.st_fold.specs.declared.plan.LifePlan.{LifePlan}
use Rattle.st_fold.specs.declared.report.Answered.{Answered}
use Rattle.st_fold.specs.declared.report.Ending.{Ending}
use Rattle.st_fold.specs.declared.report.Ending.TheVariants as ending
use Rattle.st_fold.specs.declared.report.Event.{Event}
use Rattle.st_fold.specs.declared.report.Event.TheVariants as event
use Rattle.st_fold.specs.declared.report.Life.{Life}
use Rattle.st_fold.specs.declared.request.Answer.TheVariants.{Stopped, Value}
use Rattle.st_fold.specs.declared.request.Ask.TheVariants.{Get}
use Rattle.st_fold.specs.Endings.{last_event}
use Rattle.st_model.specs.Report.{IsLife, commits}
use Rattle.st_model.specs.Schedule.{Commit, Plays, Stage, begin, ending_by, full, life_of, made, next, readers_at_end, walk}
use Rattle.st_model.specs.State.{Given, Opening}
use Rattle.st_model.specs.Trace.{is_at_rest, state_after}
use Rattle.st_demand.specs.Serving.{CommitsWithin, IsServable, IsServablePlan}
use Rattle.st_demand.proofs.Plays.{breaks, plays}

-- the life that stands after some steps, none of which is left
abbrev played : {E : Type 0} (stage : Stage E) (steps : ℕ) {life : Life} → next stage (walk stage steps (begin stage)) ≡ None
    → life ≡ life_of stage (walk stage steps (begin stage)) (ending_by stage.plan (walk stage steps (begin stage)).halt) → Plays stage life
played stage steps over is = (walk stage steps (begin stage), (steps, refl), over, is)

abbrev batch : ℕ → ℕ → Batch
batch version value = record { version = version; moves = []; mutations = Set (97 ∷ []) (value ∷ []) ∷ [] }

-- the window keeps one version, and two are applied: the first is committed
abbrev given : Given
given = record {
  log = batch 1 49 ∷ batch 2 50 ∷ [];
  upto = 2;
  own = all_keys ∷ [];
  settings = record { window = 1; patience = 3; seed = 1; swap = 1048576; limit = 268435456; quota = 4096; block = 100; watches = 10000 };
}

abbrev opening : Opening
opening = record { version = 0; available = all_keys ∷ [] }

-- reader 1 reads the key at version 2 between two lines, and a request of the end at its end
abbrev plan : Option (ℕ × ℕ) → LifePlan
plan kill = record {
  upto = 2;
  asks = record { number = 1; reader = 1; ask = Get (97 ∷ []) 2 } ∷ [];
  lasts = record { number = 2; reader = 0; ask = Get (97 ∷ []) 1 } ∷ [];
  dos = (Act Apply, 2) ∷ (Poll 1, 1) ∷ (Flush, 1) ∷ [];
  cuts = [];
  peerfails = [];
  kill = kill;
}

-- the life of a plan whose commits come to this
abbrev stage : Option (ℕ × ℕ) → Commit ℕ → Stage ℕ
stage kill commit = record { given = given; opening = opening; plan = plan kill; engine = 0; commit = λ engine events. commit }

servable : IsServable given opening
servable = record { own = refl; no_moves = (refl, (refl, tt)); available = refl }

servable_plan : (kill : Option (ℕ × ℕ)) → IsServablePlan (plan kill)
servable_plan kill = record {
  asks = (record { least = omega arith; most = omega arith; versioned = refl }, tt);
  lasts = (record { last = refl; versioned = refl }, tt);
  dos = (tt, ((omega arith, omega arith), (tt, tt)));
  no_fails = refl;
}

ten_calls : (kill : Option (ℕ × ℕ)) → CommitsWithin (stage kill (made 10 0))
ten_calls kill = λ engine trace. (omega arith, omega arith)

abbrev flying : List Event
flying = event.Opened 0 ∷ event.Applied 1 ∷ event.Applied 2 ∷ event.Began 1 ∷ []

abbrev committed : List Event
committed = flying ++ event.Durable 1 ∷ []

abbrev read : Answered
read = record { request = 1; places = 3 ∷ []; answer = Value (50 ∷ []) }

abbrev life : List Event → List Answered → Ending → Life
life events answers how = record { opened = 0; trace = events ++ last_event how; answers = answers; ending = how }

-- ---- it closes behind its commit, where the request of the end is answered

abbrev read_at_end : Answered
read_at_end = record { request = 2; places = 5 ∷ []; answer = Value (49 ∷ []) }

abbrev closed_life : Life
closed_life = life committed (read ∷ read_at_end ∷ []) ending.Closed

closes_as_written : Plays (stage None (made 10 0)) closed_life
unfolding readers_at_end
closes_as_written = played (stage None (made 10 0)) 100 refl refl

closed_is_demanded : IsLife given opening (plan None) closed_life
closed_is_demanded = plays (stage None (made 10 0)) servable (servable_plan None) (ten_calls None) closed_life closes_as_written

-- ---- it is killed after 3 calls, in the middle of its commit

abbrev unread : Answered
unread = record { request = 2; places = []; answer = Stopped }

abbrev dying : Option (ℕ × ℕ)
dying = Some (3, 0)

abbrev died_in_flight : Life
died_in_flight = life flying (read ∷ unread ∷ []) ending.Killed

dies_as_written : Plays (stage dying (made 10 0)) died_in_flight
unfolding readers_at_end
dies_as_written = played (stage dying (made 10 0)) 100 refl refl

death_is_demanded : IsLife given opening (plan dying) died_in_flight
death_is_demanded = plays (stage dying (made 10 0)) servable (servable_plan dying) (ten_calls dying) died_in_flight dies_as_written

-- ---- after all 10 calls of its commit, at rest

abbrev outliving : Option (ℕ × ℕ)
outliving = Some (10, 0)

abbrev died_at_rest : Life
died_at_rest = life committed (read ∷ read_at_end ∷ []) ending.Killed

rests_as_written : Plays (stage outliving (made 10 0)) died_at_rest
unfolding readers_at_end
rests_as_written = played (stage outliving (made 10 0)) 100 refl refl

rest_is_demanded : IsLife given opening (plan outliving) died_at_rest
rest_is_demanded =
    plays (stage outliving (made 10 0)) servable (servable_plan outliving) (ten_calls outliving) died_at_rest rests_as_written

-- ---- its commit would make a file longer than it may get, which is seen after 6 calls

abbrev filled : Life
filled = life flying (read ∷ unread ∷ []) ending.Faulted

fills_as_written : Plays (stage None (full 6 254 200)) filled
unfolding readers_at_end
fills_as_written = played (stage None (full 6 254 200)) 100 refl refl

filled_is_demanded : IsLife given opening (plan None) filled
filled_is_demanded =
    plays (stage None (full 6 254 200)) servable (servable_plan None) (λ engine trace. omega arith) filled fills_as_written

-- a fault ended it before its commit began
abbrev cut_off : Life
cut_off = life (event.Opened 0 ∷ event.Applied 1 ∷ []) (record { request = 1; places = []; answer = Stopped } ∷ unread ∷ []) ending.Faulted

cut_off_is_demanded : IsLife given opening (plan None) cut_off
cut_off_is_demanded =
    breaks (stage None (made 10 0)) servable (servable_plan None) (ten_calls None) cut_off
    (walk (stage None (made 10 0)) 1 (begin (stage None (made 10 0))), (1, refl), refl, refl)

-- ---- a commit of 11 calls isn't one that this holds of: a life that is killed before its last call isn't demanded

eleven_are_more : CommitsWithin (stage outliving (made 11 0)) → ⊥
eleven_are_more within = let most = (within 0 []).1 in omega (arith, most)

dies_in_eleven_as_written : Plays (stage outliving (made 11 0)) died_in_flight
unfolding readers_at_end
dies_in_eleven_as_written = played (stage outliving (made 11 0)) 100 refl refl

late_death_is_not_demanded : IsLife given opening (plan outliving) died_in_flight → ⊥
late_death_is_not_demanded is_life =
    elim is_life.ends.by [
      | inl rest ↦ (let rests : false ≡ true = ap (λ o. option_map_or (is_at_rest given) o false) after ∙ rest.0 in cc)
      | inr flight ↦ omega (arith, calls, flight.1.1, subst (λ events. is_life.ends.calls < 10 * (commits events + 1)) (sym same) flight.1.1)
    ]
  where
    same : flying ≡ is_life.ends.events
    same = (same_from_push flying is_life.ends.events event.Killed event.Killed is_life.ends.trace).0

    after : state_after given opening flying ≡ Some is_life.ends.state
    after = ap (state_after given opening) same ∙ is_life.ends.after

    calls : 10 ≡ is_life.ends.calls
    calls = ap (λ o. option_map_or (λ (kill : ℕ × ℕ). kill.0) o 0) is_life.ends.to_kill
