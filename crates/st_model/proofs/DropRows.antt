-- Worked scripts in which keys are taken away and given back, over two lives, with the reports that they demand.
use Rattle.std.proofs.Common.{◌≡◌, ℕ, true, false, List, [], ◌∷◌, length, None, Some, refl, ap, subst, inl, inr, arith, le_refl}
use Rattle.std.specs.Option.{option_map_or}
use Rattle.st_key.specs.Spans.{Span}
use Rattle.st_mutation.specs.declared.batch.Move.TheVariants.{Assign, Release}
use Rattle.st_fold.specs.declared.plan.Act.TheVariants as act
use Rattle.st_fold.specs.declared.plan.LifePlan.{LifePlan}
use Rattle.st_fold.specs.declared.plan.Script.{Script}
use Rattle.st_fold.specs.declared.report.Ending.TheVariants as ending
use Rattle.st_fold.specs.declared.report.Event.{Event}
use Rattle.st_fold.specs.declared.report.Event.TheVariants.{Opened, Applied, FetchStart, Block, Began, Durable}
use Rattle.st_fold.specs.declared.report.Life.{Life}
use Rattle.st_fold.specs.declared.request.Answer.TheVariants.{Value, WrongShard, Stopped}
use Rattle.st_model.specs.Pieces.{all_keys}
use Rattle.st_model.specs.Report.{Begun, IsDemanded, IsLife, MayFollow, fresh, given_by, marks}
use Rattle.st_model.specs.Schedule.{Plays, readers_at_end}
use Rattle.st_model.specs.State.{Opening}
use Rattle.st_model.proofs.Demands.{begun, closes, dies_at_rest, dies_in_flight, how_killed, two_lives}
use Rattle.st_model.proofs.Played.{plays}
use Rattle.st_model.proofs.RowParts.{all, answered, batch, does, empty, flush, gets, key, life, life_to, poll, sets, settings, span, stage}

-- ---- the key a is taken away by batch 2 and given back by batch 3. The first life is killed when batch 1 is durable, so in
-- the second one it is there, until batch 2 is durable and it is fetched again

abbrev only_a : Span
only_a = span (key 97) (key 98)

abbrev pub losing : LifePlan
losing = record (life_to 4) {
  asks = gets 1 1 97 4 ∷ [];
  dos = does act.Apply 4 ∷ flush ∷ does act.Start 1 ∷ poll 1 1 ∷ [];
  kill = Some (10, 0);
}

abbrev pub regaining : LifePlan
regaining = record (life_to 9) { asks = gets 2 1 97 1 ∷ []; lasts = gets 3 0 97 9 ∷ []; dos = poll 1 1 ∷ [] }

abbrev pub drop_and_reassign : Script
drop_and_reassign = record {
  settings = record settings { window = 3 };
  own = all_keys ∷ [];
  log =
      sets 1 97 49 ∷ batch 2 (Release only_a ∷ []) [] ∷ batch 3 (Assign only_a ∷ []) [] ∷ empty 4 ∷ empty 5 ∷ empty 6 ∷ empty 7
      ∷ empty 8 ∷ empty 9 ∷ [];
  lives = losing ∷ regaining ∷ [];
}

abbrev pub four_applied : List Event
four_applied = Opened 0 ∷ Applied 1 ∷ Applied 2 ∷ Applied 3 ∷ Applied 4 ∷ Began 1 ∷ Durable 1 ∷ []

abbrev lost : Life
lost = life 0 four_applied (answered 1 (7 ∷ []) (WrongShard (key 97)) ∷ []) ending.Killed

loses_legally : IsLife (given_by drop_and_reassign losing) (all 0) losing lost
loses_legally =
    dies_at_rest (given_by drop_and_reassign losing) (all 0) losing four_applied lost.answers 10 0 (refl, refl, tt)
    refl refl refl refl refl refl refl refl

abbrev pub fetched_again : List Event
fetched_again =
    Opened 1 ∷ Applied 2 ∷ Applied 3 ∷ Applied 4 ∷ Applied 5 ∷ Began 2 ∷ Durable 2 ∷ FetchStart (key 97) 5 ∷ Block (key 97) (key 98)
    ∷ Began 2 ∷ Durable 2 ∷ Applied 6 ∷ Began 3 ∷ Durable 3 ∷ Applied 7 ∷ Began 4 ∷ Durable 4 ∷ Applied 8 ∷ Began 5 ∷ Durable 5
    ∷ Applied 9 ∷ Began 6 ∷ Durable 6 ∷ []

abbrev regained : Life
regained = life 1 fetched_again (answered 2 (1 ∷ []) (Value (key 49)) ∷ answered 3 (23 ∷ []) (Value (key 49)) ∷ []) ending.Closed

regains_legally : IsLife (given_by drop_and_reassign regaining) (all 1) regaining regained
regains_legally =
    closes (given_by drop_and_reassign regaining) (all 1) regaining fetched_again regained.answers (refl, refl, (refl, refl, tt))
    refl refl refl refl refl refl refl refl refl

drop_and_reassign_demanded : IsDemanded drop_and_reassign (fresh drop_and_reassign) 0 None
    (begun losing (all 0) lost ∷ begun regaining (all 1) regained ∷ [])
drop_and_reassign_demanded =
    two_lives drop_and_reassign (begun losing (all 0) lost) (begun regaining (all 1) regained) refl refl loses_legally refl
    (inl (refl, refl)) regains_legally refl

loses_as_written : Plays (stage drop_and_reassign losing (all 0) 10) lost
unfolding readers_at_end
loses_as_written = plays (stage drop_and_reassign losing (all 0) 10) 100 refl refl

regains_as_written : Plays (stage drop_and_reassign regaining (all 1) 4) regained
unfolding readers_at_end
regains_as_written = plays (stage drop_and_reassign regaining (all 1) 4) 100 refl refl

-- ---- the first life is killed in the commit of batch 1, with one call left of it

abbrev losing_in_flight : LifePlan
losing_in_flight = record losing { kill = Some (9, 1) }

abbrev killed_in_flight : Script
killed_in_flight = record drop_and_reassign { lives = losing_in_flight ∷ regaining ∷ [] }

abbrev flying : List Event
flying = Opened 0 ∷ Applied 1 ∷ Applied 2 ∷ Applied 3 ∷ Applied 4 ∷ Began 1 ∷ []

abbrev lost_in_flight : Life
lost_in_flight = life 0 flying (answered 1 [] Stopped ∷ []) ending.Killed

flies_legally : IsLife (given_by killed_in_flight losing_in_flight) (all 0) losing_in_flight lost_in_flight
flies_legally =
    dies_in_flight (given_by killed_in_flight losing_in_flight) (all 0) losing_in_flight flying lost_in_flight.answers 9 1 (refl, refl, tt)
    refl refl refl refl refl refl refl refl refl

killed_in_flight_demanded : IsDemanded killed_in_flight (fresh killed_in_flight) 0 None
    (begun losing_in_flight (all 0) lost_in_flight ∷ begun regaining (all 1) regained ∷ [])
killed_in_flight_demanded =
    two_lives killed_in_flight (begun losing_in_flight (all 0) lost_in_flight) (begun regaining (all 1) regained) refl refl flies_legally
    refl (inr refl) regains_legally refl

flies_as_written : Plays (stage killed_in_flight losing_in_flight (all 0) 10) lost_in_flight
unfolding readers_at_end
flies_as_written = plays (stage killed_in_flight losing_in_flight (all 0) 10) 100 refl refl

-- ---- the first life is killed in the commit of batch 2, so the next one may open without the key

abbrev dropping : LifePlan
dropping = record (life_to 5) { dos = does act.Apply 5 ∷ flush ∷ []; kill = Some (9, 1) }

abbrev asking_at_end : LifePlan
asking_at_end = record (life_to 9) { lasts = gets 1 0 97 9 ∷ [] }

abbrev drop_in_flight : Script
drop_in_flight = record drop_and_reassign { lives = dropping ∷ asking_at_end ∷ [] }

abbrev without_a : Opening
without_a = record { version = 2; available = span [] (key 97) ∷ span (key 98) (key 255) ∷ [] }

abbrev drop_flying : List Event
drop_flying = Opened 0 ∷ Applied 1 ∷ Applied 2 ∷ Applied 3 ∷ Applied 4 ∷ Applied 5 ∷ Began 2 ∷ []

abbrev dropped : Life
dropped = life 0 drop_flying [] ending.Killed

drops_legally : IsLife (given_by drop_in_flight dropping) (all 0) dropping dropped
drops_legally =
    dies_in_flight (given_by drop_in_flight dropping) (all 0) dropping drop_flying [] 9 1 tt refl refl refl refl refl refl refl refl refl

abbrev fetched_from_2 : List Event
fetched_from_2 =
    Opened 2 ∷ Applied 3 ∷ FetchStart (key 97) 3 ∷ Block (key 97) (key 98) ∷ Began 2 ∷ Durable 2 ∷ Applied 4 ∷ Applied 5 ∷ Applied 6
    ∷ Began 3 ∷ Durable 3 ∷ Applied 7 ∷ Began 4 ∷ Durable 4 ∷ Applied 8 ∷ Began 5 ∷ Durable 5 ∷ Applied 9 ∷ Began 6 ∷ Durable 6 ∷ []

abbrev back_again : Life
back_again = life 2 fetched_from_2 (answered 1 (20 ∷ []) (Value (key 49)) ∷ []) ending.Closed

drop_in_flight_demanded : IsDemanded drop_in_flight (fresh drop_in_flight) 0 None
    (begun dropping (all 0) dropped ∷ begun asking_at_end without_a back_again ∷ [])
drop_in_flight_demanded =
    two_lives drop_in_flight (begun dropping (all 0) dropped) (begun asking_at_end without_a back_again) refl refl drops_legally refl
    (inr refl)
    (closes (given_by drop_in_flight asking_at_end) without_a asking_at_end fetched_from_2 back_again.answers (refl, refl, tt)
    refl refl refl refl refl refl refl refl refl)
    refl

drops_as_written : Plays (stage drop_in_flight dropping (all 0) 10) dropped
unfolding readers_at_end
drops_as_written = plays (stage drop_in_flight dropping (all 0) 10) 100 refl refl

comes_back_as_written : Plays (stage drop_in_flight asking_at_end without_a 4) back_again
unfolding readers_at_end
comes_back_as_written = plays (stage drop_in_flight asking_at_end without_a 4) 100 refl refl

-- a batch that takes keys away is a mark, beside the block
marked_twice : marks drop_and_reassign.log fetched_again ≡ 2
marked_twice = refl

-- ---- reports of these scripts that aren't demanded

-- the next life opens at the durable version, with other ranges
holds_less : (second : Begun) → second.opening ≡ record (all 1) { available = span [] (key 97) ∷ [] }
    → IsDemanded drop_and_reassign (fresh drop_and_reassign) 0 None (begun losing (all 0) lost ∷ second ∷ []) → ⊥
holds_less second opens report =
    elim (subst (MayFollow drop_and_reassign (begun losing (all 0) lost)) opens report.lives_are.4.1) [
      | inl durable ↦
          let e : 97 ≡ 255 = ap (λ (spans : List Span). first_byte spans) durable.1 in
          omega (arith, e)
      | inr flight ↦ cc
    ]
  where
    first_byte : List Span → ℕ
    first_byte [] = 0
    first_byte (first ∷ spans) = byte_of first.end
      where
        byte_of : List ℕ → ℕ
        byte_of [] = 0
        byte_of (byte ∷ bytes) = byte

-- the next life opens at the version in flight, with the ranges from before it
keeps_old_ranges : (second : Begun) → second.opening ≡ all 2
    → IsDemanded drop_in_flight (fresh drop_in_flight) 0 None (begun dropping (all 0) dropped ∷ second ∷ []) → ⊥
keeps_old_ranges second opens report =
    elim (subst (MayFollow drop_in_flight (begun dropping (all 0) dropped)) opens report.lives_are.4.1) [
      | inl durable ↦ omega (arith, durable.0)
      | inr flight ↦
          let e : 2 ≡ 1 = ap (λ o. option_map_or (λ (opening : Opening). length opening.available) o 0) flight in
          omega (arith, e)
    ]

-- a request that was stopped by a life that came to rest
stops_at_rest : IsLife (given_by drop_and_reassign losing) (all 0) losing (life 0 four_applied (answered 1 [] Stopped ∷ []) ending.Killed) → ⊥
stops_at_rest is_life =
    elim (how_killed (given_by drop_and_reassign losing) (all 0) losing four_applied (answered 1 [] Stopped ∷ []) 10 0 refl is_life) [
      | inl rest ↦ rest.1 0 (answered 1 [] Stopped) (le_refl 1) refl
      | inr flight ↦ (let e : false ≡ true = flight.0 in cc)
    ]
