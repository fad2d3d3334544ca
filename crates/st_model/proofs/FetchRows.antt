-- Worked scripts in which keys are fetched, with the reports that they demand.
use Rattle.std.proofs.Common.{◌≡◌, true, false, List, [], ◌∷◌, None, Some, refl, arith, le_refl}
use Rattle.st_atomic.specs.declared.AtomicOp.TheVariants.{Add}
use Rattle.st_key.specs.Spans.{Span}
use Rattle.st_mutation.specs.declared.batch.Move.TheVariants.{Assign}
use Rattle.st_mutation.specs.declared.batch.Mutation.{Mutation}
use Rattle.st_mutation.specs.declared.batch.Mutation.TheVariants.{Set, Atomic}
use Rattle.st_fold.specs.declared.plan.Act.TheVariants as act
use Rattle.st_fold.specs.declared.plan.LifePlan.{LifePlan}
use Rattle.st_fold.specs.declared.plan.Script.{Script}
use Rattle.st_fold.specs.declared.report.Ending.TheVariants as ending
use Rattle.st_fold.specs.declared.report.Event.{Event}
use Rattle.st_fold.specs.declared.report.Event.TheVariants.{Opened, Applied, FetchStart, Block, Split, Began, Durable}
use Rattle.st_fold.specs.declared.report.Fault.TheVariants as fault
use Rattle.st_fold.specs.declared.report.Life.{Life}
use Rattle.st_fold.specs.declared.request.Answer.TheVariants.{Value, WrongShard, Stopped}
use Rattle.st_model.specs.Report.{IsDemanded, IsLife, blocks, fresh, given_by, marks}
use Rattle.st_model.specs.Schedule.{Plays, readers_at_end}
use Rattle.st_model.proofs.Demands.{begun, closes, closes_alone, ends_faulted, faults}
use Rattle.st_model.proofs.Played.{plays}
use Rattle.st_model.proofs.RowParts.{answered, batch, does, empty, flush, gets, key, life, life_to, poll, settings, span, stage}

-- the server owns the keys below a, and a batch gives it the others
abbrev pub below_a : Span
below_a = span [] (key 97)

abbrev from_a : Span
from_a = span (key 97) (key 255)

-- ---- a piece is fetched in two blocks while a batch comes, and is read once it is durable

abbrev pub fetching : LifePlan
fetching = record (life_to 5) {
  asks = gets 1 1 98 4 ∷ gets 2 1 98 4 ∷ gets 3 1 97 5 ∷ [];
  dos =
      does act.Apply 2 ∷ does act.Start 1 ∷ does act.Block 1 ∷ does act.Apply 1 ∷ does act.Block 1 ∷ flush ∷ does act.Apply 1
      ∷ poll 1 1 ∷ does act.Apply 1 ∷ flush ∷ poll 1 2 ∷ [];
}

abbrev pub shard_fetch : Script
shard_fetch = record {
  settings = record settings { window = 1; block = 2 };
  own = below_a ∷ [];
  log =
      batch 1 [] (Set (key 97) (key 49) ∷ Set (key 98) (key 50) ∷ Set (key 99) (key 51) ∷ Set (key 100) (key 52) ∷ [])
      ∷ batch 2 (Assign from_a ∷ []) [] ∷ batch 3 [] (Set (key 98) (key 57) ∷ []) ∷ empty 4 ∷ empty 5 ∷ [];
  lives = fetching ∷ [];
}

abbrev pub two_blocks : List Event
two_blocks =
    Opened 0 ∷ Applied 1 ∷ Applied 2 ∷ FetchStart (key 97) 2 ∷ Block (key 97) (key 99) ∷ Applied 3 ∷ Block (key 97) (key 255)
    ∷ Began 2 ∷ Durable 2 ∷ Applied 4 ∷ Applied 5 ∷ Began 4 ∷ Durable 4 ∷ []

abbrev pub fetched : Life
fetched = life 0 two_blocks
    (answered 1 (10 ∷ []) (WrongShard (key 98)) ∷ answered 2 (13 ∷ []) (Value (key 57)) ∷ answered 3 (13 ∷ []) (Value (key 49)) ∷ [])
    ending.Closed

shard_fetch_demanded : IsDemanded shard_fetch (fresh shard_fetch) 0 None (begun fetching (fresh shard_fetch) fetched ∷ [])
shard_fetch_demanded =
    closes_alone shard_fetch fetching two_blocks fetched.answers refl
    (closes (given_by shard_fetch fetching) (fresh shard_fetch) fetching two_blocks fetched.answers (refl, refl, (refl, refl, (refl, refl, tt)))
    refl refl refl refl refl refl refl refl refl)

shard_fetch_played : Plays (stage shard_fetch fetching (fresh shard_fetch) 10) fetched
unfolding readers_at_end
shard_fetch_played = plays (stage shard_fetch fetching (fresh shard_fetch) 10) 100 refl refl

-- ---- its first block fails

abbrev failing : LifePlan
failing = record fetching { peerfails = 1 ∷ [] }

abbrev block_fails : Script
block_fails = record shard_fetch { lives = failing ∷ [] }

abbrev started : List Event
started = Opened 0 ∷ Applied 1 ∷ Applied 2 ∷ FetchStart (key 97) 2 ∷ []

abbrev failed : Life
failed = life 0 started (answered 1 [] Stopped ∷ answered 2 [] Stopped ∷ answered 3 [] Stopped ∷ []) ending.Faulted

block_fails_demanded : IsDemanded block_fails (fresh block_fails) 7 (Some (fault.Peer 1)) (begun failing (fresh block_fails) failed ∷ [])
block_fails_demanded =
    ends_faulted block_fails failing [] failed (fault.Peer 1) refl
    (faults (given_by block_fails failing) (fresh block_fails) failing started failed.answers (refl, refl, (refl, refl, (refl, refl, tt)))
    refl refl refl refl refl refl)
    refl (λ e. omega (arith, e)) (refl, refl)

block_fails_played : Plays (stage block_fails failing (fresh block_fails) 10) failed
unfolding readers_at_end
block_fails_played = plays (stage block_fails failing (fresh block_fails) 10) 100 refl refl

-- ---- its second block fails

abbrev failing_later : LifePlan
failing_later = record fetching { peerfails = 2 ∷ [] }

abbrev second_block_fails : Script
second_block_fails = record shard_fetch { lives = failing_later ∷ [] }

abbrev one_of_two : List Event
one_of_two = Opened 0 ∷ Applied 1 ∷ Applied 2 ∷ FetchStart (key 97) 2 ∷ Block (key 97) (key 99) ∷ Applied 3 ∷ []

abbrev failed_later : Life
failed_later = life 0 one_of_two (answered 1 [] Stopped ∷ answered 2 [] Stopped ∷ answered 3 [] Stopped ∷ []) ending.Faulted

second_block_fails_demanded : IsDemanded second_block_fails (fresh second_block_fails) 7 (Some (fault.Peer 1))
    (begun failing_later (fresh second_block_fails) failed_later ∷ [])
second_block_fails_demanded =
    ends_faulted second_block_fails failing_later [] failed_later (fault.Peer 1) refl
    (faults (given_by second_block_fails failing_later) (fresh second_block_fails) failing_later one_of_two failed_later.answers
    (refl, refl, (refl, refl, (refl, refl, tt))) refl refl refl refl refl refl)
    refl (λ e. omega (arith, e)) (refl, refl)

second_block_fails_played : Plays (stage second_block_fails failing_later (fresh second_block_fails) 10) failed_later
unfolding readers_at_end
second_block_fails_played = plays (stage second_block_fails failing_later (fresh second_block_fails) 10) 100 refl refl

-- ---- atomic operations that come while their key is fetched

abbrev adds_one : Mutation
adds_one = Atomic Add (key 97) (key 1)

abbrev pub adding : LifePlan
adding = record (life_to 5) {
  asks = gets 1 1 97 4 ∷ [];
  dos = does act.Apply 2 ∷ does act.Start 1 ∷ does act.Block 1 ∷ does act.Apply 1 ∷ flush ∷ does act.Apply 2 ∷ flush ∷ poll 1 1 ∷ [];
}

abbrev pub held_atomics : Script
held_atomics = record {
  settings = record settings { window = 1 };
  own = below_a ∷ [];
  log =
      batch 1 [] (adds_one ∷ []) ∷ batch 2 (Assign from_a ∷ []) (adds_one ∷ []) ∷ batch 3 [] (adds_one ∷ []) ∷ empty 4 ∷ empty 5 ∷ [];
  lives = adding ∷ [];
}

abbrev pub one_block : List Event
one_block =
    Opened 0 ∷ Applied 1 ∷ Applied 2 ∷ FetchStart (key 97) 2 ∷ Block (key 97) (key 255) ∷ Applied 3 ∷ Began 2 ∷ Durable 2 ∷ Applied 4
    ∷ Applied 5 ∷ Began 4 ∷ Durable 4 ∷ []

abbrev added : Life
added = life 0 one_block (answered 1 (12 ∷ []) (Value (key 3)) ∷ []) ending.Closed

held_atomics_demanded : IsDemanded held_atomics (fresh held_atomics) 0 None (begun adding (fresh held_atomics) added ∷ [])
held_atomics_demanded =
    closes_alone held_atomics adding one_block added.answers refl
    (closes (given_by held_atomics adding) (fresh held_atomics) adding one_block added.answers (refl, refl, tt)
    refl refl refl refl refl refl refl refl refl)

held_atomics_played : Plays (stage held_atomics adding (fresh held_atomics) 10) added
unfolding readers_at_end
held_atomics_played = plays (stage held_atomics adding (fresh held_atomics) 10) 100 refl refl

-- ---- a source that has forgotten the version of a fetch

abbrev pub splitting : LifePlan
splitting = record (life_to 6) {
  asks = gets 1 1 97 5 ∷ gets 2 1 98 5 ∷ [];
  dos =
      does act.Apply 2 ∷ does act.Start 1 ∷ does act.Block 1 ∷ does act.Apply 1 ∷ does act.Block 1 ∷ flush ∷ does act.Apply 1
      ∷ does act.Start 1 ∷ does act.Block 1 ∷ flush ∷ does act.Apply 2 ∷ flush ∷ [];
  cuts = 1 ∷ [];
}

abbrev pub too_old_split : Script
too_old_split = record {
  settings = record settings { window = 1; block = 1 };
  own = below_a ∷ [];
  log =
      batch 1 [] (Set (key 97) (key 49) ∷ Set (key 98) (key 50) ∷ []) ∷ batch 2 (Assign from_a ∷ []) []
      ∷ batch 3 [] (Set (key 97) (key 57) ∷ Set (key 98) (key 58) ∷ []) ∷ empty 4 ∷ empty 5 ∷ empty 6 ∷ [];
  lives = splitting ∷ [];
}

abbrev pub split_once : List Event
split_once =
    Opened 0 ∷ Applied 1 ∷ Applied 2 ∷ FetchStart (key 97) 2 ∷ Block (key 97) (key 98) ∷ Applied 3 ∷ Split (key 97) (key 98)
    ∷ Began 2 ∷ Durable 2 ∷ Applied 4 ∷ FetchStart (key 98) 4 ∷ Block (key 98) (key 255) ∷ Began 3 ∷ Durable 3 ∷ Applied 5
    ∷ Applied 6 ∷ Began 5 ∷ Durable 5 ∷ []

abbrev split : Life
split = life 0 split_once (answered 1 (18 ∷ []) (Value (key 57)) ∷ answered 2 (18 ∷ []) (Value (key 58)) ∷ []) ending.Closed

too_old_split_demanded : IsDemanded too_old_split (fresh too_old_split) 0 None (begun splitting (fresh too_old_split) split ∷ [])
too_old_split_demanded =
    closes_alone too_old_split splitting split_once split.answers refl
    (closes (given_by too_old_split splitting) (fresh too_old_split) splitting split_once split.answers (refl, refl, (refl, refl, tt))
    refl refl refl refl refl refl refl refl refl)

too_old_split_played : Plays (stage too_old_split splitting (fresh too_old_split) 10) split
unfolding readers_at_end
too_old_split_played = plays (stage too_old_split splitting (fresh too_old_split) 10) 100 refl refl

-- a cut before the first block makes no version too old that is fetched there. Of more cuts the last that was reached counts
cut_before_first_played : Plays (stage shard_fetch (record fetching { cuts = 0 ∷ [] }) (fresh shard_fetch) 10) fetched
unfolding readers_at_end
cut_before_first_played = plays (stage shard_fetch (record fetching { cuts = 0 ∷ [] }) (fresh shard_fetch) 10) 100 refl refl

three_cuts_played : Plays (stage too_old_split (record splitting { cuts = 0 ∷ 1 ∷ 9 ∷ [] }) (fresh too_old_split) 10) split
unfolding readers_at_end
three_cuts_played = plays (stage too_old_split (record splitting { cuts = 0 ∷ 1 ∷ 9 ∷ [] }) (fresh too_old_split) 10) 100 refl refl

-- blocks and splits are asked of the source of fetches, and are marks
asked_thrice : blocks split_once ≡ 3
asked_thrice = refl

marked_thrice : marks too_old_split.log split_once ≡ 3
marked_thrice = refl

-- ---- reports of these scripts that aren't demanded

-- a split in a life without a cut, and before as many marks as its cut says
splits_uncut : IsLife (given_by too_old_split splitting) (fresh too_old_split) (record splitting { cuts = [] }) split → ⊥
splits_uncut is_life = let e : false ≡ true = is_life.split in cc

splits_too_soon : IsLife (given_by too_old_split splitting) (fresh too_old_split) (record splitting { cuts = 2 ∷ [] }) split → ⊥
splits_too_soon is_life = let e : false ≡ true = is_life.split in cc

-- a split of a piece that is fetched at the newest version
splits_at_newest : IsLife (given_by too_old_split splitting) (fresh too_old_split) (record splitting { cuts = 0 ∷ [] })
    (life 0 (Opened 0 ∷ Applied 1 ∷ Applied 2 ∷ FetchStart (key 97) 2 ∷ Split (key 97) (key 97) ∷ [])
    (answered 1 [] Stopped ∷ answered 2 [] Stopped ∷ []) ending.Faulted) → ⊥
splits_at_newest is_life = let e : false ≡ true = is_life.split in cc

-- a source that fails in a life that doesn't let it, and before as many marks as its line says
fails_unasked : IsDemanded shard_fetch (fresh shard_fetch) 7 (Some (fault.Peer 1)) (begun fetching (fresh shard_fetch) failed ∷ []) → ⊥
fails_unasked report = let e : false ≡ true = report.cause.1 in cc

fails_too_soon : IsDemanded second_block_fails (fresh second_block_fails) 7 (Some (fault.Peer 1))
    (begun failing_later (fresh second_block_fails) failed ∷ []) → ⊥
fails_too_soon report = let e : false ≡ true = report.cause.1 in cc

-- one that gives the block that fails
gives_what_fails : IsLife (given_by shard_fetch fetching) (fresh shard_fetch) failing_later fetched → ⊥
gives_what_fails is_life = omega (arith, is_life.fetched 0 2 (le_refl 1))
