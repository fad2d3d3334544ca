-- The states of worked lives with moves, fetches and commits, computed from the definitions alone.
use Rattle.std.proofs.Common.{◌≡◌, ℕ, List, [], ◌∷◌, ◌++◌, map, Option, Some, None, option_and_then, refl}
use Rattle.st_fold.specs.declared.plan.Act.{Act}
use Rattle.st_fold.specs.declared.plan.Act.TheVariants as act
use Rattle.st_fold.specs.declared.report.Event.{Event}
use Rattle.st_fold.specs.declared.report.Event.TheVariants.{Opened, Applied, FetchStart, Block, Split, Began, Durable, Closed, Killed}
use Rattle.st_model.specs.declared.piece.Piece.{Piece}
use Rattle.st_model.specs.declared.piece.Phase.{Phase}
use Rattle.st_model.specs.declared.piece.Phase.TheVariants as phase
use Rattle.st_model.specs.Pieces.{all_keys}
use Rattle.st_model.specs.Report.{given_by}
use Rattle.st_model.specs.State.{Given, Opening}
use Rattle.st_model.specs.Trace.{due, state_after, state_at}
use Rattle.st_model.proofs.DropRows.{drop_and_reassign, fetched_again, four_applied, losing, regaining}
use Rattle.st_model.proofs.FetchRows.{adding, below_a, fetching, held_atomics, one_block, shard_fetch, split_once, splitting, too_old_split, two_blocks}
use Rattle.st_model.proofs.RowParts.{all, key, span}

-- ---- the lives of worked scripts

abbrev fetch : Given
fetch = given_by shard_fetch fetching

abbrev held : Given
held = given_by held_atomics adding

abbrev split : Given
split = given_by too_old_split splitting

abbrev reassigned : Given
reassigned = given_by drop_and_reassign losing

abbrev second_life : Given
second_life = given_by drop_and_reassign regaining

-- the server owns the keys below a
abbrev only_below_a : Opening
only_below_a = record { version = 0; available = below_a ∷ [] }

abbrev piece : List ℕ → List ℕ → Phase → Piece
piece begin end phase = record { begin = begin; end = end; phase = phase }

-- ---- a piece is fetched while a batch comes

-- the keys of the piece are served once the commit of the version at which they were sent is durable
fetched_to_the_end : state_after fetch only_below_a (two_blocks ++ Closed ∷ [])
    ≡ Some (record {
      newest = 5;
      oldest = 4;
      durable = 4;
      available = all_keys ∷ [];
      flight = None;
      pieces = piece [] (key 97) phase.Readable ∷ piece (key 97) (key 255) phase.Readable ∷ [];
      watches = [];
    })
fetched_to_the_end = refl

-- after the first block, after the batch that came meanwhile, and in the first commit
half_fetched : state_at fetch only_below_a two_blocks 8
    ≡ Some (record {
      newest = 3;
      oldest = 0;
      durable = 0;
      available = span [] (key 97) ∷ [];
      flight = Some (record { version = 2; available = span [] (key 97) ∷ [] });
      pieces = piece [] (key 97) phase.Readable ∷ piece (key 97) (key 255) (phase.Fetching 2 (key 255) (key 255) (key 97)) ∷ [];
      watches = [];
    })
half_fetched = refl

-- in the second commit, which will make the piece available
sent : state_at fetch only_below_a two_blocks 12
    ≡ Some (record {
      newest = 5;
      oldest = 2;
      durable = 2;
      available = span [] (key 97) ∷ [];
      flight = Some (all 4);
      pieces = piece [] (key 97) phase.Readable ∷ piece (key 97) (key 255) (phase.Waiting 4) ∷ [];
      watches = [];
    })
sent = refl

-- a block past the end of its piece, and one that is no progress
past_the_end : state_after fetch only_below_a
    (Opened 0 ∷ Applied 1 ∷ Applied 2 ∷ FetchStart (key 97) 2 ∷ Block (key 97) (255 ∷ 0 ∷ []) ∷ []) ≡ None
past_the_end = refl

no_progress : state_after fetch only_below_a
    (Opened 0 ∷ Applied 1 ∷ Applied 2 ∷ FetchStart (key 97) 2 ∷ Block (key 97) (key 97) ∷ []) ≡ None
no_progress = refl

-- a fetch at a version that isn't the newest, and one of a piece that begins elsewhere
starts_below : state_after fetch only_below_a (Opened 0 ∷ Applied 1 ∷ Applied 2 ∷ FetchStart (key 97) 1 ∷ []) ≡ None
starts_below = refl

starts_elsewhere : state_after fetch only_below_a (Opened 0 ∷ Applied 1 ∷ Applied 2 ∷ FetchStart (key 98) 2 ∷ []) ≡ None
starts_elsewhere = refl

-- a commit of a version that the window keeps, and one below the greatest that it lets go
began_above : state_after fetch only_below_a (Opened 0 ∷ Applied 1 ∷ Applied 2 ∷ Applied 3 ∷ Began 3 ∷ []) ≡ None
began_above = refl

began_below : state_after fetch only_below_a (Opened 0 ∷ Applied 1 ∷ Applied 2 ∷ Applied 3 ∷ Began 1 ∷ []) ≡ None
began_below = refl

began_twice : state_after fetch only_below_a (Opened 0 ∷ Applied 1 ∷ Applied 2 ∷ Applied 3 ∷ Began 2 ∷ Began 2 ∷ []) ≡ None
began_twice = refl

-- the end of a commit that didn't begin, and of another one
durable_without_a_flight : state_after fetch only_below_a (Opened 0 ∷ Applied 1 ∷ Applied 2 ∷ Applied 3 ∷ Durable 2 ∷ []) ≡ None
durable_without_a_flight = refl

durable_of_another : state_after fetch only_below_a (Opened 0 ∷ Applied 1 ∷ Applied 2 ∷ Applied 3 ∷ Began 2 ∷ Durable 1 ∷ []) ≡ None
durable_of_another = refl

-- a split of a piece that was fetched whole, and one elsewhere than where the fetch stands
split_of_whole : state_after fetch only_below_a
    (Opened 0 ∷ Applied 1 ∷ Applied 2 ∷ FetchStart (key 97) 2 ∷ Block (key 97) (key 255) ∷ Split (key 97) (key 255) ∷ []) ≡ None
split_of_whole = refl

split_elsewhere : state_after fetch only_below_a
    (Opened 0 ∷ Applied 1 ∷ Applied 2 ∷ FetchStart (key 97) 2 ∷ Block (key 97) (key 99) ∷ Split (key 97) (key 98) ∷ []) ≡ None
split_elsewhere = refl

-- a split where nothing was fetched: the whole piece waits again
split_at_its_begin : state_after fetch only_below_a (Opened 0 ∷ Applied 1 ∷ Applied 2 ∷ FetchStart (key 97) 2 ∷ Split (key 97) (key 97) ∷ [])
    ≡ state_after fetch only_below_a (Opened 0 ∷ Applied 1 ∷ Applied 2 ∷ [])
split_at_its_begin = refl

-- ---- what is due first at each place: the end of a commit before its begin, that before a block, that before a fetch,
-- and that before a batch

abbrev due_at : Given → Opening → List Event → ℕ → Option Act
due_at given opening trace place = option_and_then (due given) (state_at given opening trace place)

due_then : map (due_at fetch only_below_a two_blocks) (1 ∷ 3 ∷ 4 ∷ 5 ∷ 7 ∷ 8 ∷ 9 ∷ 10 ∷ 11 ∷ 12 ∷ 13 ∷ [])
    ≡ Some act.Apply ∷ Some act.Began ∷ Some act.Began ∷ Some act.Began ∷ Some act.Began ∷ Some act.Durable ∷ Some act.Apply
    ∷ Some act.Began ∷ Some act.Began ∷ Some act.Durable ∷ None ∷ []
due_then = refl

-- ---- atomic operations that come while their key is fetched

held_legal : state_after held only_below_a one_block ≡ state_after fetch only_below_a two_blocks
held_legal = refl

-- a commit that begins with the newest version, which the window keeps
held_began_above : state_after held only_below_a
    (Opened 0 ∷ Applied 1 ∷ Applied 2 ∷ FetchStart (key 97) 2 ∷ Block (key 97) (key 255) ∷ Applied 3 ∷ Began 3 ∷ []) ≡ None
held_began_above = refl

-- ---- a source that has forgotten the version of a fetch

-- what was fetched goes its way, and what wasn't is fetched anew
split_apart : state_at split only_below_a split_once 14
    ≡ Some (record {
      newest = 4;
      oldest = 3;
      durable = 3;
      available = span [] (key 97) ∷ [];
      flight = None;
      pieces =
          piece [] (key 97) phase.Readable ∷ piece (key 97) (key 98) (phase.Waiting 4)
          ∷ piece (key 98) (key 255) (phase.Fetching 4 (key 255) (key 255) (key 255)) ∷ [];
      watches = [];
    })
split_apart = refl

split_to_the_end : state_after split only_below_a (split_once ++ Closed ∷ [])
    ≡ Some (record {
      newest = 6;
      oldest = 5;
      durable = 5;
      available = all_keys ∷ [];
      flight = None;
      pieces =
          piece [] (key 97) phase.Readable ∷ piece (key 97) (key 98) phase.Readable
          ∷ piece (key 98) (key 255) phase.Readable ∷ [];
      watches = [];
    })
split_to_the_end = refl

-- the block after the split comes of the piece that waited, and not of the part that was fetched
block_of_the_part : state_after split only_below_a
    (Opened 0 ∷ Applied 1 ∷ Applied 2 ∷ FetchStart (key 97) 2 ∷ Block (key 97) (key 98) ∷ Applied 3 ∷ Split (key 97) (key 98)
    ∷ Block (key 97) (key 255) ∷ []) ≡ None
block_of_the_part = refl

-- ---- keys that are taken away and given back, over two lives

killed_state : state_after reassigned (all 0) (four_applied ++ Killed ∷ [])
    ≡ Some (record {
      newest = 4;
      oldest = 1;
      durable = 1;
      available = all_keys ∷ [];
      flight = None;
      pieces =
          piece [] (key 97) phase.Readable ∷ piece (key 97) (key 98) (phase.WaitPrevious 2)
          ∷ piece (key 98) (key 255) phase.Readable ∷ [];
      watches = [];
    })
killed_state = refl

-- a fetch that starts while the drop isn't durable
starts_too_soon : state_after reassigned (all 0) (four_applied ++ FetchStart (key 97) 4 ∷ []) ≡ None
starts_too_soon = refl

-- the drop is durable, so the keys aren't available, and their fetch may start
dropped : state_at second_life (all 1) fetched_again 8
    ≡ Some (record {
      newest = 5;
      oldest = 2;
      durable = 2;
      available = span [] (key 97) ∷ span (key 98) (key 255) ∷ [];
      flight = None;
      pieces =
          piece [] (key 97) phase.Readable ∷ piece (key 97) (key 98) (phase.Fetching 5 (key 97) (key 97) (key 97))
          ∷ piece (key 98) (key 255) phase.Readable ∷ [];
      watches = [];
    })
dropped = refl

second_state : state_after second_life (all 1) (fetched_again ++ Closed ∷ [])
    ≡ Some (record {
      newest = 9;
      oldest = 6;
      durable = 6;
      available = all_keys ∷ [];
      flight = None;
      pieces =
          piece [] (key 97) phase.Readable ∷ piece (key 97) (key 98) phase.Readable ∷ piece (key 98) (key 255) phase.Readable ∷ [];
      watches = [];
    })
second_state = refl

-- each event of the closing is what is due first
closing_order : map (due_at second_life (all 1) fetched_again) (1 ∷ 4 ∷ 5 ∷ 6 ∷ 7 ∷ 8 ∷ 9 ∷ 10 ∷ 11 ∷ 12 ∷ 13 ∷ 14 ∷ 22 ∷ [])
    ≡ Some act.Apply ∷ Some act.Apply ∷ Some act.Began ∷ Some act.Durable ∷ Some act.Start ∷ Some act.Block ∷ Some act.Began
    ∷ Some act.Durable ∷ Some act.Apply ∷ Some act.Began ∷ Some act.Durable ∷ Some act.Apply ∷ Some act.Durable ∷ []
closing_order = refl
