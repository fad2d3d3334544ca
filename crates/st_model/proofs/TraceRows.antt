-- Worked traces, states, moves and replies, computed from the definitions alone.
use Rattle.std.proofs.Common.{◌≡◌, ℕ, true, false, List, [], ◌∷◌, Some, None, map, refl}
use Rattle.std.specs.List.{list_any}
use Rattle.st_mutation.specs.declared.batch.Move.TheVariants.{Assign, Release}
use Rattle.st_fold.specs.declared.report.Event.TheVariants.{Opened, Applied, Closed, Killed}
use Rattle.st_fold.specs.declared.request.Answer.TheVariants.{Value, Absent, FutureVersion}
use Rattle.st_fold.specs.declared.request.Ask.TheVariants.{Get}
use Rattle.st_key.specs.Spans.{Span}
use Rattle.st_model.specs.declared.piece.Piece.{Piece}
use Rattle.st_model.specs.declared.piece.Phase.TheVariants as phase
use Rattle.st_model.specs.Pieces.{all_keys, move_piece, wants_block}
use Rattle.st_model.specs.Plain.{fresh_opening, plain_state}
use Rattle.st_model.specs.Reply.{first_unreadable, reply, too_old, not_yet, wrong_shard, found}
use Rattle.st_model.specs.Session.{Outcome, open_yet, over, never, outcome}
use Rattle.st_model.specs.State.{Given, Opening, State, after_batch, assigned, first_state}
use Rattle.st_model.specs.Trace.{commit_due, commit_version, is_at_rest, state_after, state_at}
use Rattle.st_model.proofs.RowParts.{given_to, sets, settings}
use Rattle.st_model.specs.Facts.{dropped, drops}

-- ---- traces

abbrev two_sets : Given
two_sets = given_to 2 (sets 1 97 49 ∷ sets 2 97 50 ∷ [])

legal : state_after two_sets fresh_opening (Opened 0 ∷ Applied 1 ∷ Applied 2 ∷ Closed ∷ []) ≡ Some (plain_state 2)
legal = refl

no_opening : state_after two_sets fresh_opening [] ≡ None
no_opening = refl

begins_otherwise : state_after two_sets fresh_opening (Applied 1 ∷ []) ≡ None
begins_otherwise = refl

opens_elsewhere : state_after two_sets fresh_opening (Opened 1 ∷ []) ≡ None
opens_elsewhere = refl

opened_twice : state_after two_sets fresh_opening (Opened 0 ∷ Opened 0 ∷ []) ≡ None
opened_twice = refl

out_of_order : state_after two_sets fresh_opening (Opened 0 ∷ Applied 2 ∷ []) ≡ None
out_of_order = refl

applied_twice : state_after two_sets fresh_opening (Opened 0 ∷ Applied 1 ∷ Applied 1 ∷ []) ≡ None
applied_twice = refl

no_batch : state_after two_sets fresh_opening (Opened 0 ∷ Applied 1 ∷ Applied 2 ∷ Applied 3 ∷ []) ≡ None
no_batch = refl

above_upto : state_after (given_to 1 two_sets.log) fresh_opening (Opened 0 ∷ Applied 1 ∷ Applied 2 ∷ []) ≡ None
above_upto = refl

after_the_end : state_after two_sets fresh_opening (Opened 0 ∷ Closed ∷ Applied 1 ∷ []) ≡ None
after_the_end = refl

ended_twice : state_after two_sets fresh_opening (Opened 0 ∷ Killed ∷ Closed ∷ []) ≡ None
ended_twice = refl

-- a place counts the opening, so there is none before it, and none after the end
place_zero : state_at two_sets fresh_opening (Opened 0 ∷ Applied 1 ∷ []) 0 ≡ None
place_zero = refl

place_one : state_at two_sets fresh_opening (Opened 0 ∷ Applied 1 ∷ []) 1 ≡ Some (plain_state 0)
place_one = refl

place_two : state_at two_sets fresh_opening (Opened 0 ∷ Applied 1 ∷ []) 2 ≡ Some (plain_state 1)
place_two = refl

place_three : state_at two_sets fresh_opening (Opened 0 ∷ Applied 1 ∷ []) 3 ≡ None
place_three = refl

-- ---- polls, of a get of a at version 1

abbrev led_to : List ℕ → Outcome
led_to places = outcome two_sets fresh_opening (Opened 0 ∷ Applied 1 ∷ []) (Get (97 ∷ []) 1) 0 places

not_polled : led_to [] ≡ open_yet
not_polled = refl

waits : led_to (1 ∷ 1 ∷ []) ≡ open_yet
waits = refl

waited : led_to (1 ∷ 1 ∷ 2 ∷ []) ≡ over (Value (49 ∷ []))
waited = refl

gives_up : led_to (1 ∷ 1 ∷ 1 ∷ []) ≡ over (FutureVersion 0 3)
gives_up = refl

polled_on : led_to (2 ∷ 2 ∷ []) ≡ never
polled_on = refl

too_patient : led_to (1 ∷ 1 ∷ 1 ∷ 2 ∷ []) ≡ never
too_patient = refl

polled_nowhere : led_to (3 ∷ []) ≡ never
polled_nowhere = refl

-- ---- rest, and what is due

batch_due : is_at_rest two_sets (plain_state 1) ≡ false
batch_due = refl

all_applied : is_at_rest two_sets (plain_state 2) ≡ true
all_applied = refl

up_to_its_version : is_at_rest (given_to 1 two_sets.log) (plain_state 1) ≡ true
up_to_its_version = refl

-- with a window of 3 versions, at version 5 the batches 1 and 2 are let go: a commit of version 2 is due
abbrev small_window : Given
small_window = record (given_to 5 (sets 1 97 49 ∷ sets 2 97 50 ∷ sets 5 97 49 ∷ [])) { settings = record settings { window = 3 } }

let_go : commit_version small_window (plain_state 5) ≡ 2
let_go = refl

commit_is_due : is_at_rest small_window (plain_state 5) ≡ false
commit_is_due = refl

none_let_go : commit_version small_window (plain_state 3) ≡ 0
none_let_go = refl

durable_already : commit_due small_window (record (plain_state 5) { durable = 2 }) ≡ false
durable_already = refl

one_flight : commit_due small_window (record (plain_state 5) { flight = Some fresh_opening }) ≡ false
one_flight = refl

-- ---- moves: the server owns the keys below b, version 1 gives it those from b on, version 2 takes those from a up to c

abbrev low : Span
low = record { begin = []; end = 98 ∷ [] }

abbrev moving : Given
moving = record (given_to 2 (
    record { version = 1; moves = Assign (record { begin = 98 ∷ []; end = 255 ∷ [] }) ∷ []; mutations = [] }
    ∷ record { version = 2; moves = Release (record { begin = 97 ∷ []; end = 99 ∷ [] }) ∷ []; mutations = [] } ∷ [])) {
      own = low ∷ [];
    }

abbrev half : Opening
half = record { version = 0; available = low ∷ [] }

half_opened : (first_state moving half).pieces
    ≡ record { begin = []; end = 98 ∷ []; phase = phase.Readable }
    ∷ record { begin = 98 ∷ []; end = 255 ∷ []; phase = phase.Absent 0 } ∷ []
half_opened = refl

abbrev moved : State
moved = record {
  newest = 2;
  oldest = 0;
  durable = 0;
  available = low ∷ [];
  flight = None;
  pieces =
      record { begin = []; end = 97 ∷ []; phase = phase.Readable }
      ∷ record { begin = 97 ∷ []; end = 98 ∷ []; phase = phase.Absent 2 }
      ∷ record { begin = 98 ∷ []; end = 99 ∷ []; phase = phase.Absent 2 }
      ∷ record { begin = 99 ∷ []; end = 255 ∷ []; phase = phase.WaitPrevious 0 } ∷ [];
  watches = [];
}

both_moves : state_after moving half (Opened 0 ∷ Applied 1 ∷ Applied 2 ∷ []) ≡ Some moved
both_moves = refl

-- the keys that are assigned at each version
assigned_then : map (assigned moving.own moving.log) (0 ∷ 1 ∷ 2 ∷ [])
    ≡ (low ∷ []) ∷ (all_keys ∷ [])
    ∷ (record { begin = []; end = 97 ∷ [] } ∷ record { begin = 99 ∷ []; end = 255 ∷ [] } ∷ []) ∷ []
assigned_then = refl

-- a life that opens at version 2 with the keys below a: what else is assigned waits, and the rest is absent
reopened : first_state moving (record { version = 2; available = record { begin = []; end = 97 ∷ [] } ∷ [] })
    ≡ record {
      newest = 2;
      oldest = 2;
      durable = 2;
      available = record { begin = []; end = 97 ∷ [] } ∷ [];
      flight = None;
      pieces =
          record { begin = []; end = 97 ∷ []; phase = phase.Readable }
          ∷ record { begin = 97 ∷ []; end = 99 ∷ []; phase = phase.Absent 2 }
          ∷ record { begin = 99 ∷ []; end = 255 ∷ []; phase = phase.WaitPrevious 2 } ∷ [];
      watches = [];
    }
reopened = refl

-- what is waited for is fetched, since what took it away is durable
fetch_due : is_at_rest moving moved ≡ false
fetch_due = refl

-- ---- a piece from a to ff that is fetched at version 1, up to c, of which the base has the keys up to b

abbrev fetched : (upto taken in_base : ℕ) → Piece
fetched upto taken in_base =
    record { begin = 97 ∷ []; end = 255 ∷ []; phase = phase.Fetching 1 (upto ∷ []) (taken ∷ []) (in_base ∷ []) }

abbrev fetching : Piece → State
fetching piece = record (plain_state 1) { pieces = record { begin = []; end = 97 ∷ []; phase = phase.Readable } ∷ piece ∷ [] }

abbrev empty_batch : Given
empty_batch = given_to 1 (record { version = 1; moves = []; mutations = [] } ∷ [])

-- a block is due where keys are still to be fetched, and a commit where rows came that aren't in the base
block_due : is_at_rest empty_batch (fetching (fetched 99 99 99)) ≡ false
block_due = refl

rows_due : commit_due empty_batch (fetching (fetched 255 98 98)) ≡ true
rows_due = refl

no_rows_due : commit_due empty_batch (fetching (fetched 255 255 255)) ≡ false
no_rows_due = refl

in_flight : is_at_rest empty_batch (record (plain_state 1) { flight = Some half }) ≡ false
in_flight = refl

rows_taken : commit_due empty_batch (fetching (fetched 255 255 98)) ≡ true
rows_taken = refl

all_in_base : commit_due empty_batch (fetching (fetched 99 99 99)) ≡ false
all_in_base = refl

no_block_due : list_any wants_block (fetching (fetched 255 98 98)).pieces ≡ false
no_block_due = refl

-- the next batch sends a piece that is whole to the versioned map, and no other
whole : (after_batch (fetching (fetched 255 255 255)) (record { version = 2; moves = []; mutations = [] })).pieces
    ≡ record { begin = []; end = 97 ∷ []; phase = phase.Readable }
    ∷ record { begin = 97 ∷ []; end = 255 ∷ []; phase = phase.Waiting 2 } ∷ []
whole = refl

not_whole : (after_batch (fetching (fetched 255 255 99)) (record { version = 2; moves = []; mutations = [] })).pieces
    ≡ (fetching (fetched 255 255 99)).pieces
not_whole = refl

-- a piece that is fetched is cut: each part keeps what was fetched of it, here up to d, taken up to c, and in the base up to b
cut_apart : move_piece 2 (fetched 100 99 98 ∷ []) (Release (record { begin = 99 ∷ []; end = 101 ∷ [] }))
    ≡ record { begin = 97 ∷ []; end = 99 ∷ []; phase = phase.Fetching 1 (99 ∷ []) (99 ∷ []) (98 ∷ []) }
    ∷ record { begin = 99 ∷ []; end = 101 ∷ []; phase = phase.Absent 2 }
    ∷ record { begin = 101 ∷ []; end = 255 ∷ []; phase = phase.Fetching 1 (101 ∷ []) (101 ∷ []) (101 ∷ []) } ∷ []
cut_apart = refl

cut_above : move_piece 2 (fetched 100 99 98 ∷ []) (Release (record { begin = 102 ∷ []; end = 255 ∷ [] }))
    ≡ record { begin = 97 ∷ []; end = 102 ∷ []; phase = phase.Fetching 1 (100 ∷ []) (99 ∷ []) (98 ∷ []) }
    ∷ record { begin = 102 ∷ []; end = 255 ∷ []; phase = phase.Absent 2 } ∷ []
cut_above = refl

-- what is absent stays so since the version that took it away
absent_already : move_piece 2 (record { begin = 97 ∷ []; end = 99 ∷ []; phase = phase.Absent 1 } ∷ []) (Release (record { begin = 98 ∷ []; end = 255 ∷ [] }))
    ≡ record { begin = 97 ∷ []; end = 99 ∷ []; phase = phase.Absent 1 } ∷ []
absent_already = refl

-- an assignment changes absent pieces alone
assigned_alone : move_piece 2 (fetched 100 99 98 ∷ []) (Assign all_keys) ≡ fetched 100 99 98 ∷ []
assigned_alone = refl

-- ---- replies there: the version is judged before the keys

not_come : reply moving.log moved (Get (97 ∷ []) 3) ≡ not_yet 2
not_come = refl

taken_away : reply moving.log moved (Get (97 ∷ 49 ∷ []) 2) ≡ wrong_shard (97 ∷ 49 ∷ [])
taken_away = refl

still_held : reply moving.log moved (Get (49 ∷ []) 2) ≡ found Absent
still_held = refl

gone : reply moving.log (record moved { oldest = 2 }) (Get (97 ∷ []) 1) ≡ too_old 2
gone = refl

-- the first key of a range that isn't served, whether it begins a piece or the range
first_gap : first_unreadable moved.pieces (record { begin = 49 ∷ []; end = 255 ∷ [] }) ≡ Some (97 ∷ [])
first_gap = refl

inside_gap : first_unreadable moved.pieces (record { begin = 97 ∷ 49 ∷ []; end = 255 ∷ [] }) ≡ Some (97 ∷ 49 ∷ [])
inside_gap = refl

no_gap : first_unreadable moved.pieces (record { begin = []; end = 97 ∷ [] }) ≡ None
no_gap = refl

-- ---- drops

abbrev around_b : Span
around_b = record { begin = 97 ∷ []; end = 99 ∷ [] }

-- to drop a key is to take it away where it is assigned just before the move
takes_what_is_assigned : drops (98 ∷ []) true (Release around_b ∷ []) ≡ true
takes_what_is_assigned = refl

takes_what_is_given_first : drops (98 ∷ []) false (Assign around_b ∷ Release around_b ∷ []) ≡ true
takes_what_is_given_first = refl

takes_nothing : drops (98 ∷ []) false (Release around_b ∷ []) ≡ false
takes_nothing = refl

takes_another : drops (99 ∷ []) true (Release around_b ∷ []) ≡ false
takes_another = refl

dropped_once : dropped (around_b ∷ []) (Release around_b ∷ Release around_b ∷ []) ≡ around_b ∷ []
dropped_once = refl
