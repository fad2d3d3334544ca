-- Worked lives and the jobs of their commits, computed from the definitions alone.
use Rattle.std.proofs.Common.{◌≡◌, ℕ, Bool, true, false, List, [], ◌∷◌, ◌++◌, length, take, map, Option, Some, None, refl}
use Rattle.std.specs.Option.{option_map}
use Rattle.st_atomic.specs.declared.AtomicOp.{AtomicOp}
use Rattle.st_atomic.specs.declared.AtomicOp.TheVariants.{Add, Max, CompareAndClear}
use Rattle.st_fold.specs.declared.plan.Settings.{Settings}
use Rattle.st_fold.specs.declared.report.Event.{Event}
use Rattle.st_fold.specs.declared.report.Event.TheVariants.{Opened, Applied, FetchStart, Block, Split, Began, Durable}
use Rattle.st_key.specs.Spans.{Span, all_keys}
use Rattle.st_meta.specs.Stored.{sets_of, stored}
use Rattle.st_model.specs.State.{Given, Opening}
use Rattle.st_mutation.specs.declared.batch.Batch.{Batch}
use Rattle.st_mutation.specs.declared.batch.Move.{Move}
use Rattle.st_mutation.specs.declared.batch.Move.TheVariants.{Assign, Release}
use Rattle.st_mutation.specs.declared.batch.Mutation.{Mutation}
use Rattle.st_mutation.specs.declared.batch.Mutation.TheVariants as write
use Rattle.st_ops.specs.Spelling.{spelt}
use Rattle.st_ops.specs.declared.op.Op.{Op}
use Rattle.st_ops.specs.declared.op.Op.TheVariants.{Set, Clear}
use Rattle.st_course.specs.Course.{job_after, made_after}
use Rattle.st_course.specs.Sent.{stored_as}
use Rattle.st_course.specs.declared.job.CommitJob.{CommitJob}

-- ---- scripts. The keys a, b, c and d are 97 to 100, the values 1 to 9 are 49 to 57

abbrev settings : Settings
settings = record { window = 1; patience = 3; seed = 1; swap = 1048576; limit = 268435456; quota = 4096; block = 100; watches = 10000 }

abbrev key : ℕ → List ℕ
key byte = byte ∷ []

abbrev span : List ℕ → List ℕ → Span
span begin end = record { begin = begin; end = end }

abbrev below_a : List Span
below_a = span [] (key 97) ∷ []

abbrev all : List Span
all = all_keys ∷ []

abbrev a_alone : Span
a_alone = span (key 97) (key 98)

abbrev all_but_a : List Span
all_but_a = span [] (key 97) ∷ span (key 98) (key 255) ∷ []

abbrev batch : ℕ → List Move → List Mutation → Batch
batch version moves mutations = record { version = version; moves = moves; mutations = mutations }

abbrev empty : ℕ → Batch
empty version = batch version [] []

abbrev set : (byte value : ℕ) → Mutation
set byte value = write.Set (key byte) (key value)

abbrev opens : ℕ → List Span → Opening
opens version available = record { version = version; available = available }

-- the operations of a job of a version: these, and the state with these ranges
abbrev storing : List Op → (version : ℕ) → (assigned available : List Span) → List Op
storing ops version assigned available = ops ++ sets_of (stored (record { version = version; assigned = assigned; available = available }))

abbrev job : List Op → (version : ℕ) → (assigned available : List Span) → Option CommitJob
job ops version assigned available = Some (record { version = version; ops = storing ops version assigned available })

-- the job in flight at a place of a trace
abbrev job_at : Given → Opening → (fresh : Bool) → List Event → ℕ → Option CommitJob
job_at given opening fresh trace place = job_after given opening fresh (take place trace)

-- ---- mutations as sets and clears

abbrev when : Option (List ℕ) → AtomicOp → Option Mutation
when before op = stored_as (write.Atomic op (key 97) (key 49)) (λ _. before)

-- also where the value stays
set_again : when (Some (key 49)) Max ≡ Some (set 97 49)
set_again = refl

compared_equal : when (Some (key 49)) CompareAndClear ≡ Some (write.Clear (span (key 97) (97 ∷ 0 ∷ [])))
compared_equal = refl

compared_other : when (Some (key 50)) CompareAndClear ≡ None
compared_other = refl

compared_absent : when None CompareAndClear ≡ None
compared_absent = refl

-- ---- the first commit of a fresh store

abbrev one_set : Given
one_set = record { log = batch 1 [] (set 97 49 ∷ []) ∷ empty 2 ∷ []; upto = 2; own = all; settings = settings }

abbrev first_trace : List Event
first_trace = Opened 0 ∷ Applied 1 ∷ Applied 2 ∷ Began 1 ∷ Durable 1 ∷ []

first_commit : job_at one_set (opens 0 all) true first_trace 4 ≡ job (Set (key 97) (key 49) ∷ []) 1 all all
first_commit = refl

-- its sets as bytes
abbrev first_bytes : List ℕ
first_bytes =
    (0x01 ∷ 0x01 ∷ 0x00 ∷ 0x00 ∷ 0x00 ∷ 0x01 ∷ 0x00 ∷ 0x00 ∷ 0x00 ∷ 0x61 ∷ 0x31 ∷ [])
    ++ (0x01 ∷ 0x0b ∷ 0x00 ∷ 0x00 ∷ 0x00 ∷ 0x0d ∷ 0x00 ∷ 0x00 ∷ 0x00 ∷ [])
    ++ (0xff ∷ 0xff ∷ 0x2f ∷ 0x61 ∷ 0x73 ∷ 0x73 ∷ 0x69 ∷ 0x67 ∷ 0x6e ∷ 0x65 ∷ 0x64 ∷ [])
    ++ (0x01 ∷ 0x00 ∷ 0x00 ∷ 0x00 ∷ 0x00 ∷ 0x00 ∷ 0x00 ∷ 0x00 ∷ 0x01 ∷ 0x00 ∷ 0x00 ∷ 0x00 ∷ 0xff ∷ [])
    ++ (0x01 ∷ 0x0c ∷ 0x00 ∷ 0x00 ∷ 0x00 ∷ 0x0d ∷ 0x00 ∷ 0x00 ∷ 0x00 ∷ [])
    ++ (0xff ∷ 0xff ∷ 0x2f ∷ 0x61 ∷ 0x76 ∷ 0x61 ∷ 0x69 ∷ 0x6c ∷ 0x61 ∷ 0x62 ∷ 0x6c ∷ 0x65 ∷ [])
    ++ (0x01 ∷ 0x00 ∷ 0x00 ∷ 0x00 ∷ 0x00 ∷ 0x00 ∷ 0x00 ∷ 0x00 ∷ 0x01 ∷ 0x00 ∷ 0x00 ∷ 0x00 ∷ 0xff ∷ [])
    ++ (0x01 ∷ 0x0a ∷ 0x00 ∷ 0x00 ∷ 0x00 ∷ 0x08 ∷ 0x00 ∷ 0x00 ∷ 0x00 ∷ [])
    ++ (0xff ∷ 0xff ∷ 0x2f ∷ 0x76 ∷ 0x65 ∷ 0x72 ∷ 0x73 ∷ 0x69 ∷ 0x6f ∷ 0x6e ∷ [])
    ++ (0x01 ∷ 0x00 ∷ 0x00 ∷ 0x00 ∷ 0x00 ∷ 0x00 ∷ 0x00 ∷ 0x00 ∷ [])

first_spelt : option_map (λ j. spelt j.ops) (job_at one_set (opens 0 all) true first_trace 4) ≡ Some first_bytes
first_spelt = refl

first_length : length first_bytes ≡ 105
first_length = refl

first_made : made_after one_set (opens 0 all) true first_trace ≡ storing (Set (key 97) (key 49) ∷ []) 1 all all
first_made = refl

-- a mutation is sent to each piece that takes it, in the order of keys, behind the clears of its batch's drops
abbrev drop_and_clear : Given
drop_and_clear = record one_set {
  log = batch 1 (Release a_alone ∷ Release all_keys ∷ Assign a_alone ∷ []) [] ∷ empty 2 ∷ [];
}

drops_in_order : job_at drop_and_clear (opens 0 all) true first_trace 4
    ≡ job (Clear (key 97) (key 98) ∷ Clear [] (key 97) ∷ Clear (key 98) (key 255) ∷ []) 1 (a_alone ∷ []) []
drops_in_order = refl

abbrev clear_around : Given
clear_around = record one_set {
  log = batch 1 (Release a_alone ∷ []) (write.Clear all_keys ∷ set 97 49 ∷ set 98 50 ∷ []) ∷ empty 2 ∷ [];
}

sent_to_pieces : job_at clear_around (opens 0 all) true first_trace 4
    ≡ job (Clear (key 97) (key 98) ∷ Clear [] (key 97) ∷ Clear (key 98) (key 255) ∷ Set (key 98) (key 50) ∷ []) 1 all_but_a all_but_a
sent_to_pieces = refl

-- a store with frames is cleared of what isn't available, by the first commit alone
abbrev two_sets : Given
two_sets = record one_set { log = batch 1 [] (set 97 49 ∷ []) ∷ empty 2 ∷ empty 3 ∷ []; upto = 3 }

abbrev available_parts : List Span
available_parts = span [] (key 97) ∷ span (key 98) (key 100) ∷ []

abbrev two_commits : List Event
two_commits = first_trace ++ Applied 3 ∷ Began 2 ∷ []

cleared_first : job_at two_sets (opens 0 available_parts) false two_commits 4
    ≡ job (Clear (key 97) (key 98) ∷ Clear (key 100) (key 255) ∷ []) 1 all available_parts
cleared_first = refl

cleared_once : job_at two_sets (opens 0 available_parts) false two_commits 7 ≡ job [] 2 all available_parts
cleared_once = refl

-- ---- a piece is fetched while a batch comes

abbrev fetch : Given
fetch = record {
  log =
      batch 1 [] (set 97 49 ∷ set 98 50 ∷ set 99 51 ∷ set 100 52 ∷ [])
      ∷ batch 2 (Assign (span (key 97) (key 255)) ∷ []) [] ∷ batch 3 [] (set 98 57 ∷ []) ∷ empty 4 ∷ empty 5 ∷ [];
  upto = 5;
  own = below_a;
  settings = record settings { block = 2 };
}

abbrev fetched : List Event
fetched =
    Opened 0 ∷ Applied 1 ∷ Applied 2 ∷ FetchStart (key 97) 2 ∷ Block (key 97) (key 99) ∷ Applied 3 ∷ Block (key 97) (key 255)
    ∷ Began 2 ∷ Durable 2 ∷ Applied 4 ∷ Applied 5 ∷ Began 4 ∷ Durable 4 ∷ []

-- the first commit has the rows as they were at the fetch, the second what came meanwhile
rows_are_committed : job_at fetch (opens 0 below_a) true fetched 8
    ≡ job (Set (key 97) (key 49) ∷ Set (key 98) (key 50) ∷ Set (key 99) (key 51) ∷ Set (key 100) (key 52) ∷ []) 2 all below_a
rows_are_committed = refl

held_is_committed : job_at fetch (opens 0 below_a) true fetched 12 ≡ job (Set (key 98) (key 57) ∷ []) 4 all all
held_is_committed = refl

-- a commit takes the rows that came before it begins, and the next one those behind them
abbrev half_fetched : List Event
half_fetched =
    Opened 0 ∷ Applied 1 ∷ Applied 2 ∷ FetchStart (key 97) 2 ∷ Block (key 97) (key 99) ∷ Began 1 ∷ Block (key 97) (key 255) ∷ Durable 1
    ∷ Began 1 ∷ []

first_rows : job_at fetch (opens 0 below_a) true half_fetched 7 ≡ job (Set (key 97) (key 49) ∷ Set (key 98) (key 50) ∷ []) 1 below_a below_a
first_rows = refl

later_rows : job_at fetch (opens 0 below_a) true half_fetched 9 ≡ job (Set (key 99) (key 51) ∷ Set (key 100) (key 52) ∷ []) 1 below_a below_a
later_rows = refl

-- ---- atomic operations that come while their key is fetched

abbrev add_one : Mutation
add_one = write.Atomic Add (key 97) (key 1)

abbrev held : Given
held = record fetch {
  log =
      batch 1 [] (add_one ∷ []) ∷ batch 2 (Assign (span (key 97) (key 255)) ∷ []) (add_one ∷ [])
      ∷ batch 3 [] (add_one ∷ []) ∷ empty 4 ∷ empty 5 ∷ [];
  settings = settings;
}

abbrev held_trace : List Event
held_trace =
    Opened 0 ∷ Applied 1 ∷ Applied 2 ∷ FetchStart (key 97) 2 ∷ Block (key 97) (key 255) ∷ Applied 3 ∷ Began 2 ∷ Durable 2
    ∷ Applied 4 ∷ Applied 5 ∷ Began 4 ∷ Durable 4 ∷ []

sum_is_fetched : job_at held (opens 0 below_a) true held_trace 7 ≡ job (Set (key 97) (key 2) ∷ []) 2 all below_a
sum_is_fetched = refl

sum_is_sent : job_at held (opens 0 below_a) true held_trace 11 ≡ job (Set (key 97) (key 3) ∷ []) 4 all all
sum_is_sent = refl

-- what was held is sent before the batch's own mutations, and each sees what those before it left
abbrev held_then_own : Given
held_then_own = record held {
  log =
      batch 1 [] (add_one ∷ []) ∷ batch 2 (Assign (span (key 97) (key 255)) ∷ []) (add_one ∷ [])
      ∷ batch 3 [] (add_one ∷ []) ∷ batch 4 [] (add_one ∷ add_one ∷ []) ∷ empty 5 ∷ [];
}

sums_in_order : job_at held_then_own (opens 0 below_a) true held_trace 11
    ≡ job (Set (key 97) (key 3) ∷ Set (key 97) (key 4) ∷ Set (key 97) (key 5) ∷ []) 4 all all
sums_in_order = refl

-- a drop clears before, and of the piece that it cuts the part that stays is sent
abbrev cut_then_sent : Given
cut_then_sent = record held {
  log =
      batch 1 [] (add_one ∷ []) ∷ batch 2 (Assign (span (key 97) (key 255)) ∷ []) []
      ∷ batch 3 [] (add_one ∷ set 98 49 ∷ []) ∷ batch 4 (Release a_alone ∷ []) (add_one ∷ set 98 50 ∷ []) ∷ empty 5 ∷ [];
}

part_is_sent : job_at cut_then_sent (opens 0 below_a) true held_trace 11
    ≡ job (Clear (key 97) (key 98) ∷ Set (key 98) (key 49) ∷ Set (key 98) (key 50) ∷ []) 4 all_but_a all_but_a
part_is_sent = refl

-- ---- a source that has forgotten the version of a fetch

abbrev split : Given
split = record fetch {
  log =
      batch 1 [] (set 97 49 ∷ set 98 50 ∷ []) ∷ batch 2 (Assign (span (key 97) (key 255)) ∷ []) []
      ∷ batch 3 [] (set 97 57 ∷ set 98 58 ∷ []) ∷ empty 4 ∷ empty 5 ∷ empty 6 ∷ [];
  upto = 6;
  settings = record settings { block = 1 };
}

abbrev split_trace : List Event
split_trace =
    Opened 0 ∷ Applied 1 ∷ Applied 2 ∷ FetchStart (key 97) 2 ∷ Block (key 97) (key 98) ∷ Applied 3 ∷ Split (key 97) (key 98)
    ∷ Began 2 ∷ Durable 2 ∷ Applied 4 ∷ FetchStart (key 98) 4 ∷ Block (key 98) (key 255) ∷ Began 3 ∷ Durable 3 ∷ Applied 5
    ∷ Applied 6 ∷ Began 5 ∷ Durable 5 ∷ []

-- the left part is committed as it was fetched, the right part as it is fetched anew, and then what the left part held
left_part : job_at split (opens 0 below_a) true split_trace 8 ≡ job (Set (key 97) (key 49) ∷ []) 2 all below_a
left_part = refl

right_part : job_at split (opens 0 below_a) true split_trace 13 ≡ job (Set (key 98) (key 58) ∷ []) 3 all below_a
right_part = refl

held_of_left : job_at split (opens 0 below_a) true split_trace 17 ≡ job (Set (key 97) (key 57) ∷ []) 5 all all
held_of_left = refl

-- ---- keys that are taken away and given back, over two lives

abbrev reassigned : Given
reassigned = record {
  log =
      batch 1 [] (set 97 49 ∷ []) ∷ batch 2 (Release a_alone ∷ []) [] ∷ batch 3 (Assign a_alone ∷ []) [] ∷ empty 4 ∷ empty 5
      ∷ empty 6 ∷ empty 7 ∷ empty 8 ∷ empty 9 ∷ [];
  upto = 4;
  own = all;
  settings = record settings { window = 3 };
}

abbrev killed : List Event
killed = Opened 0 ∷ Applied 1 ∷ Applied 2 ∷ Applied 3 ∷ Applied 4 ∷ Began 1 ∷ []

before_the_drop : job_at reassigned (opens 0 all) true killed 6 ≡ job (Set (key 97) (key 49) ∷ []) 1 all all
before_the_drop = refl

abbrev second_life : Given
second_life = record reassigned { upto = 9 }

abbrev second : List Event
second =
    Opened 1 ∷ Applied 2 ∷ Applied 3 ∷ Applied 4 ∷ Applied 5 ∷ Began 2 ∷ Durable 2 ∷ FetchStart (key 97) 5 ∷ Block (key 97) (key 98)
    ∷ Began 2 ∷ Durable 2 ∷ Applied 6 ∷ Began 3 ∷ Durable 3 ∷ Applied 7 ∷ Began 4 ∷ Durable 4 ∷ Applied 8 ∷ Began 5 ∷ Durable 5
    ∷ Applied 9 ∷ Began 6 ∷ Durable 6 ∷ []

-- the commit that brings the drop clears its keys, the next one has the rows that were fetched since, and those behind it the
-- ranges alone. No keys but those of the drop are cleared: all were available
second_jobs : map (job_at second_life (opens 1 all) false second) (6 ∷ 10 ∷ 13 ∷ 16 ∷ 19 ∷ 22 ∷ [])
    ≡ job (Clear (key 97) (key 98) ∷ []) 2 all_but_a all_but_a ∷ job (Set (key 97) (key 49) ∷ []) 2 all_but_a all_but_a
    ∷ job [] 3 all all_but_a ∷ job [] 4 all all_but_a ∷ job [] 5 all all_but_a ∷ job [] 6 all all ∷ []
second_jobs = refl

-- ---- a piece is dropped while the commit that took its rows is in flight

abbrev dropped_in_flight : Given
dropped_in_flight = record fetch {
  log =
      batch 1 [] (set 97 49 ∷ set 98 50 ∷ []) ∷ batch 2 (Assign (span (key 97) (key 99)) ∷ []) [] ∷ empty 3
      ∷ batch 4 (Release (span [] (key 98)) ∷ Release (span [] (key 99)) ∷ []) [] ∷ empty 5 ∷ [];
}

abbrev dropped_trace : List Event
dropped_trace =
    Opened 0 ∷ Applied 1 ∷ Applied 2 ∷ FetchStart (key 97) 2 ∷ Block (key 97) (key 99) ∷ Applied 3 ∷ Began 2 ∷ Applied 4 ∷ Durable 2
    ∷ Applied 5 ∷ Began 4 ∷ []

abbrev below_c : List Span
below_c = span [] (key 99) ∷ []

-- its rows stay in the job
job_stays : map (job_at dropped_in_flight (opens 0 below_a) true dropped_trace) (7 ∷ 8 ∷ 9 ∷ [])
    ≡ job (Set (key 97) (key 49) ∷ Set (key 98) (key 50) ∷ []) 2 below_c below_a
    ∷ job (Set (key 97) (key 49) ∷ Set (key 98) (key 50) ∷ []) 2 below_c below_a ∷ None ∷ []
job_stays = refl

rows_are_made : made_after dropped_in_flight (opens 0 below_a) true (take 9 dropped_trace)
    ≡ storing (Set (key 97) (key 49) ∷ Set (key 98) (key 50) ∷ []) 2 below_c below_a
rows_are_made = refl

-- and the commit of the drops clears them: of each drop the keys that were assigned just before it
drops_clear : job_at dropped_in_flight (opens 0 below_a) true dropped_trace 11
    ≡ job (Clear [] (key 98) ∷ Clear (key 98) (key 99) ∷ []) 4 [] []
drops_clear = refl
