-- What is left to do in a state, and that each act leaves less.
use Rattle.std.proofs.Common.{◌≡◌, ◌⊎◌, ℕ, suc, ◌+◌, ◌-◌, ◌<◌, ◌≤◌, Bool, true, false, ◌&&◌, nat_lt, nat_le, cond, List, [], ◌∷◌, ◌++◌, map, filter, length, bytes_eq, Option, Some, None, refl, sym, ap, ◌∙◌, subst, inl, inr, arith, le_refl}
use Rattle.std.proofs.lemmas.Bool.{cond_both, and_from, and_parts, and_right, or_from, ltb-true, ltb-false, lt-ltb, false_from_ne_true, true≢false}
use Rattle.std.proofs.lemmas.Slice.Eq.{bytes_eq-Decides}
use Rattle.std.specs.List.{AllByRecursion, find, list_any}
use Rattle.st_key.specs.KeyOrder.{less_irrefl}
use Rattle.st_key.specs.Spans.{key_less}
use Rattle.st_mutation.specs.declared.batch.Batch.{Batch}
use Rattle.st_fold.specs.Map.{batches_to, folded}
use Rattle.st_fold.specs.declared.plan.Act.{Act}
use Rattle.st_fold.specs.declared.plan.Act.TheVariants as act
use Rattle.st_fold.specs.declared.report.Event.{Event}
use Rattle.st_fold.specs.declared.report.Event.TheVariants.{Opened, Applied, FetchStart, Block, Split, Began, Durable, Watched, Unwatched, Closed, Killed}
use Rattle.st_model.specs.declared.piece.Piece.{Piece}
use Rattle.st_model.specs.declared.piece.Phase.{Phase}
use Rattle.st_model.specs.declared.piece.Phase.TheVariants.{Absent, WaitPrevious, Fetching, Waiting, Readable}
use Rattle.st_model.specs.Partition.{IsPartition}
use Rattle.st_model.specs.Pieces.{block_piece, by_phase, change_at, fetched_to, has_rows, in_phase, is_behind, rows_in_base, rows_taken, split_piece, start_piece, stops_at, takes_block, wants_block, wants_fetch}
use Rattle.st_model.specs.State.{Given, Opening, State, available_at, began, commit_due, commit_version, ended, greatest_to, next_batch, step}
use Rattle.st_model.specs.Trace.{event_by}
use Rattle.st_model.proofs.Acts.{some_of}
use Rattle.st_model.proofs.Counts.{applied_is, began_is, ended_is, greatest_reaches, next_is_above, only_if}
use Rattle.st_model.proofs.Cuts.{Follow, begin_above, same_key}
use Rattle.st_model.proofs.EndsPairs.{fewer_pass, left_between}
use Rattle.st_model.proofs.Lists.{found_has, found_passes}

-- ---- sums over pieces

abbrev pub total : (Piece → ℕ) → List Piece → ℕ
total count [] = 0
total count (piece ∷ pieces) = count piece + total count pieces

total_append : (count : Piece → ℕ) (ps qs : List Piece) → total count (ps ++ qs) ≡ total count ps + total count qs
total_append count [] qs = omega arith
total_append count (p ∷ ps) qs = let rest = total_append count ps qs in omega arith

total_same : (count : Piece → ℕ) (change : Piece → Piece) → ((p : Piece) → count (change p) ≡ count p) → (ps : List Piece)
    → total count (map change ps) ≡ total count ps
total_same count change same [] = refl
total_same count change same (p ∷ ps) = let here = same p in let rest = total_same count change same ps in omega arith

unchanged : (begin : List ℕ) (change : Piece → List Piece) (ps : List Piece) → AllByRecursion (λ p. bytes_eq p.begin begin ≡ false) ps
    → change_at begin change ps ≡ ps
unchanged begin change [] others = refl
unchanged begin change (p ∷ ps) others =
    ap (λ b. cond b (change p) (p ∷ []) ++ change_at begin change ps) others.0 ∙ ap (λ qs. p ∷ qs) (unchanged begin change ps others.1)

-- of pieces that follow one another only the one that is found changes
total_changed : (count : Piece → ℕ) (test : Piece → Bool) (change : Piece → List Piece) (a b : List ℕ) (ps : List Piece) (p : Piece)
    → Follow a b ps → find test ps ≡ Some p
    → total count (change_at p.begin change ps) + count p ≡ total count ps + total count (change p)
total_changed count test change a b [] p follow e = cc
total_changed count test change a b (q ∷ ps) p follow e =
    elim (test q) as (λ v. cond v (Some q) (find test ps) ≡ Some p
    → total count (change_at p.begin change (q ∷ ps)) + count p ≡ total count (q ∷ ps) + total count (change p)) [
      | true ↦ λ first.
          let same : q ≡ p = cc in
          subst (λ r. total count (change_at r.begin change (q ∷ ps)) + count r ≡ total count (q ∷ ps) + total count (change r)) same here
      | false ↦ λ later.
          let apart : bytes_eq q.begin p.begin ≡ false =
          found_has test (λ r. bytes_eq q.begin r.begin ≡ false) ps p later (all_apart ps above) in
          let one : change_at p.begin change (q ∷ ps) ≡ q ∷ change_at p.begin change ps =
          ap (λ b. cond b (change q) (q ∷ []) ++ change_at p.begin change ps) apart in
          let rest = total_changed count test change q.end b ps p follow.2 later in
          let sums = ap (total count) one in
          omega arith
    ]
    e
  where
    above : AllByRecursion (λ r. key_less r.begin q.end ≡ false) ps
    above = begin_above q.end b q.end ps follow.2 (less_irrefl q.end)

    others : (left right : List ℕ) → key_less left q.end ≡ true → key_less right q.end ≡ false → bytes_eq left right ≡ false
    others left right low high =
        false_from_ne_true (bytes_eq left right) (λ same. true≢false (sym low ∙ ap (λ key. key_less key q.end) (same_key left right same) ∙ high))

    all_apart : (rs : List Piece) → AllByRecursion (λ r. key_less r.begin q.end ≡ false) rs
        → AllByRecursion (λ r. bytes_eq q.begin r.begin ≡ false) rs
    all_apart [] all = tt
    all_apart (r ∷ rs) all = (others q.begin r.begin follow.1 all.0, all_apart rs all.1)

    all_behind : (rs : List Piece) → AllByRecursion (λ r. key_less r.begin q.end ≡ false) rs
        → AllByRecursion (λ r. bytes_eq r.begin q.begin ≡ false) rs
    all_behind [] all = tt
    all_behind (r ∷ rs) all = (
      false_from_ne_true (bytes_eq r.begin q.begin)
          (λ same. true≢false (sym follow.1 ∙ ap (λ key. key_less key q.end) (sym (same_key r.begin q.begin same)) ∙ all.0)),
      all_behind rs all.1,
    )

    here : total count (change_at q.begin change (q ∷ ps)) + count q ≡ total count (q ∷ ps) + total count (change q)
    here =
        let itself = (bytes_eq-Decides q.begin q.begin).1 refl in
        let one : change_at q.begin change (q ∷ ps) ≡ change q ++ ps =
        ap (λ b. cond b (change q) (q ∷ []) ++ change_at q.begin change ps) itself
        ∙ ap (λ rs. change q ++ rs) (unchanged q.begin change ps (all_behind ps above)) in
        let sums = ap (total count) one in
        let parts = total_append count (change q) ps in
        omega arith

-- ---- what is left to do

abbrev batches_left : Given → ℕ → ℕ
batches_left given newest = length (filter (λ batch. nat_lt newest batch.version) (batches_to given.upto given.log))

-- the piece is fetched at a version below the newest, and not whole
abbrev behind : ℕ → Piece → ℕ
behind newest piece = cond (wants_block piece && is_behind newest piece) 1 0

abbrev is_waiting : Phase → ℕ
is_waiting (WaitPrevious since) = 1
is_waiting (Absent since) = 0
is_waiting (Fetching at upto taken in_base) = 0
is_waiting (Waiting transferred) = 0
is_waiting Readable = 0

abbrev waiting : Piece → ℕ
waiting piece = is_waiting piece.phase

abbrev pub left_in : List Batch → List ℕ → Phase → ℕ
left_in log end (Fetching at upto taken in_base) = left_between (folded log at) upto end
left_in log end (Absent since) = 0
left_in log end (WaitPrevious since) = 0
left_in log end (Waiting transferred) = 0
left_in log end Readable = 0

abbrev pub left_of : List Batch → Piece → ℕ
left_of log piece = left_in log piece.end piece.phase

-- the beginnings and ends of commits
abbrev commits_in : Given → State → Option Opening → ℕ
commits_in given state None = cond (commit_due given state) 2 0
commits_in given state (Some flight) = suc (cond (commit_due given (ended state flight)) 2 0)

abbrev pub measure : Given → State → List ℕ
measure given state =
    batches_left given state.newest
    ∷ total (behind state.newest) state.pieces
    ∷ total waiting state.pieces
    ∷ total (left_of given.log) state.pieces
    ∷ commits_in given state state.flight
    ∷ []

-- the first numbers are less where they are compared one after the other
abbrev pub Below : List ℕ → List ℕ → Type 0
Below [] ys = ⊥
Below (x ∷ xs) [] = ⊥
Below (x ∷ xs) (y ∷ ys) = (x < y) ⊎ ((x ≤ y) × Below xs ys)

-- ---- batches

find_first : {A : Type 0} (test : A → Bool) (xs : List A) (x : A) → find test xs ≡ Some x → (others : List A) × (filter test xs ≡ x ∷ others)
find_first test [] x e = cc
find_first {A = A} test (y ∷ xs) x e =
    elim (test y) as (λ v. cond v (Some y) (find test xs) ≡ Some x → (others : List A) × (cond v (y ∷ filter test xs) (filter test xs) ≡ x ∷ others)) [
      | true ↦ λ first. let same : y ≡ x = cc in (filter test xs, ap (λ z. z ∷ filter test xs) same)
      | false ↦ λ later. find_first test xs x later
    ]
    e

fewer_batches : (given : Given) (state : State) (batch : Batch) → next_batch given state ≡ Some batch
    → batches_left given batch.version < batches_left given state.newest
fewer_batches given state batch next =
    let found = find_first (λ (b : Batch). nat_lt state.newest b.version) (batches_to given.upto given.log) batch next in
    let above = next_is_above given state batch next in
    fewer_pass (λ (b : Batch). nat_lt state.newest b.version) (λ (b : Batch). nat_lt batch.version b.version)
    (λ b later. lt-ltb state.newest b.version (let after = ltb-true batch.version b.version later in omega arith))
    (batches_to given.upto given.log) batch found.0 found.1
    (false_from_ne_true (nat_lt batch.version batch.version) (λ less. absurd (let no_less = ltb-true batch.version batch.version less in omega arith)))

-- ---- the pieces of each event

start_behind : (newest : ℕ) (p : Piece) → behind newest (start_piece newest p) ≡ 0
start_behind newest p =
    ap (λ b. cond b 1 0) (and_right (key_less p.begin p.end) (nat_lt newest newest)
    (false_from_ne_true (nat_lt newest newest) (λ less. absurd (let no_less = ltb-true newest newest less in omega arith))))

wants_waiting : (durable : ℕ) (p : Piece) → wants_fetch durable p ≡ true → waiting p ≡ 1
wants_waiting durable p e = by p.phase e
  where
    by : (phase : Phase) → wants_fetch durable (in_phase phase p) ≡ true → is_waiting phase ≡ 1
    by (WaitPrevious since) e = refl
    by (Absent since) e = cc
    by (Fetching at upto taken in_base) e = cc
    by (Waiting transferred) e = cc
    by Readable e = cc

block_behind : (newest : ℕ) (upto : List ℕ) (p : Piece) → wants_block p ≡ true → behind newest (block_piece upto p) ≤ behind newest p
block_behind newest upto p e = by p.phase e
  where
    less_set : (a b : Bool) → cond (a && b) 1 0 ≤ cond b 1 0
    less_set true b = le_refl (cond b 1 0)
    less_set false b = omega arith

    by : (phase : Phase) → wants_block (in_phase phase p) ≡ true → behind newest (block_piece upto (in_phase phase p)) ≤ behind newest (in_phase phase p)
    by (Fetching at from taken in_base) e =
        subst (λ v. cond (key_less upto p.end && nat_lt at newest) 1 0 ≤ cond (v && nat_lt at newest) 1 0) (sym e)
        (less_set (key_less upto p.end) (nat_lt at newest))
    by (WaitPrevious since) e = cc
    by (Absent since) e = cc
    by (Waiting transferred) e = cc
    by Readable e = cc

block_waiting : (upto : List ℕ) (phase : Phase) → is_waiting (fetched_to upto phase) ≡ is_waiting phase
block_waiting upto (Fetching at from taken in_base) = refl
block_waiting upto (WaitPrevious since) = refl
block_waiting upto (Absent since) = refl
block_waiting upto (Waiting transferred) = refl
block_waiting upto Readable = refl

split_behind : (newest durable : ℕ) (key : List ℕ) (p : Piece) → stops_at key p ≡ true → total (behind newest) (split_piece durable key p) ≡ 0
split_behind newest durable key p e =
    cond_both (bytes_eq key p.begin) (in_phase (WaitPrevious durable) p ∷ [])
    (record { begin = p.begin; end = key; phase = p.phase } ∷ record { begin = key; end = p.end; phase = WaitPrevious durable } ∷ [])
    (λ ps. total (behind newest) ps ≡ 0) (λ _. refl)
    (λ _. let none = by p.phase e in omega arith)
  where
    by : (phase : Phase) → stops_at key (in_phase phase p) ≡ true → behind newest (record { begin = p.begin; end = key; phase = phase }) ≡ 0
    by (Fetching at upto taken in_base) e =
        ap (λ b. cond (b && nat_lt at newest) 1 0)
        (ap (λ k. key_less k key) (same_key upto key (and_parts (bytes_eq upto key) (key_less upto p.end) e).0) ∙ less_irrefl key)
    by (WaitPrevious since) e = cc
    by (Absent since) e = cc
    by (Waiting transferred) e = cc
    by Readable e = cc

stops_wants : (key : List ℕ) (p : Piece) → stops_at key p ≡ true → wants_block p ≡ true
stops_wants key p e = by p.phase e
  where
    by : (phase : Phase) → stops_at key (in_phase phase p) ≡ true → wants_block (in_phase phase p) ≡ true
    by (Fetching at upto taken in_base) e = (and_parts (bytes_eq upto key) (key_less upto p.end) e).1
    by (WaitPrevious since) e = cc
    by (Absent since) e = cc
    by (Waiting transferred) e = cc
    by Readable e = cc

-- ---- commits leave what there is to fetch as it is

-- two phases of a piece tell the same of what is fetched of it, from which version on, and whether it waits
abbrev SameWork : (newest : ℕ) (log : List Batch) (p : Piece) (before after : Phase) → Type 0
SameWork newest log p before after =
    (behind newest (in_phase after p) ≡ behind newest (in_phase before p))
    × (is_waiting after ≡ is_waiting before) × (left_in log p.end after ≡ left_in log p.end before)

taken_keeps : (newest : ℕ) (log : List Batch) (p : Piece) (phase : Phase) → SameWork newest log p phase (rows_taken phase)
taken_keeps newest log p (Fetching at upto taken in_base) = (refl, refl, refl)
taken_keeps newest log p (WaitPrevious since) = (refl, refl, refl)
taken_keeps newest log p (Absent since) = (refl, refl, refl)
taken_keeps newest log p (Waiting transferred) = (refl, refl, refl)
taken_keeps newest log p Readable = (refl, refl, refl)

in_base_keeps : (durable newest : ℕ) (log : List Batch) (p : Piece) (phase : Phase) → SameWork newest log p phase (rows_in_base durable phase)
in_base_keeps durable newest log p (Fetching at upto taken in_base) = (refl, refl, refl)
in_base_keeps durable newest log p (WaitPrevious since) = (refl, refl, refl)
in_base_keeps durable newest log p (Absent since) = (refl, refl, refl)
in_base_keeps durable newest log p (Waiting transferred) =
    cond_both (nat_le transferred durable) Readable (Waiting transferred) (SameWork newest log p (Waiting transferred))
    (λ _. (refl, refl, refl)) (λ _. (refl, refl, refl))
in_base_keeps durable newest log p Readable = (refl, refl, refl)

-- fewer commits are left, and nothing else changed
less_commits : (given : Given) (state next : State) (change : Phase → Phase)
    → ((p : Piece) → SameWork state.newest given.log p p.phase (change p.phase)) → next.newest ≡ state.newest
    → next.pieces ≡ by_phase change state.pieces → commits_in given next next.flight < commits_in given state state.flight
    → Below (measure given next) (measure given state)
less_commits given state next change keeps newest pieces less =
    inr (
      (let same = ap (batches_left given) newest in omega arith),
      inr (
        (let same = ap (λ n. total (behind n) next.pieces) newest ∙ ap (total (behind state.newest)) pieces
            ∙ total_same (behind state.newest) (λ p. in_phase (change p.phase) p) (λ p. (keeps p).0) state.pieces in omega arith),
        inr (
          (let same = ap (total waiting) pieces ∙ total_same waiting (λ p. in_phase (change p.phase) p) (λ p. (keeps p).1) state.pieces in omega arith),
          inr (
            (let same = ap (total (left_of given.log)) pieces
                ∙ total_same (left_of given.log) (λ p. in_phase (change p.phase) p) (λ p. (keeps p).2) state.pieces in omega arith),
            inl less,
          ),
        ),
      ),
    )

-- ---- behind a commit none is due

-- a version that isn't below the greatest is the greatest
stays_greatest : (bound first version : ℕ) (log : List Batch) → greatest_to bound first log ≤ version → greatest_to bound version log ≡ version
stays_greatest bound first version [] most = refl
stays_greatest bound first version (batch ∷ log) most =
    ap (λ v. greatest_to bound (cond v batch.version version) log) unfit
    ∙ stays_greatest bound (cond (nat_lt first batch.version && nat_le batch.version bound) batch.version first) version log most
  where
    reaches : cond (nat_lt first batch.version && nat_le batch.version bound) batch.version first ≤ version
    reaches =
        let more = greatest_reaches bound (cond (nat_lt first batch.version && nat_le batch.version bound) batch.version first) log in
        omega arith

    no_less : nat_le batch.version bound ≡ true → batch.version ≤ cond (nat_lt first batch.version && nat_le batch.version bound) batch.version first
    no_less fits =
        cond_both (nat_lt first batch.version && nat_le batch.version bound) batch.version first (λ n. batch.version ≤ n)
        (λ _. le_refl batch.version) (λ fails. unless fails)
      where
        unless : (nat_lt first batch.version && nat_le batch.version bound) ≡ false → batch.version ≤ first
        unless fails =
            elim (nat_lt first batch.version) as (λ v. nat_lt first batch.version ≡ v → (v && nat_le batch.version bound) ≡ false → batch.version ≤ first) [
              | true ↦ λ _ no_fit. absurd (true≢false (sym fits ∙ no_fit))
              | false ↦ λ no_more _. ltb-false first batch.version no_more
            ]
            refl fails

    unfit : (nat_lt version batch.version && nat_le batch.version bound) ≡ false
    unfit =
        false_from_ne_true (nat_lt version batch.version && nat_le batch.version bound)
        (λ fits.
        let tests = and_parts (nat_lt version batch.version) (nat_le batch.version bound) fits in
        absurd (let above = ltb-true version batch.version tests.0 in let low = no_less tests.1 in let high = reaches in omega arith))

none_has_rows : (durable : ℕ) (ps : List Piece) → list_any has_rows (by_phase (rows_in_base durable) (by_phase rows_taken ps)) ≡ false
none_has_rows durable [] = refl
none_has_rows durable (p ∷ ps) =
    or_from (has_rows (in_phase (rows_in_base durable (rows_taken p.phase)) p)) (list_any has_rows (by_phase (rows_in_base durable) (by_phase rows_taken ps)))
    (by p.phase) (none_has_rows durable ps)
  where
    by : (phase : Phase) → has_rows (in_phase (rows_in_base durable (rows_taken phase)) p) ≡ false
    by (Fetching at upto taken in_base) = less_irrefl upto
    by (WaitPrevious since) = refl
    by (Absent since) = refl
    by (Waiting transferred) =
        cond_both (nat_le transferred durable) Readable (Waiting transferred) (λ phase. has_rows (in_phase phase p) ≡ false) (λ _. refl) (λ _. refl)
    by Readable = refl

done_then : (given : Given) (state : State) (flight : Opening) → flight.version ≡ commit_version given state
    → commit_due given (ended (began given state (commit_version given state)) flight) ≡ false
done_then given state flight is =
    or_from (nat_lt flight.version (greatest_to (state.newest - given.settings.window) flight.version given.log))
    (list_any has_rows (by_phase (rows_in_base flight.version) (by_phase rows_taken state.pieces)))
    (false_from_ne_true _ (λ less.
    absurd (let above = ltb-true flight.version (greatest_to (state.newest - given.settings.window) flight.version given.log) less in
    let same = stays_greatest (state.newest - given.settings.window) state.durable flight.version given.log
    (subst (λ n. greatest_to (state.newest - given.settings.window) state.durable given.log ≤ n) (sym is) (le_refl (commit_version given state))) in
    omega arith)))
    (none_has_rows flight.version state.pieces)

-- ---- each act leaves less to do

-- what comes of a piece of which a block is asked for: a block that leaves less, or a split where the version is behind
abbrev pub FetchesOn : Given → ℕ → Piece → Event → Type 0
FetchesOn given newest piece (Opened version) = ⊥
FetchesOn given newest piece (Applied version) = ⊥
FetchesOn given newest piece (FetchStart begin at) = ⊥
FetchesOn given newest piece (Block begin upto) =
    (begin ≡ piece.begin) × (takes_block upto piece ≡ true) × (left_of given.log (block_piece upto piece) < left_of given.log piece)
FetchesOn given newest piece (Split begin key) = (begin ≡ piece.begin) × (stops_at key piece ≡ true) × (is_behind newest piece ≡ true)
FetchesOn given newest piece (Began version) = ⊥
FetchesOn given newest piece (Durable version) = ⊥
FetchesOn given newest piece (Watched number key value) = ⊥
FetchesOn given newest piece (Unwatched number) = ⊥
FetchesOn given newest piece Closed = ⊥
FetchesOn given newest piece Killed = ⊥

abbrev LeavesLess : Given → State → State → Type 0
LeavesLess given state next = Below (measure given next) (measure given state)

pub leaves_less : (given : Given) (state : State) (fetched : Piece → Event) (action : Act) (event : Event) (next : State) → IsPartition state.pieces
    → ((piece : Piece) → wants_block piece ≡ true → FetchesOn given state.newest piece (fetched piece))
    → event_by given state fetched action ≡ Some event → step given state event ≡ Some next → LeavesLess given state next
leaves_less given state fetched act.Apply event next parted fetches e steps =
    let one = some_of (λ batch. Applied batch.version) (next_batch given state) event e in
    let is = applied_is given state one.0.version (next_batch given state) next (ap (step given state) one.2 ∙ steps) in
    subst (LeavesLess given state) is.3 (inl (fewer_batches given state is.0 is.1))
leaves_less given state fetched act.Start event next parted fetches e steps =
    let one = some_of (λ piece. FetchStart piece.begin state.newest) (find (wants_fetch state.durable) state.pieces) event e in
    let is = only_if _ _ next (ap (step given state) one.2 ∙ steps) in
    let waits = wants_waiting state.durable one.0 (found_passes (wants_fetch state.durable) state.pieces one.0 one.1) in
    subst (LeavesLess given state) is.1 (inr (
      le_refl (batches_left given state.newest),
      inr (
        (let sums = total_changed (behind state.newest) (wants_fetch state.durable) (λ piece. start_piece state.newest piece ∷ []) [] (255 ∷ [])
            state.pieces one.0 parted one.1 in let none = start_behind state.newest one.0 in omega arith),
        inl (let sums = total_changed waiting (wants_fetch state.durable) (λ piece. start_piece state.newest piece ∷ []) [] (255 ∷ [])
            state.pieces one.0 parted one.1 in omega arith),
      ),
    ))
leaves_less given state fetched act.Block event next parted fetches e steps =
    let one = some_of fetched (find wants_block state.pieces) event e in
    let wants = found_passes wants_block state.pieces one.0 one.1 in
    of_piece one.0 event one.1 wants (subst (FetchesOn given state.newest one.0) one.2 (fetches one.0 wants)) steps
  where
    blocked : (p : Piece) (upto : List ℕ) → find wants_block state.pieces ≡ Some p → wants_block p ≡ true
        → left_of given.log (block_piece upto p) < left_of given.log p
        → LeavesLess given state (record state { pieces = change_at p.begin (λ piece. block_piece upto piece ∷ []) state.pieces })
    blocked p upto found wants less = inr (
      le_refl (batches_left given state.newest),
      inr (
        (let sums = total_changed (behind state.newest) wants_block (λ piece. block_piece upto piece ∷ []) [] (255 ∷ []) state.pieces p parted found in
            let no_more = block_behind state.newest upto p wants in omega arith),
        inr (
          (let sums = total_changed waiting wants_block (λ piece. block_piece upto piece ∷ []) [] (255 ∷ []) state.pieces p parted found in
              let same = block_waiting upto p.phase in omega arith),
          inl (let sums = total_changed (left_of given.log) wants_block (λ piece. block_piece upto piece ∷ []) [] (255 ∷ []) state.pieces p parted found in
              omega arith),
        ),
      ),
    )

    split : (p : Piece) (key : List ℕ) → find wants_block state.pieces ≡ Some p → wants_block p ≡ true
        → stops_at key p ≡ true → is_behind state.newest p ≡ true
        → LeavesLess given state (record state { pieces = change_at p.begin (split_piece state.durable key) state.pieces })
    split p key found wants stops is_late = inr (
      le_refl (batches_left given state.newest),
      inl (let sums = total_changed (behind state.newest) wants_block (split_piece state.durable key) [] (255 ∷ []) state.pieces p parted found in
          let none = split_behind state.newest state.durable key p stops in
          let one : behind state.newest p ≡ 1 = ap (λ b. cond b 1 0) (and_from (wants_block p) (is_behind state.newest p) wants is_late) in omega arith),
    )

    of_piece : (p : Piece) (event : Event) → find wants_block state.pieces ≡ Some p → wants_block p ≡ true
        → FetchesOn given state.newest p event → step given state event ≡ Some next → LeavesLess given state next
    of_piece p (Block begin upto) found wants h steps =
        subst (LeavesLess given state) (only_if _ _ next steps).1
        (subst (λ b. LeavesLess given state (record state { pieces = change_at b (λ piece. block_piece upto piece ∷ []) state.pieces })) (sym h.0)
        (blocked p upto found wants h.2))
    of_piece p (Split begin key) found wants h steps =
        subst (LeavesLess given state) (only_if _ _ next steps).1
        (subst (λ b. LeavesLess given state (record state { pieces = change_at b (split_piece state.durable key) state.pieces })) (sym h.0)
        (split p key found wants h.1 h.2))
    of_piece p (Opened version) found wants h steps = absurd h
    of_piece p (Applied version) found wants h steps = absurd h
    of_piece p (FetchStart begin at) found wants h steps = absurd h
    of_piece p (Began version) found wants h steps = absurd h
    of_piece p (Durable version) found wants h steps = absurd h
    of_piece p (Watched number key value) found wants h steps = absurd h
    of_piece p (Unwatched number) found wants h steps = absurd h
    of_piece p Closed found wants h steps = absurd h
    of_piece p Killed found wants h steps = absurd h
leaves_less given state fetched act.Began event next parted fetches e steps =
    let one = only_if (commit_due given state) (Began (commit_version given state)) event e in
    let is = began_is given state (commit_version given state) next (ap (step given state) one.1 ∙ steps) in
    subst (LeavesLess given state) is.2
    (less_commits given state (began given state (commit_version given state)) rows_taken
    (λ p. taken_keeps state.newest given.log p p.phase) refl refl
    (let before : commits_in given state state.flight ≡ 2 =
    ap (commits_in given state) is.0 ∙ ap (λ b. cond b 2 0) one.0 in
    let flight : Opening = record { version = commit_version given state; available = available_at given state (commit_version given state) } in
    let after : cond {A = ℕ} (commit_due given (ended (began given state (commit_version given state)) flight)) 2 0 ≡ 0 =
    ap (λ b. cond b 2 0) (done_then given state flight refl) in
    omega arith))
leaves_less given state fetched act.Durable event next parted fetches e steps =
    let one = some_of (λ flight. Durable flight.version) state.flight event e in
    let is = ended_is state one.0.version state.flight next (ap (step given state) one.2 ∙ steps) in
    subst (LeavesLess given state) is.3
    (less_commits given state (ended state is.0) (rows_in_base is.0.version)
    (λ p. in_base_keeps is.0.version state.newest given.log p p.phase) refl refl
    (let before = ap (commits_in given state) is.1 in omega arith))
