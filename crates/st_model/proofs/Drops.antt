-- The drops of each key of each piece, event by event.
use Rattle.std.proofs.Common.{◌≡◌, ℕ, ◌-◌, ◌<◌, ◌≤◌, Bool, true, false, not, nat_le, List, [], ◌∷◌, ◌++◌, fold, bytes_eq, Option, Some, None, IfSome, MatchOption, ⊎_elim, refl, sym, ap, subst, ◌∙◌, arith, le_refl}
use Rattle.std.proofs.lemmas.Bool.{cond_both, and_parts, true≢false, leb-true, cases_lt}
use Rattle.std.specs.List.{AllByRecursion}
use Rattle.std.specs.Option.{option_map}
use Rattle.st_key.specs.KeyOrder.{less_irrefl}
use Rattle.st_key.specs.Spans.{Span, key_less, within, holds}
use Rattle.st_mutation.specs.declared.batch.Batch.{Batch}
use Rattle.st_model.specs.declared.piece.Piece.{Piece}
use Rattle.st_model.specs.declared.piece.Phase.{Phase}
use Rattle.st_model.specs.declared.piece.Phase.TheVariants.{Absent, WaitPrevious, Fetching, Waiting, Readable}
use Rattle.st_model.specs.Facts.{AreInStep, drops, gone, is_assigned, is_dropped, IsIdle, IsIdleIn, IsKept, IsFetched, IsMoved, IsPlaced}
use Rattle.st_model.specs.Partition.{IsPartition, piece_at, phase_at}
use Rattle.st_model.specs.Pieces.{span_of, is_absent, move_piece, is_whole, inject, begins, change_at, wants_fetch, start_piece, takes_block, block_piece, fetched_to, stops_at, split_piece, in_phase, by_phase, rows_taken, rows_in_base, cut_keys, first_phase}
use Rattle.st_model.specs.State.{Given, Opening, State, assigned, first_state, after_batch, move_span}
use Rattle.st_model.proofs.Bits.{IsNext}
use Rattle.st_model.proofs.Commits.{PlacedAndKept}
use Rattle.st_model.proofs.Cuts.{le_trans as le_trans_key, same_key, all_mapped, all_both, HasKey, have_keys, is_there, all_changed, found_if}
use Rattle.st_model.proofs.Keeping.{Inside, in_part}
use Rattle.st_model.proofs.Lists.{all_map}
use Rattle.st_model.proofs.Moves.{InStep, Moved, moved_by}
use Rattle.st_model.proofs.Openings.{all_unit}

-- what is said of the drops of each key of a piece
abbrev pub Idle : Given → (durable newest : ℕ) → Piece → Type 0
Idle given durable newest piece = (key : List ℕ) → Inside piece key → IsIdleIn given durable newest key piece.phase

pub in_step_here : (given : Given) (state : State) → AllByRecursion (PlacedAndKept given state) state.pieces
    → AreInStep (assigned given.own given.log state.newest) state.pieces
in_step_here given state all =
    all_map (PlacedAndKept given state) (InStep (assigned given.own given.log state.newest))
    (λ p h key inside. assigned_here p key p.phase h.0 (h.1 key inside)) state.pieces all
  where
    assigned_here : (p : Piece) (key : List ℕ) (phase : Phase) → IsPlaced state p phase → IsKept given state key phase
        → is_assigned given state.newest key ≡ not (is_absent phase)
    assigned_here p key (Absent since) placed h = h.0
    assigned_here p key (WaitPrevious since) placed h = h.0
    assigned_here p key (Fetching at upto taken in_base) placed h = h.0.stays state.newest placed.has_come (le_refl state.newest)
    assigned_here p key (Waiting transferred) placed h = h.0.stays state.newest placed.1 (le_refl state.newest)
    assigned_here p key Readable placed h = h.is_in

-- a key that isn't dropped above a version isn't above a later one
pub idle_above : (given : Given) (above later newest : ℕ) (key : List ℕ) → above ≤ later → IsIdle given above newest key → IsIdle given later newest key
idle_above given above later newest key rises idle version under over = idle version (omega arith) over

-- ---- the batch that comes next

-- the drops of the batch that comes next are those of its moves
pub next_drops : (given : Given) (newest : ℕ) (batch : Batch) (key : List ℕ) → IsNext given.own given.log newest batch
    → is_dropped given batch.version key ≡ drops key (holds (assigned given.own given.log newest) key) batch.moves
next_drops given newest batch key next =
    next.alone (λ b. drops key (holds (assigned given.own given.log (batch.version - 1)) key) b.moves)
    ∙ ap (λ spans. drops key (holds spans key) batch.moves)
    (next.unmoved (batch.version - 1) (omega (arith, next.above)) (omega (arith, next.above)))

-- and there is none between
pub none_dropped_between : (given : Given) (newest : ℕ) (batch : Batch) (version : ℕ) (key : List ℕ) → IsNext given.own given.log newest batch
    → newest < version → version < batch.version → is_dropped given version key ≡ false
none_dropped_between given newest batch version key next under over =
    next.none_between version (λ b. drops key (holds (assigned given.own given.log (version - 1)) key) b.moves) under over

-- what the batch after a state makes of the drops of a key
applied_key : (given : Given) (durable newest : ℕ) (batch : Batch) → IsNext given.own given.log newest batch → (key : List ℕ) (dropped held : Bool)
    → is_dropped given batch.version key ≡ dropped → (before after : Phase) → IsIdleIn given durable newest key before
    → IsMoved batch.version dropped held key before after → IsIdleIn given durable batch.version key after
applied_key given durable newest batch next key dropped held is before after idle moved = by_phase dropped is before idle moved
  where
    idle_on : (above : ℕ) → IsIdle given above newest key → is_dropped given batch.version key ≡ false → IsIdle given above batch.version key
    idle_on above idle none version under over =
        ⊎_elim
        (λ later. ⊎_elim
        (λ before. none_dropped_between given newest batch version key next later before)
        (λ reached. let same : batch.version ≡ version = omega arith in subst (λ v. is_dropped given v key ≡ false) same none)
        (cases_lt version batch.version))
        (λ earlier. idle version under earlier)
        (cases_lt newest version)

    gone_now : is_dropped given batch.version key ≡ true → (held : Bool) → IsIdleIn given durable batch.version key (gone batch.version held)
    gone_now is true = (λ _. is, λ version under over. absurd (omega arith))
    gone_now is false = (λ _. is, λ version under over. absurd (omega arith))

    gone_on : is_dropped given batch.version key ≡ false → (since : ℕ) (held : Bool) → IsIdleIn given durable newest key (Absent since)
        → IsIdleIn given durable batch.version key (gone since held)
    gone_on is since true h = (h.0, idle_on since h.1 is)
    gone_on is since false h = (h.0, idle_on since h.1 is)

    by_phase : (dropped : Bool) → is_dropped given batch.version key ≡ dropped → (before : Phase) → IsIdleIn given durable newest key before
        → IsMoved batch.version dropped held key before after → IsIdleIn given durable batch.version key after
    by_phase true is before idle moved = subst (IsIdleIn given durable batch.version key) (sym moved) (gone_now is held)
    by_phase false is (Absent since) idle moved = subst (IsIdleIn given durable batch.version key) (sym moved) (gone_on is since held idle)
    by_phase false is (WaitPrevious since) idle moved =
        subst (IsIdleIn given durable batch.version key) (sym moved) (idle.0, idle_on since idle.1 is)
    by_phase false is (Fetching at upto taken in_base) idle moved =
        subst (IsIdleIn given durable batch.version key) (sym moved.is) (idle_on durable idle is)
    by_phase false is (Waiting transferred) idle moved = subst (IsIdleIn given durable batch.version key) (sym moved) (idle_on durable idle is)
    by_phase false is Readable idle moved = subst (IsIdleIn given durable batch.version key) (sym moved) (idle_on durable idle is)

-- a whole piece is fetched
sent_idle : (given : Given) (durable newest : ℕ) (p : Piece) (phase : Phase) → p.phase ≡ phase → is_whole p ≡ true → (key : List ℕ)
    → IsIdleIn given durable newest key p.phase → IsIdle given durable newest key
sent_idle given durable newest p (Fetching at upto taken in_base) e whole key h = subst (IsIdleIn given durable newest key) e h
sent_idle given durable newest p (Absent since) e whole key h = absurd (true≢false (sym whole ∙ ap (λ f. is_whole (in_phase f p)) e))
sent_idle given durable newest p (WaitPrevious since) e whole key h = absurd (true≢false (sym whole ∙ ap (λ f. is_whole (in_phase f p)) e))
sent_idle given durable newest p (Waiting transferred) e whole key h = absurd (true≢false (sym whole ∙ ap (λ f. is_whole (in_phase f p)) e))
sent_idle given durable newest p Readable e whole key h = absurd (true≢false (sym whole ∙ ap (λ f. is_whole (in_phase f p)) e))

pub idle_applied : (given : Given) (state : State) (batch : Batch) → IsNext given.own given.log state.newest batch → IsPartition state.pieces
    → AllByRecursion (PlacedAndKept given state) state.pieces → AllByRecursion (Idle given state.durable state.newest) state.pieces
    → AllByRecursion (Idle given state.durable batch.version) (after_batch state batch).pieces
idle_applied given state batch next parted both idle =
    all_mapped (Moved batch.version (λ key. phase_at state.pieces key) now (λ key. is_dropped given batch.version key))
    (Idle given state.durable batch.version) (inject batch.version)
    (λ p moved key.
    cond_both (is_whole p) (in_phase (Waiting batch.version) p) p (λ q. Inside q key → IsIdleIn given state.durable batch.version key q.phase)
    (λ whole inside. sent_idle given state.durable batch.version p p.phase refl whole key (later p key (moved key inside)))
    (λ _ inside. later p key (moved key inside)))
    (fold (move_piece batch.version) state.pieces batch.moves)
    (moved_by batch.version batch.moves (assigned given.own given.log state.newest) (λ key. is_dropped given batch.version key) state.pieces
    (λ key. sym (next_drops given state.newest batch key next)) parted (in_step_here given state both))
  where
    now : List Span
    now = fold move_span (assigned given.own given.log state.newest) batch.moves

    later : (p : Piece) (key : List ℕ)
        → MatchOption (phase_at state.pieces key) ⊥ (λ before. IsMoved batch.version (is_dropped given batch.version key) (holds now key) key before p.phase)
        → IsIdleIn given state.durable batch.version key p.phase
    later p key moved =
        from (piece_at state.pieces key) moved
        (found_if (λ q. IsIdleIn given state.durable state.newest key q.phase) state.pieces key
        (all_map (Idle given state.durable state.newest) (λ q. within (span_of q) key ≡ true → IsIdleIn given state.durable state.newest key q.phase)
        (λ q h. h key) state.pieces idle))
      where
        from : (o : Option Piece)
            → MatchOption (option_map (λ piece. piece.phase) o) ⊥
            (λ before. IsMoved batch.version (is_dropped given batch.version key) (holds now key) key before p.phase)
            → IfSome o (λ q. IsIdleIn given state.durable state.newest key q.phase) → IsIdleIn given state.durable batch.version key p.phase
        from None moved h = absurd moved
        from (Some q) moved h =
            applied_key given state.durable state.newest batch next key (is_dropped given batch.version key) (holds now key) refl q.phase p.phase h moved

-- ---- a fetch

-- what is placed, kept and idle
abbrev IdleToo : Given → State → Piece → Type 0
IdleToo given state piece = PlacedAndKept given state piece × Idle given state.durable state.newest piece

idle_changed : (given : Given) (state : State) (test : Piece → Bool) (begin : List ℕ) (change : Piece → List Piece) → begins test begin state.pieces ≡ true
    → ((p : Piece) → HasKey p → test p ≡ true → IdleToo given state p → AllByRecursion (Idle given state.durable state.newest) (change p))
    → IsPartition state.pieces → AllByRecursion (PlacedAndKept given state) state.pieces → AllByRecursion (Idle given state.durable state.newest) state.pieces
    → AllByRecursion (Idle given state.durable state.newest) (change_at begin change state.pieces)
idle_changed given state test begin change e changed parted both idle =
    all_changed (IdleToo given state) (Idle given state.durable state.newest) test begin change state.pieces
    (is_there test begin [] (255 ∷ []) state.pieces e parted) (have_keys [] (255 ∷ []) state.pieces parted)
    (all_both (PlacedAndKept given state) (Idle given state.durable state.newest) state.pieces both idle) changed (λ p h. h.1)

pub idle_started : (given : Given) (state : State) (begin : List ℕ) → begins (wants_fetch state.durable) begin state.pieces ≡ true
    → IsPartition state.pieces → AllByRecursion (PlacedAndKept given state) state.pieces → AllByRecursion (Idle given state.durable state.newest) state.pieces
    → AllByRecursion (Idle given state.durable state.newest) (change_at begin (λ piece. start_piece state.newest piece ∷ []) state.pieces)
idle_started given state begin e parted both idle =
    idle_changed given state (wants_fetch state.durable) begin (λ piece. start_piece state.newest piece ∷ []) e
    (λ p has passes h. (λ key inside. starts p p.phase refl passes key (h.1 key inside), tt)) parted both idle
  where
    -- what took the piece away is durable
    starts : (p : Piece) (phase : Phase) → p.phase ≡ phase → wants_fetch state.durable p ≡ true → (key : List ℕ)
        → IsIdleIn given state.durable state.newest key p.phase → IsIdle given state.durable state.newest key
    starts p (WaitPrevious since) e passes key h =
        let here : IsIdleIn given state.durable state.newest key (WaitPrevious since) = subst (IsIdleIn given state.durable state.newest key) e h in
        let low : since ≤ state.durable =
        leb-true since state.durable (sym (ap (λ f. wants_fetch state.durable (in_phase f p)) e) ∙ passes) in
        idle_above given since state.durable state.newest key low here.1
    starts p (Absent since) e passes key h = absurd (true≢false (sym passes ∙ ap (λ f. wants_fetch state.durable (in_phase f p)) e))
    starts p (Fetching at upto taken in_base) e passes key h = absurd (true≢false (sym passes ∙ ap (λ f. wants_fetch state.durable (in_phase f p)) e))
    starts p (Waiting transferred) e passes key h = absurd (true≢false (sym passes ∙ ap (λ f. wants_fetch state.durable (in_phase f p)) e))
    starts p Readable e passes key h = absurd (true≢false (sym passes ∙ ap (λ f. wants_fetch state.durable (in_phase f p)) e))

pub idle_blocked : (given : Given) (state : State) (begin upto : List ℕ) → begins (takes_block upto) begin state.pieces ≡ true
    → IsPartition state.pieces → AllByRecursion (PlacedAndKept given state) state.pieces → AllByRecursion (Idle given state.durable state.newest) state.pieces
    → AllByRecursion (Idle given state.durable state.newest) (change_at begin (λ piece. block_piece upto piece ∷ []) state.pieces)
idle_blocked given state begin upto e parted both idle =
    idle_changed given state (takes_block upto) begin (λ piece. block_piece upto piece ∷ []) e
    (λ p has passes h. (λ key inside. further key p.phase (h.1 key inside), tt)) parted both idle
  where
    further : (key : List ℕ) (phase : Phase) → IsIdleIn given state.durable state.newest key phase
        → IsIdleIn given state.durable state.newest key (fetched_to upto phase)
    further key (Absent since) h = h
    further key (WaitPrevious since) h = h
    further key (Fetching at upto' taken in_base) h = h
    further key (Waiting transferred) h = h
    further key Readable h = h

pub idle_split : (given : Given) (state : State) (begin place : List ℕ) → begins (stops_at place) begin state.pieces ≡ true
    → IsPartition state.pieces → AllByRecursion (PlacedAndKept given state) state.pieces → AllByRecursion (Idle given state.durable state.newest) state.pieces
    → AllByRecursion (Idle given state.durable state.newest) (change_at begin (split_piece state.durable place) state.pieces)
idle_split given state begin place e parted both idle =
    idle_changed given state (stops_at place) begin (split_piece state.durable place) e
    (λ p has passes h. apart p p.phase refl passes h) parted both idle
  where
    apart : (p : Piece) (phase : Phase) → p.phase ≡ phase → stops_at place p ≡ true → IdleToo given state p
        → AllByRecursion (Idle given state.durable state.newest) (split_piece state.durable place p)
    apart p (Fetching at upto taken in_base) e passes h =
        let here : IsFetched state p at upto taken in_base = subst (IsPlaced state p) e h.0.0 in
        let tests = and_parts (bytes_eq upto place) (key_less upto p.end) (sym (ap (λ f. stops_at place (in_phase f p)) e) ∙ passes) in
        let is : upto ≡ place = same_key upto place tests.0 in
        let low : key_less place p.begin ≡ false =
        subst (λ k. key_less k p.begin ≡ false) is
        (le_trans_key p.begin in_base upto here.begins (le_trans_key in_base taken upto here.in_base_first here.taken_next)) in
        let high : key_less p.end place ≡ false = subst (λ k. key_less p.end k ≡ false) is here.ends in
        cond_both (bytes_eq place p.begin) (in_phase (WaitPrevious state.durable) p ∷ [])
        (record { begin = p.begin; end = place; phase = p.phase } ∷ record { begin = place; end = p.end; phase = WaitPrevious state.durable } ∷ [])
        (AllByRecursion (Idle given state.durable state.newest))
        (λ _. (λ key inside. waits_again key (h.1 key inside), tt))
        (λ _. (
          λ key inside. h.1 key (in_part p (record { begin = p.begin; end = place }) key (less_irrefl p.begin) high inside),
          (λ key inside. waits_again key (h.1 key (in_part p (record { begin = place; end = p.end }) key low (less_irrefl p.end) inside)), tt),
        ))
      where
        waits_again : (key : List ℕ) → IsIdleIn given state.durable state.newest key p.phase
            → IsIdleIn given state.durable state.newest key (WaitPrevious state.durable)
        waits_again key h = (λ later. absurd (omega arith), subst (IsIdleIn given state.durable state.newest key) e h)
    apart p (Absent since) e passes h = absurd (true≢false (sym passes ∙ ap (λ f. stops_at place (in_phase f p)) e))
    apart p (WaitPrevious since) e passes h = absurd (true≢false (sym passes ∙ ap (λ f. stops_at place (in_phase f p)) e))
    apart p (Waiting transferred) e passes h = absurd (true≢false (sym passes ∙ ap (λ f. stops_at place (in_phase f p)) e))
    apart p Readable e passes h = absurd (true≢false (sym passes ∙ ap (λ f. stops_at place (in_phase f p)) e))

-- ---- a commit

pub idle_began : (given : Given) (durable newest : ℕ) (ps : List Piece) → AllByRecursion (Idle given durable newest) ps
    → AllByRecursion (Idle given durable newest) (by_phase rows_taken ps)
idle_began given durable newest ps all =
    all_mapped (Idle given durable newest) (Idle given durable newest) (λ piece. in_phase (rows_taken piece.phase) piece)
    (λ p h key inside. taken_too key p.phase (h key inside)) ps all
  where
    taken_too : (key : List ℕ) (phase : Phase) → IsIdleIn given durable newest key phase → IsIdleIn given durable newest key (rows_taken phase)
    taken_too key (Absent since) h = h
    taken_too key (WaitPrevious since) h = h
    taken_too key (Fetching at upto taken in_base) h = h
    taken_too key (Waiting transferred) h = h
    taken_too key Readable h = h

pub idle_ended : (given : Given) (durable later newest : ℕ) (ps : List Piece) → durable ≤ later → AllByRecursion (Idle given durable newest) ps
    → AllByRecursion (Idle given later newest) (by_phase (rows_in_base later) ps)
idle_ended given durable later newest ps rises all =
    all_mapped (Idle given durable newest) (Idle given later newest) (λ piece. in_phase (rows_in_base later piece.phase) piece)
    (λ p h key inside. ends key p.phase (h key inside)) ps all
  where
    ends : (key : List ℕ) (phase : Phase) → IsIdleIn given durable newest key phase → IsIdleIn given later newest key (rows_in_base later phase)
    ends key (Absent since) h = (λ above. h.0 (omega arith), h.1)
    ends key (WaitPrevious since) h = (λ above. h.0 (omega arith), h.1)
    ends key (Fetching at upto taken in_base) h = idle_above given durable later newest key rises h
    ends key (Waiting transferred) h =
        cond_both (nat_le transferred later) Readable (Waiting transferred) (IsIdleIn given later newest key)
        (λ _. idle_above given durable later newest key rises h) (λ _. idle_above given durable later newest key rises h)
    ends key Readable h = idle_above given durable later newest key rises h

-- ---- an opening

first_idle : (given : Given) (version : ℕ) (key : List ℕ) (available held : Bool) → IsIdleIn given version version key (first_phase version available held)
first_idle given version key true held = λ later under over. absurd (omega arith)
first_idle given version key false true = (λ later. absurd (omega arith), λ later under over. absurd (omega arith))
first_idle given version key false false = (λ later. absurd (omega arith), λ later under over. absurd (omega arith))

pub idle_first : (given : Given) (opening : Opening) → AllByRecursion (Idle given opening.version opening.version) (first_state given opening).pieces
idle_first given opening =
    all_mapped (λ s. Unit {0}) (Idle given opening.version opening.version)
    (λ span. record {
      begin = span.begin;
      end = span.end;
      phase = first_phase opening.version (holds opening.available span.begin) (holds (assigned given.own given.log opening.version) span.begin);
    })
    (λ s _ key inside. first_idle given opening.version key (holds opening.available s.begin) (holds (assigned given.own given.log opening.version) s.begin))
    (cut_keys (opening.available ++ assigned given.own given.log opening.version))
    (all_unit (cut_keys (opening.available ++ assigned given.own given.log opening.version)))
