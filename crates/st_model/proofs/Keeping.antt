-- What holds of each key of each piece, event by event.
use Rattle.std.proofs.Common.{◌≡◌, ℕ, ◌≤◌, Bool, true, false, not, ◌&&◌, ◌||◌, nat_le, List, [], ◌∷◌, ◌++◌, fold, Option, Some, None, IfSome, ◌⊎◌, ⊎_elim, inl, inr, if◌then◌else◌, refl, sym, ap, subst, ◌∙◌, arith, le_refl, append_assoc, append-nil}
use Rattle.std.proofs.lemmas.Bool.{cond_both, and_parts, and_from, and_cases, or_from, or_left, or_right, not-true, not-false, true≢false, both_ways, lt-leb, cases_lt, false_from_ne_true}
use Rattle.std.specs.List.{AllByRecursion, flat_map}
use Rattle.st_key.specs.KeyOrder.{less_le_trans, le_less_trans}
use Rattle.st_key.specs.Parts.{with_span, without_span}
use Rattle.st_key.specs.Spans.{Span, key_less, within, holds}
use Rattle.st_mutation.specs.declared.batch.Batch.{Batch}
use Rattle.st_mutation.specs.declared.batch.Move.{Move}
use Rattle.st_mutation.specs.declared.batch.Move.TheVariants.{Assign, Release}
use Rattle.st_model.specs.declared.piece.Piece.{Piece}
use Rattle.st_model.specs.declared.piece.Phase.{Phase}
use Rattle.st_model.specs.declared.piece.Phase.TheVariants.{Absent, WaitPrevious, Fetching, Waiting, Readable}
use Rattle.st_model.specs.Facts.{is_assigned, takes_away, StaysAssigned, StaysHeld, IsUnflown, IsGone, IsComing, IsServed, IsKept, IsCounted, IsPlaced}
use Rattle.st_model.specs.Pieces.{span_of, phase_in, is_absent, waits, lies_in, cut_where, change_within, move_piece, is_whole, inject, in_phase}
use Rattle.st_model.specs.State.{Given, State, assigned, after_batch, move_span, released, released_in}
use Rattle.st_model.proofs.Bits.{IsNext, holds-append, holds-assigned, holds-released}
use Rattle.st_model.proofs.Cuts.{le_trans as le_trans_key, all_mapped, HoldsOfParts, IsUncut, IsInside, all_cut, uncut_parts}
use Rattle.st_model.proofs.Lists.{all_map}

-- ---- a key of a piece that is cut at the ends of a span is inside the span, or outside, with the piece

abbrev pub Inside : Piece → List ℕ → Type 0
Inside piece key = within (span_of piece) key ≡ true

pub in_part : (p : Piece) (span : Span) (key : List ℕ) → key_less span.begin p.begin ≡ false → key_less p.end span.end ≡ false
    → within span key ≡ true → Inside p key
in_part p span key low high inside =
    let sides = and_parts (not (key_less key span.begin)) (key_less key span.end) inside in
    and_from (not (key_less key p.begin)) (key_less key p.end)
    (ap not (le_trans_key p.begin span.begin key low (not-true (key_less key span.begin) sides.0)))
    (less_le_trans key span.end p.end sides.1 high)

in_or_out : (p : Piece) (r : Span) (key : List ℕ) → IsInside r.begin p ≡ false → IsInside r.end p ≡ false → Inside p key
    → within r key ≡ lies_in (span_of p) r
in_or_out p r key begin end inside =
    let sides = and_parts (not (key_less key p.begin)) (key_less key p.end) inside in
    let low : key_less key p.begin ≡ false = not-true (key_less key p.begin) sides.0 in
    elim (lies_in (span_of p) r) as (λ v. lies_in (span_of p) r ≡ v → within r key ≡ v) [
      | true ↦ λ lies.
          let ends = and_parts (not (key_less p.begin r.begin)) (not (key_less r.end p.end)) lies in
          and_from (not (key_less key r.begin)) (key_less key r.end)
          (ap not (le_trans_key r.begin p.begin key (not-true (key_less p.begin r.begin) ends.0) low))
          (less_le_trans key p.end r.end sides.1 (not-true (key_less r.end p.end) ends.1))
      | false ↦ λ outside.
          false_from_ne_true (within r key) (λ held.
          let at = and_parts (not (key_less key r.begin)) (key_less key r.end) held in
          let above : key_less key r.begin ≡ false = not-true (key_less key r.begin) at.0 in
          ⊎_elim
          (λ early. both_ways (IsInside r.begin p) begin
          (and_from (key_less p.begin r.begin) (key_less r.begin p.end) (not-false (key_less p.begin r.begin) early)
          (le_less_trans r.begin key p.end above sides.1)))
          (λ late. both_ways (IsInside r.end p) end
          (and_from (key_less p.begin r.end) (key_less r.end p.end) (le_less_trans p.begin key r.end low at.1)
          (not-false (key_less r.end p.end) late)))
          (and_cases (not (key_less p.begin r.begin)) (not (key_less r.end p.end)) outside))
    ]
    refl

-- ---- in the middle of a batch's moves: what is assigned so far, and what was taken away

-- a key that isn't served: the moves took it away, or it was gone before
abbrev Lost : Given → State → ℕ → List Span → ℕ → List ℕ → Type 0
Lost given state version gone since key = ((since ≡ version) × (holds gone key ≡ true)) ⊎ IsGone given state since key

-- a key that the moves left alone
abbrev Still : List Span → List Span → List ℕ → Type 0
Still spans gone key = (holds spans key ≡ true) × (holds gone key ≡ false)

abbrev Mid : Given → State → ℕ → List Span → List Span → List ℕ → Phase → Type 0
Mid given state version spans gone key (Absent since) = (holds spans key ≡ false) × Lost given state version gone since key
Mid given state version spans gone key (WaitPrevious since) = (holds spans key ≡ true) × Lost given state version gone since key
Mid given state version spans gone key (Fetching at upto taken in_base) =
    Still spans gone key × (at ≤ state.newest) × IsComing given state at key × IsUnflown state key
Mid given state version spans gone key (Waiting transferred) =
    Still spans gone key × (transferred ≤ state.newest) × IsKept given state key (Waiting transferred)
Mid given state version spans gone key Readable = Still spans gone key × IsServed given state key

abbrev MidPiece : Given → State → ℕ → List Span → List Span → Piece → Type 0
MidPiece given state version spans gone piece = (key : List ℕ) → Inside piece key → Mid given state version spans gone key piece.phase

mid_part : (given : Given) (state : State) (version : ℕ) (spans gone : List Span) (key : List ℕ) (span : Span) (phase : Phase)
    → Mid given state version spans gone key phase → Mid given state version spans gone key (phase_in span phase)
mid_part given state version spans gone key span (Absent since) h = h
mid_part given state version spans gone key span (WaitPrevious since) h = h
mid_part given state version spans gone key span (Fetching at upto taken in_base) h = h
mid_part given state version spans gone key span (Waiting transferred) h = h
mid_part given state version spans gone key span Readable h = h

mid_parts : (given : Given) (state : State) (version : ℕ) (spans gone : List Span) → HoldsOfParts (MidPiece given state version spans gone)
mid_parts given state version spans gone p span low high has h key inside =
    mid_part given state version spans gone key span p.phase (h key (in_part p span key low high inside))

lost_more : (given : Given) (state : State) (version : ℕ) (gone more : List Span) (since : ℕ) (key : List ℕ)
    → Lost given state version gone since key → Lost given state version (gone ++ more) since key
lost_more given state version gone more since key (inl h) =
    inl (h.0, holds-append gone more key ∙ or_left (holds gone key) (holds more key) h.1)
lost_more given state version gone more since key (inr h) = inr h

-- an assigned key
assign_in : (given : Given) (state : State) (version : ℕ) (spans gone : List Span) (r : Span) (key : List ℕ) (phase : Phase)
    → is_absent phase ≡ true → within r key ≡ true → Mid given state version spans gone key phase
    → Mid given state version (with_span spans r) gone key (waits phase)
assign_in given state version spans gone r key (Absent since) e held h =
    (holds-assigned spans r key ∙ or_right (holds spans key) (within r key) held, h.1)
assign_in given state version spans gone r key (WaitPrevious since) e held h = absurd (true≢false (sym e))
assign_in given state version spans gone r key (Fetching at upto taken in_base) e held h = absurd (true≢false (sym e))
assign_in given state version spans gone r key (Waiting transferred) e held h = absurd (true≢false (sym e))
assign_in given state version spans gone r key Readable e held h = absurd (true≢false (sym e))

assign_keeps : (given : Given) (state : State) (version : ℕ) (spans gone : List Span) (r : Span) (key : List ℕ) (phase : Phase)
    → (is_absent phase ≡ true → within r key ≡ false) → Mid given state version spans gone key phase
    → Mid given state version (with_span spans r) gone key phase
assign_keeps given state version spans gone r key (Absent since) out h =
    (holds-assigned spans r key ∙ or_from (holds spans key) (within r key) h.0 (out refl), h.1)
assign_keeps given state version spans gone r key (WaitPrevious since) out h =
    (holds-assigned spans r key ∙ or_left (holds spans key) (within r key) h.0, h.1)
assign_keeps given state version spans gone r key (Fetching at upto taken in_base) out h =
    ((holds-assigned spans r key ∙ or_left (holds spans key) (within r key) h.0.0, h.0.1), h.1, h.2, h.3)
assign_keeps given state version spans gone r key (Waiting transferred) out h =
    ((holds-assigned spans r key ∙ or_left (holds spans key) (within r key) h.0.0, h.0.1), h.1, h.2)
assign_keeps given state version spans gone r key Readable out h =
    ((holds-assigned spans r key ∙ or_left (holds spans key) (within r key) h.0.0, h.0.1), h.1)

-- a key that is taken away
gone_more : (gone : List Span) (r : Span) (key : List ℕ) → within r key ≡ true → holds (gone ++ r ∷ []) key ≡ true
gone_more gone r key held =
    holds-append gone (r ∷ []) key ∙ or_right (holds gone key) (within r key || false) (or_left (within r key) false held)

gone_same : (gone : List Span) (r : Span) (key : List ℕ) → within r key ≡ false → holds gone key ≡ false → holds (gone ++ r ∷ []) key ≡ false
gone_same gone r key out none =
    holds-append gone (r ∷ []) key ∙ or_from (holds gone key) (within r key || false) none (or_from (within r key) false out refl)

left_in : (spans : List Span) (r : Span) (key : List ℕ) → within r key ≡ false → holds spans key ≡ true → holds (without_span spans r) key ≡ true
left_in spans r key out held = holds-released spans r key ∙ and_from (holds spans key) (not (within r key)) held (ap not out)

release_keeps : (given : Given) (state : State) (version : ℕ) (spans gone : List Span) (r : Span) (key : List ℕ) (phase : Phase)
    → (is_absent phase ≡ false → within r key ≡ false) → Mid given state version spans gone key phase
    → Mid given state version (without_span spans r) (gone ++ r ∷ []) key phase
release_keeps given state version spans gone r key (Absent since) out h =
    (holds-released spans r key ∙ ap (λ b. b && not (within r key)) h.0, lost_more given state version gone (r ∷ []) since key h.1)
release_keeps given state version spans gone r key (WaitPrevious since) out h =
    (left_in spans r key (out refl) h.0, lost_more given state version gone (r ∷ []) since key h.1)
release_keeps given state version spans gone r key (Fetching at upto taken in_base) out h =
    ((left_in spans r key (out refl) h.0.0, gone_same gone r key (out refl) h.0.1), h.1, h.2, h.3)
release_keeps given state version spans gone r key (Waiting transferred) out h =
    ((left_in spans r key (out refl) h.0.0, gone_same gone r key (out refl) h.0.1), h.1, h.2)
release_keeps given state version spans gone r key Readable out h =
    ((left_in spans r key (out refl) h.0.0, gone_same gone r key (out refl) h.0.1), h.1)

-- ---- one move

pub absent_parts : (span : Span) (phase : Phase) → is_absent (phase_in span phase) ≡ is_absent phase
absent_parts span (Absent since) = refl
absent_parts span (WaitPrevious since) = refl
absent_parts span (Fetching at upto taken in_base) = refl
absent_parts span (Waiting transferred) = refl
absent_parts span Readable = refl

-- what holds of each piece holds of it once those that pass the test are cut at the ends of a span
cut_twice : (P : Piece → Type 0) (test : Phase → Bool) (r : Span) → HoldsOfParts P → ((span : Span) (phase : Phase) → test (phase_in span phase) ≡ test phase)
    → (ps : List Piece) → AllByRecursion P ps
    → AllByRecursion (λ p. (P p × IsUncut test r.begin p) × IsUncut test r.end p) (cut_where test r.end (cut_where test r.begin ps))
cut_twice P test r parts same ps all =
    all_cut (λ p. P p × IsUncut test r.begin p) test r.end
    (λ p span low high has h. (parts p span low high has h.0, uncut_parts test r.begin (λ s q. same s q.phase) p span low high has h.1))
    (cut_where test r.begin ps) (all_cut P test r.begin parts ps all)

pub within_move : (P Q : Piece → Type 0) (test : Phase → Bool) (to : Phase → Phase) (r : Span) → HoldsOfParts P
    → ((span : Span) (phase : Phase) → test (phase_in span phase) ≡ test phase)
    → ((p : Piece) → P p → test p.phase ≡ true → ((key : List ℕ) → Inside p key → within r key ≡ true) → Q (record p { phase = to p.phase }))
    → ((p : Piece) → P p → ((key : List ℕ) → Inside p key → test p.phase ≡ true → within r key ≡ false) → Q p)
    → (ps : List Piece) → AllByRecursion P ps → AllByRecursion Q (change_within r test to ps)
within_move P Q test to r parts same inner outer ps all =
    all_mapped (λ p. (P p × IsUncut test r.begin p) × IsUncut test r.end p) Q
    (λ piece. if test piece.phase && lies_in (span_of piece) r then record piece { phase = to piece.phase } else piece)
    (λ p h. cond_both (test p.phase && lies_in (span_of p) r) (record p { phase = to p.phase }) p Q
    (λ both.
    let tests = and_parts (test p.phase) (lies_in (span_of p) r) both in
    inner p h.0.0 tests.0 (λ key inside. in_or_out p r key (h.0.1 tests.0) (h.1 tests.0) inside ∙ tests.1))
    (λ fails. outer p h.0.0 (λ key inside passes.
    in_or_out p r key (h.0.1 passes) (h.1 passes) inside ∙ sym (ap (λ b. b && lies_in (span_of p) r) passes) ∙ fails)))
    (cut_where test r.end (cut_where test r.begin ps)) (cut_twice P test r parts same ps all)

mid_move : (given : Given) (state : State) (version : ℕ) (spans gone : List Span) (move : Move) (ps : List Piece)
    → AllByRecursion (MidPiece given state version spans gone) ps
    → AllByRecursion (MidPiece given state version (move_span spans move) (gone ++ released move)) (move_piece version ps move)
mid_move given state version spans gone (Assign r) ps all =
    subst (λ g. AllByRecursion (MidPiece given state version (with_span spans r) g) (move_piece version ps (Assign r))) (sym (append-nil gone))
    (within_move (MidPiece given state version spans gone) (MidPiece given state version (with_span spans r) gone) is_absent waits r
    (mid_parts given state version spans gone) absent_parts
    (λ p h passes held key inside. assign_in given state version spans gone r key p.phase passes (held key inside) (h key inside))
    (λ p h out key inside. assign_keeps given state version spans gone r key p.phase (out key inside) (h key inside))
    ps all)
mid_move given state version spans gone (Release r) ps all =
    within_move (MidPiece given state version spans gone) (MidPiece given state version (without_span spans r) (gone ++ r ∷ []))
    (λ phase. not (is_absent phase)) (λ phase. Absent version) r
    (mid_parts given state version spans gone) (λ span phase. ap not (absent_parts span phase))
    (λ p h passes held key inside.
    (holds-released spans r key ∙ nothing (holds spans key) (within r key) (held key inside), inl (refl, gone_more gone r key (held key inside))))
    (λ p h out key inside. release_keeps given state version spans gone r key p.phase
    (λ there. out key inside (ap not there)) (h key inside))
    ps all
  where
    nothing : (x y : Bool) → y ≡ true → (x && not y) ≡ false
    nothing x true e = and_none x
      where
        and_none : (x : Bool) → (x && false) ≡ false
        and_none true = refl
        and_none false = refl
    nothing x false e = absurd (true≢false (sym e))

mid_moves : (given : Given) (state : State) (version : ℕ) (moves : List Move) (spans gone : List Span) (ps : List Piece)
    → AllByRecursion (MidPiece given state version spans gone) ps
    → AllByRecursion (MidPiece given state version (fold move_span spans moves) (gone ++ flat_map released moves)) (fold (move_piece version) ps moves)
mid_moves given state version [] spans gone ps all =
    subst (λ g. AllByRecursion (MidPiece given state version spans g) ps) (sym (append-nil gone)) all
mid_moves given state version (move ∷ moves) spans gone ps all =
    subst (λ g. AllByRecursion (MidPiece given state version (fold move_span (move_span spans move) moves) g) (fold (move_piece version) (move_piece version ps move) moves))
    (append_assoc gone (released move) (flat_map released moves))
    (mid_moves given state version moves (move_span spans move) (gone ++ released move) (move_piece version ps move)
    (mid_move given state version spans gone move ps all))

-- ---- the whole batch

abbrev pub Kept : Given → State → Piece → Type 0
Kept given state piece = (key : List ℕ) → Inside piece key → IsKept given state key piece.phase

pub if_both : {A : Type 0} (P Q R : A → Type 0) (o : Option A) → ((x : A) → P x → Q x → R x) → IfSome o P → IfSome o Q → IfSome o R
if_both P Q R None f h k = tt
if_both P Q R (Some x) f h k = f x h k

mid_start : (given : Given) (state : State) (version : ℕ) (p : Piece) (key : List ℕ) (phase : Phase) → IsPlaced state p phase
    → IsKept given state key phase → Mid given state version (assigned given.own given.log state.newest) [] key phase
mid_start given state version p key (Absent since) placed h = (h.0, inr h.1)
mid_start given state version p key (WaitPrevious since) placed h = (h.0, inr h.1)
mid_start given state version p key (Fetching at upto taken in_base) placed h =
    ((h.0.stays state.newest placed.has_come (le_refl state.newest), refl), placed.has_come, h.0, h.1)
mid_start given state version p key (Waiting transferred) placed h =
    ((h.0.stays state.newest placed.1 (le_refl state.newest), refl), placed.1, h)
mid_start given state version p key Readable placed h = ((h.is_in, refl), h)

-- what the batch after a state makes of it
applied_step : (given : Given) (state : State) (batch : Batch) → IsNext given.own given.log state.newest batch → IsCounted state
    → (p : Piece) → MidPiece given state batch.version (fold move_span (assigned given.own given.log state.newest) batch.moves) (released_in batch) p
    → Kept given (after_batch state batch) (inject batch.version p)
applied_step given state batch next counted p mid key =
    cond_both (is_whole p) (in_phase (Waiting batch.version) p) p (λ q. Inside q key → IsKept given after key q.phase)
    (λ whole inside. sent (whole_coming p.phase refl whole (mid key inside)))
    (λ _ inside. later p.phase (mid key inside))
  where
    after : State
    after = after_batch state batch

    now : List Span
    now = fold move_span (assigned given.own given.log state.newest) batch.moves

    assigned_now : (held : Bool) → holds now key ≡ held → is_assigned given batch.version key ≡ held
    assigned_now held e = ap (λ spans. holds spans key) next.moved ∙ e

    stays_on : (from : ℕ) → from ≤ state.newest → StaysAssigned given from state.newest key → holds now key ≡ true → StaysAssigned given from batch.version key
    stays_on from low stays is version under over =
        ⊎_elim
        (λ later. ⊎_elim
        (λ before. ap (λ spans. holds spans key) (next.unmoved version (omega arith) before) ∙ stays state.newest low (le_refl state.newest))
        (λ reached. let same : batch.version ≡ version = omega arith in subst (λ v. is_assigned given v key ≡ true) same (assigned_now true is))
        (cases_lt version batch.version))
        (λ earlier. stays version under earlier)
        (cases_lt state.newest version)

    held_on : (above : ℕ) → StaysHeld given above state.newest key → holds (released_in batch) key ≡ false → StaysHeld given above batch.version key
    held_on above held none version under over =
        ⊎_elim
        (λ later. ⊎_elim
        (λ before. next.none_between version (λ b. holds (released_in b) key) later before)
        (λ reached. let same : batch.version ≡ version = omega arith in
        subst (λ v. takes_away given.log v key ≡ false) same (next.alone (λ b. holds (released_in b) key) ∙ none))
        (cases_lt version batch.version))
        (λ earlier. held version under earlier)
        (cases_lt state.newest version)

    gone_on : (since : ℕ) → Lost given state batch.version (released_in batch) since key → IsGone given after since key
    gone_on since (inl h) = record {
      taken_away = λ _. subst (λ v. takes_away given.log v key ≡ true) (sym h.0) (next.alone (λ b. holds (released_in b) key) ∙ h.1);
      unavailable = λ under. absurd (omega (arith, next.above, counted.durable, h.0));
      unflown = if_both (λ flight. (state.durable ≤ flight.version) × (flight.version ≤ state.newest))
          (λ flight. (state.durable ≤ flight.version) × (flight.version ≤ state.newest))
          (λ flight. since ≤ flight.version → holds flight.available key ≡ false) state.flight
          (λ flight between _ under. absurd (omega (arith, next.above, between.1, h.0))) counted.flight counted.flight;
    }
    gone_on since (inr h) = record { taken_away = h.taken_away; unavailable = h.unavailable; unflown = h.unflown }

    later : (phase : Phase) → Mid given state batch.version now (released_in batch) key phase → IsKept given after key phase
    later (Absent since) h = (assigned_now false h.0, gone_on since h.1)
    later (WaitPrevious since) h = (assigned_now true h.0, gone_on since h.1)
    later (Fetching at upto taken in_base) h = (
      record {
        stays = stays_on at h.1 h.2.stays h.0.0;
        held = held_on at h.2.held h.0.1;
        unavailable = h.2.unavailable;
      },
      h.3,
    )
    later (Waiting transferred) h = (
      record {
        stays = stays_on transferred h.1 h.2.0.stays h.0.0;
        held = held_on transferred h.2.0.held h.0.1;
        unavailable = h.2.0.unavailable;
      },
      h.2.1,
    )
    later Readable h = record {
      is_in = assigned_now true h.0.0;
      held = held_on state.durable h.1.held h.0.1;
      available = h.1.available;
      flown = h.1.flown;
    }

    WasComing : Type 0
    WasComing = (at : ℕ) × Still now (released_in batch) key × IsComing given state at key × IsUnflown state key

    whole_coming : (phase : Phase) → p.phase ≡ phase → is_whole p ≡ true → Mid given state batch.version now (released_in batch) key p.phase → WasComing
    whole_coming (Fetching at upto taken in_base) e whole h =
        let here : Mid given state batch.version now (released_in batch) key (Fetching at upto taken in_base) =
        subst (Mid given state batch.version now (released_in batch) key) e h in
        (at, here.0, here.2, here.3)
    whole_coming (Absent since) e whole h = absurd (true≢false (sym whole ∙ ap (λ f. is_whole (in_phase f p)) e))
    whole_coming (WaitPrevious since) e whole h = absurd (true≢false (sym whole ∙ ap (λ f. is_whole (in_phase f p)) e))
    whole_coming (Waiting transferred) e whole h = absurd (true≢false (sym whole ∙ ap (λ f. is_whole (in_phase f p)) e))
    whole_coming Readable e whole h = absurd (true≢false (sym whole ∙ ap (λ f. is_whole (in_phase f p)) e))

    -- a whole piece is sent at the batch's version
    sent : WasComing → IsKept given after key (Waiting batch.version)
    sent h = (
      record {
        stays = λ version under over.
            let same : batch.version ≡ version = omega arith in
            subst (λ v. is_assigned given v key ≡ true) same (assigned_now true h.1.0);
        held = λ version under over. absurd (omega arith);
        unavailable = h.2.unavailable;
      },
      if_both (λ flight. (state.durable ≤ flight.version) × (flight.version ≤ state.newest)) (λ flight. holds flight.available key ≡ false)
          (λ flight. holds flight.available key ≡ nat_le batch.version flight.version) state.flight
          (λ flight between out. out ∙ sym (lt-leb batch.version flight.version (omega (arith, next.above, between.1)))) counted.flight h.3,
    )

pub kept_applied : (given : Given) (state : State) (batch : Batch) → IsNext given.own given.log state.newest batch → IsCounted state
    → AllByRecursion (λ p. IsPlaced state p p.phase × Kept given state p) state.pieces
    → AllByRecursion (Kept given (after_batch state batch)) (after_batch state batch).pieces
kept_applied given state batch next counted all =
    all_mapped (MidPiece given state batch.version (fold move_span (assigned given.own given.log state.newest) batch.moves) (released_in batch))
    (Kept given (after_batch state batch)) (inject batch.version)
    (λ p mid. applied_step given state batch next counted p mid)
    (fold (move_piece batch.version) state.pieces batch.moves)
    (mid_moves given state batch.version batch.moves (assigned given.own given.log state.newest) [] state.pieces
    (all_map (λ p. IsPlaced state p p.phase × Kept given state p)
    (MidPiece given state batch.version (assigned given.own given.log state.newest) [])
    (λ p h key inside. mid_start given state batch.version p key p.phase h.0 (h.1 key inside)) state.pieces all))
