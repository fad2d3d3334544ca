-- What holds in every state that is reached.
use Rattle.std.proofs.Common.{◌≡◌, ℕ, ◌-◌, ◌<◌, ◌≤◌, Bool, true, false, not, ◌&&◌, ◌==◌, cond, nat_le, List, [], ◌∷◌, ◌++◌, map, fold, length, take, Option, Some, None, IfSome, MatchOption, is_none, is_some, IsSome, ⊎_elim, refl, sym, ap, subst, ◌∙◌, le_refl}
use Rattle.std.proofs.lemmas.Bool.{and_parts, or_cases, cond_both, eqb-true, true≢false, both_ways, false_from_ne_true}
use Rattle.std.specs.List.{AllByRecursion, list_any}
use Rattle.std.specs.Option.{option_map}
use Rattle.st_key.specs.KeyOrder.{less_le_trans}
use Rattle.st_key.specs.Spans.{Span, key_less, within, holds}
use Rattle.st_mutation.specs.declared.batch.Batch.{Batch}
use Rattle.st_mutation.specs.declared.batch.Move.{Move}
use Rattle.st_mutation.specs.declared.batch.Move.TheVariants.{Assign, Release}
use Rattle.st_fold.specs.declared.plan.Act.TheVariants as act
use Rattle.st_fold.specs.declared.report.Event.{Event}
use Rattle.st_fold.specs.declared.report.Event.TheVariants.{Opened, Applied, FetchStart, Block, Split, Began, Durable, Watched, Unwatched, Closed, Killed}
use Rattle.st_fold.specs.declared.plan.Script.{Script}
use Rattle.st_fold.specs.Assigned.{assigned_by}
use Rattle.st_fold.specs.Map.{batches_to}
use Rattle.st_fold.specs.Plain.{Rises}
use Rattle.st_model.specs.declared.piece.Piece.{Piece}
use Rattle.st_model.specs.declared.piece.Phase.{Phase}
use Rattle.st_model.specs.declared.piece.Phase.TheVariants.{Absent, WaitPrevious, Fetching, Waiting, Readable}
use Rattle.st_model.specs.Facts.{AreInStep, EndBelow, EndsBelow, IsCounted, IsIdle, IsIdleIn, IsKept, IsPlaced, IsReached, IsSoundOpening, is_assigned, is_dropped, is_gone, span_moved}
use Rattle.st_model.specs.Partition.{piece_at, phase_at}
use Rattle.st_model.specs.Pieces.{span_of, wants_block, wants_fetch, begins, change_at, start_piece}
use Rattle.st_model.specs.State.{Given, Opening, State, Watch, assigned, first_state, next_batch, commit_due, commit_version, move_span, step}
use Rattle.st_model.specs.Report.{fresh, MayOpen}
use Rattle.st_model.specs.Trace.{due, is_at_rest, state_after, state_at}
use Rattle.st_model.proofs.Batches.{none_to}
use Rattle.st_model.proofs.Bits.{is_next, holds-assigned, holds-released}
use Rattle.st_model.proofs.Commits.{PlacedAndKept, kept_watched, kept_started, kept_blocked, kept_split, kept_began, kept_ended, flown_began}
use Rattle.st_model.proofs.Counts.{only_if, applied_is, began_is, ended_is, commit_between, by_trace, counted_first, counted_step, is_legal_to, state_then}
use Rattle.st_model.proofs.Cuts.{all_both, found, found_if, of_phase}
use Rattle.st_model.proofs.Drops.{Idle, idle_applied, idle_started, idle_blocked, idle_split, idle_began, idle_ended, idle_first, in_step_here}
use Rattle.st_model.proofs.Dropped.{has_drop, dropped_by}
use Rattle.st_model.proofs.Keeping.{Kept, kept_applied}
use Rattle.st_model.proofs.Lists.{all_map}
use Rattle.st_model.proofs.Openings.{stands_first, kept_first}
use Rattle.st_model.proofs.PartitionPieces.{partition-held}
use Rattle.st_model.proofs.Placing.{Stands, stands_step}

abbrev CountedAndPlaced : State → Type 0
CountedAndPlaced state = IsCounted state × Stands state

pub stands : (given : Given) (opening : Opening) (trace : List Event) (state : State) → state_after given opening trace ≡ Some state → Stands state
stands given opening trace state legal =
    (by_trace given opening CountedAndPlaced (counted_first given opening, stands_first given opening)
    (λ state event next is e. ((counted_step given state event next is.0 e).0, stands_step given state event next is.0 is.1 e))
    trace state legal).1

pub legal_to : (given : Given) (opening : Opening) (trace : List Event) (state : State) (place : ℕ) → state_after given opening trace ≡ Some state
    → 1 ≤ place → place ≤ length trace → IsSome (state_at given opening trace place)
legal_to given opening trace state place legal least most = ap is_some (is_legal_to given opening trace state place legal least most).1

-- ---- nothing is due

none_left : (flies commits blocks fetches : Bool) (next : Option Batch)
    → (flies && not commits && not blocks && not fetches && is_none next)
    ≡ is_none (cond (not flies) (Some act.Durable) (cond commits (Some act.Began) (cond blocks (Some act.Block) (cond fetches (Some act.Start) (option_map (λ batch. act.Apply) next)))))
none_left false commits blocks fetches next = refl
none_left true true blocks fetches next = refl
none_left true false true fetches next = refl
none_left true false false true next = refl
none_left true false false false None = refl
none_left true false false false (Some batch) = refl

pub rests : (given : Given) (state : State) → is_at_rest given state ≡ is_none (due given state)
rests given state =
    none_left (is_none state.flight) (commit_due given state) (list_any wants_block state.pieces)
    (list_any (wants_fetch state.durable) state.pieces) (next_batch given state)

-- ---- every fact

all_kept : (given : Given) (state : State) → Stands state → AllByRecursion (Kept given state) state.pieces
    → AllByRecursion (PlacedAndKept given state) state.pieces
all_kept given state stands kept = all_both (λ p. IsPlaced state p p.phase) (Kept given state) state.pieces stands.placed kept

-- what each step keeps of the keys
pub record Holds (given : Given) (state : State) : Type 0 where
  pub counted : IsCounted state
  pub stands : Stands state
  pub kept : AllByRecursion (Kept given state) state.pieces
  pub idle : AllByRecursion (Idle given state.durable state.newest) state.pieces
  pub available : (key : List ℕ) → holds state.available key ≡ true → is_assigned given state.durable key ≡ true
  pub flown : IfSome state.flight (λ flight. (key : List ℕ) → holds flight.available key ≡ true → is_assigned given flight.version key ≡ true)

pub holds_first : (given : Given) (opening : Opening) → IsSoundOpening given opening → Holds given (first_state given opening)
holds_first given opening sound = record {
  counted = counted_first given opening;
  stands = stands_first given opening;
  kept = kept_first given opening sound;
  idle = idle_first given opening;
  available = sound;
  flown = tt;
}

-- an event that changes pieces and watches alone
holds_pieces : (given : Given) (state next : State) (pieces : List Piece) (watches : List Watch) → record state { pieces = pieces; watches = watches } ≡ next
    → IsCounted next → Stands next → Holds given state
    → AllByRecursion (Kept given (record state { pieces = pieces; watches = watches })) pieces
    → AllByRecursion (Idle given state.durable state.newest) pieces → Holds given next
holds_pieces given state next pieces watches e counted stands h kept idle =
    subst (λ s. IsCounted s → Stands s → Holds given s) e
    (λ counted stands. record { counted = counted; stands = stands; kept = kept; idle = idle; available = h.available; flown = h.flown }) counted stands

flight_is : (P : Opening → Type 0) (found : Option Opening) (flight : Opening) → found ≡ Some flight → IfSome found P → P flight
flight_is P found flight e h = subst (λ o. IfSome o P) e h

pub holds_step : (given : Given) (low : ℕ) → Rises low given.log → (state : State) (event : Event) (next : State) → Holds given state
    → step given state event ≡ Some next → Holds given next
holds_step given low rises state event next h e =
    steps event e (counted_step given state event next h.counted e).0 (stands_step given state event next h.counted h.stands e)
  where
    both : AllByRecursion (PlacedAndKept given state) state.pieces
    both = all_kept given state h.stands h.kept

    between : (version : ℕ) → version ≡ commit_version given state → (state.durable ≤ version) × (version ≤ state.newest)
    between version e = subst (λ v. (state.durable ≤ v) × (v ≤ state.newest)) (sym e) (commit_between given state h.counted.durable)

    steps : (event : Event) → step given state event ≡ Some next → IsCounted next → Stands next → Holds given next
    steps (Opened version) e counted stands = cc
    steps (Applied version) e counted stands =
        let is = applied_is given state version (next_batch given state) next e in
        subst (λ s. IsCounted s → Stands s → Holds given s) is.3
        (λ counted stands. record {
          counted = counted;
          stands = stands;
          kept = kept_applied given state is.0 (is_next given state.newest low is.0 rises is.1) h.counted both;
          idle = idle_applied given state is.0 (is_next given state.newest low is.0 rises is.1) h.stands.parted both h.idle;
          available = h.available;
          flown = h.flown;
        }) counted stands
    steps (FetchStart begin at) e counted stands =
        let is = only_if _ _ next e in
        let tests = and_parts (begins (wants_fetch state.durable) begin state.pieces) (at == state.newest) is.0 in
        holds_pieces given state next _ state.watches
        (ap (λ n. record state { pieces = change_at begin (λ piece. start_piece n piece ∷ []) state.pieces })
        (sym (eqb-true at state.newest tests.1)) ∙ is.1)
        counted stands h (kept_started given state begin tests.0 h.counted h.stands.parted both)
        (idle_started given state begin tests.0 h.stands.parted both h.idle)
    steps (Block begin upto) e counted stands =
        let is = only_if _ _ next e in
        holds_pieces given state next _ state.watches is.1 counted stands h (kept_blocked given state begin upto is.0 h.stands.parted both)
        (idle_blocked given state begin upto is.0 h.stands.parted both h.idle)
    steps (Split begin key) e counted stands =
        let is = only_if _ _ next e in
        holds_pieces given state next _ state.watches is.1 counted stands h (kept_split given state begin key is.0 h.stands.parted both)
        (idle_split given state begin key is.0 h.stands.parted both h.idle)
    steps (Began version) e counted stands =
        let is = began_is given state version next e in
        let ends = between version is.1 in
        subst (λ s. IsCounted s → Stands s → Holds given s) is.2
        (λ counted stands. record {
          counted = counted;
          stands = stands;
          kept = kept_began given state version ends.0 ends.1 h.stands.parted both;
          idle = idle_began given state.durable state.newest state.pieces h.idle;
          available = h.available;
          flown = flown_began given state low version rises ends.0 ends.1 h.available h.kept;
        }) counted stands
    steps (Durable version) e counted stands =
        let is = ended_is state version state.flight next e in
        subst (λ s. IsCounted s → Stands s → Holds given s) is.3
        (λ counted stands. record {
          counted = counted;
          stands = stands;
          kept = kept_ended given state is.0 is.1 h.counted both;
          idle = idle_ended given state.durable is.0.version state.newest state.pieces
              (flight_is (λ flight. (state.durable ≤ flight.version) × (flight.version ≤ state.newest)) state.flight is.0 is.1 h.counted.flight).0 h.idle;
          available = flight_is (λ flight. (key : List ℕ) → holds flight.available key ≡ true → is_assigned given flight.version key ≡ true)
              state.flight is.0 is.1 h.flown;
          flown = tt;
        }) counted stands
    steps (Watched number key value) e counted stands =
        let is = only_if _ _ next e in
        holds_pieces given state next state.pieces _ is.1 counted stands h (kept_watched given state _ h.kept) h.idle
    steps (Unwatched number) e counted stands =
        let is = only_if _ _ next e in
        holds_pieces given state next state.pieces _ is.1 counted stands h (kept_watched given state _ h.kept) h.idle
    steps Closed e counted stands = let same : state ≡ next = cc in subst (Holds given) same h
    steps Killed e counted stands = let same : state ≡ next = cc in subst (Holds given) same h

pub reached : (given : Given) (opening : Opening) (trace : List Event) (state : State) (low : ℕ) → Rises low given.log → IsSoundOpening given opening
    → state_after given opening trace ≡ Some state → IsReached given state
reached given opening trace state low rises sound legal =
    let h = by_trace given opening (Holds given) (holds_first given opening sound) (holds_step given low rises) trace state legal in
    record {
      counted = h.counted;
      partition = h.stands.parted;
      placed = h.stands.placed;
      kept = h.kept;
      idle = h.idle;
      available = h.available;
      flown = h.flown;
    }

-- ---- key by key

pub by_key : (given : Given) (opening : Opening) (trace : List Event) (state : State) (key : List ℕ) → Rises 0 given.log → IsSoundOpening given opening
    → state_after given opening trace ≡ Some state → key_less key (255 ∷ []) ≡ true
    → MatchOption (phase_at state.pieces key) ⊥ (λ phase. IsKept given state key phase)
by_key given opening trace state key rises sound legal below =
    let r = reached given opening trace state 0 rises sound legal in
    of_phase (IsKept given state key) (piece_at state.pieces key)
    (found (λ p. IsKept given state key p.phase) state.pieces key
    (all_map (Kept given state) (λ p. within (span_of p) key ≡ true → IsKept given state key p.phase) (λ p kept. kept key) state.pieces r.kept)
    (partition-held state.pieces key r.partition below))

-- ---- drops

pub idle_by_key : (given : Given) (opening : Opening) (trace : List Event) (state : State) (key : List ℕ) → Rises 0 given.log
    → IsSoundOpening given opening → state_after given opening trace ≡ Some state → key_less key (255 ∷ []) ≡ true
    → MatchOption (phase_at state.pieces key) ⊥ (λ phase. IsIdleIn given state.durable state.newest key phase)
idle_by_key given opening trace state key rises sound legal below =
    let r = reached given opening trace state 0 rises sound legal in
    of_phase (IsIdleIn given state.durable state.newest key) (piece_at state.pieces key)
    (found (λ p. IsIdleIn given state.durable state.newest key p.phase) state.pieces key
    (all_map (Idle given state.durable state.newest) (λ p. within (span_of p) key ≡ true → IsIdleIn given state.durable state.newest key p.phase)
    (λ p idle. idle key) state.pieces r.idle)
    (partition-held state.pieces key r.partition below))

-- a key that has a piece in one of the other phases isn't dropped above the durable version
idle_here : (given : Given) (durable newest : ℕ) (key : List ℕ) (phase : Phase) → is_gone phase ≡ false
    → IsIdleIn given durable newest key phase → IsIdle given durable newest key
idle_here given durable newest key (Absent since) e h = absurd (true≢false e)
idle_here given durable newest key (WaitPrevious since) e h = absurd (true≢false e)
idle_here given durable newest key (Fetching at upto taken in_base) e h = h
idle_here given durable newest key (Waiting transferred) e h = h
idle_here given durable newest key Readable e h = h

pub idle_by_move : (given : Given) (opening : Opening) (trace : List Event) (state : State) (key : List ℕ) (phase : Phase)
    (early later : List Batch) (batch : Batch) (before after : List Move) (span : Span) → Rises 0 given.log → IsSoundOpening given opening
    → state_after given opening trace ≡ Some state → phase_at state.pieces key ≡ Some phase → is_gone phase ≡ false
    → given.log ≡ early ++ batch ∷ later → state.durable < batch.version → batch.version ≤ state.newest
    → batch.moves ≡ before ++ Release span ∷ after → within span key ≡ true
    → fold (assigned_by key) (is_assigned given (batch.version - 1) key) before ≡ false
idle_by_move given opening trace state key phase early later batch before after span rises sound legal at stays log above upto moves inside =
    false_from_ne_true (fold (assigned_by key) (is_assigned given (batch.version - 1) key) before) (λ held.
    both_ways (is_dropped given batch.version key)
    (idle_here given state.durable state.newest key phase stays here batch.version above upto)
    (dropped_by given early later batch key log
    (has_drop key (is_assigned given (batch.version - 1) key) batch.moves
    (record { before = before; span = span; after = after; whole = moves; is_held = held; inside = inside }))))
  where
    here : IsIdleIn given state.durable state.newest key phase
    here =
        let r = reached given opening trace state 0 rises sound legal in
        at_phase (piece_at state.pieces key) at
        (found_if (λ p. IsIdleIn given state.durable state.newest key p.phase) state.pieces key
        (all_map (Idle given state.durable state.newest) (λ p. within (span_of p) key ≡ true → IsIdleIn given state.durable state.newest key p.phase)
        (λ p idle. idle key) state.pieces r.idle))
      where
        at_phase : (o : Option Piece) → option_map (λ piece. piece.phase) o ≡ Some phase → IfSome o (λ p. IsIdleIn given state.durable state.newest key p.phase)
            → IsIdleIn given state.durable state.newest key phase
        at_phase None e h = cc
        at_phase (Some p) e h = let same : p.phase ≡ phase = cc in subst (IsIdleIn given state.durable state.newest key) same h

pub in_step : (given : Given) (opening : Opening) (trace : List Event) (state : State) → Rises 0 given.log → IsSoundOpening given opening
    → state_after given opening trace ≡ Some state → AreInStep (assigned given.own given.log state.newest) state.pieces
in_step given opening trace state rises sound legal =
    let r = reached given opening trace state 0 rises sound legal in
    in_step_here given state (all_both (λ p. IsPlaced state p p.phase) (Kept given state) state.pieces r.placed r.kept)

-- ---- keys that are assigned

end_below : (spans : List Span) (key : List ℕ) → EndBelow spans → holds spans key ≡ true → key_less key (255 ∷ []) ≡ true
end_below [] key ends held = cc
end_below (span ∷ spans) key ends held =
    ⊎_elim
    (λ here. less_le_trans key span.end (255 ∷ []) (and_parts (not (key_less key span.begin)) (key_less key span.end) here).1 ends.0)
    (λ later. end_below spans key ends.1 later)
    (or_cases (within span key) (holds spans key) held)

-- the keys that moves leave are below ff, where those before them are
moved_below : (moves : List Move) (spans : List Span) (key : List ℕ) → EndBelow (map span_moved moves)
    → (holds spans key ≡ true → key_less key (255 ∷ []) ≡ true) → holds (fold move_span spans moves) key ≡ true → key_less key (255 ∷ []) ≡ true
moved_below [] spans key ends below held = below held
moved_below (Assign span ∷ moves) spans key ends below held =
    moved_below moves (move_span spans (Assign span)) key ends.1
    (λ there. ⊎_elim below
    (λ here. less_le_trans key span.end (255 ∷ []) (and_parts (not (key_less key span.begin)) (key_less key span.end) here).1 ends.0)
    (or_cases (holds spans key) (within span key) (sym (holds-assigned spans span key) ∙ there)))
    held
moved_below (Release span ∷ moves) spans key ends below held =
    moved_below moves (move_span spans (Release span)) key ends.1
    (λ there. below (and_parts (holds spans key) (not (within span key)) (sym (holds-released spans span key) ∙ there)).0)
    held

batches_below : (log : List Batch) (version : ℕ) (spans : List Span) (key : List ℕ) → AllByRecursion (λ batch. EndBelow (map span_moved batch.moves)) log
    → (holds spans key ≡ true → key_less key (255 ∷ []) ≡ true)
    → holds (fold (λ spans batch. fold move_span spans batch.moves) spans (batches_to version log)) key ≡ true → key_less key (255 ∷ []) ≡ true
batches_below [] version spans key ends below held = below held
batches_below (batch ∷ log) version spans key ends below held =
    cond_both (nat_le batch.version version) (batch ∷ batches_to version log) (batches_to version log)
    (λ batches. holds (fold (λ spans batch. fold move_span spans batch.moves) spans batches) key ≡ true → key_less key (255 ∷ []) ≡ true)
    (λ _ held. batches_below log version (fold move_span spans batch.moves) key ends.1 (moved_below batch.moves spans key ends.0 below) held)
    (λ _ held. batches_below log version spans key ends.1 below held)
    held

pub assigned_below : (given : Given) (version : ℕ) (key : List ℕ) → EndsBelow given → is_assigned given version key ≡ true → key_less key (255 ∷ []) ≡ true
assigned_below given version key ends held = batches_below given.log version given.own key ends.moves (end_below given.own key ends.own) held

-- ---- openings

pub fresh_sound : (script : Script) (given : Given) → Rises 0 script.log → given.log ≡ script.log → given.own ≡ script.own
    → IsSoundOpening given (fresh script)
fresh_sound script given rises log own key held =
    ap (λ batches. holds (fold (λ spans batch. fold move_span spans batch.moves) given.own (batches_to 0 batches)) key) log
    ∙ ap (λ batches. holds (fold (λ spans batch. fold move_span spans batch.moves) given.own batches) key) (none_to 0 0 script.log (le_refl 0) rises)
    ∙ ap (λ spans. holds spans key) own ∙ held

pub next_sound : (given : Given) (opening next : Opening) (trace : List Event) → Rises 0 given.log → IsSoundOpening given opening
    → MayOpen (state_after given opening trace) next → IsSoundOpening given next
next_sound given opening next trace rises sound may =
    elim (state_after given opening trace) as (λ o. state_after given opening trace ≡ o → MayOpen o next → IsSoundOpening given next) [
      | None ↦ λ _ none. absurd none
      | Some state ↦ λ legal may.
          let r = reached given opening trace state 0 rises sound legal in
          ⊎_elim
          (λ durable key held.
          subst (λ v. is_assigned given v key ≡ true) (sym durable.0)
          (r.available key (ap (λ spans. holds spans key) (sym durable.1) ∙ held)))
          (λ flies. flight_is (λ flight. (key : List ℕ) → holds flight.available key ≡ true → is_assigned given flight.version key ≡ true)
          state.flight next flies r.flown)
          may
    ]
    refl may

pub reached_at : (given : Given) (opening : Opening) (trace : List Event) (place : ℕ) (state : State) → Rises 0 given.log → IsSoundOpening given opening
    → state_at given opening trace place ≡ Some state → IsReached given state
reached_at given opening trace place state rises sound e =
    reached given opening (take place trace) state 0 rises sound (state_then given opening trace place state e).1
