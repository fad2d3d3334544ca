-- Each state that a legal trace of a served life reaches holds all keys.
use Rattle.std.proofs.Common.{◌≡◌, ℕ, Bool, true, false, not, ◌&&◌, ◌==◌, nat_lt, nat_le, cond, List, [], ◌∷◌, ◌++◌, map, filter, length, Option, Some, None, IfSome, option_and_then, refl, sym, ap, ap₂, ◌∙◌, subst, inl, inr}
use Rattle.std.specs.List.{AllByRecursion, fold}
use Rattle.st_fold.specs.declared.plan.LifePlan.{LifePlan}
use Rattle.st_fold.specs.declared.plan.Script.{Script}
use Rattle.st_fold.specs.declared.report.Event.{Event}
use Rattle.st_fold.specs.declared.report.Event.TheVariants.{Opened, Applied, FetchStart, Block, Split, Began, Durable, Watched, Unwatched, Closed, Killed}
use Rattle.st_fold.specs.Map.{batches_to}
use Rattle.st_key.specs.Spans.{Span, all_keys}
use Rattle.st_key.specs.Parts.{with_span, without_span}
use Rattle.st_mutation.specs.declared.batch.Batch.{Batch}
use Rattle.st_model.specs.declared.piece.Piece.{Piece}
use Rattle.st_model.specs.declared.piece.Phase.TheVariants.{Readable}
use Rattle.st_model.specs.Pieces.{begins, block_piece, by_phase, change_at, first_pieces, inject, move_piece, rows_in_base, rows_taken, serves, span_of, split_piece, start_piece, stops_at, takes_block, waits_to, wants_fetch}
use Rattle.st_model.specs.State.{Given, Opening, State, after_batch, apply_next, available_at, began, commit_due, commit_version, end_commit, ended, first_state, is_registered, move_span, next_batch, released_between, released_in, step}
use Rattle.st_model.specs.Report.{MayOpen, given_by}
use Rattle.st_model.specs.Trace.{is_end, run_events, state_after}
use Rattle.st_demand.specs.Serving.{HoldsAllKeys, IsServable}
use Rattle.st_demand.proofs.Lists.{all_filter, all_map, found_has, none_of_all}

-- the one piece
abbrev pub whole : Piece
whole = record { begin = []; end = 255 ∷ []; phase = Readable }

abbrev IsStill : Batch → Type 0
IsStill batch = batch.moves ≡ []

-- what a step leads to, where it may come
from_cond : (b : Bool) (made after : State) → cond b (Some made) None ≡ Some after → HoldsAllKeys made → HoldsAllKeys after
from_cond true made after e holds_made = let same : made ≡ after = cc in subst HoldsAllKeys same holds_made
from_cond false made after e holds_made = cc

-- ---- a log without moves

-- such a log assigns nothing
pub stays_assigned : (own : List Span) (log : List Batch) → AllByRecursion IsStill log
    → fold (λ spans (batch : Batch). fold move_span spans batch.moves) own log ≡ own
stays_assigned own [] still = refl
stays_assigned own (batch ∷ later) still =
    ap (λ moves. fold (λ spans (batch : Batch). fold move_span spans batch.moves) (fold move_span own moves) later) still.0
    ∙ stays_assigned own later still.1

module _ (given : Given) (opening : Opening) (servable : IsServable given opening) where
  still_to : (version : ℕ) → AllByRecursion IsStill (batches_to version given.log)
  still_to version = all_filter IsStill (λ (batch : Batch). nat_le batch.version version) given.log servable.no_moves

  still_next : (state : State) (batch : Batch) → next_batch given state ≡ Some batch → batch.moves ≡ []
  still_next state batch comes =
      found_has (λ (b : Batch). nat_lt state.newest b.version) IsStill (batches_to given.upto given.log) batch comes (still_to given.upto)

  none_released : (above upto : ℕ) → released_between above upto given.log ≡ []
  none_released above upto =
      let between = filter (λ (batch : Batch). nat_lt above batch.version) (batches_to upto given.log) in
      none_of_all released_in between
      (all_map IsStill (λ batch. released_in batch ≡ []) (λ batch still. ap (λ moves. released_in (record batch { moves = moves })) still) between
      (all_filter IsStill (λ (batch : Batch). nat_lt above batch.version) (batches_to upto given.log) (still_to upto)))

  -- ---- the opening

  opens_with_all : HoldsAllKeys (first_state given opening)
  opens_with_all = record {
    available = servable.available;
    flown = tt;
    pieces =
        ap₂ (λ available owned. first_pieces opening.version available owned) servable.available
        (stays_assigned given.own (batches_to opening.version given.log) (still_to opening.version) ∙ servable.own);
  }

  -- ---- the steps

  module _ (state : State) (holds : HoldsAllKeys state) where
    pub after_applied : (batch : Batch) → batch.moves ≡ [] → HoldsAllKeys (after_batch state batch)
    after_applied batch still = record {
      available = holds.available;
      flown = holds.flown;
      pieces = ap₂ (λ pieces moves. map (inject batch.version) (fold (move_piece batch.version) pieces moves)) holds.pieces still;
    }

    available_then : (version : ℕ) → available_at given state version ≡ all_keys ∷ []
    available_then version =
        ap (λ spans. fold with_span spans (map span_of (filter (waits_to version) state.pieces)))
        (ap₂ (λ spans released. fold without_span spans released) holds.available (none_released state.durable version))
        ∙ ap (λ pieces. fold with_span (all_keys ∷ []) (map span_of (filter (waits_to version) pieces))) holds.pieces

    pub after_began : (version : ℕ) → HoldsAllKeys (began given state version)
    after_began version = record {
      available = holds.available;
      flown = available_then version;
      pieces = ap (by_phase rows_taken) holds.pieces;
    }

    pub after_ended : (flight : Opening) → flight.available ≡ all_keys ∷ [] → HoldsAllKeys (ended state flight)
    after_ended flight all = record {
      available = all;
      flown = tt;
      pieces = ap (by_phase (rows_in_base flight.version)) holds.pieces;
    }

    -- no piece is fetched
    nothing_begins : (test : Piece → Bool) → test whole ≡ false → (begin : List ℕ) → begins test begin state.pieces ≡ false
    nothing_begins test fails begin =
        ap (begins test begin) holds.pieces
        ∙ one begin fails
      where
        one : (begin : List ℕ) → test whole ≡ false → begins test begin (whole ∷ []) ≡ false
        one [] e = e
        one (byte ∷ bytes) e = refl

    pub step_holds : (event : Event) (after : State) → step given state event ≡ Some after → HoldsAllKeys after
    step_holds (Opened version) after e = cc
    step_holds (Applied version) after e = by_batch (next_batch given state) refl e
      where
        by_batch : (o : Option Batch) → next_batch given state ≡ o → apply_next state version o ≡ Some after → HoldsAllKeys after
        by_batch None _ e = cc
        by_batch (Some batch) comes e =
            from_cond (batch.version == version) (after_batch state batch) after e (after_applied batch (still_next state batch comes))
    step_holds (FetchStart begin at) after e =
        let no = ap (λ v. cond (v && at == state.newest)
        (Some (record state { pieces = change_at begin (λ piece. start_piece at piece ∷ []) state.pieces })) None)
        (nothing_begins (wants_fetch state.durable) refl begin) in
        let none : None ≡ Some after = sym no ∙ e in cc
    step_holds (Block begin upto) after e =
        let no = ap (λ v. cond v (Some (record state { pieces = change_at begin (λ piece. block_piece upto piece ∷ []) state.pieces })) None)
        (nothing_begins (takes_block upto) refl begin) in
        let none : None ≡ Some after = sym no ∙ e in cc
    step_holds (Split begin key) after e =
        let no = ap (λ v. cond v (Some (record state { pieces = change_at begin (split_piece state.durable key) state.pieces })) None)
        (nothing_begins (stops_at key) refl begin) in
        let none : None ≡ Some after = sym no ∙ e in cc
    step_holds (Began version) after e =
        from_cond (commit_due given state && version == commit_version given state) (began given state version) after e (after_began version)
    step_holds (Durable version) after e = by_flight state.flight holds.flown e
      where
        by_flight : (o : Option Opening) → IfSome o (λ flight. flight.available ≡ all_keys ∷ []) → end_commit state version o ≡ Some after
            → HoldsAllKeys after
        by_flight None _ e = cc
        by_flight (Some flight) all e = from_cond (flight.version == version) (ended state flight) after e (after_ended flight all)
    step_holds (Watched number key value) after e =
        from_cond (serves state.pieces key && nat_lt (length state.watches) given.settings.watches && not (is_registered number state.watches))
        (record state { watches = state.watches ++ record { number = number; key = key; value = value; since = state.newest } ∷ [] }) after e
        (record { available = holds.available; flown = holds.flown; pieces = holds.pieces })
    step_holds (Unwatched number) after e =
        from_cond (is_registered number state.watches) (record state { watches = filter (λ watch. not (watch.number == number)) state.watches })
        after e (record { available = holds.available; flown = holds.flown; pieces = holds.pieces })
    step_holds Closed after e = let same : state ≡ after = cc in subst HoldsAllKeys same holds
    step_holds Killed after e = let same : state ≡ after = cc in subst HoldsAllKeys same holds

  -- ---- traces

  run_holds : (events : List Event) (state after : State) → HoldsAllKeys state → run_events given state events ≡ Some after → HoldsAllKeys after
  run_holds [] state after holds e = let same : state ≡ after = cc in subst HoldsAllKeys same holds
  run_holds (event ∷ events) state after holds e =
      by_end (λ next next_holds runs. run_holds events next after next_holds runs) (is_end event && nat_lt 0 (length events)) e
    where
      by_step : ((next : State) → HoldsAllKeys next → run_events given next events ≡ Some after → HoldsAllKeys after)
          → (o : Option State) → step given state event ≡ o → option_and_then (λ next. run_events given next events) o ≡ Some after
          → HoldsAllKeys after
      by_step later None _ e = cc
      by_step later (Some next) comes e = later next (step_holds state holds event next comes) e

      by_end : ((next : State) → HoldsAllKeys next → run_events given next events ≡ Some after → HoldsAllKeys after)
          → (b : Bool) → cond b None (option_and_then (λ next. run_events given next events) (step given state event)) ≡ Some after
          → HoldsAllKeys after
      by_end later true e = cc
      by_end later false e = by_step later (step given state event) refl e

  pub trace_holds : (trace : List Event) (state : State) → state_after given opening trace ≡ Some state → HoldsAllKeys state
  trace_holds (Opened version ∷ events) state e = by_version (version == opening.version) e
    where
      by_version : (b : Bool) → cond b (run_events given (first_state given opening) events) None ≡ Some state → HoldsAllKeys state
      by_version true e = run_holds events (first_state given opening) state opens_with_all e
      by_version false e = cc
  trace_holds trace state e = cc

-- ---- the next life

pub holds_again : (script : Script) (plan later : LifePlan) (opening next : Opening) (trace : List Event)
    → IsServable (given_by script plan) opening → MayOpen (state_after (given_by script plan) opening trace) next
    → IsServable (given_by script later) next
holds_again script plan later opening next trace servable may = record {
  own = servable.own;
  no_moves = servable.no_moves;
  available = by_state (state_after (given_by script plan) opening trace) refl may;
}
  where
    by_flight : (o : Option Opening) → o ≡ Some next → IfSome o (λ flight. flight.available ≡ all_keys ∷ []) → next.available ≡ all_keys ∷ []
    by_flight None e all = cc
    by_flight (Some flight) e all = let same : flight ≡ next = cc in subst (λ one. one.available ≡ all_keys ∷ []) same all

    by_state : (o : Option State) → state_after (given_by script plan) opening trace ≡ o → MayOpen o next → next.available ≡ all_keys ∷ []
    by_state None _ opens = absurd opens
    by_state (Some state) after opens =
        let holds = trace_holds (given_by script plan) opening servable trace state after in
        (elim opens [ inl durable ↦ durable.1 ∙ holds.available | inr flies ↦ by_flight state.flight flies holds.flown ])
