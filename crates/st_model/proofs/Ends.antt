-- What a schedule makes comes to an end.
use Rattle.std.proofs.Common.{◌≡◌, ℕ, zero, suc, ◌+◌, ◌*◌, ◌<◌, ◌≤◌, Bool, true, false, not, ◌||◌, ◌==◌, nat_lt, cond, List, [], ◌∷◌, ◌++◌, map, drop, length, max, slice_get, unwrap_or, bytes_eq, Option, Some, None, is_none, IsSome, option_map, refl, sym, ap, ◌∙◌, subst, inl, inr, arith, le_refl, le_trans}
use Rattle.std.proofs.lemmas.Bool.{cases_eq, cond_both, cond-true, and_from, eq-eqb, lt-ltb, ltb-true, or_from}
use Rattle.std.proofs.lemmas.List.Folds.{list_any-append}
use Rattle.std.proofs.lemmas.Slice.Eq.{bytes_eq-Decides}
use Rattle.std.specs.List.{AllByRecursion, find, fold, list_any}
use Rattle.std.specs.Option.{option_map_or}
use Rattle.st_key.specs.Spans.{key_less}
use Rattle.st_mutation.specs.declared.batch.Batch.{Batch}
use Rattle.st_fold.specs.Map.{folded}
use Rattle.st_fold.specs.Reading.{pairs_in}
use Rattle.st_fold.specs.declared.plan.Act.{Act}
use Rattle.st_fold.specs.declared.plan.Act.TheVariants as act
use Rattle.st_fold.specs.declared.plan.Do.{Do}
use Rattle.st_fold.specs.declared.plan.Do.TheVariants as step_of
use Rattle.st_fold.specs.declared.plan.LifePlan.{LifePlan}
use Rattle.st_fold.specs.declared.report.Event.{Event}
use Rattle.st_fold.specs.declared.report.Event.TheVariants.{Opened, Applied, FetchStart, Block, Split, Began, Durable, Watched, Unwatched, Closed, Killed}
use Rattle.st_fold.specs.declared.report.Life.{Life}
use Rattle.st_fold.specs.declared.request.Request.{Request}
use Rattle.st_model.specs.declared.piece.Piece.{Piece}
use Rattle.st_model.specs.declared.piece.Phase.{Phase}
use Rattle.st_model.specs.declared.piece.Phase.TheVariants.{Absent, WaitPrevious, Fetching, Waiting, Readable}
use Rattle.st_model.specs.Partition.{IsPartition}
use Rattle.st_model.specs.Pieces.{in_phase, wants_block, wants_fetch}
use Rattle.st_model.specs.State.{Given, Opening, State, commit_due, commit_version, first_state, next_batch, step}
use Rattle.st_model.specs.Trace.{IsFetchOf, due, event_by, is_end, state_after}
use Rattle.st_model.specs.Report.{is_of_watch, requests_of}
use Rattle.st_model.specs.Schedule.{AreNumbered, ArePatient, Commit, made, full, Halt, blown, no_block, past_limit, IsPatient, Progress, Session, Stage, begin, block_end, close_on, do_act, do_poll, event_of, event_of_block, events_of_poll, finish_commit, has_open, lets_through, make, may_do, newest_at_blocks, next, on_line, poll_first, polls_left, readers_at_end, source_fails, source_oldest, unpolled, walk, with_event, Plays, ending_by, life_of}
use Rattle.st_model.proofs.Acts.{made as allowed, some_of}
use Rattle.st_model.proofs.Counts.{applied_is, began_is, counted, counted_step, ended_is, only_if}
use Rattle.st_model.proofs.EndsActs.{Below, FetchesOn, leaves_less, left_of, measure}
use Rattle.st_model.proofs.EndsPairs.{block_goes_on}
use Rattle.st_model.proofs.EndsPolls.{all_same_sessions, fewer_left, kept_patient, poll_events, with_none, with_some}
use Rattle.st_model.proofs.Lists.{found_passes, some_found, all_append, all_map}
use Rattle.st_model.proofs.Reached.{stands}
use Rattle.st_model.proofs.Traces.{state_after_push}

-- ---- the newest version along a trace

abbrev newest_after : ℕ → List Event → ℕ
newest_after newest [] = newest
newest_after newest (Opened version ∷ events) = newest_after version events
newest_after newest (Applied version ∷ events) = newest_after version events
newest_after newest (event ∷ events) = newest_after newest events

newest_push : (newest : ℕ) (trace : List Event) (event : Event)
    → newest_after newest (trace ++ event ∷ []) ≡ newest_after (newest_after newest trace) (event ∷ [])
newest_push newest [] event = refl
newest_push newest (Opened version ∷ events) event = newest_push version events event
newest_push newest (Applied version ∷ events) event = newest_push version events event
newest_push newest (other ∷ events) event = newest_push newest events event

blocks_push : (newest : ℕ) (trace : List Event) (event : Event)
    → newest_at_blocks newest (trace ++ event ∷ []) ≡ newest_at_blocks newest trace ++ newest_at_blocks (newest_after newest trace) (event ∷ [])
blocks_push newest [] event = refl
blocks_push newest (Opened version ∷ events) event = blocks_push version events event
blocks_push newest (Applied version ∷ events) event = blocks_push version events event
blocks_push newest (Block begin upto ∷ events) event = ap (λ versions. newest ∷ versions) (blocks_push newest events event)
blocks_push newest (Split begin key ∷ events) event = ap (λ versions. newest ∷ versions) (blocks_push newest events event)
blocks_push newest (other ∷ events) event = blocks_push newest events event

newest_step : (given : Given) (state : State) (event : Event) (after : State) → step given state event ≡ Some after
    → newest_after state.newest (event ∷ []) ≡ after.newest
newest_step given state (Opened version) after e = cc
newest_step given state (Applied version) after e =
    let is = applied_is given state version (next_batch given state) after e in sym is.2 ∙ ap (λ (s : State). s.newest) is.3
newest_step given state (FetchStart begin at) after e = ap (λ (s : State). s.newest) (only_if _ _ after e).1
newest_step given state (Block begin upto) after e = ap (λ (s : State). s.newest) (only_if _ _ after e).1
newest_step given state (Split begin key) after e = ap (λ (s : State). s.newest) (only_if _ _ after e).1
newest_step given state (Began version) after e = ap (λ (s : State). s.newest) (began_is given state version after e).2
newest_step given state (Durable version) after e = ap (λ (s : State). s.newest) (ended_is state version state.flight after e).3
newest_step given state (Watched number key value) after e = ap (λ (s : State). s.newest) (only_if _ _ after e).1
newest_step given state (Unwatched number) after e = ap (λ (s : State). s.newest) (only_if _ _ after e).1
newest_step given state Closed after e = let same : state ≡ after = cc in ap (λ (s : State). s.newest) same
newest_step given state Killed after e = let same : state ≡ after = cc in ap (λ (s : State). s.newest) same

at_most_itself : (newest : ℕ) (event : Event) → AllByRecursion (λ version. version ≤ newest) (newest_at_blocks newest (event ∷ []))
at_most_itself newest (Opened version) = tt
at_most_itself newest (Applied version) = tt
at_most_itself newest (Block begin upto) = (le_refl newest, tt)
at_most_itself newest (Split begin key) = (le_refl newest, tt)
at_most_itself newest other = tt

-- ---- what the source of fetches gives

get_within : (most : ℕ) (versions : List ℕ) (place : ℕ) → AllByRecursion (λ version. version ≤ most) versions
    → unwrap_or (slice_get versions place) 0 ≤ most
get_within most [] place all = omega arith
get_within most (version ∷ versions) zero all = all.0
get_within most (version ∷ versions) (suc place) all = get_within most versions place all.1

oldest_within : (most : ℕ) (versions : List ℕ) (cuts : List ℕ) (oldest : ℕ) → AllByRecursion (λ version. version ≤ most) versions → oldest ≤ most
    → fold (λ oldest cut. max oldest (unwrap_or (slice_get versions cut) 0)) oldest cuts ≤ most
oldest_within most versions [] oldest all low = low
oldest_within most versions (cut ∷ cuts) oldest all low =
    oldest_within most versions cuts (max oldest (unwrap_or (slice_get versions cut) 0)) all
    (let here = get_within most versions cut all in omega arith)

module _ (given : Given) (plan : LifePlan) (trace : List Event) (state : State) (rows : 1 ≤ given.settings.block)
    (below : AllByRecursion (λ version. version ≤ state.newest) (newest_at_blocks 0 trace)) where
  source_within : source_oldest plan trace state ≤ state.newest
  source_within =
      oldest_within state.newest (newest_at_blocks 0 trace ++ state.newest ∷ []) plan.cuts 0
      (all_append (λ version. version ≤ state.newest) (newest_at_blocks 0 trace) (state.newest ∷ []) below (le_refl state.newest, tt)) (omega arith)

  fetches : (piece : Piece) → wants_block piece ≡ true → FetchesOn given state.newest piece (event_of_block given plan trace state piece)
  fetches piece wants = by piece.phase wants
    where
      by : (phase : Phase) → wants_block (in_phase phase piece) ≡ true
          → FetchesOn given state.newest (in_phase phase piece) (event_of_block given plan trace state (in_phase phase piece))
      by (Fetching at upto taken in_base) wants =
          let pairs = pairs_in (record { begin = upto; end = piece.end }) (folded given.log at) in
          let on = block_goes_on given.log at given.settings.block upto piece.end rows wants in
          cond_both (nat_lt at (source_oldest plan trace state)) (Split piece.begin upto)
          (Block piece.begin (block_end piece.end (drop given.settings.block pairs)))
          (FetchesOn given state.newest (in_phase (Fetching at upto taken in_base) piece))
          (λ forgotten. (
            refl,
            and_from (bytes_eq upto upto) (key_less upto piece.end) ((bytes_eq-Decides upto upto).1 refl) wants,
            lt-ltb at state.newest (let older = ltb-true at (source_oldest plan trace state) forgotten in let most = source_within in omega arith),
          ))
          (λ _. (
            refl,
            and_from (key_less upto (block_end piece.end (drop given.settings.block pairs))) (not (key_less piece.end (block_end piece.end (drop given.settings.block pairs))))
                on.0 (ap not on.1),
            subst (λ v. left_of given.log (in_phase (Fetching at (block_end piece.end (drop given.settings.block pairs)) taken in_base) piece) < cond v (suc (length pairs)) 0)
                (sym wants) on.2,
          ))
      by (WaitPrevious since) wants = cc
      by (Absent since) wants = cc
      by (Waiting transferred) wants = cc
      by Readable wants = cc

is_fetch : (given : Given) (newest : ℕ) (piece : Piece) (event : Event) → FetchesOn given newest piece event → IsFetchOf piece event
is_fetch given newest piece (Block begin upto) h = (h.0, h.1)
is_fetch given newest piece (Split begin key) h = (h.0, h.1)
is_fetch given newest piece (Opened version) h = h
is_fetch given newest piece (Applied version) h = h
is_fetch given newest piece (FetchStart begin at) h = h
is_fetch given newest piece (Began version) h = h
is_fetch given newest piece (Durable version) h = h
is_fetch given newest piece (Watched number key value) h = h
is_fetch given newest piece (Unwatched number) h = h
is_fetch given newest piece Closed h = h
is_fetch given newest piece Killed h = h

-- ---- a life under way

-- the trace is legal and goes on, and its source of fetches knows no version above the newest
record IsUnderway (given : Given) (opening : Opening) (trace : List Event) (state : State) : Type 0 where
  legal : state_after given opening trace ≡ Some state
  going_on : list_any is_end trace ≡ false
  newest : newest_after 0 trace ≡ state.newest
  below : AllByRecursion (λ version. version ≤ state.newest) (newest_at_blocks 0 trace)

underway_step : (given : Given) (opening : Opening) (trace : List Event) (state : State) (event : Event) (after : State) → is_end event ≡ false
    → step given state event ≡ Some after → IsUnderway given opening trace state → IsUnderway given opening (trace ++ event ∷ []) after
underway_step given opening trace state event after no_end e h = record {
  legal = state_after_push given opening trace state event h.legal h.going_on ∙ e;
  going_on = list_any-append is_end trace (event ∷ [])
      ∙ or_from (list_any is_end trace) (is_end event || false) h.going_on (or_from (is_end event) false no_end refl);
  newest = newest_push 0 trace event ∙ ap (λ n. newest_after n (event ∷ [])) h.newest ∙ newest_step given state event after e;
  below = subst (AllByRecursion Within) (sym (blocks_push 0 trace event))
      (all_append Within (newest_at_blocks 0 trace) (newest_at_blocks (newest_after 0 trace) (event ∷ []))
      (all_map (λ version. version ≤ state.newest) Within (λ version low. le_trans low rises) (newest_at_blocks 0 trace) h.below)
      (subst (λ n. AllByRecursion Within (newest_at_blocks n (event ∷ []))) (sym h.newest)
      (all_map (λ version. version ≤ state.newest) Within (λ version low. le_trans low rises) (newest_at_blocks state.newest (event ∷ []))
      (at_most_itself state.newest event))));
}
  where
    Within : ℕ → Type 0
    Within version = version ≤ after.newest

    rises : state.newest ≤ after.newest
    rises = (counted_step given state event after (counted given opening trace state h.legal) e).1.newest

same_watches : (given : Given) (state : State) (event : Event) (after : State) → is_of_watch event ≡ false → step given state event ≡ Some after
    → state.watches ≡ after.watches
same_watches given state (Opened version) after other e = cc
same_watches given state (Applied version) after other e =
    ap (λ (s : State). s.watches) (applied_is given state version (next_batch given state) after e).3
same_watches given state (FetchStart begin at) after other e = ap (λ (s : State). s.watches) (only_if _ _ after e).1
same_watches given state (Block begin upto) after other e = ap (λ (s : State). s.watches) (only_if _ _ after e).1
same_watches given state (Split begin key) after other e = ap (λ (s : State). s.watches) (only_if _ _ after e).1
same_watches given state (Began version) after other e = ap (λ (s : State). s.watches) (began_is given state version after e).2
same_watches given state (Durable version) after other e = ap (λ (s : State). s.watches) (ended_is state version state.flight after e).3
same_watches given state (Watched number key value) after other e = cc
same_watches given state (Unwatched number) after other e = cc
same_watches given state Closed after other e = let same : state ≡ after = cc in ap (λ (s : State). s.watches) same
same_watches given state Killed after other e = let same : state ≡ after = cc in ap (λ (s : State). s.watches) same

-- a watch that comes or goes makes nothing due
same_due : (given : Given) (state : State) (event : Event) (after : State) → is_of_watch event ≡ true → step given state event ≡ Some after
    → due given after ≡ due given state
same_due given state (Watched number key value) after of_watch e = sym (ap (due given) (only_if _ _ after e).1)
same_due given state (Unwatched number) after of_watch e = sym (ap (due given) (only_if _ _ after e).1)
same_due given state event after of_watch e = cc

watch_goes_on : (event : Event) → is_of_watch event ≡ true → is_end event ≡ false
watch_goes_on (Watched number key value) of_watch = refl
watch_goes_on (Unwatched number) of_watch = refl
watch_goes_on event of_watch = cc

-- ---- the events of acts

abbrev IsAct : Event → Type 0
IsAct event = (is_end event ≡ false) × (is_of_watch event ≡ false)

block_is_act : (given : Given) (plan : LifePlan) (trace : List Event) (state : State) (piece : Piece)
    → IsAct (event_of_block given plan trace state piece)
block_is_act given plan trace state piece = by piece.phase
  where
    by : (phase : Phase) → IsAct (event_of_block given plan trace state (in_phase phase piece))
    by (Fetching at upto taken in_base) =
        cond_both (nat_lt at (source_oldest plan trace state)) (Split piece.begin upto)
        (Block piece.begin (block_end piece.end (drop given.settings.block (pairs_in (record { begin = upto; end = piece.end }) (folded given.log at)))))
        IsAct (λ _. (refl, refl)) (λ _. (refl, refl))
    by (WaitPrevious since) = (refl, refl)
    by (Absent since) = (refl, refl)
    by (Waiting transferred) = (refl, refl)
    by Readable = (refl, refl)

act_is_act : (given : Given) (state : State) (fetched : Piece → Event) (action : Act) (event : Event) → ((piece : Piece) → IsAct (fetched piece))
    → event_by given state fetched action ≡ Some event → IsAct event
act_is_act given state fetched act.Apply event acts e =
    subst IsAct (some_of (λ (batch : Batch). Applied batch.version) (next_batch given state) event e).2 (refl, refl)
act_is_act given state fetched act.Start event acts e =
    subst IsAct (some_of (λ (piece : Piece). FetchStart piece.begin state.newest) (find (wants_fetch state.durable) state.pieces) event e).2 (refl, refl)
act_is_act given state fetched act.Block event acts e =
    let one = some_of fetched (find wants_block state.pieces) event e in subst IsAct one.2 (acts one.0)
act_is_act given state fetched act.Began event acts e =
    subst IsAct (only_if (commit_due given state) (Began (commit_version given state)) event e).1 (refl, refl)
act_is_act given state fetched act.Durable event acts e =
    subst IsAct (some_of (λ (flight : Opening). Durable flight.version) state.flight event e).2 (refl, refl)

-- what is due makes its event
due_makes : (given : Given) (state : State) (fetched : Piece → Event) (action : Act) → due given state ≡ Some action
    → (event : Event) × (event_by given state fetched action ≡ Some event)
due_makes given state fetched action is =
    by (is_none state.flight) (commit_due given state) (list_any wants_block state.pieces) (list_any (wants_fetch state.durable) state.pieces)
    (next_batch given state) refl refl refl refl refl is
  where
    Made : Act → Type 0
    Made action = (event : Event) × (event_by given state fetched action ≡ Some event)

    flown : (o : Option Opening) → state.flight ≡ o → is_none o ≡ false → Made act.Durable
    flown None flies e = cc
    flown (Some flight) flies e = (Durable flight.version, ap (option_map (λ (f : Opening). Durable f.version)) flies)

    by : (none_flies commits blocks starts : Bool) (batch : Option Batch) → is_none state.flight ≡ none_flies → commit_due given state ≡ commits
        → list_any wants_block state.pieces ≡ blocks → list_any (wants_fetch state.durable) state.pieces ≡ starts → next_batch given state ≡ batch
        → cond (not none_flies) (Some act.Durable) (cond commits (Some act.Began) (cond blocks (Some act.Block) (cond starts (Some act.Start) (option_map (λ b. act.Apply) batch)))) ≡ Some action
        → Made action
    by false commits blocks starts batch f c b s n e = let same : act.Durable ≡ action = cc in subst Made same (flown state.flight refl f)
    by true true blocks starts batch f c b s n e =
        let same : act.Began ≡ action = cc in
        subst Made same (Began (commit_version given state), cond-true (commit_due given state) (Some (Began (commit_version given state))) None c)
    by true false true starts batch f c b s n e =
        let same : act.Block ≡ action = cc in
        let one = some_found wants_block state.pieces b in
        subst Made same (fetched one.0, ap (option_map fetched) one.1)
    by true false false true batch f c b s n e =
        let same : act.Start ≡ action = cc in
        let one = some_found (wants_fetch state.durable) state.pieces s in
        subst Made same (FetchStart one.0.begin state.newest, ap (option_map (λ (piece : Piece). FetchStart piece.begin state.newest)) one.1)
    by true false false false None f c b s n e = cc
    by true false false false (Some batch) f c b s n e =
        let same : act.Apply ≡ action = cc in
        subst Made same (Applied batch.version, ap (option_map (λ (found : Batch). Applied found.version)) n)

-- ---- steps that lead below

none_below : (xs : List ℕ) → Below xs [] → ⊥
none_below [] below = below
none_below (x ∷ xs) below = below

-- what holds of numbers where it holds of all that lie below them
abbrev Follows : ℕ → (List ℕ → Type 0) → Type 0
Follows n P = (xs : List ℕ) → length xs ≡ n → ((ys : List ℕ) → length ys ≡ n → Below ys xs → P ys) → P xs

lower : (n head : ℕ) (P : List ℕ → Type 0) → ((y : ℕ) → y < head → (zs : List ℕ) → length zs ≡ n → P (y ∷ zs)) → (ys : List ℕ) → length ys ≡ suc n
    → (xs : List ℕ) → ((zs : List ℕ) → length zs ≡ n → Below zs xs → P (head ∷ zs)) → Below ys (head ∷ xs) → P ys
lower n head P less [] long xs shorter below = absurd below
lower n head P less (y ∷ ys) long xs shorter below =
    elim below [
      | inl less_head ↦ less y less_head ys (omega arith)
      | inr both ↦ elim (cases_eq y head) [
        | inl same ↦ subst (λ h. P (h ∷ ys)) (sym same) (shorter ys (omega arith) both.1)
        | inr apart ↦ (let low = both.0 in less y (omega arith) ys (omega arith))
      ]
    ]

by_heads : (n : ℕ) (P : List ℕ → Type 0) → Follows (suc n) P → ((Q : List ℕ → Type 0) → Follows n Q → (xs : List ℕ) → length xs ≡ n → Q xs)
    → (bound head : ℕ) → head < bound → (tail : List ℕ) → length tail ≡ n → P (head ∷ tail)
by_heads n P each by_tails zero head less tail e = absurd (omega arith)
by_heads n P each by_tails (suc bound) head less tail e =
    by_tails (λ xs. P (head ∷ xs))
    (λ xs long shorter. each (head ∷ xs) (omega arith)
    (λ ys ys_long below.
    lower n head P (λ y low zs zs_long. by_heads n P each by_tails bound y (omega arith) zs zs_long) ys ys_long xs shorter below)) tail e

by_measure : (n : ℕ) (P : List ℕ → Type 0) → Follows n P → (xs : List ℕ) → length xs ≡ n → P xs
by_measure zero P each [] e = each [] refl (λ ys _ below. absurd (none_below ys below))
by_measure zero P each (x ∷ xs) e = absurd (omega arith)
by_measure (suc n) P each [] e = absurd (omega arith)
by_measure (suc n) P each (x ∷ xs) e =
    by_heads n P each (λ Q follows ys long. by_measure n Q follows ys long) (suc x) x (omega arith) xs (omega arith)

-- ---- the lines of a schedule

abbrev cost : Do → ℕ
cost (step_of.Act action) = 1
cost step_of.Flush = 5
cost (step_of.Poll reader) = 1

abbrev lines_left : List (Do × ℕ) → ℕ
lines_left [] = 0
lines_left (line ∷ later) = suc (cost line.0 * line.1) + lines_left later

module _ {E : Type 0} (stage : Stage E) where
  abbrev EndsFrom : Progress E → Type 0
  EndsFrom p = (steps : ℕ) × (next stage (walk stage steps p) ≡ None)

  ends_later : (p after : Progress E) → next stage p ≡ Some after → EndsFrom after → EndsFrom p
  ends_later p after e ends = (suc ends.0, ap (λ o. next stage (option_map_or (walk stage ends.0) o p)) e ∙ ends.1)

  halted : (p : Progress E) (halt : Halt) → p.halt ≡ Some halt → next stage p ≡ None
  halted p halt e = rw e refl

  closes : (p : Progress E) → p.halt ≡ None → p.lines ≡ [] → next stage p ≡ close_on stage p (due stage.given p.state)
  closes p e l = rw (e, l) refl

  drops_line : (p : Progress E) (one : Do) (later : List (Do × ℕ)) → p.halt ≡ None → p.lines ≡ (one, zero) ∷ later
      → next stage p ≡ Some (record p { lines = later })
  drops_line p one later e l = rw (e, l) refl

  does_line : (p : Progress E) (one : Do) (times : ℕ) (later : List (Do × ℕ)) → p.halt ≡ None → p.lines ≡ (one, suc times) ∷ later
      → next stage p ≡ Some (on_line stage p one times later)
  does_line p one times later e l = rw (e, l) refl

  -- ---- what each step keeps

  record Inv (trace : List Event) (state : State) (sessions : List Session) : Type 0 where
    underway : IsUnderway stage.given stage.opening trace state
    patient : ArePatient stage.given.settings.patience state.watches sessions

  abbrev InvOf : Progress E → Type 0
  InvOf p = Inv p.trace p.state p.sessions

  keeps_event : (p : Progress E) (event : Event) → IsAct event → InvOf p → InvOf (with_event stage.given p event)
  keeps_event p event is_act inv = by (step stage.given p.state event) refl
    where
      by : (o : Option State) → step stage.given p.state event ≡ o → InvOf (with_event stage.given p event)
      by None none = subst InvOf (sym (with_none stage.given p event none)) inv
      by (Some after) some =
          subst InvOf (sym (with_some stage.given p event after some)) (record {
            underway = underway_step stage.given stage.opening p.trace p.state event after is_act.0 some inv.underway;
            patient = subst (λ watches. ArePatient stage.given.settings.patience watches p.sessions)
                (same_watches stage.given p.state event after is_act.1 some) inv.patient;
          })

  -- a field that no event changes
  module _ {A : Type 0} (field : Progress E → A)
      (kept : (p : Progress E) (trace : List Event) (state : State) → field (record p { trace = trace; state = state }) ≡ field p) where
    event_keeps : (p : Progress E) (event : Event) → field (with_event stage.given p event) ≡ field p
    event_keeps p event = by (step stage.given p.state event) refl
      where
        by : (o : Option State) → step stage.given p.state event ≡ o → field (with_event stage.given p event) ≡ field p
        by None none = ap field (with_none stage.given p event none)
        by (Some after) some = ap field (with_some stage.given p event after some) ∙ kept p (p.trace ++ event ∷ []) after

    events_keep : (p : Progress E) (events : List Event) → field (fold (with_event stage.given) p events) ≡ field p
    events_keep p [] = refl
    events_keep p (event ∷ events) = events_keep (with_event stage.given p event) events ∙ event_keeps p event

  -- events of watches keep a life under way, and make nothing due
  watches_keep : (p : Progress E) (events : List Event) → AllByRecursion (λ event. is_of_watch event ≡ true) events
      → IsUnderway stage.given stage.opening p.trace p.state
      → IsUnderway stage.given stage.opening (fold (with_event stage.given) p events).trace (fold (with_event stage.given) p events).state
      × (due stage.given (fold (with_event stage.given) p events).state ≡ due stage.given p.state)
  watches_keep p [] all underway = (underway, refl)
  watches_keep p (event ∷ events) all underway =
      let here = by (step stage.given p.state event) refl in
      let rest = watches_keep (with_event stage.given p event) events all.1 here.0 in
      (rest.0, rest.1 ∙ here.1)
    where
      Keeps : Progress E → Type 0
      Keeps q = IsUnderway stage.given stage.opening q.trace q.state × (due stage.given q.state ≡ due stage.given p.state)

      by : (o : Option State) → step stage.given p.state event ≡ o → Keeps (with_event stage.given p event)
      by None none = subst Keeps (sym (with_none stage.given p event none)) (underway, refl)
      by (Some after) some =
          subst Keeps (sym (with_some stage.given p event after some)) (
            underway_step stage.given stage.opening p.trace p.state event after (watch_goes_on event all.0) some underway,
            same_due stage.given p.state event after all.0 some,
          )

  module _ (p : Progress E) (reader : ℕ) (has : has_open reader p.sessions ≡ true) (inv : InvOf p) where
    abbrev polled : Progress E
    polled = record p { sessions = poll_first stage.given reader (length p.trace) p.state p.sessions }

    abbrev events : List Event
    events = events_of_poll stage.given reader p.state p.sessions

    poll_keeps : InvOf (do_poll stage p reader) × (due stage.given (do_poll stage p reader).state ≡ due stage.given p.state)
    poll_keeps =
        let kept = watches_keep polled events (poll_events stage p reader inv.patient has) inv.underway in
        (record { underway = kept.0; patient = kept_patient stage p reader inv.patient has }, kept.1)

    poll_lines : (do_poll stage p reader).lines ≡ p.lines
    poll_lines = events_keep (λ q. q.lines) (λ q trace state. refl) polled events

    poll_halt : (do_poll stage p reader).halt ≡ p.halt
    poll_halt = events_keep (λ q. q.halt) (λ q trace state. refl) polled events

    poll_fewer : polls_left stage.given.settings.patience (do_poll stage p reader).sessions < polls_left stage.given.settings.patience p.sessions
    poll_fewer =
        let same = ap (polls_left stage.given.settings.patience) (all_same_sessions stage.given polled events) in
        let fewer = fewer_left stage.given reader (length p.trace) p.state p.sessions inv.patient has in
        omega arith

  -- ---- the polls of the end

  ends_polls : (n : ℕ) (p : Progress E) → polls_left stage.given.settings.patience p.sessions < n → p.halt ≡ None → p.lines ≡ []
      → due stage.given p.state ≡ None → InvOf p → EndsFrom p
  ends_polls zero p few going no_lines rests inv = absurd (omega arith)
  ends_polls (suc n) p few going no_lines rests inv = by (ends_polls n) (find (λ reader. has_open reader p.sessions) readers_at_end) refl
    where
      by : ((q : Progress E) → polls_left stage.given.settings.patience q.sessions < n → q.halt ≡ None → q.lines ≡ []
          → due stage.given q.state ≡ None → InvOf q → EndsFrom q)
          → (o : Option ℕ) → find (λ reader. has_open reader p.sessions) readers_at_end ≡ o → EndsFrom p
      by later None none = (0, closes p going no_lines ∙ ap (close_on stage p) rests ∙ ap (option_map (do_poll stage p)) none)
      by later (Some reader) some =
          let has = found_passes (λ r. has_open r p.sessions) readers_at_end reader some in
          ends_later p (do_poll stage p reader)
          (closes p going no_lines ∙ ap (close_on stage p) rests ∙ ap (option_map (do_poll stage p)) some)
          (later (do_poll stage p reader) (let fewer = poll_fewer p reader has inv in omega arith)
          (poll_halt p reader has inv ∙ going) (poll_lines p reader has inv ∙ no_lines)
          ((poll_keeps p reader has inv).1 ∙ rests) (poll_keeps p reader has inv).0)

  -- ---- acts

  act_of : (p : Progress E) (action : Act) (event : Event) → event_of stage p action ≡ Some event → IsAct event
  act_of p action event e =
      act_is_act stage.given p.state (event_of_block stage.given stage.plan p.trace p.state) action event
      (block_is_act stage.given stage.plan p.trace p.state) e

  -- where a step leads: what is left of the lines stays, and what is kept
  abbrev Leads : Progress E → Progress E → Type 0
  Leads p after = (after.lines ≡ p.lines) × (InvOf p → InvOf after)

  event_leads : (p : Progress E) (event : Event) → IsAct event → Leads p (with_event stage.given p event)
  event_leads p event is_act = (event_keeps (λ q. q.lines) (λ q trace state. refl) p event, keeps_event p event is_act)

  commit_leads : (p : Progress E) (event : Event) → IsAct event → (commit : Commit E) → Leads p (finish_commit stage p event commit)
  commit_leads p event is_act (made calls engine) =
      cond_both (lets_through stage.plan (p.calls + calls)) (with_event stage.given (record p { engine = engine; calls = p.calls + calls }) event)
      (record p { halt = Some blown }) (Leads p)
      (λ _. event_leads (record p { engine = engine; calls = p.calls + calls }) event is_act) (λ _. (refl, λ inv. inv))
  commit_leads p event is_act (full calls long limit) =
      cond_both (lets_through stage.plan (p.calls + calls)) (record p { calls = p.calls + calls; halt = Some (past_limit long limit) })
      (record p { halt = Some blown }) (Leads p) (λ _. (refl, λ inv. inv)) (λ _. (refl, λ inv. inv))

  make_leads : (p : Progress E) (action : Act) (event : Event) → IsAct event → Leads p (make stage p action event)
  make_leads p act.Apply event is_act = event_leads p event is_act
  make_leads p act.Start event is_act = event_leads p event is_act
  make_leads p act.Block event is_act =
      cond_both (source_fails stage.plan p.trace) (record p { halt = Some no_block }) (with_event stage.given p event) (Leads p)
      (λ _. (refl, λ inv. inv)) (λ _. event_leads p event is_act)
  make_leads p act.Began event is_act = event_leads p event is_act
  make_leads p act.Durable event is_act = commit_leads p event is_act (stage.commit p.engine p.trace)

  act_leads : (p : Progress E) (action : Act) → Leads p (do_act stage p action)
  act_leads p action = by (event_of stage p action) refl
    where
      by : (o : Option Event) → event_of stage p action ≡ o → Leads p (option_map_or (make stage p action) o p)
      by None none = (refl, λ inv. inv)
      by (Some event) some = make_leads p action event (act_of p action event some)

  -- ---- the closing

  module _ (rows : 1 ≤ stage.given.settings.block) where
    abbrev Closes : List ℕ → Type 0
    Closes xs = (p : Progress E) → p.halt ≡ None → p.lines ≡ [] → InvOf p → measure stage.given p.state ≡ xs → EndsFrom p

    module _ (xs : List ℕ) (shorter : (ys : List ℕ) → length ys ≡ 5 → Below ys xs → Closes ys) where
      -- an act's event may come, and leaves less to do
      event_ends : (p : Progress E) (action : Act) (event : Event) → event_of stage p action ≡ Some event → p.halt ≡ None → p.lines ≡ []
          → InvOf p → measure stage.given p.state ≡ xs → EndsFrom (with_event stage.given p event)
      event_ends p action event e going no_lines inv is = by (step stage.given p.state event) refl may
        where
          on : (piece : Piece) → wants_block piece ≡ true
              → FetchesOn stage.given p.state.newest piece (event_of_block stage.given stage.plan p.trace p.state piece)
          on = fetches stage.given stage.plan p.trace p.state rows inv.underway.below

          parted : IsPartition p.state.pieces
          parted = (stands stage.given stage.opening p.trace p.state inv.underway.legal).parted

          may : IsSome (step stage.given p.state event)
          may = allowed stage.given p.state (event_of_block stage.given stage.plan p.trace p.state) action event parted
              (λ piece wants. is_fetch stage.given p.state.newest piece (event_of_block stage.given stage.plan p.trace p.state piece) (on piece wants)) e

          by : (o : Option State) → step stage.given p.state event ≡ o → IsSome o → EndsFrom (with_event stage.given p event)
          by None none some = cc
          by (Some after) steps some =
              subst EndsFrom (sym (with_some stage.given p event after steps))
              (shorter (measure stage.given after) refl
              (subst (Below (measure stage.given after)) is
              (leaves_less stage.given p.state (event_of_block stage.given stage.plan p.trace p.state) action event after parted on e steps))
              (record p { trace = p.trace ++ event ∷ []; state = after }) going no_lines
              (subst InvOf (with_some stage.given p event after steps) (keeps_event p event (act_of p action event e) inv)) refl)

      commit_ends : (p : Progress E) (event : Event) → event_of stage p act.Durable ≡ Some event → p.halt ≡ None → p.lines ≡ []
          → InvOf p → measure stage.given p.state ≡ xs → (commit : Commit E) → EndsFrom (finish_commit stage p event commit)
      commit_ends p event e going no_lines inv is (made calls engine) =
          cond_both (lets_through stage.plan (p.calls + calls)) (with_event stage.given (record p { engine = engine; calls = p.calls + calls }) event)
          (record p { halt = Some blown }) EndsFrom
          (λ _. event_ends (record p { engine = engine; calls = p.calls + calls }) act.Durable event e going no_lines inv is)
          (λ _. (0, halted (record p { halt = Some blown }) blown refl))
      commit_ends p event e going no_lines inv is (full calls long limit) =
          cond_both (lets_through stage.plan (p.calls + calls)) (record p { calls = p.calls + calls; halt = Some (past_limit long limit) })
          (record p { halt = Some blown }) EndsFrom
          (λ _. (0, halted (record p { calls = p.calls + calls; halt = Some (past_limit long limit) }) (past_limit long limit) refl))
          (λ _. (0, halted (record p { halt = Some blown }) blown refl))

      make_ends : (p : Progress E) (action : Act) (event : Event) → event_of stage p action ≡ Some event → p.halt ≡ None → p.lines ≡ []
          → InvOf p → measure stage.given p.state ≡ xs → EndsFrom (make stage p action event)
      make_ends p act.Apply event e going no_lines inv is = event_ends p act.Apply event e going no_lines inv is
      make_ends p act.Start event e going no_lines inv is = event_ends p act.Start event e going no_lines inv is
      make_ends p act.Block event e going no_lines inv is =
          cond_both (source_fails stage.plan p.trace) (record p { halt = Some no_block }) (with_event stage.given p event) EndsFrom
          (λ _. (0, halted (record p { halt = Some no_block }) no_block refl))
          (λ _. event_ends p act.Block event e going no_lines inv is)
      make_ends p act.Began event e going no_lines inv is = event_ends p act.Began event e going no_lines inv is
      make_ends p act.Durable event e going no_lines inv is = commit_ends p event e going no_lines inv is (stage.commit p.engine p.trace)

      closes_here : Closes xs
      closes_here p going no_lines inv is = by (due stage.given p.state) refl
        where
          by : (o : Option Act) → due stage.given p.state ≡ o → EndsFrom p
          by None rests = ends_polls (suc (polls_left stage.given.settings.patience p.sessions)) p (omega arith) going no_lines rests inv
          by (Some action) is_due =
              let makes = due_makes stage.given p.state (event_of_block stage.given stage.plan p.trace p.state) action is_due in
              ends_later p (do_act stage p action) (closes p going no_lines ∙ ap (close_on stage p) is_due)
              (subst (λ o. EndsFrom (option_map_or (make stage p action) o p)) (sym makes.1)
              (make_ends p action makes.0 makes.1 going no_lines inv is))

    ends_closing : (p : Progress E) → p.halt ≡ None → p.lines ≡ [] → InvOf p → EndsFrom p
    ends_closing p going no_lines inv =
        by_measure 5 Closes (λ xs _ shorter. closes_here xs shorter) (measure stage.given p.state) refl p going no_lines inv refl

    -- ---- the schedule as it is written

    line_leads : (p : Progress E) (one : Do) (times : ℕ) (later : List (Do × ℕ)) → InvOf p
        → (lines_left (on_line stage p one times later).lines < lines_left ((one, suc times) ∷ later)) × InvOf (on_line stage p one times later)
    line_leads p (step_of.Act action) times later inv =
        cond_both (may_do stage p action) (do_act stage (record p { lines = (step_of.Act action, times) ∷ later }) action) (record p { lines = later })
        (λ q. (lines_left q.lines < lines_left ((step_of.Act action, suc times) ∷ later)) × InvOf q)
        (λ _.
        let leads = act_leads (record p { lines = (step_of.Act action, times) ∷ later }) action in
        ((let same = ap lines_left leads.0 in omega arith), leads.1 inv))
        (λ _. (omega arith, inv))
    line_leads p step_of.Flush times later inv =
        cond_both (may_do stage p act.Began || may_do stage p act.Durable)
        (record p { lines = (step_of.Act act.Began, 1) ∷ (step_of.Act act.Durable, 1) ∷ (step_of.Flush, times) ∷ later }) (record p { lines = later })
        (λ q. (lines_left q.lines < lines_left ((step_of.Flush, suc times) ∷ later)) × InvOf q)
        (λ _. (omega arith, inv)) (λ _. (omega arith, inv))
    line_leads p (step_of.Poll reader) times later inv =
        cond_both (has_open reader p.sessions) (do_poll stage (record p { lines = (step_of.Poll reader, times) ∷ later }) reader) (record p { lines = later })
        (λ q. (lines_left q.lines < lines_left ((step_of.Poll reader, suc times) ∷ later)) × InvOf q)
        (λ has. (
          (let same = ap lines_left (poll_lines (record p { lines = (step_of.Poll reader, times) ∷ later }) reader has inv) in omega arith),
          (poll_keeps (record p { lines = (step_of.Poll reader, times) ∷ later }) reader has inv).0,
        ))
        (λ _. (omega arith, inv))

    ends_lines : (n : ℕ) (p : Progress E) → lines_left p.lines < n → InvOf p → EndsFrom p
    ends_lines zero p few inv = absurd (omega arith)
    ends_lines (suc n) p few inv = by (ends_lines n) p.halt refl
      where
        Fewer : Type 0
        Fewer = (q : Progress E) → lines_left q.lines < n → InvOf q → EndsFrom q

        by_lines : Fewer → (lines : List (Do × ℕ)) → p.halt ≡ None → p.lines ≡ lines → EndsFrom p
        by_lines fewer [] going no_lines = ends_closing p going no_lines inv
        by_lines fewer ((one, zero) ∷ later) going has_lines =
            ends_later p (record p { lines = later }) (drops_line p one later going has_lines)
            (fewer (record p { lines = later }) (let same = ap lines_left has_lines in omega arith) inv)
        by_lines fewer ((one, suc times) ∷ later) going has_lines =
            let leads = line_leads p one times later inv in
            ends_later p (on_line stage p one times later) (does_line p one times later going has_lines)
            (fewer (on_line stage p one times later) (let same = ap lines_left has_lines in let less = leads.0 in omega arith) leads.1)

        by : Fewer → (halt : Option Halt) → p.halt ≡ halt → EndsFrom p
        by fewer (Some halt) is = (0, halted p halt is)
        by fewer None going = by_lines fewer p.lines going refl

  -- ---- the beginning

  first_sessions : (patience : ℕ) → 1 ≤ patience → (requests : List Request) → AllByRecursion (IsPatient patience []) (map unpolled requests)
  first_sessions patience least [] = tt
  first_sessions patience least (request ∷ requests) =
      (record { fewer = λ _. least; stands = λ _ _ polls. absurd (omega arith) }, first_sessions patience least requests)

  first_requests : (requests : List Request) → map (λ (session : Session). session.request) (map unpolled requests) ≡ requests
  first_requests [] = refl
  first_requests (request ∷ requests) = ap (λ later. request ∷ later) (first_requests requests)

  pub comes_to_an_end : 1 ≤ stage.given.settings.patience → 1 ≤ stage.given.settings.block → AreNumbered (requests_of stage.plan)
      → EndsFrom (begin stage)
  comes_to_an_end patience rows numbered =
      ends_lines rows (suc (lines_left stage.plan.dos)) (begin stage) (omega arith) (record {
        underway = record {
          legal = cond-true (stage.opening.version == stage.opening.version) (Some (first_state stage.given stage.opening)) None
              (eq-eqb stage.opening.version stage.opening.version refl);
          going_on = refl;
          newest = refl;
          below = tt;
        };
        patient = record {
          each = first_sessions stage.given.settings.patience patience (requests_of stage.plan);
          apart = subst AreNumbered (sym (first_requests (requests_of stage.plan))) numbered;
        };
      })

  pub makes_a_life : 1 ≤ stage.given.settings.patience → 1 ≤ stage.given.settings.block → AreNumbered (requests_of stage.plan)
      → (life : Life) × Plays stage life
  makes_a_life patience rows numbered = (life_of stage last (ending_by stage.plan last.halt), (last, (ends.0, refl), ends.1, refl))
    where
      ends : (steps : ℕ) × (next stage (walk stage steps (begin stage)) ≡ None)
      ends = comes_to_an_end patience rows numbered

      last : Progress E
      last = walk stage ends.0 (begin stage)
