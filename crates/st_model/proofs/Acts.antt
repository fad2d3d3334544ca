-- The events that acts make, and the watches that stand.
use Rattle.std.proofs.Common.{◌≡◌, ℕ, ◌≤◌, Bool, true, false, not, ◌&&◌, ◌||◌, ◌==◌, nat_lt, cond, List, [], ◌∷◌, ◌++◌, filter, length, bytes_eq, Option, Some, None, is_some, IsSome, refl, sym, ap, subst, ◌∙◌, arith, le_refl, le_trans, le_of_lt, length-append}
use Rattle.std.proofs.lemmas.Bool.{cond_both, cond-true, cond-false, and_parts, and_from, and_left, or_parts, or_from, not-true, true≢false, eq-eqb, eqb-false, ne_eqb, ltb-true, false_from_ne_true}
use Rattle.std.proofs.lemmas.List.Folds.{list_any-append}
use Rattle.std.proofs.lemmas.Slice.Eq.{bytes_eq-Decides}
use Rattle.std.specs.List.{AllByRecursion, find}
use Rattle.std.specs.Option.{option_map, option_map_or}
use Rattle.st_key.specs.KeyOrder.{less_irrefl, less_le_trans}
use Rattle.st_key.specs.Spans.{key_less}
use Rattle.st_fold.specs.declared.plan.Act.{Act}
use Rattle.st_fold.specs.declared.plan.Act.TheVariants as act
use Rattle.st_fold.specs.declared.report.Event.{Event}
use Rattle.st_fold.specs.declared.report.Event.TheVariants.{Opened, Applied, FetchStart, Block, Split, Began, Durable, Watched, Unwatched, Closed, Killed}
use Rattle.st_model.specs.declared.piece.Piece.{Piece}
use Rattle.st_model.specs.declared.piece.Phase.{Phase}
use Rattle.st_model.specs.declared.piece.Phase.TheVariants.{Absent, WaitPrevious, Fetching, Waiting, Readable}
use Rattle.st_model.specs.Facts.{AreApart, AreWatched}
use Rattle.st_model.specs.Partition.{IsPartition}
use Rattle.st_model.specs.Pieces.{begins, in_phase, serves, stops_at, takes_block, wants_block, wants_fetch}
use Rattle.st_model.specs.State.{Given, Opening, State, Watch, after_batch, apply_next, commit_due, commit_version, end_commit, ended, first_state, is_registered, next_batch, step}
use Rattle.st_model.specs.Trace.{event_by, IsFetchOf, makes, state_after}
use Rattle.st_model.proofs.Counts.{applied_is, began_is, by_trace, ended_is, next_is_above, only_if}
use Rattle.st_model.proofs.Cuts.{Follow, begin_above, same_key}
use Rattle.st_model.proofs.Lists.{found_has, found_passes, all_append, all_map}

-- ---- the first piece that passes a test

-- it is the one that begins where it begins
pub found_begins : (test other : Piece → Bool) (a b : List ℕ) (ps : List Piece) (p : Piece) → Follow a b ps → find test ps ≡ Some p → other p ≡ true
    → begins other p.begin ps ≡ true
found_begins test other a b [] p follow e passes = cc
found_begins test other a b (q ∷ ps) p follow e passes =
    elim (test q) as (λ v. cond v (Some q) (find test ps) ≡ Some p → begins other p.begin (q ∷ ps) ≡ true) [
      | true ↦ λ first.
          let same : q ≡ p = cc in
          subst (λ r. begins other r.begin (q ∷ ps) ≡ true) same
          (ap (λ o. option_map_or other o false)
          (cond-true (bytes_eq q.begin q.begin) (Some q) (find (λ piece. bytes_eq piece.begin q.begin) ps) ((bytes_eq-Decides q.begin q.begin).1 refl))
          ∙ ap other same ∙ passes)
      | false ↦ λ later.
          let above = found_has test (λ r. key_less r.begin q.end ≡ false) ps p later (begin_above q.end b q.end ps follow.2 (less_irrefl q.end)) in
          ap (λ o. option_map_or other o false)
          (cond-false (bytes_eq q.begin p.begin) (Some q) (find (λ piece. bytes_eq piece.begin p.begin) ps)
          (false_from_ne_true (bytes_eq q.begin p.begin) (λ same.
          true≢false (sym follow.1 ∙ ap (λ key. key_less key q.end) (same_key q.begin p.begin same) ∙ above))))
          ∙ found_begins test other q.end b ps p follow.2 later passes
    ]
    e

-- where no piece passes the test, none that begins at a key passes one that is narrower
none_begins : (test other : Piece → Bool) → ((p : Piece) → other p ≡ true → test p ≡ true) → (begin : List ℕ) (ps : List Piece)
    → find test ps ≡ None → begins other begin ps ≡ false
none_begins test other narrower begin [] e = refl
none_begins test other narrower begin (q ∷ ps) e =
    elim (test q) as (λ v. test q ≡ v → cond v (Some q) (find test ps) ≡ None → begins other begin (q ∷ ps) ≡ false) [
      | true ↦ λ _ first. cc
      | false ↦ λ fails later.
          cond_both (bytes_eq q.begin begin) (Some q) (find (λ piece. bytes_eq piece.begin begin) ps)
          (λ o. option_map_or other o false ≡ false)
          (λ _. false_from_ne_true (other q) (λ passes. true≢false (sym (narrower q passes) ∙ fails)))
          (λ _. none_begins test other narrower begin ps later)
    ]
    refl e

-- ---- what an act makes may come

pub some_of : {A B : Type 0} (f : A → B) (o : Option A) (y : B) → option_map f o ≡ Some y → (x : A) × (o ≡ Some x) × (f x ≡ y)
some_of f None y e = cc
some_of f (Some x) y e = let same : f x ≡ y = cc in (x, refl, same)

pub none_of : {A B : Type 0} (f : A → B) (o : Option A) → option_map f o ≡ None → o ≡ None
none_of f None e = refl
none_of f (Some x) e = cc

may_be : {A : Type 0} (test : Bool) (x : A) → test ≡ true → IsSome (cond test (Some x) None)
may_be test x e = ap is_some (cond-true test (Some x) None e)

pub made : (given : Given) (state : State) (fetched : Piece → Event) (action : Act) (event : Event) → IsPartition state.pieces
    → ((piece : Piece) → wants_block piece ≡ true → IsFetchOf piece (fetched piece))
    → event_by given state fetched action ≡ Some event → IsSome (step given state event)
made given state fetched act.Apply event parted fetches e =
    let one = some_of (λ batch. Applied batch.version) (next_batch given state) event e in
    subst (λ made. IsSome (step given state made)) one.2
    (ap (λ found. is_some (apply_next state one.0.version found)) one.1
    ∙ may_be (one.0.version == one.0.version) (after_batch state one.0) (eq-eqb one.0.version one.0.version refl))
made given state fetched act.Start event parted fetches e =
    let one = some_of (λ piece. FetchStart piece.begin state.newest) (find (wants_fetch state.durable) state.pieces) event e in
    subst (λ made. IsSome (step given state made)) one.2
    (may_be _ _ (and_from (begins (wants_fetch state.durable) one.0.begin state.pieces) (state.newest == state.newest)
    (found_begins (wants_fetch state.durable) (wants_fetch state.durable) [] (255 ∷ []) state.pieces one.0 parted one.1
    (found_passes (wants_fetch state.durable) state.pieces one.0 one.1))
    (eq-eqb state.newest state.newest refl)))
made given state fetched act.Block event parted fetches e =
    let one = some_of fetched (find wants_block state.pieces) event e in
    of_piece one.0 event one.1
    (subst (IsFetchOf one.0) one.2 (fetches one.0 (found_passes wants_block state.pieces one.0 one.1)))
  where
    of_piece : (p : Piece) (event : Event) → find wants_block state.pieces ≡ Some p → IsFetchOf p event → IsSome (step given state event)
    of_piece p (Block begin upto) found h =
        may_be _ _ (subst (λ b. begins (takes_block upto) b state.pieces ≡ true) (sym h.0)
        (found_begins wants_block (takes_block upto) [] (255 ∷ []) state.pieces p parted found h.1))
    of_piece p (Split begin key) found h =
        may_be _ _ (subst (λ b. begins (stops_at key) b state.pieces ≡ true) (sym h.0)
        (found_begins wants_block (stops_at key) [] (255 ∷ []) state.pieces p parted found h.1))
    of_piece p (Opened version) found h = absurd h
    of_piece p (Applied version) found h = absurd h
    of_piece p (FetchStart begin at) found h = absurd h
    of_piece p (Began version) found h = absurd h
    of_piece p (Durable version) found h = absurd h
    of_piece p (Watched number key value) found h = absurd h
    of_piece p (Unwatched number) found h = absurd h
    of_piece p Closed found h = absurd h
    of_piece p Killed found h = absurd h
made given state fetched act.Began event parted fetches e =
    let one = only_if (commit_due given state) (Began (commit_version given state)) event e in
    subst (λ made. IsSome (step given state made)) one.1
    (may_be _ _ (and_from (commit_due given state) (commit_version given state == commit_version given state) one.0
    (eq-eqb (commit_version given state) (commit_version given state) refl)))
made given state fetched act.Durable event parted fetches e =
    let one = some_of (λ flight. Durable flight.version) state.flight event e in
    subst (λ made. IsSome (step given state made)) one.2
    (ap (λ found. is_some (end_commit state one.0.version found)) one.1
    ∙ may_be (one.0.version == one.0.version) (ended state one.0) (eq-eqb one.0.version one.0.version refl))

-- ---- and where it makes nothing, none of its events may

block_narrower : (upto : List ℕ) (p : Piece) → takes_block upto p ≡ true → wants_block p ≡ true
block_narrower upto p e = narrower p.phase refl
  where
    narrower : (phase : Phase) → p.phase ≡ phase → wants_block p ≡ true
    narrower (Fetching at from taken in_base) is =
        let tests = and_parts (key_less from upto) (not (key_less p.end upto)) (sym (ap (λ f. takes_block upto (in_phase f p)) is) ∙ e) in
        ap (λ f. wants_block (in_phase f p)) is ∙ less_le_trans from upto p.end tests.0 (not-true (key_less p.end upto) tests.1)
    narrower (Absent since) is = absurd (true≢false (sym e ∙ ap (λ f. takes_block upto (in_phase f p)) is))
    narrower (WaitPrevious since) is = absurd (true≢false (sym e ∙ ap (λ f. takes_block upto (in_phase f p)) is))
    narrower (Waiting transferred) is = absurd (true≢false (sym e ∙ ap (λ f. takes_block upto (in_phase f p)) is))
    narrower Readable is = absurd (true≢false (sym e ∙ ap (λ f. takes_block upto (in_phase f p)) is))

split_narrower : (key : List ℕ) (p : Piece) → stops_at key p ≡ true → wants_block p ≡ true
split_narrower key p e = narrower p.phase refl
  where
    narrower : (phase : Phase) → p.phase ≡ phase → wants_block p ≡ true
    narrower (Fetching at from taken in_base) is =
        let tests = and_parts (bytes_eq from key) (key_less from p.end) (sym (ap (λ f. stops_at key (in_phase f p)) is) ∙ e) in
        ap (λ f. wants_block (in_phase f p)) is ∙ tests.1
    narrower (Absent since) is = absurd (true≢false (sym e ∙ ap (λ f. stops_at key (in_phase f p)) is))
    narrower (WaitPrevious since) is = absurd (true≢false (sym e ∙ ap (λ f. stops_at key (in_phase f p)) is))
    narrower (Waiting transferred) is = absurd (true≢false (sym e ∙ ap (λ f. stops_at key (in_phase f p)) is))
    narrower Readable is = absurd (true≢false (sym e ∙ ap (λ f. stops_at key (in_phase f p)) is))

pub not_made : (given : Given) (state : State) (fetched : Piece → Event) (action : Act) (event : Event)
    → event_by given state fetched action ≡ None → makes action event ≡ true → step given state event ≡ None
not_made given state fetched act.Apply (Applied version) e kind =
    ap (apply_next state version) (none_of (λ batch. Applied batch.version) (next_batch given state) e)
not_made given state fetched act.Start (FetchStart begin at) e kind =
    cond-false _ _ None (and_left (begins (wants_fetch state.durable) begin state.pieces) (at == state.newest)
    (none_begins (wants_fetch state.durable) (wants_fetch state.durable) (λ p h. h) begin state.pieces
    (none_of (λ piece. FetchStart piece.begin state.newest) (find (wants_fetch state.durable) state.pieces) e)))
not_made given state fetched act.Block (Block begin upto) e kind =
    cond-false _ _ None (none_begins wants_block (takes_block upto) (block_narrower upto) begin state.pieces
    (none_of fetched (find wants_block state.pieces) e))
not_made given state fetched act.Block (Split begin key) e kind =
    cond-false _ _ None (none_begins wants_block (stops_at key) (split_narrower key) begin state.pieces
    (none_of fetched (find wants_block state.pieces) e))
not_made given state fetched act.Began (Began version) e kind =
    cond-false _ _ None (and_left (commit_due given state) (version == commit_version given state) (no_begin (commit_due given state) e))
  where
    no_begin : (due : Bool) → cond due (Some (Began (commit_version given state))) None ≡ None → due ≡ false
    no_begin true e = cc
    no_begin false e = refl
not_made given state fetched act.Durable (Durable version) e kind =
    ap (end_commit state version) (none_of (λ flight. Durable flight.version) state.flight e)
not_made given state fetched action event e kind = cc

-- ---- the watches that stand

apart_with : (watches : List Watch) (watch : Watch) → AreApart watches → is_registered watch.number watches ≡ false → AreApart (watches ++ watch ∷ [])
apart_with [] watch apart new = (refl, tt)
apart_with (first ∷ watches) watch apart new =
    let parts = or_parts (first.number == watch.number) (is_registered watch.number watches) new in (
      list_any-append (λ w. w.number == first.number) watches (watch ∷ [])
          ∙ or_from (is_registered first.number watches) ((watch.number == first.number) || false) apart.0
          (or_from (watch.number == first.number) false
          (ne_eqb watch.number first.number (λ same. eqb-false first.number watch.number parts.0 (sym same))) refl),
      apart_with watches watch apart.1 parts.1,
    )

unregistered_still : (number other : ℕ) (watches : List Watch) → is_registered other watches ≡ false
    → is_registered other (filter (λ watch. not (watch.number == number)) watches) ≡ false
unregistered_still number other [] none = refl
unregistered_still number other (watch ∷ watches) none =
    let parts = or_parts (watch.number == other) (is_registered other watches) none in
    cond_both (not (watch.number == number)) (watch ∷ filter (λ w. not (w.number == number)) watches) (filter (λ w. not (w.number == number)) watches)
    (λ ws. is_registered other ws ≡ false)
    (λ _. or_from (watch.number == other) (is_registered other (filter (λ w. not (w.number == number)) watches)) parts.0
    (unregistered_still number other watches parts.1))
    (λ _. unregistered_still number other watches parts.1)

apart_without : (number : ℕ) (watches : List Watch) → AreApart watches → AreApart (filter (λ watch. not (watch.number == number)) watches)
apart_without number [] apart = tt
apart_without number (watch ∷ watches) apart =
    cond_both (not (watch.number == number)) (watch ∷ filter (λ w. not (w.number == number)) watches) (filter (λ w. not (w.number == number)) watches)
    AreApart
    (λ _. (unregistered_still number watch.number watches apart.0, apart_without number watches apart.1))
    (λ _. apart_without number watches apart.1)

pub all_kept_of : {A : Type 0} (P : A → Type 0) (test : A → Bool) (xs : List A) → AllByRecursion P xs → AllByRecursion P (filter test xs)
all_kept_of P test [] all = tt
all_kept_of P test (x ∷ xs) all =
    cond_both (test x) (x ∷ filter test xs) (filter test xs) (AllByRecursion P)
    (λ _. (all.0, all_kept_of P test xs all.1)) (λ _. all_kept_of P test xs all.1)

fewer : {A : Type 0} (test : A → Bool) (xs : List A) → length (filter test xs) ≤ length xs
fewer test [] = le_refl 0
fewer test (x ∷ xs) =
    cond_both (test x) (x ∷ filter test xs) (filter test xs) (λ ys. length ys ≤ length (x ∷ xs))
    (λ _. omega (arith, fewer test xs)) (λ _. omega (arith, fewer test xs))

watched_first : (given : Given) (opening : Opening) → AreWatched given (first_state given opening)
watched_first given opening = record { room = omega arith; have_come = tt; apart = tt }

watched_step : (given : Given) (state : State) (event : Event) (next : State) → AreWatched given state → step given state event ≡ Some next
    → AreWatched given next
watched_step given state (Opened version) next h e = cc
watched_step given state (Applied version) next h e =
    let is = applied_is given state version (next_batch given state) next e in
    let above = next_is_above given state is.0 is.1 in
    subst (AreWatched given) is.3 (record {
      room = h.room;
      have_come = all_map (λ (watch : Watch). watch.since ≤ state.newest) (λ watch. watch.since ≤ is.0.version)
          (λ watch come. le_trans come (le_of_lt above)) state.watches h.have_come;
      apart = h.apart;
    })
watched_step given state (FetchStart begin at) next h e =
    subst (AreWatched given) (only_if _ _ next e).1 (record { room = h.room; have_come = h.have_come; apart = h.apart })
watched_step given state (Block begin upto) next h e =
    subst (AreWatched given) (only_if _ _ next e).1 (record { room = h.room; have_come = h.have_come; apart = h.apart })
watched_step given state (Split begin key) next h e =
    subst (AreWatched given) (only_if _ _ next e).1 (record { room = h.room; have_come = h.have_come; apart = h.apart })
watched_step given state (Began version) next h e =
    subst (AreWatched given) (began_is given state version next e).2 (record { room = h.room; have_come = h.have_come; apart = h.apart })
watched_step given state (Durable version) next h e =
    subst (AreWatched given) (ended_is state version state.flight next e).3 (record { room = h.room; have_come = h.have_come; apart = h.apart })
watched_step given state (Watched number key value) next h e =
    let is = only_if _ _ next e in
    let tests = and_parts (serves state.pieces key && nat_lt (length state.watches) given.settings.watches) (not (is_registered number state.watches)) is.0 in
    let served = and_parts (serves state.pieces key) (nat_lt (length state.watches) given.settings.watches) tests.0 in
    let watch : Watch = record { number = number; key = key; value = value; since = state.newest } in
    subst (AreWatched given) is.1 (record {
      room = omega (arith, ltb-true (length state.watches) given.settings.watches served.1, length-append state.watches (watch ∷ []));
      have_come = all_append (λ (watch : Watch). watch.since ≤ state.newest) state.watches (watch ∷ []) h.have_come (le_refl state.newest, tt);
      apart = apart_with state.watches watch h.apart (not-true (is_registered number state.watches) tests.1);
    })
watched_step given state (Unwatched number) next h e =
    subst (AreWatched given) (only_if _ _ next e).1 (record {
      room = le_trans (fewer (λ watch. not (watch.number == number)) state.watches) h.room;
      have_come = all_kept_of (λ (watch : Watch). watch.since ≤ state.newest) (λ watch. not (watch.number == number)) state.watches h.have_come;
      apart = apart_without number state.watches h.apart;
    })
watched_step given state Closed next h e = let same : state ≡ next = cc in subst (AreWatched given) same h
watched_step given state Killed next h e = let same : state ≡ next = cc in subst (AreWatched given) same h

pub watched : (given : Given) (opening : Opening) (trace : List Event) (state : State) → state_after given opening trace ≡ Some state → AreWatched given state
watched given opening trace state legal =
    by_trace given opening (AreWatched given) (watched_first given opening) (watched_step given) trace state legal
