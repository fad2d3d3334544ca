-- The keys that are assigned and those that are available stay in canonical form.
use Rattle.std.proofs.Common.{◌≡◌, ℕ, Bool, true, nat_lt, nat_le, List, [], ◌∷◌, map, filter, fold, Option, Some, None, IfSome, ⊎_elim, refl, ap, subst, ◌∙◌}
use Rattle.std.proofs.lemmas.Bool.{cond_both}
use Rattle.std.specs.List.{AllByRecursion, flat_map}
use Rattle.st_key.specs.Forms.{canonical-with_span, canonical-without_span}
use Rattle.st_key.specs.Parts.{with_span, without_span}
use Rattle.st_key.specs.Spans.{Span, key_less, is_canonical}
use Rattle.st_mutation.specs.declared.batch.Batch.{Batch}
use Rattle.st_mutation.specs.declared.batch.Move.{Move}
use Rattle.st_mutation.specs.declared.batch.Move.TheVariants.{Assign, Release}
use Rattle.st_fold.specs.declared.report.Event.{Event}
use Rattle.st_fold.specs.declared.report.Event.TheVariants.{Opened, Applied, FetchStart, Block, Split, Began, Durable, Watched, Unwatched, Closed, Killed}
use Rattle.st_fold.specs.Map.{batches_to}
use Rattle.st_model.specs.declared.piece.Piece.{Piece}
use Rattle.st_model.specs.Facts.{AreRanges, IsCanonical, IsCounted, span_moved}
use Rattle.st_model.specs.Partition.{IsPartition, Tiles}
use Rattle.st_model.specs.Pieces.{span_of, waits_to}
use Rattle.st_model.specs.Report.{MayOpen}
use Rattle.st_model.specs.State.{Given, Opening, State, assigned, available_at, move_span, next_batch, released, released_in, released_between, step}
use Rattle.st_model.specs.Trace.{state_after}
use Rattle.st_model.proofs.Counts.{only_if, applied_is, began_is, ended_is, by_trace, counted_first, counted_step}
use Rattle.st_model.proofs.Lists.{all_append}
use Rattle.st_model.proofs.Openings.{stands_first}
use Rattle.st_model.proofs.Placing.{Stands, stands_step}

-- the span has a key
abbrev Filled : Span → Type 0
Filled span = key_less span.begin span.end ≡ true

-- ---- spans that are put in and taken out

all_put_in : (spans more : List Span) → is_canonical spans ≡ true → AllByRecursion Filled more → is_canonical (fold with_span spans more) ≡ true
all_put_in spans [] form filled = form
all_put_in spans (span ∷ more) form filled = all_put_in (with_span spans span) more (canonical-with_span spans span form filled.0) filled.1

all_taken_out : (spans less : List Span) → is_canonical spans ≡ true → AllByRecursion Filled less → is_canonical (fold without_span spans less) ≡ true
all_taken_out spans [] form filled = form
all_taken_out spans (span ∷ less) form filled = all_taken_out (without_span spans span) less (canonical-without_span spans span form filled.0) filled.1

-- ---- what is assigned

all_moved : (spans : List Span) (moves : List Move) → is_canonical spans ≡ true → AllByRecursion Filled (map span_moved moves)
    → is_canonical (fold move_span spans moves) ≡ true
all_moved spans [] form filled = form
all_moved spans (Assign span ∷ moves) form filled = all_moved (with_span spans span) moves (canonical-with_span spans span form filled.0) filled.1
all_moved spans (Release span ∷ moves) form filled = all_moved (without_span spans span) moves (canonical-without_span spans span form filled.0) filled.1

-- every range that the batches move has a key
abbrev AreFilled : List Batch → Type 0
AreFilled log = AllByRecursion (λ batch. AllByRecursion Filled (map span_moved batch.moves)) log

all_applied : (log : List Batch) (version : ℕ) (spans : List Span) → AreFilled log → is_canonical spans ≡ true
    → is_canonical (fold (λ spans batch. fold move_span spans batch.moves) spans (batches_to version log)) ≡ true
all_applied [] version spans filled form = form
all_applied (batch ∷ log) version spans filled form =
    cond_both (nat_le batch.version version) (batch ∷ batches_to version log) (batches_to version log)
    (λ batches. is_canonical (fold (λ spans batch. fold move_span spans batch.moves) spans batches) ≡ true)
    (λ _. all_applied log version (fold move_span spans batch.moves) filled.1 (all_moved spans batch.moves form filled.0))
    (λ _. all_applied log version spans filled.1 form)

pub assigned_form : (given : Given) (version : ℕ) → AreRanges given → is_canonical (assigned given.own given.log version) ≡ true
assigned_form given version ranges = all_applied given.log version given.own ranges.moves ranges.own

-- ---- what a commit leaves available

released_filled : (moves : List Move) → AllByRecursion Filled (map span_moved moves) → AllByRecursion Filled (flat_map released moves)
released_filled [] filled = tt
released_filled (Assign span ∷ moves) filled = released_filled moves filled.1
released_filled (Release span ∷ moves) filled = (filled.0, released_filled moves filled.1)

between_filled : (above upto : ℕ) (log : List Batch) → AreFilled log → AllByRecursion Filled (released_between above upto log)
between_filled above upto [] filled = tt
between_filled above upto (batch ∷ log) filled =
    let rest = between_filled above upto log filled.1 in
    cond_both (nat_le batch.version upto) (batch ∷ batches_to upto log) (batches_to upto log)
    (λ batches. AllByRecursion Filled (flat_map released_in (filter (λ batch. nat_lt above batch.version) batches)))
    (λ _. cond_both (nat_lt above batch.version)
    (batch ∷ filter (λ batch. nat_lt above batch.version) (batches_to upto log)) (filter (λ batch. nat_lt above batch.version) (batches_to upto log))
    (λ batches. AllByRecursion Filled (flat_map released_in batches))
    (λ _. all_append Filled (released_in batch) (released_between above upto log) (released_filled batch.moves filled.0) rest)
    (λ _. rest))
    (λ _. rest)

pieces_filled : (test : Piece → Bool) (low high : List ℕ) (pieces : List Piece) → Tiles span_of low high pieces
    → AllByRecursion Filled (map span_of (filter test pieces))
pieces_filled test low high [] tiles = tt
pieces_filled test low high (piece ∷ pieces) tiles =
    let rest = pieces_filled test piece.end high pieces tiles.2 in
    cond_both (test piece) (piece ∷ filter test pieces) (filter test pieces)
    (λ passing. AllByRecursion Filled (map span_of passing)) (λ _. (tiles.1, rest)) (λ _. rest)

available_form : (given : Given) (state : State) (version : ℕ) → AreRanges given → IsPartition state.pieces → is_canonical state.available ≡ true
    → is_canonical (available_at given state version) ≡ true
available_form given state version ranges parted form =
    all_put_in (fold without_span state.available (released_between state.durable version given.log)) (map span_of (filter (waits_to version) state.pieces))
    (all_taken_out state.available (released_between state.durable version given.log) form (between_filled state.durable version given.log ranges.moves))
    (pieces_filled (waits_to version) [] (255 ∷ []) state.pieces parted)

-- ---- every state that is reached

-- what is available, and what will be so with the commit in flight
pub record AreForms (state : State) : Type 0 where
  pub available : is_canonical state.available ≡ true
  pub flown : IfSome state.flight (λ flight. is_canonical flight.available ≡ true)

abbrev Formed : State → Type 0
Formed state = IsCounted state × Stands state × AreForms state

flight_is : (P : Opening → Type 0) (found : Option Opening) (flight : Opening) → found ≡ Some flight → IfSome found P → P flight
flight_is P found flight e h = subst (λ o. IfSome o P) e h

forms_step : (given : Given) → AreRanges given → (state : State) (event : Event) (next : State) → Stands state → AreForms state
    → step given state event ≡ Some next → AreForms next
forms_step given ranges state (Opened version) next stands h e = cc
forms_step given ranges state (Applied version) next stands h e =
    let is = applied_is given state version (next_batch given state) next e in
    subst AreForms is.3 (record { available = h.available; flown = h.flown })
forms_step given ranges state (FetchStart begin at) next stands h e =
    let is = only_if _ _ next e in
    subst AreForms is.1 (record { available = h.available; flown = h.flown })
forms_step given ranges state (Block begin upto) next stands h e =
    let is = only_if _ _ next e in
    subst AreForms is.1 (record { available = h.available; flown = h.flown })
forms_step given ranges state (Split begin key) next stands h e =
    let is = only_if _ _ next e in
    subst AreForms is.1 (record { available = h.available; flown = h.flown })
forms_step given ranges state (Began version) next stands h e =
    let is = began_is given state version next e in
    subst AreForms is.2 (record {
      available = h.available;
      flown = available_form given state version ranges stands.parted h.available;
    })
forms_step given ranges state (Durable version) next stands h e =
    let is = ended_is state version state.flight next e in
    subst AreForms is.3 (record {
      available = flight_is (λ flight. is_canonical flight.available ≡ true) state.flight is.0 is.1 h.flown;
      flown = tt;
    })
forms_step given ranges state (Watched number key value) next stands h e =
    let is = only_if _ _ next e in
    subst AreForms is.1 (record { available = h.available; flown = h.flown })
forms_step given ranges state (Unwatched number) next stands h e =
    let is = only_if _ _ next e in
    subst AreForms is.1 (record { available = h.available; flown = h.flown })
forms_step given ranges state Closed next stands h e = let same : state ≡ next = cc in subst AreForms same h
forms_step given ranges state Killed next stands h e = let same : state ≡ next = cc in subst AreForms same h

pub forms : (given : Given) (opening : Opening) (trace : List Event) (state : State) → AreRanges given → is_canonical opening.available ≡ true
    → state_after given opening trace ≡ Some state → IsCanonical given state
forms given opening trace state ranges first legal =
    let h = by_trace given opening Formed
    (counted_first given opening, stands_first given opening, record { available = first; flown = tt })
    (λ state event next is e. (
      (counted_step given state event next is.0 e).0,
      stands_step given state event next is.0 is.1 e,
      forms_step given ranges state event next is.1 is.2 e,
    ))
    trace state legal in
    record { assigned = assigned_form given state.newest ranges; available = h.2.available; flown = h.2.flown }

pub next_form : (given : Given) (opening next : Opening) (trace : List Event) → AreRanges given → is_canonical opening.available ≡ true
    → MayOpen (state_after given opening trace) next → is_canonical next.available ≡ true
next_form given opening next trace ranges first may =
    elim (state_after given opening trace) as (λ o. state_after given opening trace ≡ o → MayOpen o next → is_canonical next.available ≡ true) [
      | None ↦ λ _ none. absurd none
      | Some state ↦ λ legal may.
          let h = forms given opening trace state ranges first legal in
          ⊎_elim
          (λ durable. ap is_canonical durable.1 ∙ h.available)
          (λ flies. flight_is (λ flight. is_canonical flight.available ≡ true) state.flight next flies h.flown)
          may
    ]
    refl may
