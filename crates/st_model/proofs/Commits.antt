-- What holds of each key of each piece where a fetch goes on, and where a commit begins and ends.
use Rattle.std.proofs.Common.{◌≡◌, ℕ, ◌≤◌, Bool, true, false, not, ◌&&◌, ◌||◌, nat_le, cond, List, [], ◌∷◌, map, filter, fold, bytes_eq, Option, Some, None, IfSome, ⊎_elim, refl, sym, ap, subst, ◌∙◌, arith, le_refl, le_trans}
use Rattle.std.proofs.lemmas.Bool.{cond_both, and_parts, and_from, and_left, and_right, or_cases, or_from, or_left, not-true, true≢false, both_ways, leb-true, cases_lt, false_from_ne_true}
use Rattle.std.specs.List.{AllByRecursion}
use Rattle.st_key.specs.KeyOrder.{less_irrefl, less_asym, less_le_trans, le_less_trans}
use Rattle.st_key.specs.Parts.{without_span}
use Rattle.st_key.specs.Spans.{Span, key_less, within, holds}
use Rattle.st_fold.specs.Plain.{Rises}
use Rattle.st_model.specs.declared.piece.Piece.{Piece}
use Rattle.st_model.specs.declared.piece.Phase.{Phase}
use Rattle.st_model.specs.declared.piece.Phase.TheVariants.{Absent, WaitPrevious, Fetching, Waiting, Readable}
use Rattle.st_model.specs.Facts.{is_assigned, takes_away, IsGone, IsKept, IsCounted, IsFetched, IsPlaced}
use Rattle.st_model.specs.Partition.{IsPartition}
use Rattle.st_model.specs.Pieces.{span_of, begins, change_at, wants_fetch, start_piece, takes_block, block_piece, fetched_to, stops_at, split_piece, in_phase, rows_taken, rows_in_base, waits_to}
use Rattle.st_model.specs.State.{Given, Opening, State, Watch, available_at, released_between, began, ended}
use Rattle.st_model.proofs.Bits.{holds-fold_with, holds-fold_without, none_released, one_released, assigned_since}
use Rattle.st_model.proofs.Cuts.{le_trans as le_trans_key, same_key, all_mapped, all_both, Follow, HasKey, have_keys, begin_above, is_there, all_changed}
use Rattle.st_model.proofs.Keeping.{Inside, Kept, if_both}
use Rattle.st_model.proofs.Lists.{all_map}

-- ---- another list of pieces, or of watches, says nothing of a key

kept_elsewhere : (given : Given) (state : State) (pieces : List Piece) (watches : List Watch) (key : List ℕ) (phase : Phase) → IsKept given state key phase
    → IsKept given (record state { pieces = pieces; watches = watches }) key phase
kept_elsewhere given state pieces watches key (Absent since) h =
    (h.0, record { taken_away = h.1.taken_away; unavailable = h.1.unavailable; unflown = h.1.unflown })
kept_elsewhere given state pieces watches key (WaitPrevious since) h =
    (h.0, record { taken_away = h.1.taken_away; unavailable = h.1.unavailable; unflown = h.1.unflown })
kept_elsewhere given state pieces watches key (Fetching at upto taken in_base) h =
    (record { stays = h.0.stays; held = h.0.held; unavailable = h.0.unavailable }, h.1)
kept_elsewhere given state pieces watches key (Waiting transferred) h =
    (record { stays = h.0.stays; held = h.0.held; unavailable = h.0.unavailable }, h.1)
kept_elsewhere given state pieces watches key Readable h =
    record { is_in = h.is_in; held = h.held; available = h.available; flown = h.flown }

pub kept_watched : (given : Given) (state : State) (watches : List Watch) → AllByRecursion (Kept given state) state.pieces
    → AllByRecursion (Kept given (record state { watches = watches })) state.pieces
kept_watched given state watches all =
    all_map (Kept given state) (Kept given (record state { watches = watches }))
    (λ p h key inside. kept_elsewhere given state state.pieces watches key p.phase (h key inside)) state.pieces all

-- ---- a fetch

abbrev pub PlacedAndKept : Given → State → Piece → Type 0
PlacedAndKept given state piece = IsPlaced state piece piece.phase × Kept given state piece

kept_changed : (given : Given) (state : State) (test : Piece → Bool) (begin : List ℕ) (change : Piece → List Piece) → begins test begin state.pieces ≡ true
    → ((p : Piece) → HasKey p → test p ≡ true → PlacedAndKept given state p → AllByRecursion (Kept given state) (change p))
    → IsPartition state.pieces → AllByRecursion (PlacedAndKept given state) state.pieces
    → AllByRecursion (Kept given (record state { pieces = change_at begin change state.pieces })) (change_at begin change state.pieces)
kept_changed given state test begin change e changed parted all =
    all_map (Kept given state) (Kept given (record state { pieces = change_at begin change state.pieces }))
    (λ p h key inside. kept_elsewhere given state (change_at begin change state.pieces) state.watches key p.phase (h key inside))
    (change_at begin change state.pieces)
    (all_changed (PlacedAndKept given state) (Kept given state) test begin change state.pieces
    (is_there test begin [] (255 ∷ []) state.pieces e parted) (have_keys [] (255 ∷ []) state.pieces parted) all changed (λ p h. h.1))

if_some : {A : Type 0} (P Q : A → Type 0) (o : Option A) → ((x : A) → P x → Q x) → IfSome o P → IfSome o Q
if_some P Q None f h = h
if_some P Q (Some x) f h = f x h

pub kept_started : (given : Given) (state : State) (begin : List ℕ) → begins (wants_fetch state.durable) begin state.pieces ≡ true → IsCounted state
    → IsPartition state.pieces → AllByRecursion (PlacedAndKept given state) state.pieces
    → AllByRecursion (Kept given (record state { pieces = change_at begin (λ piece. start_piece state.newest piece ∷ []) state.pieces }))
    (change_at begin (λ piece. start_piece state.newest piece ∷ []) state.pieces)
kept_started given state begin e counted parted all =
    kept_changed given state (wants_fetch state.durable) begin (λ piece. start_piece state.newest piece ∷ []) e
    (λ p has passes h. (λ key inside. starts p p.phase refl passes key (h.1 key inside), tt)) parted all
  where
    starts : (p : Piece) (phase : Phase) → p.phase ≡ phase → wants_fetch state.durable p ≡ true → (key : List ℕ) → IsKept given state key p.phase
        → IsKept given state key (Fetching state.newest p.begin p.begin p.begin)
    starts p (WaitPrevious since) e passes key h =
        let here : IsKept given state key (WaitPrevious since) = subst (IsKept given state key) e h in
        let low : since ≤ state.durable =
        leb-true since state.durable (sym (ap (λ f. wants_fetch state.durable (in_phase f p)) e) ∙ passes) in (
          record {
            stays = λ version under over.
                let same : state.newest ≡ version = omega arith in subst (λ v. is_assigned given v key ≡ true) same here.0;
            held = λ version under over. absurd (omega arith);
            unavailable = here.1.unavailable low;
          },
          if_both (λ flight. (state.durable ≤ flight.version) × (flight.version ≤ state.newest))
              (λ flight. since ≤ flight.version → holds flight.available key ≡ false) (λ flight. holds flight.available key ≡ false) state.flight
              (λ flight between unflown. unflown (le_trans low between.0)) counted.flight here.1.unflown,
        )
    starts p (Absent since) e passes key h = absurd (true≢false (sym passes ∙ ap (λ f. wants_fetch state.durable (in_phase f p)) e))
    starts p (Fetching at upto taken in_base) e passes key h = absurd (true≢false (sym passes ∙ ap (λ f. wants_fetch state.durable (in_phase f p)) e))
    starts p (Waiting transferred) e passes key h = absurd (true≢false (sym passes ∙ ap (λ f. wants_fetch state.durable (in_phase f p)) e))
    starts p Readable e passes key h = absurd (true≢false (sym passes ∙ ap (λ f. wants_fetch state.durable (in_phase f p)) e))

pub kept_blocked : (given : Given) (state : State) (begin upto : List ℕ) → begins (takes_block upto) begin state.pieces ≡ true
    → IsPartition state.pieces → AllByRecursion (PlacedAndKept given state) state.pieces
    → AllByRecursion (Kept given (record state { pieces = change_at begin (λ piece. block_piece upto piece ∷ []) state.pieces }))
    (change_at begin (λ piece. block_piece upto piece ∷ []) state.pieces)
kept_blocked given state begin upto e parted all =
    kept_changed given state (takes_block upto) begin (λ piece. block_piece upto piece ∷ []) e
    (λ p has passes h. (λ key inside. further key p.phase (h.1 key inside), tt)) parted all
  where
    further : (key : List ℕ) (phase : Phase) → IsKept given state key phase → IsKept given state key (fetched_to upto phase)
    further key (Absent since) h = h
    further key (WaitPrevious since) h = h
    further key (Fetching at upto' taken in_base) h = h
    further key (Waiting transferred) h = h
    further key Readable h = h

pub kept_split : (given : Given) (state : State) (begin place : List ℕ) → begins (stops_at place) begin state.pieces ≡ true
    → IsPartition state.pieces → AllByRecursion (PlacedAndKept given state) state.pieces
    → AllByRecursion (Kept given (record state { pieces = change_at begin (split_piece state.durable place) state.pieces }))
    (change_at begin (split_piece state.durable place) state.pieces)
kept_split given state begin place e parted all =
    kept_changed given state (stops_at place) begin (split_piece state.durable place) e
    (λ p has passes h. apart p p.phase refl passes h) parted all
  where
    apart : (p : Piece) (phase : Phase) → p.phase ≡ phase → stops_at place p ≡ true → PlacedAndKept given state p
        → AllByRecursion (Kept given state) (split_piece state.durable place p)
    apart p (Fetching at upto taken in_base) e passes h =
        let here : IsFetched state p at upto taken in_base = subst (IsPlaced state p) e h.0 in
        let tests = and_parts (bytes_eq upto place) (key_less upto p.end) (sym (ap (λ f. stops_at place (in_phase f p)) e) ∙ passes) in
        let is : upto ≡ place = same_key upto place tests.0 in
        let low : key_less place p.begin ≡ false =
        subst (λ k. key_less k p.begin ≡ false) is
        (le_trans_key p.begin in_base upto here.begins (le_trans_key in_base taken upto here.in_base_first here.taken_next)) in
        let high : key_less p.end place ≡ false = subst (λ k. key_less p.end k ≡ false) is here.ends in
        cond_both (bytes_eq place p.begin) (in_phase (WaitPrevious state.durable) p ∷ [])
        (record { begin = p.begin; end = place; phase = p.phase } ∷ record { begin = place; end = p.end; phase = WaitPrevious state.durable } ∷ [])
        (AllByRecursion (Kept given state))
        (λ _. (λ key inside. waits_again key here.has_come (subst (IsKept given state key) e (h.1 key inside)), tt))
        (λ _. (
          λ key inside.
              let sides = and_parts (not (key_less key p.begin)) (key_less key place) inside in
              h.1 key (and_from (not (key_less key p.begin)) (key_less key p.end) sides.0 (less_le_trans key place p.end sides.1 high)),
          (
            λ key inside.
                let sides = and_parts (not (key_less key place)) (key_less key p.end) inside in
                waits_again key here.has_come (subst (IsKept given state key) e (h.1 key
                (and_from (not (key_less key p.begin)) (key_less key p.end)
                (ap not (le_trans_key p.begin place key low (not-true (key_less key place) sides.0))) sides.1))),
            tt,
          ),
        ))
      where
        waits_again : (key : List ℕ) → at ≤ state.newest → IsKept given state key (Fetching at upto taken in_base) → IsKept given state key (WaitPrevious state.durable)
        waits_again key low h = (
          h.0.stays state.newest low (le_refl state.newest),
          record {
            taken_away = λ later. absurd (omega arith);
            unavailable = λ _. h.0.unavailable;
            unflown = if_some (λ flight. holds flight.available key ≡ false)
                (λ flight. state.durable ≤ flight.version → holds flight.available key ≡ false) state.flight (λ flight out _. out) h.1;
          },
        )
    apart p (Absent since) e passes h = absurd (true≢false (sym passes ∙ ap (λ f. stops_at place (in_phase f p)) e))
    apart p (WaitPrevious since) e passes h = absurd (true≢false (sym passes ∙ ap (λ f. stops_at place (in_phase f p)) e))
    apart p (Waiting transferred) e passes h = absurd (true≢false (sym passes ∙ ap (λ f. stops_at place (in_phase f p)) e))
    apart p Readable e passes h = absurd (true≢false (sym passes ∙ ap (λ f. stops_at place (in_phase f p)) e))

-- ---- the end of a commit

flight_is : (P : Opening → Type 0) (found : Option Opening) (flight : Opening) → found ≡ Some flight → IfSome found P → P flight
flight_is P found flight e h = subst (λ o. IfSome o P) e h

pub kept_ended : (given : Given) (state : State) (flight : Opening) → state.flight ≡ Some flight → IsCounted state
    → AllByRecursion (PlacedAndKept given state) state.pieces → AllByRecursion (Kept given (ended state flight)) (ended state flight).pieces
kept_ended given state flight flies counted all =
    all_mapped (PlacedAndKept given state) (Kept given (ended state flight)) (λ piece. in_phase (rows_in_base flight.version piece.phase) piece)
    (λ p h key inside. ends p key p.phase h.0 (h.1 key inside)) state.pieces all
  where
    between : (state.durable ≤ flight.version) × (flight.version ≤ state.newest)
    between = flight_is (λ flight. (state.durable ≤ flight.version) × (flight.version ≤ state.newest)) state.flight flight flies counted.flight

    gone : (since : ℕ) (key : List ℕ) → IsGone given state since key → IsGone given (ended state flight) since key
    gone since key h = record {
      taken_away = λ later. h.taken_away (omega (arith, between.0));
      unavailable = flight_is (λ flight. since ≤ flight.version → holds flight.available key ≡ false) state.flight flight flies h.unflown;
      unflown = tt;
    }

    ends : (p : Piece) (key : List ℕ) (phase : Phase) → IsPlaced state p phase → IsKept given state key phase
        → IsKept given (ended state flight) key (rows_in_base flight.version phase)
    ends p key (Absent since) placed h = (h.0, gone since key h.1)
    ends p key (WaitPrevious since) placed h = (h.0, gone since key h.1)
    ends p key (Fetching at upto taken in_base) placed h = (
      record {
        stays = h.0.stays;
        held = h.0.held;
        unavailable = flight_is (λ flight. holds flight.available key ≡ false) state.flight flight flies h.1;
      },
      tt,
    )
    ends p key (Waiting transferred) placed h =
        let flown = flight_is (λ flight. holds flight.available key ≡ nat_le transferred flight.version) state.flight flight flies h.1 in
        cond_both (nat_le transferred flight.version) Readable (Waiting transferred) (IsKept given (ended state flight) key)
        (λ sent. record {
          is_in = h.0.stays state.newest placed.1 (le_refl state.newest);
          held = λ version later over. h.0.held version (omega (arith, leb-true transferred flight.version sent)) over;
          available = flown ∙ sent;
          flown = tt;
        })
        (λ above. (record { stays = h.0.stays; held = h.0.held; unavailable = flown ∙ above }, tt))
    ends p key Readable placed h = record {
      is_in = h.is_in;
      held = λ version later over. h.held version (omega (arith, between.0)) over;
      available = flight_is (λ flight. holds flight.available key ≡ true) state.flight flight flies h.flown;
      flown = tt;
    }

-- ---- the begin of a commit

-- the spans of the pieces that were sent up to a version
abbrev sent_to : ℕ → List Piece → List Span
sent_to version pieces = map span_of (filter (waits_to version) pieces)

-- no piece has a key below the first
sent_below : (version : ℕ) (a b : List ℕ) (ps : List Piece) (key : List ℕ) → Follow a b ps → key_less key a ≡ true → holds (sent_to version ps) key ≡ false
sent_below version a b [] key follow low = refl
sent_below version a b (p ∷ ps) key follow low =
    let under : key_less key p.begin ≡ true = ap (key_less key) follow.0 ∙ low in
    let rest : holds (sent_to version ps) key ≡ false =
    sent_below version p.end b ps key follow.2 (le_less_trans key p.begin p.end (less_asym key p.begin under) follow.1) in
    cond_both (waits_to version p) (p ∷ filter (waits_to version) ps) (filter (waits_to version) ps)
    (λ qs. holds (map span_of qs) key ≡ false)
    (λ _. or_from (within (span_of p) key) (holds (sent_to version ps) key)
    (and_left (not (key_less key p.begin)) (key_less key p.end) (ap not under)) rest)
    (λ _. rest)

-- a key of a piece was sent where the piece was
pub sent_with : (version : ℕ) (a b : List ℕ) (ps : List Piece) → Follow a b ps
    → AllByRecursion (λ p. (key : List ℕ) → Inside p key → holds (sent_to version ps) key ≡ waits_to version p) ps
sent_with version a b [] follow = tt
sent_with version a b (p ∷ ps) follow = (
  λ key inside.
      let sides = and_parts (not (key_less key p.begin)) (key_less key p.end) inside in
      let rest = sent_below version p.end b ps key follow.2 sides.1 in
      elim (waits_to version p) as (λ v. holds (map span_of (cond v (p ∷ filter (waits_to version) ps) (filter (waits_to version) ps))) key ≡ v) [
        | true ↦ or_left (within (span_of p) key) (holds (sent_to version ps) key) inside
        | false ↦ rest
      ],
  all_map
      (λ q. ((key : List ℕ) → Inside q key → holds (sent_to version ps) key ≡ waits_to version q) × (key_less q.begin p.end ≡ false))
      (λ q. (key : List ℕ) → Inside q key → holds (sent_to version (p ∷ ps)) key ≡ waits_to version q)
      (λ q h key inside.
      let sides = and_parts (not (key_less key q.begin)) (key_less key q.end) inside in
      let outside : key_less key p.end ≡ false = le_trans_key p.end q.begin key h.1 (not-true (key_less key q.begin) sides.0) in
      cond_both (waits_to version p) (p ∷ filter (waits_to version) ps) (filter (waits_to version) ps)
      (λ qs. holds (map span_of qs) key ≡ waits_to version q)
      (λ _. ap (λ b. b || holds (sent_to version ps) key) (and_right (not (key_less key p.begin)) (key_less key p.end) outside) ∙ h.0 key inside)
      (λ _. h.0 key inside))
      ps
      (all_both (λ q. (key : List ℕ) → Inside q key → holds (sent_to version ps) key ≡ waits_to version q) (λ q. key_less q.begin p.end ≡ false) ps
      (sent_with version p.end b ps follow.2) (begin_above p.end b p.end ps follow.2 (less_irrefl p.end))),
)

-- the piece that a sent key is of
sent_piece : (R : Piece → Type 0) (version : ℕ) (ps : List Piece) (key : List ℕ) → AllByRecursion R ps → holds (sent_to version ps) key ≡ true
    → (p : Piece) × (waits_to version p ≡ true) × Inside p key × R p
sent_piece R version [] key all e = cc
sent_piece R version (p ∷ ps) key all e =
    elim (waits_to version p) as (λ v. waits_to version p ≡ v
    → holds (map span_of (cond v (p ∷ filter (waits_to version) ps) (filter (waits_to version) ps))) key ≡ true
    → (p : Piece) × (waits_to version p ≡ true) × Inside p key × R p) [
      | true ↦ λ waits held.
          ⊎_elim (λ here. (p, waits, here, all.0)) (λ later. sent_piece R version ps key all.1 later)
          (or_cases (within (span_of p) key) (holds (sent_to version ps) key) held)
      | false ↦ λ _ held. sent_piece R version ps key all.1 held
    ]
    refl e

-- what is available once the commit is durable, key by key
available_then : (given : Given) (state : State) (version : ℕ) (key : List ℕ)
    → holds (available_at given state version) key
    ≡ ((holds state.available key && not (holds (released_between state.durable version given.log) key)) || holds (sent_to version state.pieces) key)
available_then given state version key =
    holds-fold_with (fold without_span state.available (released_between state.durable version given.log)) (sent_to version state.pieces) key
    ∙ ap (λ b. b || holds (sent_to version state.pieces) key)
    (holds-fold_without state.available (released_between state.durable version given.log) key)

pub kept_began : (given : Given) (state : State) (version : ℕ) → state.durable ≤ version → version ≤ state.newest
    → IsPartition state.pieces → AllByRecursion (PlacedAndKept given state) state.pieces
    → AllByRecursion (Kept given (began given state version)) (began given state version).pieces
kept_began given state version low high parted all =
    all_mapped
    (λ p. PlacedAndKept given state p × ((key : List ℕ) → Inside p key → holds (sent_to version state.pieces) key ≡ waits_to version p))
    (Kept given (began given state version)) (λ piece. in_phase (rows_taken piece.phase) piece)
    (λ p h key inside. begins_with p key p.phase (h.0.1 key inside) (h.1 key inside))
    state.pieces
    (all_both (PlacedAndKept given state) (λ p. (key : List ℕ) → Inside p key → holds (sent_to version state.pieces) key ≡ waits_to version p)
    state.pieces all (sent_with version [] (255 ∷ []) state.pieces parted))
  where
    -- a key that isn't available, or is taken away, and wasn't sent
    out : (key : List ℕ) (sent : Bool) → (holds state.available key && not (holds (released_between state.durable version given.log) key)) ≡ false
        → holds (sent_to version state.pieces) key ≡ sent → holds (available_at given state version) key ≡ sent
    out key sent none is =
        available_then given state version key
        ∙ ap (λ b. b || holds (sent_to version state.pieces) key) none ∙ is

    gone : (since : ℕ) (key : List ℕ) → IsGone given state since key → holds (sent_to version state.pieces) key ≡ false
        → IsGone given (began given state version) since key
    gone since key h unsent = record {
      taken_away = h.taken_away;
      unavailable = h.unavailable;
      unflown = λ under. out key false (is_out under) unsent;
    }
      where
        is_out : since ≤ version → (holds state.available key && not (holds (released_between state.durable version given.log) key)) ≡ false
        is_out under =
            ⊎_elim
            (λ later. and_right (holds state.available key) (not (holds (released_between state.durable version given.log) key))
            (ap not (one_released state.durable version since given.log key later under (h.taken_away later))))
            (λ forgotten. and_left (holds state.available key) (not (holds (released_between state.durable version given.log) key)) (h.unavailable forgotten))
            (cases_lt state.durable since)

    begins_with : (p : Piece) (key : List ℕ) (phase : Phase) → IsKept given state key phase
        → holds (sent_to version state.pieces) key ≡ waits_to version (in_phase phase p)
        → IsKept given (began given state version) key (rows_taken phase)
    begins_with p key (Absent since) h sent = (h.0, gone since key h.1 sent)
    begins_with p key (WaitPrevious since) h sent = (h.0, gone since key h.1 sent)
    begins_with p key (Fetching at upto taken in_base) h sent = (
      record { stays = h.0.stays; held = h.0.held; unavailable = h.0.unavailable },
      out key false (and_left (holds state.available key) (not (holds (released_between state.durable version given.log) key)) h.0.unavailable) sent,
    )
    begins_with p key (Waiting transferred) h sent = (
      record { stays = h.0.stays; held = h.0.held; unavailable = h.0.unavailable },
      out key (nat_le transferred version)
          (and_left (holds state.available key) (not (holds (released_between state.durable version given.log) key)) h.0.unavailable) sent,
    )
    begins_with p key Readable h sent = record {
      is_in = h.is_in;
      held = h.held;
      available = h.available;
      flown =
          available_then given state version key
          ∙ or_left (holds state.available key && not (holds (released_between state.durable version given.log) key))
          (holds (sent_to version state.pieces) key)
          (and_from (holds state.available key) (not (holds (released_between state.durable version given.log) key)) h.available
          (ap not (none_released state.durable version given.log key (λ u later under. h.held u later (le_trans under high)))));
    }

-- what is available then is assigned then
pub flown_began : (given : Given) (state : State) (low version : ℕ) → Rises low given.log → state.durable ≤ version → version ≤ state.newest
    → ((key : List ℕ) → holds state.available key ≡ true → is_assigned given state.durable key ≡ true)
    → AllByRecursion (Kept given state) state.pieces
    → (key : List ℕ) → holds (available_at given state version) key ≡ true → is_assigned given version key ≡ true
flown_began given state low version rises under over available all key held =
    ⊎_elim
    (λ stays.
    let parts = and_parts (holds state.available key) (not (holds (released_between state.durable version given.log) key)) stays in
    assigned_since given.own given.log low state.durable version key rises under (available key parts.0)
    (λ u later reached. false_from_ne_true (takes_away given.log u key) (λ taken.
    both_ways (holds (released_between state.durable version given.log) key)
    (not-true (holds (released_between state.durable version given.log) key) parts.1)
    (one_released state.durable version u given.log key later reached taken))))
    (λ sent.
    let one = sent_piece (Kept given state) version state.pieces key all sent in
    was_sent one.0 one.0.phase refl one.1 (one.3 key one.2))
    (or_cases (holds state.available key && not (holds (released_between state.durable version given.log) key))
    (holds (sent_to version state.pieces) key) (sym (available_then given state version key) ∙ held))
  where
    was_sent : (p : Piece) (phase : Phase) → p.phase ≡ phase → waits_to version p ≡ true → IsKept given state key p.phase → is_assigned given version key ≡ true
    was_sent p (Waiting transferred) e waits h =
        let here : IsKept given state key (Waiting transferred) = subst (IsKept given state key) e h in
        here.0.stays version
        (leb-true transferred version (sym (ap (λ f. waits_to version (in_phase f p)) e) ∙ waits)) over
    was_sent p (Absent since) e waits h = absurd (true≢false (sym waits ∙ ap (λ f. waits_to version (in_phase f p)) e))
    was_sent p (WaitPrevious since) e waits h = absurd (true≢false (sym waits ∙ ap (λ f. waits_to version (in_phase f p)) e))
    was_sent p (Fetching at upto taken in_base) e waits h = absurd (true≢false (sym waits ∙ ap (λ f. waits_to version (in_phase f p)) e))
    was_sent p Readable e waits h = absurd (true≢false (sym waits ∙ ap (λ f. waits_to version (in_phase f p)) e))
