-- How far each piece is fetched, and that the pieces part the keys, event by event.
use Rattle.std.proofs.Common.{◌≡◌, ℕ, ◌<◌, ◌≤◌, Bool, true, false, not, ◌&&◌, ◌==◌, nat_le, List, [], ◌∷◌, fold, bytes_eq, Some, if◌then◌else◌, refl, sym, ap, subst, ◌∙◌, arith, le_refl, le_trans as nat_le_trans}
use Rattle.std.proofs.lemmas.Bool.{cond_both, and_parts, not-true, true≢false, leb-false, both_ways, eqb-true}
use Rattle.std.proofs.lemmas.Slice.Eq.{bytes_eq-Decides}
use Rattle.std.specs.List.{AllByRecursion}
use Rattle.st_key.specs.KeyOrder.{less_irrefl, less_asym, less_le_trans, le_less_trans, less_connected}
use Rattle.st_key.specs.Parts.{least, greatest}
use Rattle.st_key.specs.Spans.{Span, key_less}
use Rattle.st_mutation.specs.declared.batch.Batch.{Batch}
use Rattle.st_mutation.specs.declared.batch.Move.{Move}
use Rattle.st_mutation.specs.declared.batch.Move.TheVariants.{Assign, Release}
use Rattle.st_model.specs.declared.piece.Piece.{Piece}
use Rattle.st_model.specs.declared.piece.Phase.{Phase}
use Rattle.st_model.specs.declared.piece.Phase.TheVariants.{Absent, WaitPrevious, Fetching, Waiting, Readable}
use Rattle.st_fold.specs.declared.report.Event.{Event}
use Rattle.st_fold.specs.declared.report.Event.TheVariants.{Opened, Applied, FetchStart, Block, Split, Began, Durable, Watched, Unwatched, Closed, Killed}
use Rattle.st_model.specs.Facts.{IsCounted, IsFetched, IsPlaced}
use Rattle.st_model.specs.Partition.{IsPartition}
use Rattle.st_model.specs.Pieces.{nearest, phase_in, part, span_of, is_absent, waits, lies_in, cut_where, change_within, move_piece, is_whole, inject, begins, change_at, wants_fetch, start_piece, takes_block, block_piece, fetched_to, stops_at, split_piece, in_phase, by_phase, rows_taken, rows_in_base}
use Rattle.st_model.specs.State.{Given, Opening, State, Watch, next_batch, after_batch, began, ended, step}
use Rattle.st_model.proofs.Counts.{only_if, applied_is, began_is, ended_is, next_is_above}
use Rattle.st_model.proofs.Cuts.{le_trans, same_key, all_mapped, Follow, HasKey, have_keys, is_there, all_changed, follow_changed, HoldsOfParts, IsUncut, all_cut}
use Rattle.st_model.proofs.Lists.{all_map}
use Rattle.st_model.proofs.PartitionPieces.{partition-move_piece, partition-inject, partition-by_phase}

-- ---- the nearest key

least_le : (a b : List ℕ) → key_less b (least a b) ≡ false
least_le a b = cond_both (key_less b a) b a (λ m. key_less b m ≡ false) (λ _. less_irrefl b) (λ ba. ba)

greatest_ge : (a b : List ℕ) → key_less (greatest a b) a ≡ false
greatest_ge a b = cond_both (key_less a b) b a (λ m. key_less m a ≡ false) (λ ab. less_asym a b ab) (λ _. less_irrefl a)

least_grows : (a b e : List ℕ) → key_less b a ≡ false → key_less (least b e) (least a e) ≡ false
least_grows a b e ab =
    cond_both (key_less e b) e b (λ m. key_less m (least a e) ≡ false)
    (λ _. least_le a e)
    (λ eb. cond_both (key_less e a) e a (λ m. key_less b m ≡ false)
    (λ ea. absurd (both_ways (key_less e a) (le_trans a b e ab eb) ea)) (λ _. ab))

greatest_grows : (s x y : List ℕ) → key_less y x ≡ false → key_less (greatest s y) (greatest s x) ≡ false
greatest_grows s x y xy =
    cond_both (key_less s x) x s (λ m. key_less (greatest s y) m ≡ false)
    (λ sx. cond_both (key_less s y) y s (λ m. key_less m x ≡ false)
    (λ _. xy) (λ sy. absurd (both_ways (key_less s y) sy (less_le_trans s x y sx xy))))
    (λ _. greatest_ge s y)

nearest_grows : (span : Span) (x y : List ℕ) → key_less y x ≡ false → key_less (nearest span y) (nearest span x) ≡ false
nearest_grows span x y xy = greatest_grows span.begin (least x span.end) (least y span.end) (least_grows x y span.end xy)

nearest_ends : (span : Span) (x : List ℕ) → key_less span.begin span.end ≡ true → key_less span.end (nearest span x) ≡ false
nearest_ends span x has =
    cond_both (key_less span.begin (least x span.end)) (least x span.end) span.begin (λ m. key_less span.end m ≡ false)
    (λ _. least_le x span.end) (λ _. less_asym span.begin span.end has)

-- ---- a part of a piece is placed as the piece

placed_part : (state : State) (p : Piece) (span : Span) (phase : Phase) → key_less span.begin span.end ≡ true
    → IsPlaced state p phase → IsPlaced state (part p span) (phase_in span phase)
placed_part state p span (Absent since) has h = tt
placed_part state p span (WaitPrevious since) has h = tt
placed_part state p span (Waiting transferred) has h = h
placed_part state p span Readable has h = tt
placed_part state p span (Fetching at upto taken in_base) has h = record {
  begins = greatest_ge span.begin (least in_base span.end);
  in_base_first = nearest_grows span in_base taken h.in_base_first;
  taken_next = nearest_grows span taken upto h.taken_next;
  ends = nearest_ends span upto has;
  has_come = h.has_come;
  settled = λ none. ap (nearest span) (h.settled none);
}

abbrev pub Placed : State → Piece → Type 0
Placed state piece = IsPlaced state piece piece.phase

parts_placed : (state : State) → HoldsOfParts (Placed state)
parts_placed state p span low high has h = placed_part state p span p.phase has h

-- ---- moves

all_first : {A : Type 0} (P Q : A → Type 0) (xs : List A) → AllByRecursion (λ x. P x × Q x) xs → AllByRecursion P xs
all_first P Q xs h = all_map (λ x. P x × Q x) P (λ x both. both.0) xs h

placed_cut : (state : State) (test : Phase → Bool) (key : List ℕ) (ps : List Piece) → AllByRecursion (Placed state) ps
    → AllByRecursion (Placed state) (cut_where test key ps)
placed_cut state test key ps all =
    all_first (Placed state) (IsUncut test key) (cut_where test key ps) (all_cut (Placed state) test key (parts_placed state) ps all)

placed_within : (state : State) (span : Span) (test : Phase → Bool) (to : Phase → Phase) (ps : List Piece)
    → ((p : Piece) (phase : Phase) → test phase ≡ true → IsPlaced state p phase → IsPlaced state (in_phase (to phase) p) (to phase))
    → AllByRecursion (Placed state) ps → AllByRecursion (Placed state) (change_within span test to ps)
placed_within state span test to ps changed all =
    all_mapped (Placed state) (Placed state)
    (λ piece. if test piece.phase && lies_in (span_of piece) span then record piece { phase = to piece.phase } else piece)
    (λ p h. cond_both (test p.phase && lies_in (span_of p) span) (record p { phase = to p.phase }) p (Placed state)
    (λ both. changed p p.phase (and_parts (test p.phase) (lies_in (span_of p) span) both).0 h) (λ _. h))
    (cut_where test span.end (cut_where test span.begin ps))
    (placed_cut state test span.end (cut_where test span.begin ps) (placed_cut state test span.begin ps all))

placed_move : (state : State) (version : ℕ) (move : Move) (ps : List Piece) → AllByRecursion (Placed state) ps
    → AllByRecursion (Placed state) (move_piece version ps move)
placed_move state version (Assign span) ps all = placed_within state span is_absent waits ps waiting all
  where
    waiting : (p : Piece) (phase : Phase) → is_absent phase ≡ true → IsPlaced state p phase → IsPlaced state (in_phase (waits phase) p) (waits phase)
    waiting p (Absent since) e h = tt
    waiting p (WaitPrevious since) e h = tt
    waiting p (Fetching at upto taken in_base) e h = absurd (true≢false (sym e))
    waiting p (Waiting transferred) e h = absurd (true≢false (sym e))
    waiting p Readable e h = tt
placed_move state version (Release span) ps all =
    placed_within state span (λ phase. not (is_absent phase)) (λ phase. Absent version) ps (λ p phase e h. tt) all

placed_moves : (state : State) (version : ℕ) (moves : List Move) (ps : List Piece) → AllByRecursion (Placed state) ps
    → AllByRecursion (Placed state) (fold (move_piece version) ps moves)
placed_moves state version [] ps all = all
placed_moves state version (move ∷ moves) ps all =
    placed_moves state version moves (move_piece version ps move) (placed_move state version move ps all)

pub parted_moves : (version : ℕ) (moves : List Move) (ps : List Piece) → IsPartition ps → IsPartition (fold (move_piece version) ps moves)
parted_moves version [] ps parted = parted
parted_moves version (move ∷ moves) ps parted =
    parted_moves version moves (move_piece version ps move) (partition-move_piece version ps move parted)

-- ---- the events

-- the pieces of a state part the keys, and each is placed
pub record Stands (state : State) : Type 0 where
  pub parted : IsPartition state.pieces
  pub placed : AllByRecursion (Placed state) state.pieces

-- a whole piece waits from the batch on, and what held at the older newest version holds
placed_injected : (state : State) (batch : Batch) (p : Piece) (phase : Phase) → state.durable < batch.version → state.newest ≤ batch.version
    → p.phase ≡ phase → IsPlaced state p phase → Placed (after_batch state batch) (inject batch.version p)
placed_injected state batch p phase durable newest e h =
    cond_both (is_whole p) (in_phase (Waiting batch.version) p) p (Placed (after_batch state batch))
    (λ _. (durable, le_refl batch.version))
    (λ _. subst (IsPlaced (after_batch state batch) p) (sym e) (later phase h))
  where
    later : (phase : Phase) → IsPlaced state p phase → IsPlaced (after_batch state batch) p phase
    later (Absent since) h = tt
    later (WaitPrevious since) h = tt
    later (Fetching at upto taken in_base) h = record {
      begins = h.begins;
      in_base_first = h.in_base_first;
      taken_next = h.taken_next;
      ends = h.ends;
      has_come = nat_le_trans h.has_come newest;
      settled = h.settled;
    }
    later (Waiting transferred) h = (h.0, nat_le_trans h.1 newest)
    later Readable h = tt

pub stands_applied : (state : State) (batch : Batch) → state.durable ≤ state.newest → state.newest < batch.version → Stands state
    → Stands (after_batch state batch)
stands_applied state batch low above stands = record {
  parted = partition-inject batch.version (fold (move_piece batch.version) state.pieces batch.moves)
      (parted_moves batch.version batch.moves state.pieces stands.parted);
  placed = all_mapped (Placed state) (Placed (after_batch state batch)) (inject batch.version)
      (λ p h. placed_injected state batch p p.phase (omega arith) (omega arith) refl h)
      (fold (move_piece batch.version) state.pieces batch.moves)
      (placed_moves state batch.version batch.moves state.pieces stands.placed);
}

-- another list of pieces says nothing of the state
moved : (state : State) (pieces : List Piece) (p : Piece) (phase : Phase) → IsPlaced state p phase → IsPlaced (record state { pieces = pieces }) p phase
moved state pieces p (Absent since) h = tt
moved state pieces p (WaitPrevious since) h = tt
moved state pieces p (Fetching at upto taken in_base) h = record {
  begins = h.begins;
  in_base_first = h.in_base_first;
  taken_next = h.taken_next;
  ends = h.ends;
  has_come = h.has_come;
  settled = h.settled;
}
moved state pieces p (Waiting transferred) h = h
moved state pieces p Readable h = tt

-- a change of the piece that begins at a key
stands_changed : (state : State) (test : Piece → Bool) (begin : List ℕ) (change : Piece → List Piece) → begins test begin state.pieces ≡ true
    → ((p : Piece) → HasKey p → test p ≡ true → Placed state p → Follow p.begin p.end (change p) × AllByRecursion (Placed state) (change p))
    → Stands state → Stands (record state { pieces = change_at begin change state.pieces })
stands_changed state test begin change e changed stands =
    let there = is_there test begin [] (255 ∷ []) state.pieces e stands.parted in
    record {
      parted = follow_changed (Placed state) test begin change [] (255 ∷ []) state.pieces there stands.placed stands.parted
          (λ p has passes h. (changed p has passes h).0);
      placed = all_map (Placed state) (Placed (record state { pieces = change_at begin change state.pieces }))
          (λ p h. moved state (change_at begin change state.pieces) p p.phase h) (change_at begin change state.pieces)
          (all_changed (Placed state) (Placed state) test begin change state.pieces there
          (have_keys [] (255 ∷ []) state.pieces stands.parted) stands.placed
          (λ p has passes h. (changed p has passes h).1) (λ p h. h));
    }

pub stands_started : (state : State) (begin : List ℕ) → begins (wants_fetch state.durable) begin state.pieces ≡ true → Stands state
    → Stands (record state { pieces = change_at begin (λ piece. start_piece state.newest piece ∷ []) state.pieces })
stands_started state begin e stands =
    stands_changed state (wants_fetch state.durable) begin (λ piece. start_piece state.newest piece ∷ []) e
    (λ p has passes h. (
      (refl, has, refl),
      (
        record {
          begins = less_irrefl p.begin;
          in_base_first = less_irrefl p.begin;
          taken_next = less_irrefl p.begin;
          ends = less_asym p.begin p.end has;
          has_come = le_refl state.newest;
          settled = λ _. refl;
        },
        tt,
      ),
    ))
    stands

pub stands_blocked : (state : State) (begin upto : List ℕ) → begins (takes_block upto) begin state.pieces ≡ true → Stands state
    → Stands (record state { pieces = change_at begin (λ piece. block_piece upto piece ∷ []) state.pieces })
stands_blocked state begin upto e stands =
    stands_changed state (takes_block upto) begin (λ piece. block_piece upto piece ∷ []) e
    (λ p has passes h. ((refl, has, refl), (further p p.phase refl passes h, tt)))
    stands
  where
    further : (p : Piece) (phase : Phase) → p.phase ≡ phase → takes_block upto p ≡ true → IsPlaced state p p.phase
        → IsPlaced state (block_piece upto p) (fetched_to upto p.phase)
    further p (Absent since) e passes h = subst (λ f. IsPlaced state (in_phase (fetched_to upto f) p) (fetched_to upto f)) (sym e) tt
    further p (WaitPrevious since) e passes h = subst (λ f. IsPlaced state (in_phase (fetched_to upto f) p) (fetched_to upto f)) (sym e) tt
    further p (Waiting transferred) e passes h =
        subst (λ f. IsPlaced state (in_phase (fetched_to upto f) p) (fetched_to upto f)) (sym e) (subst (IsPlaced state p) e h)
    further p Readable e passes h = subst (λ f. IsPlaced state (in_phase (fetched_to upto f) p) (fetched_to upto f)) (sym e) tt
    further p (Fetching at upto' taken in_base) e passes h =
        let here : IsFetched state p at upto' taken in_base = subst (IsPlaced state p) e h in
        let q : Piece = record { begin = p.begin; end = p.end; phase = Fetching at upto' taken in_base } in
        let same : p ≡ q = ap (λ f. in_phase f p) e in
        let tests = and_parts (key_less upto' upto) (not (key_less p.end upto)) (ap (takes_block upto) (sym same) ∙ passes) in
        subst (λ f. IsPlaced state (in_phase (fetched_to upto f) p) (fetched_to upto f)) (sym e)
        (record {
          begins = here.begins;
          in_base_first = here.in_base_first;
          taken_next = less_asym taken upto (le_less_trans taken upto' upto here.taken_next tests.0);
          ends = not-true (key_less p.end upto) tests.1;
          has_come = here.has_come;
          settled = here.settled;
        })

pub stands_split : (state : State) (begin key : List ℕ) → begins (stops_at key) begin state.pieces ≡ true → Stands state
    → Stands (record state { pieces = change_at begin (split_piece state.durable key) state.pieces })
stands_split state begin key e stands =
    stands_changed state (stops_at key) begin (split_piece state.durable key) e
    (λ p has passes h. apart p p.phase refl has passes h)
    stands
  where
    Both : Piece → List Piece → Type 0
    Both p ps = Follow p.begin p.end ps × AllByRecursion (Placed state) ps

    apart : (p : Piece) (phase : Phase) → p.phase ≡ phase → HasKey p → stops_at key p ≡ true → Placed state p → Both p (split_piece state.durable key p)
    apart p (Fetching at upto taken in_base) e has passes h =
        let here : IsFetched state p at upto taken in_base = subst (IsPlaced state p) e h in
        let q : Piece = record { begin = p.begin; end = p.end; phase = Fetching at upto taken in_base } in
        let same : p ≡ q = ap (λ f. in_phase f p) e in
        let tests = and_parts (bytes_eq upto key) (key_less upto p.end) (ap (stops_at key) (sym same) ∙ passes) in
        let is : upto ≡ key = same_key upto key tests.0 in
        let low : key_less key p.begin ≡ false =
        subst (λ k. key_less k p.begin ≡ false) is
        (le_trans p.begin in_base upto here.begins (le_trans in_base taken upto here.in_base_first here.taken_next)) in
        let high : key_less key p.end ≡ true = subst (λ k. key_less k p.end ≡ true) is tests.1 in
        cond_both (bytes_eq key p.begin) (in_phase (WaitPrevious state.durable) p ∷ [])
        (record { begin = p.begin; end = key; phase = p.phase } ∷ record { begin = key; end = p.end; phase = WaitPrevious state.durable } ∷ [])
        (Both p)
        (λ _. ((refl, has, refl), (tt, tt)))
        (λ other.
        let inside : key_less p.begin key ≡ true = above p.begin key low other in (
          (refl, inside, (refl, high, refl)),
          (
            subst (λ f. IsPlaced state (record { begin = p.begin; end = key; phase = f }) f) (sym e)
                (record {
                  begins = here.begins;
                  in_base_first = here.in_base_first;
                  taken_next = here.taken_next;
                  ends = subst (λ k. key_less k upto ≡ false) is (less_irrefl upto);
                  has_come = here.has_come;
                  settled = here.settled;
                }),
            (tt, tt),
          ),
        ))
      where
        above : (a b : List ℕ) → key_less b a ≡ false → bytes_eq b a ≡ false → key_less a b ≡ true
        above a b low other =
            elim (key_less a b) as (λ v. key_less a b ≡ v → v ≡ true) [
              | true ↦ λ _. refl
              | false ↦ λ ab.
                  let is : b ≡ a = less_connected b a low ab in
                  sym other ∙ (bytes_eq-Decides b a).1 is
            ]
            refl
    apart p (Absent since) e has passes h = absurd (true≢false (sym passes ∙ ap (λ f. stops_at key (in_phase f p)) e))
    apart p (WaitPrevious since) e has passes h = absurd (true≢false (sym passes ∙ ap (λ f. stops_at key (in_phase f p)) e))
    apart p (Waiting transferred) e has passes h = absurd (true≢false (sym passes ∙ ap (λ f. stops_at key (in_phase f p)) e))
    apart p Readable e has passes h = absurd (true≢false (sym passes ∙ ap (λ f. stops_at key (in_phase f p)) e))

-- every piece changes its phase alone
stands_by_phase : (state next : State) (change : Phase → Phase) → next.pieces ≡ by_phase change state.pieces
    → ((p : Piece) (phase : Phase) → IsPlaced state p phase → IsPlaced next (in_phase (change phase) p) (change phase))
    → Stands state → Stands next
stands_by_phase state next change e changed stands = record {
  parted = subst IsPartition (sym e) (partition-by_phase change state.pieces stands.parted);
  placed = subst (AllByRecursion (Placed next)) (sym e)
      (all_mapped (Placed state) (Placed next) (λ piece. in_phase (change piece.phase) piece) (λ p h. changed p p.phase h) state.pieces stands.placed);
}

pub stands_began : (given : Given) (state : State) (version : ℕ) → Stands state → Stands (began given state version)
stands_began given state version stands = stands_by_phase state (began given state version) rows_taken refl changed stands
  where
    changed : (p : Piece) (phase : Phase) → IsPlaced state p phase → IsPlaced (began given state version) (in_phase (rows_taken phase) p) (rows_taken phase)
    changed p (Absent since) h = tt
    changed p (WaitPrevious since) h = tt
    changed p (Waiting transferred) h = h
    changed p Readable h = tt
    changed p (Fetching at upto taken in_base) h = record {
      begins = h.begins;
      in_base_first = le_trans in_base taken upto h.in_base_first h.taken_next;
      taken_next = less_irrefl upto;
      ends = h.ends;
      has_come = h.has_come;
      settled = λ none. cc;
    }

pub stands_ended : (state : State) (flight : Opening) → Stands state → Stands (ended state flight)
stands_ended state flight stands = stands_by_phase state (ended state flight) (rows_in_base flight.version) refl changed stands
  where
    changed : (p : Piece) (phase : Phase) → IsPlaced state p phase
        → IsPlaced (ended state flight) (in_phase (rows_in_base flight.version phase) p) (rows_in_base flight.version phase)
    changed p (Absent since) h = tt
    changed p (WaitPrevious since) h = tt
    changed p (Waiting transferred) h =
        cond_both (nat_le transferred flight.version) Readable (Waiting transferred) (λ f. IsPlaced (ended state flight) (in_phase f p) f)
        (λ _. tt) (λ above. (leb-false transferred flight.version above, h.1))
    changed p Readable h = tt
    changed p (Fetching at upto taken in_base) h = record {
      begins = le_trans p.begin in_base taken h.begins h.in_base_first;
      in_base_first = less_irrefl taken;
      taken_next = h.taken_next;
      ends = h.ends;
      has_come = h.has_come;
      settled = λ _. refl;
    }

pub stands_watched : (state : State) (watches : List Watch) → Stands state → Stands (record state { watches = watches })
stands_watched state watches stands = record {
  parted = stands.parted;
  placed = all_map (Placed state) (Placed (record state { watches = watches })) (λ p h. same p p.phase h) state.pieces stands.placed;
}
  where
    same : (p : Piece) (phase : Phase) → IsPlaced state p phase → IsPlaced (record state { watches = watches }) p phase
    same p (Absent since) h = tt
    same p (WaitPrevious since) h = tt
    same p (Fetching at upto taken in_base) h = record {
      begins = h.begins;
      in_base_first = h.in_base_first;
      taken_next = h.taken_next;
      ends = h.ends;
      has_come = h.has_come;
      settled = h.settled;
    }
    same p (Waiting transferred) h = h
    same p Readable h = tt

pub stands_step : (given : Given) (state : State) (event : Event) (next : State) → IsCounted state → Stands state → step given state event ≡ Some next
    → Stands next
stands_step given state (Opened version) next counted stands e = cc
stands_step given state (Applied version) next counted stands e =
    let is = applied_is given state version (next_batch given state) next e in
    subst Stands is.3 (stands_applied state is.0 counted.durable (next_is_above given state is.0 is.1) stands)
stands_step given state (FetchStart begin at) next counted stands e =
    let is = only_if _ _ next e in
    let tests = and_parts (begins (wants_fetch state.durable) begin state.pieces) (at == state.newest) is.0 in
    subst Stands
    (ap (λ n. record state { pieces = change_at begin (λ piece. start_piece n piece ∷ []) state.pieces }) (sym (eqb-true at state.newest tests.1)) ∙ is.1)
    (stands_started state begin tests.0 stands)
stands_step given state (Block begin upto) next counted stands e =
    let is = only_if _ _ next e in subst Stands is.1 (stands_blocked state begin upto is.0 stands)
stands_step given state (Split begin key) next counted stands e =
    let is = only_if _ _ next e in subst Stands is.1 (stands_split state begin key is.0 stands)
stands_step given state (Began version) next counted stands e =
    let is = began_is given state version next e in subst Stands is.2 (stands_began given state version stands)
stands_step given state (Durable version) next counted stands e =
    let is = ended_is state version state.flight next e in subst Stands is.3 (stands_ended state is.0 stands)
stands_step given state (Watched number key value) next counted stands e =
    let is = only_if _ _ next e in subst Stands is.1 (stands_watched state _ stands)
stands_step given state (Unwatched number) next counted stands e =
    let is = only_if _ _ next e in subst Stands is.1 (stands_watched state _ stands)
stands_step given state Closed next counted stands e = let same : state ≡ next = cc in subst Stands same stands
stands_step given state Killed next counted stands e = let same : state ≡ next = cc in subst Stands same stands
