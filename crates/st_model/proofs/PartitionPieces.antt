-- What each change of the pieces does to the partition, and to the piece that has a key.
use Rattle.std.proofs.Common.{◌≡◌, ℕ, Bool, true, false, not, ◌&&◌, ◌||◌, List, [], ◌∷◌, ◌++◌, map, refl, sym, ap, subst, ◌∙◌, inl, inr, Option, Some, None}
use Rattle.std.specs.Prelude.{bytes_eq}
use Rattle.std.specs.List.{flat_map}
use Rattle.std.specs.Option.{is_some, option_and_then, option_map, option_map_or}
use Rattle.std.proofs.Math.Bool.{cond}
use Rattle.std.proofs.lemmas.Bool.{cases_Bool, cond_both, and_parts, and_from, and_left, and_right, or_from, not_from_false, both_ways, false_from_ne_true, cond-true, cond-false}
use Rattle.std.proofs.lemmas.Slice.Eq.{bytes_eq-Decides}
use Rattle.st_key.specs.Spans.{Span, key_less, within, holds, all_keys}
use Rattle.st_key.specs.KeyOrder.{less_irrefl}
use Rattle.st_mutation.specs.declared.batch.Move.{Move}
use Rattle.st_mutation.specs.declared.batch.Move.TheVariants.{Assign, Release}
use Rattle.st_model.specs.declared.piece.Piece.{Piece}
use Rattle.st_model.specs.declared.piece.Phase.{Phase}
use Rattle.st_model.specs.declared.piece.Phase.TheVariants.{Absent, WaitPrevious, Fetching, Waiting, Readable}
use Rattle.st_model.specs.Pieces.{span_of, is_readable, serves, part, phase_in, cut, cut_where, lies_in, change_within, is_absent, waits, move_piece, cut_keys, first_phase, first_pieces, piece_from, begins, change_at, in_phase, by_phase, is_whole, inject, split_piece}
use Rattle.st_model.specs.Partition.{Tiles, IsPartition, piece_at, phase_at, cuts, side, part_with, changed_with}
use Rattle.st_model.proofs.PartitionTiles.{inside, tiles-flat_map, tiles-map, holder-flat_map, holder-map, of_holder, holder_same, held, kept_above, none_below}
use Rattle.st_model.proofs.PartitionSides.{side-in, side-uncut, side-sub, uncut_in, lies_in-within, tiles-cut_keys, cut_keys-part, holds-begin, uncut-both}

-- ---- cuts

tiles-cut : (place : List ℕ) (piece : Piece) → key_less piece.begin piece.end ≡ true → Tiles span_of piece.begin piece.end (cut place piece)
tiles-cut place piece some =
    cond_both (cuts place (span_of piece))
    (part piece (record { begin = piece.begin; end = place }) ∷ part piece (record { begin = place; end = piece.end }) ∷ []) (piece ∷ [])
    (λ l. Tiles span_of piece.begin piece.end l)
    (λ cut. let ends = and_parts (key_less piece.begin place) (key_less place piece.end) cut in (refl, ends.0, (refl, ends.1, refl)))
    (λ _. (refl, some, refl))

holder-cut : (key place : List ℕ) (piece : Piece) → within (span_of piece) key ≡ true
    → piece_at (cut place piece) key ≡ Some (part_with key place piece)
holder-cut key place piece w =
    let ends = and_parts (not (key_less key piece.begin)) (key_less key piece.end) w in
    let low : Span = record { begin = piece.begin; end = place } in
    let high : Span = record { begin = place; end = piece.end } in
    let left = part piece low in
    let right = part piece high in
    elim (cases_Bool (cuts place (span_of piece))) [
      | inl cut ↦
          ap (λ l. piece_at l key) (cond-true (cuts place (span_of piece)) (left ∷ right ∷ []) (piece ∷ []) cut)
          ∙ (elim (cases_Bool (key_less key place)) [
            | inl below ↦
                cond-true (within low key) (Some left) (piece_at (right ∷ []) key)
                (and_from (not (key_less key piece.begin)) (key_less key place) ends.0 below)
                ∙ ap (λ s. Some (part piece s)) (sym (cond-true (key_less key place) low high below))
            | inr above ↦
                cond-false (within low key) (Some left) (piece_at (right ∷ []) key)
                (and_right (not (key_less key piece.begin)) (key_less key place) above)
                ∙ (cond-true (within high key) (Some right) None
                (and_from (not (key_less key place)) (key_less key piece.end) (not_from_false (key_less key place) above) ends.1)
                ∙ ap (λ s. Some (part piece s)) (sym (cond-false (key_less key place) low high above)))
          ]
          ∙ (ap (λ s. Some (part piece s)) (sym (cond-true (cuts place (span_of piece)) (cond (key_less key place) low high) (span_of piece) cut))
          ∙ ap Some (sym (cond-true (cuts place (span_of piece)) (part piece (side key place (span_of piece))) piece cut))))
      | inr uncut ↦
          ap (λ l. piece_at l key) (cond-false (cuts place (span_of piece)) (left ∷ right ∷ []) (piece ∷ []) uncut)
          ∙ (cond-true (within (span_of piece) key) (Some piece) None w
          ∙ ap Some (sym (cond-false (cuts place (span_of piece)) (part piece (side key place (span_of piece))) piece uncut)))
    ]

abbrev cut_if : (Phase → Bool) → List ℕ → Piece → List Piece
cut_if test place piece = cond (test piece.phase) (cut place piece) (piece ∷ [])

tiles-cut_if : (test : Phase → Bool) (place : List ℕ) (piece : Piece) → key_less piece.begin piece.end ≡ true
    → Tiles span_of piece.begin piece.end (cut_if test place piece)
tiles-cut_if test place piece some =
    cond_both (test piece.phase) (cut place piece) (piece ∷ []) (λ l. Tiles span_of piece.begin piece.end l)
    (λ _. tiles-cut place piece some) (λ _. (refl, some, refl))

abbrev part_if : (Phase → Bool) → (key place : List ℕ) → Piece → Piece
part_if test key place piece = cond (test piece.phase) (part_with key place piece) piece

holder-cut_if : (test : Phase → Bool) (key place : List ℕ) (piece : Piece) → within (span_of piece) key ≡ true
    → piece_at (cut_if test place piece) key ≡ Some (part_if test key place piece)
holder-cut_if test key place piece w =
    elim (cases_Bool (test piece.phase)) [
      | inl passes ↦
          ap (λ l. piece_at l key) (cond-true (test piece.phase) (cut place piece) (piece ∷ []) passes)
          ∙ (holder-cut key place piece w
          ∙ ap Some (sym (cond-true (test piece.phase) (part_with key place piece) piece passes)))
      | inr fails ↦
          ap (λ l. piece_at l key) (cond-false (test piece.phase) (cut place piece) (piece ∷ []) fails)
          ∙ (cond-true (within (span_of piece) key) (Some piece) None w
          ∙ ap Some (sym (cond-false (test piece.phase) (part_with key place piece) piece fails)))
    ]

pub partition-cut_where : (test : Phase → Bool) (place : List ℕ) (pieces : List Piece) → IsPartition pieces → IsPartition (cut_where test place pieces)
partition-cut_where test place pieces h =
    tiles-flat_map span_of span_of (cut_if test place) (tiles-cut_if test place) all_keys.begin all_keys.end pieces h

pub piece_at-cut_where : (test : Phase → Bool) (key place : List ℕ) (pieces : List Piece) → IsPartition pieces
    → piece_at (cut_where test place pieces) key ≡ option_map (part_if test key place) (piece_at pieces key)
piece_at-cut_where test key place pieces h =
    holder-flat_map span_of span_of (cut_if test place) (tiles-cut_if test place) all_keys.begin all_keys.end pieces key h
    ∙ of_holder span_of key (λ piece. piece_at (cut_if test place piece) key) (part_if test key place)
    (λ piece _ w. holder-cut_if test key place piece w) all_keys.begin all_keys.end pieces h

-- ---- changes within a span

abbrev change_if : Span → (Phase → Bool) → (Phase → Phase) → Piece → Piece
change_if span test to piece = cond (test piece.phase && lies_in (span_of piece) span) (record piece { phase = to piece.phase }) piece

span-change_if : (span : Span) (test : Phase → Bool) (to : Phase → Phase) (piece : Piece) → span_of (change_if span test to piece) ≡ span_of piece
span-change_if span test to piece =
    cond_both (test piece.phase && lies_in (span_of piece) span) (record piece { phase = to piece.phase }) piece
    (λ p. span_of p ≡ span_of piece) (λ _. refl) (λ _. refl)

pub partition-change_within : (span : Span) (test : Phase → Bool) (to : Phase → Phase) (pieces : List Piece)
    → IsPartition pieces → IsPartition (change_within span test to pieces)
partition-change_within span test to pieces h =
    tiles-map span_of span_of (change_if span test to) (span-change_if span test to) all_keys.begin all_keys.end
    (cut_where test span.end (cut_where test span.begin pieces))
    (partition-cut_where test span.end (cut_where test span.begin pieces) (partition-cut_where test span.begin pieces h))

-- a part that the test passes or fails as it does the whole
abbrev pub IsSteady : (Phase → Bool) → Type 0
IsSteady test = (span : Span) (phase : Phase) → test (phase_in span phase) ≡ test phase

steady-part_with : (test : Phase → Bool) → IsSteady test → (key place : List ℕ) (piece : Piece)
    → test (part_with key place piece).phase ≡ test piece.phase
steady-part_with test steady key place piece =
    cond_both (cuts place (span_of piece)) (part piece (side key place (span_of piece))) piece
    (λ p. test p.phase ≡ test piece.phase) (λ _. steady (side key place (span_of piece)) piece.phase) (λ _. refl)

span-part_with : (key place : List ℕ) (piece : Piece) → span_of (part_with key place piece) ≡ side key place (span_of piece)
span-part_with key place piece =
    elim (cases_Bool (cuts place (span_of piece))) [
      | inl cut ↦ ap span_of (cond-true (cuts place (span_of piece)) (part piece (side key place (span_of piece))) piece cut)
      | inr uncut ↦
          ap span_of (cond-false (cuts place (span_of piece)) (part piece (side key place (span_of piece))) piece uncut)
          ∙ sym (cond-false (cuts place (span_of piece))
          (cond (key_less key place) (record { begin = piece.begin; end = place }) (record { begin = place; end = piece.end }))
          (span_of piece) uncut)
    ]

changed_as : (key : List ℕ) (span : Span) (test : Phase → Bool) (to : Phase → Phase) → IsSteady test → (piece : Piece)
    → within (span_of piece) key ≡ true
    → change_if span test to (part_if test key span.end (part_if test key span.begin piece)) ≡ changed_with key span test to piece
changed_as key span test to steady piece w =
    elim (cases_Bool (test piece.phase)) [ inl passes ↦ when_passes passes | inr fails ↦ when_fails fails ]
  where
    first : Piece
    first = part_with key span.begin piece

    inner : Piece
    inner = part_with key span.end (part_with key span.begin piece)

    when_fails : test piece.phase ≡ false
        → change_if span test to (part_if test key span.end (part_if test key span.begin piece)) ≡ changed_with key span test to piece
    when_fails fails =
        ap (λ p. change_if span test to (part_if test key span.end p)) (cond-false (test piece.phase) (part_with key span.begin piece) piece fails)
        ∙ (ap (change_if span test to) (cond-false (test piece.phase) (part_with key span.end piece) piece fails)
        ∙ (cond-false (test piece.phase && lies_in (span_of piece) span) (record piece { phase = to piece.phase }) piece
        (and_left (test piece.phase) (lies_in (span_of piece) span) fails)
        ∙ sym (cond-false (test piece.phase)
        (cond (within span key) (in_phase (to (part_with key span.end (part_with key span.begin piece)).phase) (part_with key span.end (part_with key span.begin piece))) (part_with key span.end (part_with key span.begin piece)))
        piece fails)))

    when_passes : test piece.phase ≡ true
        → change_if span test to (part_if test key span.end (part_if test key span.begin piece)) ≡ changed_with key span test to piece
    when_passes passes =
        let f : Piece = part_with key span.begin piece in
        let q : Piece = part_with key span.end f in
        let f_passes : test f.phase ≡ true = steady-part_with test steady key span.begin piece ∙ passes in
        let q_passes : test q.phase ≡ true = steady-part_with test steady key span.end f ∙ f_passes in
        let f_span : span_of f ≡ side key span.begin (span_of piece) = span-part_with key span.begin piece in
        let q_span : span_of q ≡ side key span.end (span_of f) = span-part_with key span.end f in
        let f_has : within (span_of f) key ≡ true = ap (λ s. within s key) f_span ∙ side-in key span.begin (span_of piece) w in
        let q_has : within (span_of q) key ≡ true = ap (λ s. within s key) q_span ∙ side-in key span.end (span_of f) f_has in
        let f_uncut : cuts span.begin (span_of f) ≡ false = ap (cuts span.begin) f_span ∙ side-uncut key span.begin (span_of piece) in
        let low : cuts span.begin (span_of q) ≡ false =
        ap (cuts span.begin) q_span ∙ uncut_in span.begin (side key span.end (span_of f)) (span_of f) (side-sub key span.end (span_of f)) f_uncut in
        let high : cuts span.end (span_of q) ≡ false = ap (cuts span.end) q_span ∙ side-uncut key span.end (span_of f) in
        let there : (test q.phase && lies_in (span_of q) span) ≡ within span key =
        ap (λ b. b && lies_in (span_of q) span) q_passes ∙ lies_in-within (span_of q) span key q_has low high in
        ap (λ p. change_if span test to (part_if test key span.end p)) (cond-true (test piece.phase) f piece passes)
        ∙ (ap (change_if span test to) (cond-true (test f.phase) q f f_passes)
        ∙ (ap (λ b. cond b (record q { phase = to q.phase }) q) there
        ∙ sym (cond-true (test piece.phase) (cond (within span key) (in_phase (to q.phase) q) q) piece passes)))

pub piece_at-change_within : (key : List ℕ) (span : Span) (test : Phase → Bool) (to : Phase → Phase) → IsSteady test
    → (pieces : List Piece) → IsPartition pieces
    → piece_at (change_within span test to pieces) key ≡ option_map (changed_with key span test to) (piece_at pieces key)
piece_at-change_within key span test to steady pieces h =
    holder-map span_of span_of (change_if span test to) (span-change_if span test to)
    (cut_where test span.end (cut_where test span.begin pieces)) key
    ∙ (ap (option_map (change_if span test to))
    (piece_at-cut_where test key span.end (cut_where test span.begin pieces) (partition-cut_where test span.begin pieces h))
    ∙ (ap (λ o. option_map (change_if span test to) (option_map (part_if test key span.end) o)) (piece_at-cut_where test key span.begin pieces h)
    ∙ (thrice (piece_at pieces key)
    ∙ of_holder span_of key
    (λ piece. Some (change_if span test to (part_if test key span.end (part_if test key span.begin piece)))) (changed_with key span test to)
    (λ piece _ w. ap Some (changed_as key span test to steady piece w)) all_keys.begin all_keys.end pieces h)))
  where
    thrice : (o : Option Piece)
        → option_map (change_if span test to) (option_map (part_if test key span.end) (option_map (part_if test key span.begin) o))
        ≡ option_and_then (λ piece. Some (change_if span test to (part_if test key span.end (part_if test key span.begin piece)))) o
    thrice None = refl
    thrice (Some piece) = refl

-- ---- moves

pub steady-absent : IsSteady is_absent
steady-absent span (Absent since) = refl
steady-absent span (WaitPrevious since) = refl
steady-absent span (Fetching at upto taken in_base) = refl
steady-absent span (Waiting transferred) = refl
steady-absent span Readable = refl

pub steady-present : IsSteady (λ phase. not (is_absent phase))
steady-present span phase = ap not (steady-absent span phase)

pub partition-move_piece : (version : ℕ) (pieces : List Piece) (move : Move) → IsPartition pieces → IsPartition (move_piece version pieces move)
partition-move_piece version pieces (Assign span) h = partition-change_within span is_absent waits pieces h
partition-move_piece version pieces (Release span) h =
    partition-change_within span (λ phase. not (is_absent phase)) (λ phase. Absent version) pieces h

-- ---- changes of phases alone

pub partition-by_phase : (change : Phase → Phase) (pieces : List Piece) → IsPartition pieces → IsPartition (by_phase change pieces)
partition-by_phase change pieces h =
    tiles-map span_of span_of (λ piece. in_phase (change piece.phase) piece) (λ piece. refl) all_keys.begin all_keys.end pieces h

pub piece_at-by_phase : (change : Phase → Phase) (pieces : List Piece) (key : List ℕ)
    → piece_at (by_phase change pieces) key ≡ option_map (λ piece. in_phase (change piece.phase) piece) (piece_at pieces key)
piece_at-by_phase change pieces key =
    holder-map span_of span_of (λ piece. in_phase (change piece.phase) piece) (λ piece. refl) pieces key

span-inject : (version : ℕ) (piece : Piece) → span_of (inject version piece) ≡ span_of piece
span-inject version piece =
    cond_both (is_whole piece) (in_phase (Waiting version) piece) piece (λ p. span_of p ≡ span_of piece) (λ _. refl) (λ _. refl)

pub partition-inject : (version : ℕ) (pieces : List Piece) → IsPartition pieces → IsPartition (map (inject version) pieces)
partition-inject version pieces h =
    tiles-map span_of span_of (inject version) (span-inject version) all_keys.begin all_keys.end pieces h

pub piece_at-inject : (version : ℕ) (pieces : List Piece) (key : List ℕ)
    → piece_at (map (inject version) pieces) key ≡ option_map (inject version) (piece_at pieces key)
piece_at-inject version pieces key = holder-map span_of span_of (inject version) (span-inject version) pieces key

-- ---- openings

pub partition-first_pieces : (version : ℕ) (available assigned : List Span) → IsPartition (first_pieces version available assigned)
partition-first_pieces version available assigned =
    tiles-map (λ (s : Span). s) span_of
    (λ span. record { begin = span.begin; end = span.end; phase = first_phase version (holds available span.begin) (holds assigned span.begin) })
    (λ span. refl) all_keys.begin all_keys.end (cut_keys (available ++ assigned)) (tiles-cut_keys (available ++ assigned))

pub phase_at-first_pieces : (version : ℕ) (available assigned : List Span) (key : List ℕ) → key_less key all_keys.end ≡ true
    → phase_at (first_pieces version available assigned) key ≡ Some (first_phase version (holds available key) (holds assigned key))
phase_at-first_pieces version available assigned key below =
    let mine = cut_keys-part (available ++ assigned) key below in
    let uncut = uncut-both available assigned mine.0 mine.1.uncut in
    ap (option_map (λ (piece : Piece). piece.phase))
    (holder-map (λ (s : Span). s) span_of
    (λ span. record { begin = span.begin; end = span.end; phase = first_phase version (holds available span.begin) (holds assigned span.begin) })
    (λ span. refl) (cut_keys (available ++ assigned)) key
    ∙ ap (option_map (λ (span : Span). record { begin = span.begin; end = span.end; phase = first_phase version (holds available span.begin) (holds assigned span.begin) }))
    mine.1.found)
    ∙ (ap (λ b. Some (first_phase version b (holds assigned mine.0.begin))) (holds-begin available mine.0 key mine.1.has uncut.0)
    ∙ ap (λ b. Some (first_phase version (holds available key) b)) (holds-begin assigned mine.0 key mine.1.has uncut.1))

-- ---- a change of the piece that begins at a key

pub begins_apart : (begin : List ℕ) (piece : Piece) → key_less piece.begin piece.end ≡ true → within (span_of piece) begin ≡ false
    → bytes_eq piece.begin begin ≡ false
begins_apart begin piece some out =
    false_from_ne_true (bytes_eq piece.begin begin) (λ e.
    both_ways (within (span_of piece) begin) out
    (subst (λ k. within (span_of piece) k ≡ true) ((bytes_eq-Decides piece.begin begin).0 e)
    (inside (span_of piece) piece.begin (less_irrefl piece.begin) some)))

abbrev change_there : List ℕ → (Piece → List Piece) → Piece → List Piece
change_there begin change piece = cond (bytes_eq piece.begin begin) (change piece) (piece ∷ [])

abbrev change_tested : List ℕ → (Piece → Bool) → (Piece → List Piece) → Piece → List Piece
change_tested begin test change piece = cond (bytes_eq piece.begin begin && test piece) (change piece) (piece ∷ [])

pub apart_there : (begin : List ℕ) (change : Piece → List Piece) (piece : Piece) → key_less piece.begin piece.end ≡ true
    → within (span_of piece) begin ≡ false → change_there begin change piece ≡ piece ∷ []
apart_there begin change piece some out =
    cond-false (bytes_eq piece.begin begin) (change piece) (piece ∷ []) (begins_apart begin piece some out)

apart_tested : (begin : List ℕ) (test : Piece → Bool) (change : Piece → List Piece) (piece : Piece)
    → key_less piece.begin piece.end ≡ true → within (span_of piece) begin ≡ false → change_tested begin test change piece ≡ piece ∷ []
apart_tested begin test change piece some out =
    cond-false (bytes_eq piece.begin begin && test piece) (change piece) (piece ∷ [])
    (and_left (bytes_eq piece.begin begin) (test piece) (begins_apart begin piece some out))

-- where the piece passes the test, the change is that of pieces that pass it
change_at-tested : (begin : List ℕ) (test : Piece → Bool) (change : Piece → List Piece) (low high : List ℕ) (pieces : List Piece)
    → Tiles span_of low high pieces → begins test begin pieces ≡ true
    → change_at begin change pieces ≡ flat_map (change_tested begin test change) pieces
change_at-tested begin test change low high [] h due = cc
change_at-tested begin test change low high (x ∷ xs) h due =
    elim (cases_Bool (bytes_eq x.begin begin)) [
      | inl here ↦
          let same : x.begin ≡ begin = (bytes_eq-Decides x.begin begin).0 here in
          let past : key_less begin x.end ≡ true = subst (λ k. key_less k x.end ≡ true) same h.1 in
          let passes : test x ≡ true =
          sym (ap (λ o. option_map_or test o false) (cond-true (bytes_eq x.begin begin) (Some x) (piece_from begin xs) here)) ∙ due in
          let one : change_there begin change x ≡ change_tested begin test change x =
          cond-true (bytes_eq x.begin begin) (change x) (x ∷ []) here
          ∙ sym (cond-true (bytes_eq x.begin begin && test x) (change x) (x ∷ []) (and_from (bytes_eq x.begin begin) (test x) here passes)) in
          ap (λ l. l ++ flat_map (change_there begin change) xs) one
          ∙ ap (λ l. change_tested begin test change x ++ l)
          (kept_above span_of begin (change_there begin change) (apart_there begin change) x.end high xs h.2 past
          ∙ sym (kept_above span_of begin (change_tested begin test change) (apart_tested begin test change) x.end high xs h.2 past))
      | inr apart ↦
          let rest : begins test begin xs ≡ true =
          sym (ap (λ o. option_map_or test o false) (cond-false (bytes_eq x.begin begin) (Some x) (piece_from begin xs) apart)) ∙ due in
          let one : change_there begin change x ≡ change_tested begin test change x =
          cond-false (bytes_eq x.begin begin) (change x) (x ∷ []) apart
          ∙ sym (cond-false (bytes_eq x.begin begin && test x) (change x) (x ∷ []) (and_left (bytes_eq x.begin begin) (test x) apart)) in
          ap (λ l. l ++ flat_map (change_there begin change) xs) one
          ∙ ap (λ l. change_tested begin test change x ++ l) (change_at-tested begin test change x.end high xs h.2 rest)
    ]

abbrev pub KeepsTiles : (Piece → Bool) → (Piece → List Piece) → Type 0
KeepsTiles test change =
    (piece : Piece) → key_less piece.begin piece.end ≡ true → test piece ≡ true → Tiles span_of piece.begin piece.end (change piece)

tiles-tested : (begin : List ℕ) (test : Piece → Bool) (change : Piece → List Piece) → KeepsTiles test change → (piece : Piece)
    → key_less piece.begin piece.end ≡ true → Tiles span_of piece.begin piece.end (change_tested begin test change piece)
tiles-tested begin test change keeps piece some =
    cond_both (bytes_eq piece.begin begin && test piece) (change piece) (piece ∷ []) (λ l. Tiles span_of piece.begin piece.end l)
    (λ e. keeps piece some (and_parts (bytes_eq piece.begin begin) (test piece) e).1) (λ _. (refl, some, refl))

pub partition-change_at : (begin : List ℕ) (test : Piece → Bool) (change : Piece → List Piece) (pieces : List Piece) → KeepsTiles test change
    → IsPartition pieces → begins test begin pieces ≡ true → IsPartition (change_at begin change pieces)
partition-change_at begin test change pieces keeps h due =
    subst IsPartition (sym (change_at-tested begin test change all_keys.begin all_keys.end pieces h due))
    (tiles-flat_map span_of span_of (change_tested begin test change) (tiles-tested begin test change keeps)
    all_keys.begin all_keys.end pieces h)

pub piece_at-change_at : (begin key : List ℕ) (test : Piece → Bool) (change : Piece → List Piece) (pieces : List Piece) → KeepsTiles test change
    → IsPartition pieces → begins test begin pieces ≡ true
    → piece_at (change_at begin change pieces) key
    ≡ option_and_then (λ piece. cond (bytes_eq piece.begin begin && test piece) (piece_at (change piece) key) (Some piece)) (piece_at pieces key)
piece_at-change_at begin key test change pieces keeps h due =
    ap (λ l. piece_at l key) (change_at-tested begin test change all_keys.begin all_keys.end pieces h due)
    ∙ (holder-flat_map span_of span_of (change_tested begin test change) (tiles-tested begin test change keeps)
    all_keys.begin all_keys.end pieces key h
    ∙ holder_same span_of key (λ piece. piece_at (change_tested begin test change piece) key)
    (λ piece. cond (bytes_eq piece.begin begin && test piece) (piece_at (change piece) key) (Some piece)) each
    all_keys.begin all_keys.end pieces h)
  where
    each : (piece : Piece) → key_less piece.begin piece.end ≡ true → within (span_of piece) key ≡ true
        → piece_at (change_tested begin test change piece) key
        ≡ cond (bytes_eq piece.begin begin && test piece) (piece_at (change piece) key) (Some piece)
    each piece some w =
        elim (cases_Bool (bytes_eq piece.begin begin && test piece)) [
          | inl e ↦
              ap (λ l. piece_at l key) (cond-true (bytes_eq piece.begin begin && test piece) (change piece) (piece ∷ []) e)
              ∙ sym (cond-true (bytes_eq piece.begin begin && test piece) (piece_at (change piece) key) (Some piece) e)
          | inr e ↦
              ap (λ l. piece_at l key) (cond-false (bytes_eq piece.begin begin && test piece) (change piece) (piece ∷ []) e)
              ∙ (cond-true (within (span_of piece) key) (Some piece) None w
              ∙ sym (cond-false (bytes_eq piece.begin begin && test piece) (piece_at (change piece) key) (Some piece) e))
        ]

-- a piece that keeps its span with another phase
pub keeps-in_phase : (test : Piece → Bool) (phase : Piece → Phase) → KeepsTiles test (λ piece. in_phase (phase piece) piece ∷ [])
keeps-in_phase test phase piece some passes = (refl, some, refl)

-- a split at a place where the piece is cut, or at its begin
pub keeps-split : (test : Piece → Bool) (durable : ℕ) (place : List ℕ)
    → ((piece : Piece) → test piece ≡ true → bytes_eq place piece.begin ≡ false → cuts place (span_of piece) ≡ true)
    → KeepsTiles test (split_piece durable place)
keeps-split test durable place inner piece some passes =
    cond_both (bytes_eq place piece.begin) (in_phase (WaitPrevious durable) piece ∷ [])
    (record { begin = piece.begin; end = place; phase = piece.phase } ∷ record { begin = place; end = piece.end; phase = WaitPrevious durable } ∷ [])
    (λ l. Tiles span_of piece.begin piece.end l)
    (λ _. (refl, some, refl))
    (λ e. let ends = and_parts (key_less piece.begin place) (key_less place piece.end) (inner piece passes e) in (refl, ends.0, (refl, ends.1, refl)))

-- ---- keys that are served

none_serves : (pieces : List Piece) (key : List ℕ) → piece_at pieces key ≡ None → serves pieces key ≡ false
none_serves [] key h = refl
none_serves (x ∷ xs) key h =
    elim (cases_Bool (within (span_of x) key)) [
      | inl e ↦ let found : Some x ≡ None = sym (cond-true (within (span_of x) key) (Some x) (piece_at xs key) e) ∙ h in cc
      | inr e ↦
          or_from (is_readable x.phase && within (span_of x) key) (serves xs key)
          (and_right (is_readable x.phase) (within (span_of x) key) e)
          (none_serves xs key (sym (cond-false (within (span_of x) key) (Some x) (piece_at xs key) e) ∙ h))
    ]

and_true : (b : Bool) → (b && true) ≡ b
and_true true = refl
and_true false = refl

or_false : (b : Bool) → (b || false) ≡ b
or_false true = refl
or_false false = refl

tiles-serves : (low high : List ℕ) (pieces : List Piece) (key : List ℕ) → Tiles span_of low high pieces
    → serves pieces key ≡ option_map_or (λ piece. is_readable piece.phase) (piece_at pieces key) false
tiles-serves low high [] key h = refl
tiles-serves low high (x ∷ xs) key h =
    elim (cases_Bool (within (span_of x) key)) [
      | inl e ↦
          let ends = and_parts (not (key_less key x.begin)) (key_less key x.end) e in
          ap (λ b. (is_readable x.phase && b) || serves xs key) e
          ∙ (ap (λ b. (is_readable x.phase && true) || b) (none_serves xs key (none_below span_of x.end high xs key h.2 ends.1))
          ∙ (or_false (is_readable x.phase && true)
          ∙ (and_true (is_readable x.phase)
          ∙ sym (ap (λ o. option_map_or (λ (piece : Piece). is_readable piece.phase) o false)
          (cond-true (within (span_of x) key) (Some x) (piece_at xs key) e)))))
      | inr e ↦
          ap (λ b. b || serves xs key) (and_right (is_readable x.phase) (within (span_of x) key) e)
          ∙ (tiles-serves x.end high xs key h.2
          ∙ sym (ap (λ o. option_map_or (λ (piece : Piece). is_readable piece.phase) o false)
          (cond-false (within (span_of x) key) (Some x) (piece_at xs key) e)))
    ]

pub partition-serves : (pieces : List Piece) (key : List ℕ) → IsPartition pieces
    → serves pieces key ≡ option_map_or (λ piece. is_readable piece.phase) (piece_at pieces key) false
partition-serves pieces key h = tiles-serves all_keys.begin all_keys.end pieces key h

pub partition-held : (pieces : List Piece) (key : List ℕ) → IsPartition pieces → key_less key all_keys.end ≡ true
    → is_some (piece_at pieces key) ≡ true
partition-held pieces key h below = held span_of all_keys.begin all_keys.end pieces key h (none_less key) below
  where
    none_less : (k : List ℕ) → key_less k [] ≡ false
    none_less [] = refl
    none_less (x ∷ xs) = refl
