-- What moves make of the phase at a key: move by move the key is assigned just where its piece isn't absent, and one that is
-- dropped is gone since the batch.
use Rattle.std.proofs.Common.{◌≡◌, ℕ, Bool, true, false, not, ◌&&◌, ◌||◌, List, [], ◌∷◌, fold, Option, Some, None, MatchOption, refl, sym, ap, subst, ◌∙◌}
use Rattle.std.proofs.lemmas.Bool.{cond_both, and_parts, and_from, and_left, and_right, or_from, or_left, or_right, not-true}
use Rattle.std.specs.List.{AllByRecursion}
use Rattle.st_key.specs.KeyOrder.{less_trans}
use Rattle.st_key.specs.Parts.{least}
use Rattle.st_key.specs.Spans.{Span, key_less, within, holds}
use Rattle.st_mutation.specs.declared.batch.Move.{Move}
use Rattle.st_mutation.specs.declared.batch.Move.TheVariants.{Assign, Release}
use Rattle.st_model.specs.declared.piece.Piece.{Piece}
use Rattle.st_model.specs.declared.piece.Phase.{Phase}
use Rattle.st_model.specs.declared.piece.Phase.TheVariants.{Absent, WaitPrevious, Fetching, Waiting, Readable}
use Rattle.st_model.specs.Facts.{AreInStep, IsMoved, drops, gone}
use Rattle.st_model.specs.Partition.{IsPartition, piece_at, phase_at}
use Rattle.st_model.specs.Pieces.{nearest, phase_in, is_absent, waits, move_piece}
use Rattle.st_model.specs.State.{move_span}
use Rattle.st_model.proofs.Bits.{or_false, holds-assigned, holds-released}
use Rattle.st_model.proofs.Cuts.{le_trans, all_both, HoldsOfParts, found, of_phase, phases_here}
use Rattle.st_model.proofs.Keeping.{Inside, in_part, absent_parts, within_move}
use Rattle.st_model.proofs.Lists.{all_map}
use Rattle.st_model.proofs.PartitionPieces.{partition-held}
use Rattle.st_model.proofs.Placing.{parted_moves}

-- ---- what is assigned, and what is dropped

-- what isn't absent is assigned already, or the key lies outside
assigned_same : (absent held inside : Bool) → held ≡ not absent → (absent ≡ true → inside ≡ false) → (held || inside) ≡ held
assigned_same true held inside e out = or_from held inside e (out refl) ∙ sym e
assigned_same false held inside e out = or_left held inside e ∙ sym e

-- where an absent piece is released, or the key lies outside, nothing is dropped
released_none : (absent held inside : Bool) → held ≡ not absent → (not absent ≡ true → inside ≡ false) → (held && inside) ≡ false
released_none true held inside e out = and_left held inside e
released_none false held inside e out = and_right held inside (out refl)

-- and what is assigned stays
released_same : (held inside : Bool) → (held && inside) ≡ false → (held && not inside) ≡ held
released_same true true none = sym none
released_same true false none = refl
released_same false inside none = refl

-- ---- pieces and assigned keys go in step

abbrev pub InStep : List Span → Piece → Type 0
InStep spans piece = (key : List ℕ) → Inside piece key → holds spans key ≡ not (is_absent piece.phase)

step_parts : (spans : List Span) → HoldsOfParts (InStep spans)
step_parts spans p span low high has h key inside =
    h key (in_part p span key low high inside) ∙ ap not (sym (absent_parts span p.phase))

pub step_move : (version : ℕ) (spans : List Span) (ps : List Piece) (move : Move) → AreInStep spans ps
    → AreInStep (move_span spans move) (move_piece version ps move)
step_move version spans ps (Assign r) all =
    within_move (InStep spans) (InStep (move_span spans (Assign r))) is_absent waits r (step_parts spans) absent_parts
    (λ p h passes in_span key inside.
    holds-assigned spans r key ∙ or_right (holds spans key) (within r key) (in_span key inside) ∙ waits_now p.phase)
    (λ p h out key inside.
    holds-assigned spans r key ∙ assigned_same (is_absent p.phase) (holds spans key) (within r key) (h key inside) (out key inside) ∙ h key inside)
    ps all
  where
    waits_now : (phase : Phase) → true ≡ not (is_absent (waits phase))
    waits_now (Absent since) = refl
    waits_now (WaitPrevious since) = refl
    waits_now (Fetching at upto taken in_base) = refl
    waits_now (Waiting transferred) = refl
    waits_now Readable = refl
step_move version spans ps (Release r) all =
    within_move (InStep spans) (InStep (move_span spans (Release r))) (λ phase. not (is_absent phase)) (λ phase. Absent version) r
    (step_parts spans) (λ span phase. ap not (absent_parts span phase))
    (λ p h passes in_span key inside.
    holds-released spans r key ∙ and_right (holds spans key) (not (within r key)) (ap not (in_span key inside)))
    (λ p h out key inside.
    holds-released spans r key
    ∙ released_same (holds spans key) (within r key)
    (released_none (is_absent p.phase) (holds spans key) (within r key) (h key inside) (out key inside))
    ∙ h key inside)
    ps all

-- ---- a part of a piece

below_nearest : (span : Span) (key end : List ℕ) → within span key ≡ true → key_less key (nearest span end) ≡ key_less key end
below_nearest span key end inside =
    let sides = and_parts (not (key_less key span.begin)) (key_less key span.end) inside in
    let low : key_less key span.begin ≡ false = not-true (key_less key span.begin) sides.0 in
    cond_both (key_less span.begin (least end span.end)) (least end span.end) span.begin (λ n. key_less key n ≡ key_less key (least end span.end))
    (λ _. refl) (λ under. low ∙ sym (le_trans (least end span.end) span.begin key under low))
    ∙ cond_both (key_less span.end end) span.end end (λ n. key_less key n ≡ key_less key end)
    (λ above. sides.1 ∙ sym (less_trans key span.end end sides.1 above)) (λ _. refl)

gone_part : (span : Span) (since : ℕ) (held : Bool) → phase_in span (gone since held) ≡ gone since held
gone_part span since true = refl
gone_part span since false = refl

moved_part : (version : ℕ) (dropped held : Bool) (key : List ℕ) (span : Span) (before after : Phase) → within span key ≡ true
    → IsMoved version dropped held key before after → IsMoved version dropped held key before (phase_in span after)
moved_part version true held key span before after inside h = ap (phase_in span) h ∙ gone_part span version held
moved_part version false held key span (Absent since) after inside h = ap (phase_in span) h ∙ gone_part span since held
moved_part version false held key span (WaitPrevious since) after inside h = ap (phase_in span) h
moved_part version false held key span (Fetching at upto taken in_base) after inside h = record {
  upto_here = nearest span h.upto_here;
  taken_here = nearest span h.taken_here;
  in_base_here = nearest span h.in_base_here;
  is = ap (phase_in span) h.is;
  is_fetched = below_nearest span key h.upto_here inside ∙ h.is_fetched;
  is_taken = below_nearest span key h.taken_here inside ∙ h.is_taken;
  is_in_base = below_nearest span key h.in_base_here inside ∙ h.is_in_base;
}
moved_part version false held key span (Waiting transferred) after inside h = ap (phase_in span) h
moved_part version false held key span Readable after inside h = ap (phase_in span) h

-- ---- a piece that is assigned

gone_waits : (since : ℕ) (held : Bool) → waits (gone since held) ≡ WaitPrevious since
gone_waits since true = refl
gone_waits since false = refl

moved_waits : (version : ℕ) (dropped held : Bool) (key : List ℕ) (before after : Phase)
    → IsMoved version dropped held key before after → IsMoved version dropped true key before (waits after)
moved_waits version true held key before after h = ap waits h ∙ gone_waits version held
moved_waits version false held key (Absent since) after h = ap waits h ∙ gone_waits since held
moved_waits version false held key (WaitPrevious since) after h = ap waits h
moved_waits version false held key (Fetching at upto taken in_base) after h = record {
  upto_here = h.upto_here;
  taken_here = h.taken_here;
  in_base_here = h.in_base_here;
  is = ap waits h.is;
  is_fetched = h.is_fetched;
  is_taken = h.is_taken;
  is_in_base = h.is_in_base;
}
moved_waits version false held key (Waiting transferred) after h = ap waits h
moved_waits version false held key Readable after h = ap waits h

-- ---- one move

match_map : {A : Type 0} (P Q : A → Type 0) (o : Option A) → ((x : A) → P x → Q x) → MatchOption o ⊥ P → MatchOption o ⊥ Q
match_map P Q None f h = h
match_map P Q (Some x) f h = f x h

-- what the moves up to here made of the phase at each key of a piece, from that which it had before them all
abbrev pub Moved : ℕ → (List ℕ → Option Phase) → List Span → (List ℕ → Bool) → Piece → Type 0
Moved version first spans dropped piece =
    (key : List ℕ) → Inside piece key → MatchOption (first key) ⊥ (λ before. IsMoved version (dropped key) (holds spans key) key before piece.phase)

abbrev Both : ℕ → (List ℕ → Option Phase) → List Span → (List ℕ → Bool) → Piece → Type 0
Both version first spans dropped piece = InStep spans piece × Moved version first spans dropped piece

both_parts : (version : ℕ) (first : List ℕ → Option Phase) (spans : List Span) (dropped : List ℕ → Bool) → HoldsOfParts (Both version first spans dropped)
both_parts version first spans dropped p span low high has h = (
  step_parts spans p span low high has h.0,
  λ key inside. match_map (λ before. IsMoved version (dropped key) (holds spans key) key before p.phase)
      (λ before. IsMoved version (dropped key) (holds spans key) key before (phase_in span p.phase)) (first key)
      (λ before moved. moved_part version (dropped key) (holds spans key) key span before p.phase inside moved)
      (h.1 key (in_part p span key low high inside)),
)

-- a key that isn't moved
moved_same : (version : ℕ) (first : Option Phase) (dropped dropped' held held' : Bool) (key : List ℕ) (phase : Phase) → dropped' ≡ dropped → held' ≡ held
    → MatchOption first ⊥ (λ before. IsMoved version dropped held key before phase)
    → MatchOption first ⊥ (λ before. IsMoved version dropped' held' key before phase)
moved_same version first dropped dropped' held held' key phase d e h =
    subst (λ d. MatchOption first ⊥ (λ before. IsMoved version d held' key before phase)) (sym d)
    (subst (λ e. MatchOption first ⊥ (λ before. IsMoved version dropped e key before phase)) (sym e) h)

assign_moved : (version : ℕ) (first : List ℕ → Option Phase) (spans : List Span) (dropped : List ℕ → Bool) (r : Span) (ps : List Piece)
    → AllByRecursion (Both version first spans dropped) ps
    → AllByRecursion (Moved version first (move_span spans (Assign r)) dropped) (move_piece version ps (Assign r))
assign_moved version first spans dropped r ps all =
    within_move (Both version first spans dropped) (Moved version first (move_span spans (Assign r)) dropped) is_absent waits r
    (both_parts version first spans dropped) absent_parts
    (λ p h passes in_span key inside.
    moved_same version (first key) (dropped key) (dropped key) true (holds (move_span spans (Assign r)) key) key (waits p.phase) refl
    (holds-assigned spans r key ∙ or_right (holds spans key) (within r key) (in_span key inside))
    (match_map (λ before. IsMoved version (dropped key) (holds spans key) key before p.phase)
    (λ before. IsMoved version (dropped key) true key before (waits p.phase)) (first key)
    (λ before moved. moved_waits version (dropped key) (holds spans key) key before p.phase moved) (h.1 key inside)))
    (λ p h out key inside.
    moved_same version (first key) (dropped key) (dropped key) (holds spans key) (holds (move_span spans (Assign r)) key) key p.phase refl
    (holds-assigned spans r key ∙ assigned_same (is_absent p.phase) (holds spans key) (within r key) (h.0 key inside) (out key inside))
    (h.1 key inside))
    ps all

-- the moves have dropped the key so far, or this one drops it
abbrev drops_too : List Span → (List ℕ → Bool) → Span → List ℕ → Bool
drops_too spans dropped r key = dropped key || (holds spans key && within r key)

release_moved : (version : ℕ) (first : List ℕ → Option Phase) (spans : List Span) (dropped : List ℕ → Bool) (r : Span) (ps : List Piece)
    → AllByRecursion (Both version first spans dropped) ps
    → AllByRecursion (Moved version first (move_span spans (Release r)) (drops_too spans dropped r)) (move_piece version ps (Release r))
release_moved version first spans dropped r ps all =
    within_move (Both version first spans dropped) (Moved version first (move_span spans (Release r)) (drops_too spans dropped r))
    (λ phase. not (is_absent phase)) (λ phase. Absent version) r
    (both_parts version first spans dropped) (λ span phase. ap not (absent_parts span phase))
    (λ p h passes in_span key inside.
    moved_same version (first key) true (drops_too spans dropped r key) false (holds (move_span spans (Release r)) key) key (Absent version)
    (or_right (dropped key) (holds spans key && within r key)
    (and_from (holds spans key) (within r key) (h.0 key inside ∙ passes) (in_span key inside)))
    (holds-released spans r key ∙ and_right (holds spans key) (not (within r key)) (ap not (in_span key inside)))
    (match_map (λ before. IsMoved version (dropped key) (holds spans key) key before p.phase)
    (λ before. IsMoved version true false key before (Absent version)) (first key) (λ before moved. refl) (h.1 key inside)))
    (λ p h out key inside.
    let none = released_none (is_absent p.phase) (holds spans key) (within r key) (h.0 key inside) (out key inside) in
    moved_same version (first key) (dropped key) (drops_too spans dropped r key) (holds spans key) (holds (move_span spans (Release r)) key) key p.phase
    (ap (λ b. dropped key || b) none ∙ or_false (dropped key))
    (holds-released spans r key ∙ released_same (holds spans key) (within r key) none)
    (h.1 key inside))
    ps all

-- ---- the moves of a batch

or_assoc : (x y z : Bool) → ((x || y) || z) ≡ (x || (y || z))
or_assoc true y z = refl
or_assoc false y z = refl

all_moved : (version : ℕ) (first : List ℕ → Option Phase) (moves : List Move) (spans : List Span) (dropped last : List ℕ → Bool) (ps : List Piece)
    → ((key : List ℕ) → (dropped key || drops key (holds spans key) moves) ≡ last key)
    → AreInStep spans ps → AllByRecursion (Moved version first spans dropped) ps
    → AllByRecursion (Moved version first (fold move_span spans moves) last) (fold (move_piece version) ps moves)
all_moved version first [] spans dropped last ps is step all =
    all_map (Moved version first spans dropped) (Moved version first spans last)
    (λ p h key inside. moved_same version (first key) (dropped key) (last key) (holds spans key) (holds spans key) key p.phase
    (sym (is key) ∙ or_false (dropped key)) refl (h key inside))
    ps all
all_moved version first (Assign r ∷ moves) spans dropped last ps is step all =
    all_moved version first moves (move_span spans (Assign r)) dropped last (move_piece version ps (Assign r))
    (λ key. ap (λ held. dropped key || drops key held moves) (holds-assigned spans r key) ∙ is key)
    (step_move version spans ps (Assign r) step)
    (assign_moved version first spans dropped r ps (all_both (InStep spans) (Moved version first spans dropped) ps step all))
all_moved version first (Release r ∷ moves) spans dropped last ps is step all =
    all_moved version first moves (move_span spans (Release r)) (drops_too spans dropped r) last (move_piece version ps (Release r))
    (λ key. ap (λ held. drops_too spans dropped r key || drops key held moves) (holds-released spans r key)
    ∙ or_assoc (dropped key) (holds spans key && within r key) (drops key (holds spans key && not (within r key)) moves) ∙ is key)
    (step_move version spans ps (Release r) step)
    (release_moved version first spans dropped r ps (all_both (InStep spans) (Moved version first spans dropped) ps step all))

-- before any move
moved_none : (version : ℕ) (held : Bool) (key : List ℕ) (phase : Phase) → held ≡ not (is_absent phase) → IsMoved version false held key phase phase
moved_none version held key (Absent since) e = ap (gone since) (sym e)
moved_none version held key (WaitPrevious since) e = refl
moved_none version held key (Fetching at upto taken in_base) e = record {
  upto_here = upto;
  taken_here = taken;
  in_base_here = in_base;
  is = refl;
  is_fetched = refl;
  is_taken = refl;
  is_in_base = refl;
}
moved_none version held key (Waiting transferred) e = refl
moved_none version held key Readable e = refl

pub moved_by : (version : ℕ) (moves : List Move) (spans : List Span) (dropped : List ℕ → Bool) (ps : List Piece)
    → ((key : List ℕ) → drops key (holds spans key) moves ≡ dropped key) → IsPartition ps → AreInStep spans ps
    → AllByRecursion (Moved version (λ key. phase_at ps key) (fold move_span spans moves) dropped) (fold (move_piece version) ps moves)
moved_by version moves spans dropped ps is parted step =
    all_moved version (λ key. phase_at ps key) moves spans (λ key. false) dropped ps is step
    (all_map (λ p. InStep spans p × ((key : List ℕ) → Inside p key → phase_at ps key ≡ Some p.phase))
    (Moved version (λ key. phase_at ps key) spans (λ key. false))
    (λ p h key inside.
    subst (λ o. MatchOption o ⊥ (λ before. IsMoved version false (holds spans key) key before p.phase)) (sym (h.1 key inside))
    (moved_none version (holds spans key) key p.phase (h.0 key inside)))
    ps
    (all_both (InStep spans) (λ p. (key : List ℕ) → Inside p key → phase_at ps key ≡ Some p.phase) ps step (phases_here [] (255 ∷ []) ps parted)))

pub moved_key : (version : ℕ) (spans : List Span) (ps : List Piece) (moves : List Move) (key : List ℕ) (before : Phase) → IsPartition ps
    → AreInStep spans ps → key_less key (255 ∷ []) ≡ true → phase_at ps key ≡ Some before
    → MatchOption (phase_at (fold (move_piece version) ps moves) key) ⊥
    (λ after. IsMoved version (drops key (holds spans key) moves) (holds (fold move_span spans moves) key) key before after)
moved_key version spans ps moves key before parted step below at =
    of_phase (λ after. IsMoved version (drops key (holds spans key) moves) (holds (fold move_span spans moves) key) key before after)
    (piece_at (fold (move_piece version) ps moves) key)
    (found (λ p. IsMoved version (drops key (holds spans key) moves) (holds (fold move_span spans moves) key) key before p.phase)
    (fold (move_piece version) ps moves) key
    (all_map (Moved version (λ key. phase_at ps key) (fold move_span spans moves) (λ key. drops key (holds spans key) moves))
    (λ p. Inside p key → IsMoved version (drops key (holds spans key) moves) (holds (fold move_span spans moves) key) key before p.phase)
    (λ p h inside.
    subst (λ o. MatchOption o ⊥ (λ before. IsMoved version (drops key (holds spans key) moves) (holds (fold move_span spans moves) key) key before p.phase)) at
    (h key inside))
    (fold (move_piece version) ps moves)
    (moved_by version moves spans (λ key. drops key (holds spans key) moves) ps (λ key. refl) parted step))
    (partition-held (fold (move_piece version) ps moves) key (parted_moves version moves ps parted) below))
