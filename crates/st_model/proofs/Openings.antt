-- The pieces of an opening: all keys, cut at the ends of what is available and of what is assigned.
use Rattle.std.proofs.Common.{◌≡◌, ℕ, Bool, true, false, not, ◌&&◌, ◌||◌, List, [], ◌∷◌, ◌++◌, fold, refl, sym, ap₂, subst, ◌∙◌, arith}
use Rattle.std.proofs.lemmas.Bool.{cond_both, and_parts, and_from, and_left, and_right, not-true}
use Rattle.std.proofs.lemmas.List.Concat.{flat_map-append}
use Rattle.std.specs.List.{AllByRecursion, flat_map}
use Rattle.st_key.specs.KeyOrder.{less_irrefl, less_trans, le_less_trans}
use Rattle.st_key.specs.Spans.{Span, key_less, within, holds, all_keys}
use Rattle.st_model.specs.declared.piece.Piece.{Piece}
use Rattle.st_model.specs.Facts.{IsPlaced, IsGone, IsKept, IsSoundOpening, is_assigned}
use Rattle.st_model.specs.Pieces.{cut_span, ends_of, cut_keys, first_phase}
use Rattle.st_model.specs.State.{Given, Opening, State, first_state, assigned}
use Rattle.st_model.proofs.Keeping.{Kept}
use Rattle.st_model.proofs.Cuts.{le_trans, all_flat, all_mapped, all_both}
use Rattle.st_model.proofs.Lists.{all_map, all_right}
use Rattle.st_model.proofs.PartitionPieces.{partition-first_pieces}
use Rattle.st_model.proofs.Placing.{Placed, Stands}

abbrev has_inside : List ℕ → Span → Bool
has_inside key span = key_less span.begin key && key_less key span.end

abbrev cut_each : List Span → List ℕ → List Span
cut_each parts key = flat_map (cut_span key) parts

-- ---- no span has a key inside that it was cut at

uncut_cut : (key other : List ℕ) (s : Span) → has_inside key s ≡ false → AllByRecursion (λ t. has_inside key t ≡ false) (cut_span other s)
uncut_cut key other s outside =
    cond_both (has_inside other s) (record { begin = s.begin; end = other } ∷ record { begin = other; end = s.end } ∷ []) (s ∷ [])
    (AllByRecursion (λ t. has_inside key t ≡ false))
    (λ inside. let sides = and_parts (key_less s.begin other) (key_less other s.end) inside in (lower sides.1, (upper sides.0, tt)))
    (λ _. (outside, tt))
  where
    lower : key_less other s.end ≡ true → (key_less s.begin key && key_less key other) ≡ false
    lower high =
        elim (key_less s.begin key && key_less key other) as (λ v. (key_less s.begin key && key_less key other) ≡ v → v ≡ false) [
          | true ↦ λ both.
              let sides = and_parts (key_less s.begin key) (key_less key other) both in
              sym (and_from (key_less s.begin key) (key_less key s.end) sides.0 (less_trans key other s.end sides.1 high)) ∙ outside
          | false ↦ λ _. refl
        ]
        refl

    upper : key_less s.begin other ≡ true → (key_less other key && key_less key s.end) ≡ false
    upper low =
        elim (key_less other key && key_less key s.end) as (λ v. (key_less other key && key_less key s.end) ≡ v → v ≡ false) [
          | true ↦ λ both.
              let sides = and_parts (key_less other key) (key_less key s.end) both in
              sym (and_from (key_less s.begin key) (key_less key s.end) (less_trans s.begin other key low sides.0) sides.1) ∙ outside
          | false ↦ λ _. refl
        ]
        refl

uncut_here : (key : List ℕ) (s : Span) → AllByRecursion (λ t. has_inside key t ≡ false) (cut_span key s)
uncut_here key s =
    cond_both (has_inside key s) (record { begin = s.begin; end = key } ∷ record { begin = key; end = s.end } ∷ []) (s ∷ [])
    (AllByRecursion (λ t. has_inside key t ≡ false))
    (λ _. (and_right (key_less s.begin key) (key_less key key) (less_irrefl key), (and_left (key_less key key) (key_less key s.end) (less_irrefl key), tt)))
    (λ outside. (outside, tt))

stay_uncut : (key : List ℕ) (ends : List (List ℕ)) (ss : List Span) → AllByRecursion (λ t. has_inside key t ≡ false) ss
    → AllByRecursion (λ t. has_inside key t ≡ false) (fold cut_each ss ends)
stay_uncut key [] ss h = h
stay_uncut key (other ∷ ends) ss h =
    stay_uncut key ends (cut_each ss other)
    (all_flat (λ t. has_inside key t ≡ false) (λ t. has_inside key t ≡ false) (cut_span other) (λ s outside. uncut_cut key other s outside) ss h)

abbrev IsUncutAt : List (List ℕ) → Span → Type 0
IsUncutAt ends s = AllByRecursion (λ key. has_inside key s ≡ false) ends

pub all_unit : (ss : List Span) → AllByRecursion (λ s. Unit {0}) ss
all_unit [] = tt
all_unit (s ∷ ss) = (tt, all_unit ss)

cut_at_all : (ends : List (List ℕ)) (ss : List Span) → AllByRecursion (IsUncutAt ends) (fold cut_each ss ends)
cut_at_all [] ss = all_unit ss
cut_at_all (key ∷ ends) ss =
    all_both (λ s. has_inside key s ≡ false) (IsUncutAt ends) (fold cut_each (cut_each ss key) ends)
    (stay_uncut key ends (cut_each ss key)
    (all_flat (λ s. Unit {0}) (λ t. has_inside key t ≡ false) (cut_span key) (λ s _. uncut_here key s) ss (all_unit ss)))
    (cut_at_all ends (cut_each ss key))

-- ---- each key of such a span is in the same spans as its first key

below_alike : (s : Span) (key end : List ℕ) → has_inside end s ≡ false → within s key ≡ true → key_less key end ≡ key_less s.begin end
below_alike s key end outside inside =
    let sides = and_parts (not (key_less key s.begin)) (key_less key s.end) inside in
    let low : key_less key s.begin ≡ false = not-true (key_less key s.begin) sides.0 in
    elim (key_less s.begin end) as (λ v. key_less s.begin end ≡ v → key_less key end ≡ v) [
      | true ↦ λ above.
          elim (key_less key end) as (λ w. key_less key end ≡ w → w ≡ true) [
            | true ↦ λ _. refl
            | false ↦ λ reaches.
                sym outside ∙ and_from (key_less s.begin end) (key_less end s.end) above (le_less_trans end key s.end reaches sides.1)
          ]
          refl
      | false ↦ λ reaches. le_trans end s.begin key reaches low
    ]
    refl

held_alike : (s : Span) (key : List ℕ) (spans : List Span) → IsUncutAt (ends_of spans) s → within s key ≡ true → holds spans key ≡ holds spans s.begin
held_alike s key [] uncut inside = refl
held_alike s key (r ∷ spans) uncut inside =
    ap₂ (λ x y. x || y)
    (ap₂ (λ x y. not x && y) (below_alike s key r.begin uncut.0 inside) (below_alike s key r.end uncut.1.0 inside))
    (held_alike s key spans uncut.1.1 inside)

all_left : {A : Type 0} (P : A → Type 0) (xs ys : List A) → AllByRecursion P (xs ++ ys) → AllByRecursion P xs
all_left P [] ys h = tt
all_left P (x ∷ xs) ys h = (h.0, all_left P xs ys h.1)

-- a span of the opening, with the keys of which both lists have all or none
pub record IsAlike (available assigned : List Span) (s : Span) : Type 0 where
  pub available_alike : (key : List ℕ) → within s key ≡ true → holds available key ≡ holds available s.begin
  pub assigned_alike : (key : List ℕ) → within s key ≡ true → holds assigned key ≡ holds assigned s.begin

pub cut_alike : (available assigned : List Span) → AllByRecursion (IsAlike available assigned) (cut_keys (available ++ assigned))
cut_alike available assigned =
    all_map (IsUncutAt (ends_of (available ++ assigned))) (IsAlike available assigned)
    (λ s uncut.
    let both = subst (λ ends. AllByRecursion (λ key. has_inside key s ≡ false) ends)
    (flat_map-append (λ span. span.begin ∷ span.end ∷ []) available assigned) uncut in
    record {
      available_alike = λ key inside. held_alike s key available
          (all_left (λ key. has_inside key s ≡ false) (ends_of available) (ends_of assigned) both) inside;
      assigned_alike = λ key inside. held_alike s key assigned
          (all_right (λ key. has_inside key s ≡ false) (ends_of available) (ends_of assigned) both) inside;
    })
    (cut_keys (available ++ assigned)) (cut_at_all (ends_of (available ++ assigned)) (all_keys ∷ []))

-- ---- the pieces of an opening part the keys

first_placed : (state : State) (p : Piece) (version : ℕ) (available assigned : Bool) → IsPlaced state p (first_phase version available assigned)
first_placed state p version true assigned = tt
first_placed state p version false true = tt
first_placed state p version false false = tt

pub stands_first : (given : Given) (opening : Opening) → Stands (first_state given opening)
stands_first given opening = record {
  parted = partition-first_pieces opening.version opening.available (assigned given.own given.log opening.version);
  placed = all_mapped (λ s. Unit {0}) (Placed (first_state given opening))
      (λ span. record {
        begin = span.begin;
        end = span.end;
        phase = first_phase opening.version (holds opening.available span.begin) (holds (assigned given.own given.log opening.version) span.begin);
      })
      (λ s _. first_placed (first_state given opening) _ opening.version (holds opening.available s.begin)
      (holds (assigned given.own given.log opening.version) s.begin))
      (cut_keys (opening.available ++ assigned given.own given.log opening.version))
      (all_unit (cut_keys (opening.available ++ assigned given.own given.log opening.version)));
}

-- ---- what holds of each key of an opening

gone_first : (given : Given) (opening : Opening) (key : List ℕ) → holds opening.available key ≡ false
    → IsGone given (first_state given opening) opening.version key
gone_first given opening key is = record { taken_away = λ later. absurd (omega arith); unavailable = λ _. is; unflown = tt }

first_kept : (given : Given) (opening : Opening) (key : List ℕ) (available held : Bool) → IsSoundOpening given opening
    → holds opening.available key ≡ available → is_assigned given opening.version key ≡ held
    → IsKept given (first_state given opening) key (first_phase opening.version available held)
first_kept given opening key true held sound is assigned_is = record {
  is_in = sound key is;
  held = λ version later over. absurd (omega arith);
  available = is;
  flown = tt;
}
first_kept given opening key false true sound is assigned_is = (assigned_is, gone_first given opening key is)
first_kept given opening key false false sound is assigned_is = (assigned_is, gone_first given opening key is)

pub kept_first : (given : Given) (opening : Opening) → IsSoundOpening given opening
    → AllByRecursion (Kept given (first_state given opening)) (first_state given opening).pieces
kept_first given opening sound =
    all_mapped (IsAlike opening.available (assigned given.own given.log opening.version)) (Kept given (first_state given opening))
    (λ span. record {
      begin = span.begin;
      end = span.end;
      phase = first_phase opening.version (holds opening.available span.begin) (holds (assigned given.own given.log opening.version) span.begin);
    })
    (λ s alike key inside.
    first_kept given opening key (holds opening.available s.begin) (holds (assigned given.own given.log opening.version) s.begin) sound
    (alike.available_alike key inside) (alike.assigned_alike key inside))
    (cut_keys (opening.available ++ assigned given.own given.log opening.version))
    (cut_alike opening.available (assigned given.own given.log opening.version))
