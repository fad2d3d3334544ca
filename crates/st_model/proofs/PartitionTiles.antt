-- Lists whose spans lie one behind another.
use Rattle.std.proofs.Common.{◌≡◌, ℕ, zero, suc, ◌<◌, ◌≤◌, true, false, not, List, [], ◌∷◌, ◌++◌, map, length, take, drop, get_or, refl, sym, ap, subst, ◌∙◌, inl, inr, arith, ◌⊎◌, Option, Some, None}
use Rattle.std.specs.List.{flat_map, AllWithin}
use Rattle.std.specs.Option.{is_some, option_or, option_map, option_and_then}
use Rattle.std.proofs.lemmas.Bool.{cases_Bool, and_parts, and_from, and_cases, and_left, and_right, not_from_true, not_from_false, not-true, not-false, both_ways, false_from_ne_true, cond-true, cond-false}
use Rattle.std.proofs.lemmas.List.Folds.{find-append}
use Rattle.st_key.specs.Spans.{Span, key_less, within}
use Rattle.st_key.specs.KeyOrder.{less_irrefl, less_trans, less_asym, less_le_trans}
use Rattle.st_model.specs.Partition.{Tiles, holder}

-- a ≥ b ≥ c
pub ge_trans : (a b c : List ℕ) → key_less a b ≡ false → key_less b c ≡ false → key_less a c ≡ false
ge_trans a b c ab bc = false_from_ne_true (key_less a c) (λ ac. both_ways (key_less a b) ab (less_le_trans a c b ac bc))

pub tiles-append : {X : Type 0} (s : X → Span) (low mid high : List ℕ) (xs ys : List X)
    → Tiles s low mid xs → Tiles s mid high ys → Tiles s low high (xs ++ ys)
tiles-append s low mid high [] ys h g = subst (λ k. Tiles s k high ys) (sym h) g
tiles-append s low mid high (x ∷ xs) ys h g = (h.0, h.1, tiles-append s (s x).end mid high xs ys h.2 g)

pub tiles-flat_map : {X Y : Type 0} (s : X → Span) (t : Y → Span) (f : X → List Y)
    → ((x : X) → key_less (s x).begin (s x).end ≡ true → Tiles t (s x).begin (s x).end (f x))
    → (low high : List ℕ) (xs : List X) → Tiles s low high xs → Tiles t low high (flat_map f xs)
tiles-flat_map s t f each low high [] h = h
tiles-flat_map s t f each low high (x ∷ xs) h =
    subst (λ k. Tiles t k high (f x ++ flat_map f xs)) h.0
    (tiles-append t (s x).begin (s x).end high (f x) (flat_map f xs) (each x h.1)
    (tiles-flat_map s t f each (s x).end high xs h.2))

pub tiles-map : {X Y : Type 0} (s : X → Span) (t : Y → Span) (g : X → Y) → ((x : X) → t (g x) ≡ s x)
    → (low high : List ℕ) (xs : List X) → Tiles s low high xs → Tiles t low high (map g xs)
tiles-map s t g same low high [] h = h
tiles-map s t g same low high (x ∷ xs) h = (
  ap (λ span. span.begin) (same x) ∙ h.0,
  ap (λ span. key_less span.begin span.end) (same x) ∙ h.1,
  subst (λ span. Tiles t span.end high (map g xs)) (sym (same x)) (tiles-map s t g same (s x).end high xs h.2),
)

-- the end isn't below the begin
pub tiles-order : {X : Type 0} (s : X → Span) (low high : List ℕ) (xs : List X) → Tiles s low high xs → key_less high low ≡ false
tiles-order s low high [] h = subst (λ k. key_less high k ≡ false) (sym h) (less_irrefl high)
tiles-order s low high (x ∷ xs) h =
    less_asym low high
    (subst (λ k. key_less k high ≡ true) h.0
    (less_le_trans (s x).begin (s x).end high h.1 (tiles-order s (s x).end high xs h.2)))

-- each begins at the low end or above it
pub begins_from : {X : Type 0} (s : X → Span) (low high : List ℕ) (xs : List X) (i : ℕ) (d : X)
    → Tiles s low high xs → i < length xs → key_less (s (get_or xs i d)).begin low ≡ false
begins_from s low high [] i d h lt = absurd (omega arith)
begins_from s low high (x ∷ xs) zero d h lt = subst (λ k. key_less k low ≡ false) (sym h.0) (less_irrefl low)
begins_from s low high (x ∷ xs) (suc i) d h lt =
    ge_trans (s (get_or xs i d)).begin (s x).end low (begins_from s (s x).end high xs i d h.2 (omega arith))
    (less_asym low (s x).end (subst (λ k. key_less k (s x).end ≡ true) h.0 h.1))

-- ---- the one that has a key

pub out_cases : (span : Span) (key : List ℕ) → within span key ≡ false → (key_less key span.begin ≡ true) ⊎ (key_less key span.end ≡ false)
out_cases span key out =
    elim (and_cases (not (key_less key span.begin)) (key_less key span.end) out) [
      | inl low ↦ inl (not-false (key_less key span.begin) low)
      | inr high ↦ inr high
    ]

pub out_below : (span : Span) (key : List ℕ) → key_less key span.begin ≡ true → within span key ≡ false
out_below span key low = and_left (not (key_less key span.begin)) (key_less key span.end) (not_from_true (key_less key span.begin) low)

pub out_above : (span : Span) (key : List ℕ) → key_less key span.end ≡ false → within span key ≡ false
out_above span key high = and_right (not (key_less key span.begin)) (key_less key span.end) high

pub inside : (span : Span) (key : List ℕ) → key_less key span.begin ≡ false → key_less key span.end ≡ true → within span key ≡ true
inside span key low high = and_from (not (key_less key span.begin)) (key_less key span.end) (not_from_false (key_less key span.begin) low) high

pub none_below : {X : Type 0} (s : X → Span) (low high : List ℕ) (xs : List X) (key : List ℕ)
    → Tiles s low high xs → key_less key low ≡ true → holder s xs key ≡ None
none_below s low high [] key h b = refl
none_below s low high (x ∷ xs) key h b =
    let below : key_less key (s x).begin ≡ true = subst (λ k. key_less key k ≡ true) (sym h.0) b in
    cond-false (within (s x) key) (Some x) (holder s xs key) (out_below (s x) key below)
    ∙ none_below s (s x).end high xs key h.2 (less_trans key (s x).begin (s x).end below h.1)

pub none_above : {X : Type 0} (s : X → Span) (low high : List ℕ) (xs : List X) (key : List ℕ)
    → Tiles s low high xs → key_less key high ≡ false → holder s xs key ≡ None
none_above s low high [] key h a = refl
none_above s low high (x ∷ xs) key h a =
    cond-false (within (s x) key) (Some x) (holder s xs key)
    (out_above (s x) key (ge_trans key high (s x).end a (tiles-order s (s x).end high xs h.2)))
    ∙ none_above s (s x).end high xs key h.2 a

pub held : {X : Type 0} (s : X → Span) (low high : List ℕ) (xs : List X) (key : List ℕ)
    → Tiles s low high xs → key_less key low ≡ false → key_less key high ≡ true → is_some (holder s xs key) ≡ true
held s low high [] key h a b = absurd (both_ways (key_less key low) a (subst (λ k. key_less key k ≡ true) (sym h) b))
held s low high (x ∷ xs) key h a b =
    elim (cases_Bool (key_less key (s x).end)) [
      | inl e ↦
          ap is_some (cond-true (within (s x) key) (Some x) (holder s xs key)
          (inside (s x) key (subst (λ k. key_less key k ≡ false) (sym h.0) a) e))
      | inr e ↦
          ap is_some (cond-false (within (s x) key) (Some x) (holder s xs key) (out_above (s x) key e))
          ∙ held s (s x).end high xs key h.2 e b
    ]

option_or-some : {A : Type 0} (o p : Option A) → is_some o ≡ true → option_or o p ≡ o
option_or-some None p h = cc
option_or-some (Some a) p h = refl

pub holder-flat_map : {X Y : Type 0} (s : X → Span) (t : Y → Span) (f : X → List Y)
    → ((x : X) → key_less (s x).begin (s x).end ≡ true → Tiles t (s x).begin (s x).end (f x))
    → (low high : List ℕ) (xs : List X) (key : List ℕ) → Tiles s low high xs
    → holder t (flat_map f xs) key ≡ option_and_then (λ x. holder t (f x) key) (holder s xs key)
holder-flat_map s t f each low high [] key h = refl
holder-flat_map {X} {Y} s t f each low high (x ∷ xs) key h =
    find-append (λ y. within (t y) key) (f x) (flat_map f xs)
    ∙ elim (cases_Bool (within (s x) key)) [
      | inl e ↦
          let ends = and_parts (not (key_less key (s x).begin)) (key_less key (s x).end) e in
          option_or-some (holder t (f x) key) (holder t (flat_map f xs) key)
          (held t (s x).begin (s x).end (f x) key (each x h.1) (not-true (key_less key (s x).begin) ends.0) ends.1)
          ∙ sym (ap (option_and_then (λ (x : X). holder t (f x) key)) (cond-true (within (s x) key) (Some x) (holder s xs key) e))
      | inr e ↦
          ap (λ o. option_or o (holder t (flat_map f xs) key)) (none e)
          ∙ (holder-flat_map s t f each (s x).end high xs key h.2
          ∙ sym (ap (option_and_then (λ (x : X). holder t (f x) key)) (cond-false (within (s x) key) (Some x) (holder s xs key) e)))
    ]
  where
    none : within (s x) key ≡ false → holder t (f x) key ≡ None
    none e =
        elim (out_cases (s x) key e) [
          | inl low ↦ none_below t (s x).begin (s x).end (f x) key (each x h.1) low
          | inr high ↦ none_above t (s x).begin (s x).end (f x) key (each x h.1) high
        ]

pub holder-map : {X Y : Type 0} (s : X → Span) (t : Y → Span) (g : X → Y) → ((x : X) → t (g x) ≡ s x)
    → (xs : List X) (key : List ℕ) → holder t (map g xs) key ≡ option_map g (holder s xs key)
holder-map s t g same [] key = refl
holder-map s t g same (x ∷ xs) key =
    let test : within (t (g x)) key ≡ within (s x) key = ap (λ span. within span key) (same x) in
    elim (cases_Bool (within (s x) key)) [
      | inl e ↦
          cond-true (within (t (g x)) key) (Some (g x)) (holder t (map g xs) key) (test ∙ e)
          ∙ sym (ap (option_map g) (cond-true (within (s x) key) (Some x) (holder s xs key) e))
      | inr e ↦
          cond-false (within (t (g x)) key) (Some (g x)) (holder t (map g xs) key) (test ∙ e)
          ∙ (holder-map s t g same xs key
          ∙ sym (ap (option_map g) (cond-false (within (s x) key) (Some x) (holder s xs key) e)))
    ]

-- ---- a change at one key

-- a change that leaves what lies apart from the key leaves all that lies above it
pub kept_above : {X : Type 0} (s : X → Span) (key : List ℕ) (f : X → List X)
    → ((x : X) → key_less (s x).begin (s x).end ≡ true → within (s x) key ≡ false → f x ≡ x ∷ [])
    → (low high : List ℕ) (xs : List X) → Tiles s low high xs → key_less key low ≡ true → flat_map f xs ≡ xs
kept_above s key f apart low high [] h b = refl
kept_above s key f apart low high (x ∷ xs) h b =
    let below : key_less key (s x).begin ≡ true = subst (λ k. key_less key k ≡ true) (sym h.0) b in
    ap (λ l. l ++ flat_map f xs) (apart x h.1 (out_below (s x) key below))
    ∙ ap (λ l. x ∷ l) (kept_above s key f apart (s x).end high xs h.2 (less_trans key (s x).begin (s x).end below h.1))

-- such a change is one of the one that has the key
pub changed_there : {X : Type 0} (s : X → Span) (key : List ℕ) (f : X → List X)
    → ((x : X) → key_less (s x).begin (s x).end ≡ true → within (s x) key ≡ false → f x ≡ x ∷ [])
    → (low high : List ℕ) (xs : List X) (i : ℕ) (d : X) → Tiles s low high xs → i < length xs
    → within (s (get_or xs i d)) key ≡ true
    → flat_map f xs ≡ take i xs ++ (f (get_or xs i d) ++ drop (suc i) xs)
changed_there s key f apart low high [] i d h lt w = absurd (omega arith)
changed_there s key f apart low high (x ∷ xs) zero d h lt w =
    let ends = and_parts (not (key_less key (s x).begin)) (key_less key (s x).end) w in
    ap (λ l. f x ++ l) (kept_above s key f apart (s x).end high xs h.2 ends.1)
changed_there s key f apart low high (x ∷ xs) (suc i) d h lt w =
    let ends = and_parts (not (key_less key (s (get_or xs i d)).begin)) (key_less key (s (get_or xs i d)).end) w in
    let above : key_less key (s x).end ≡ false =
    ge_trans key (s (get_or xs i d)).begin (s x).end (not-true (key_less key (s (get_or xs i d)).begin) ends.0)
    (begins_from s (s x).end high xs i d h.2 (omega arith)) in
    ap (λ l. l ++ flat_map f xs) (apart x h.1 (out_above (s x) key above))
    ∙ ap (λ l. x ∷ l) (changed_there s key f apart (s x).end high xs i d h.2 (omega arith) w)

-- the place of the one that has the key, where those before it end at the key or below it, and the others above it
pub found_at : {X : Type 0} (s : X → Span) (low high : List ℕ) (xs : List X) (key : List ℕ) (i : ℕ) (d : X)
    → Tiles s low high xs → key_less key low ≡ false → key_less key high ≡ true
    → AllWithin (λ x. key_less key (s x).end ≡ false) xs 0 i → AllWithin (λ x. key_less key (s x).end ≡ true) xs i (length xs)
    → i ≤ length xs
    → (i < length xs) × (within (s (get_or xs i d)) key ≡ true) × (holder s xs key ≡ Some (get_or xs i d))
found_at s low high [] key i d h a b before behind le =
    absurd (both_ways (key_less key low) a (subst (λ k. key_less key k ≡ true) (sym h) b))
found_at s low high (x ∷ xs) key zero d h a b before behind le =
    let w : within (s x) key ≡ true = inside (s x) key (subst (λ k. key_less key k ≡ false) (sym h.0) a) (behind 0 d (omega arith) (omega arith)) in
    (omega arith, w, cond-true (within (s x) key) (Some x) (holder s xs key) w)
found_at s low high (x ∷ xs) key (suc i) d h a b before behind le =
    let past : key_less key (s x).end ≡ false = before 0 d (omega arith) (omega arith) in
    let rest = found_at s (s x).end high xs key i d h.2 past b
    (λ k e low' high'. before (suc k) e (omega arith) (omega arith)) (λ k e low' high'. behind (suc k) e (omega arith) (omega arith))
    (omega arith) in
    (omega arith, rest.1, cond-false (within (s x) key) (Some x) (holder s xs key) (out_above (s x) key past) ∙ rest.2)

-- what holds of whatever has the key holds of the one that is found
pub of_holder : {X Y : Type 0} (s : X → Span) (key : List ℕ) (f : X → Option Y) (g : X → Y)
    → ((x : X) → key_less (s x).begin (s x).end ≡ true → within (s x) key ≡ true → f x ≡ Some (g x))
    → (low high : List ℕ) (xs : List X) → Tiles s low high xs
    → option_and_then f (holder s xs key) ≡ option_map g (holder s xs key)
of_holder s key f g each low high [] h = refl
of_holder s key f g each low high (x ∷ xs) h =
    elim (cases_Bool (within (s x) key)) [
      | inl e ↦
          let found = cond-true (within (s x) key) (Some x) (holder s xs key) e in
          ap (option_and_then f) found ∙ (each x h.1 e ∙ sym (ap (option_map g) found))
      | inr e ↦
          let later = cond-false (within (s x) key) (Some x) (holder s xs key) e in
          ap (option_and_then f) later ∙ (of_holder s key f g each (s x).end high xs h.2 ∙ sym (ap (option_map g) later))
    ]

-- what is the same for whatever has the key is the same for the one that is found
pub holder_same : {X Y : Type 0} (s : X → Span) (key : List ℕ) (f g : X → Option Y)
    → ((x : X) → key_less (s x).begin (s x).end ≡ true → within (s x) key ≡ true → f x ≡ g x)
    → (low high : List ℕ) (xs : List X) → Tiles s low high xs
    → option_and_then f (holder s xs key) ≡ option_and_then g (holder s xs key)
holder_same s key f g each low high [] h = refl
holder_same s key f g each low high (x ∷ xs) h =
    elim (cases_Bool (within (s x) key)) [
      | inl e ↦
          let found = cond-true (within (s x) key) (Some x) (holder s xs key) e in
          ap (option_and_then f) found ∙ (each x h.1 e ∙ sym (ap (option_and_then g) found))
      | inr e ↦
          let later = cond-false (within (s x) key) (Some x) (holder s xs key) e in
          ap (option_and_then f) later ∙ (holder_same s key f g each (s x).end high xs h.2 ∙ sym (ap (option_and_then g) later))
    ]
