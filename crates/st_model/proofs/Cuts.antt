-- Lists of pieces under changes: what holds of each piece, and that the pieces follow one another.
use Rattle.std.proofs.Common.{◌≡◌, ℕ, Bool, true, false, not, ◌&&◌, cond, List, [], ◌∷◌, ◌++◌, map, bytes_eq, Option, Some, None, is_some, IsSome, IfSome, MatchOption, if◌then◌else◌, refl, sym, ap, subst, ◌∙◌}
use Rattle.std.proofs.lemmas.Bool.{cond_both, and_parts, and_from, and_left, and_right, not-true, true≢false}
use Rattle.std.proofs.lemmas.Slice.Eq.{bytes_eq-Decides}
use Rattle.std.specs.List.{AllByRecursion, flat_map, find}
use Rattle.std.specs.Option.{option_map, option_map_or}
use Rattle.st_key.specs.KeyOrder.{less_irrefl, less_asym, less_le_trans, le_less_trans}
use Rattle.st_key.specs.Spans.{Span, key_less, within}
use Rattle.st_model.specs.declared.piece.Piece.{Piece}
use Rattle.st_model.specs.declared.piece.Phase.{Phase}
use Rattle.st_model.specs.Partition.{Tiles, piece_at, phase_at}
use Rattle.st_model.specs.Pieces.{span_of, begins, change_at, cut, cut_where, part}
use Rattle.st_model.proofs.Lists.{all_append, all_map}

-- ---- keys

pub le_trans : (a b c : List ℕ) → key_less b a ≡ false → key_less c b ≡ false → key_less c a ≡ false
le_trans a b c ab bc =
    elim (key_less c a) as (λ v. key_less c a ≡ v → v ≡ false)
    [ true ↦ λ ca. sym (less_le_trans c a b ca ab) ∙ bc | false ↦ λ _. refl ]
    refl

pub same_key : (a b : List ℕ) → bytes_eq a b ≡ true → a ≡ b
same_key a b e = (bytes_eq-Decides a b).0 e

-- ---- what holds of each piece

pub all_flat : {A B : Type 0} (P : A → Type 0) (Q : B → Type 0) (f : A → List B) → ((x : A) → P x → AllByRecursion Q (f x))
    → (xs : List A) → AllByRecursion P xs → AllByRecursion Q (flat_map f xs)
all_flat P Q f each [] h = tt
all_flat P Q f each (x ∷ xs) h = all_append Q (f x) (flat_map f xs) (each x h.0) (all_flat P Q f each xs h.1)

pub all_mapped : {A B : Type 0} (P : A → Type 0) (Q : B → Type 0) (f : A → B) → ((x : A) → P x → Q (f x))
    → (xs : List A) → AllByRecursion P xs → AllByRecursion Q (map f xs)
all_mapped P Q f each [] h = tt
all_mapped P Q f each (x ∷ xs) h = (each x h.0, all_mapped P Q f each xs h.1)

pub all_both : {A : Type 0} (P Q : A → Type 0) (xs : List A) → AllByRecursion P xs → AllByRecursion Q xs → AllByRecursion (λ x. P x × Q x) xs
all_both P Q [] h k = tt
all_both P Q (x ∷ xs) h k = ((h.0, k.0), all_both P Q xs h.1 k.1)

-- ---- pieces that follow one another

abbrev pub Follow : (low high : List ℕ) → List Piece → Type 0
Follow low high pieces = Tiles span_of low high pieces

abbrev pub HasKey : Piece → Type 0
HasKey piece = key_less piece.begin piece.end ≡ true

pub follow_append : (a b c : List ℕ) (xs ys : List Piece) → Follow a b xs → Follow b c ys → Follow a c (xs ++ ys)
follow_append a b c [] ys h k = subst (λ key. Follow key c ys) (sym h) k
follow_append a b c (x ∷ xs) ys h k = (h.0, h.1, follow_append x.end b c xs ys h.2 k)

pub follow_flat : (P : Piece → Type 0) (f : Piece → List Piece) → ((p : Piece) → HasKey p → P p → Follow p.begin p.end (f p))
    → (a b : List ℕ) (ps : List Piece) → AllByRecursion P ps → Follow a b ps → Follow a b (flat_map f ps)
follow_flat P f each a b [] all h = h
follow_flat P f each a b (p ∷ ps) all h =
    follow_append a p.end b (f p) (flat_map f ps) (subst (λ key. Follow key p.end (f p)) h.0 (each p h.1 all.0))
    (follow_flat P f each p.end b ps all.1 h.2)

pub have_keys : (a b : List ℕ) (ps : List Piece) → Follow a b ps → AllByRecursion HasKey ps
have_keys a b [] h = tt
have_keys a b (p ∷ ps) h = (h.1, have_keys p.end b ps h.2)

-- each piece begins at or above the key from which on they follow
pub begin_above : (a b low : List ℕ) (ps : List Piece) → Follow a b ps → key_less a low ≡ false
    → AllByRecursion (λ p. key_less p.begin low ≡ false) ps
begin_above a b low [] h above = tt
begin_above a b low (p ∷ ps) h above = (
  ap (λ key. key_less key low) h.0 ∙ above,
  begin_above p.end b low ps h.2
      (le_trans low p.begin p.end (ap (λ key. key_less key low) h.0 ∙ above) (less_asym p.begin p.end h.1)),
)

-- ---- the piece that begins at a key

abbrev pub IsThere : (Piece → Bool) → List ℕ → Piece → Type 0
IsThere test begin piece = bytes_eq piece.begin begin ≡ true → test piece ≡ true

-- a piece that begins at the key passes the test, since no other piece does so
pub is_there : (test : Piece → Bool) (begin a b : List ℕ) (ps : List Piece) → begins test begin ps ≡ true → Follow a b ps
    → AllByRecursion (IsThere test begin) ps
is_there test begin a b [] e h = tt
is_there test begin a b (p ∷ ps) e h =
    elim (bytes_eq p.begin begin) as (λ v. bytes_eq p.begin begin ≡ v
    → option_map_or test (cond v (Some p) (find (λ piece. bytes_eq piece.begin begin) ps)) false ≡ true
    → AllByRecursion (IsThere test begin) (p ∷ ps)) [
      | true ↦ λ here passes. (λ _. passes, all_other p ps (same_key p.begin begin here) (begin_above p.end b p.end ps h.2 (less_irrefl p.end)) h.1)
      | false ↦ λ other later. (λ here. absurd (true≢false (sym here ∙ other)), is_there test begin p.end b ps later h.2)
    ]
    refl e
  where
    all_other : (p : Piece) (qs : List Piece) → p.begin ≡ begin → AllByRecursion (λ q. key_less q.begin p.end ≡ false) qs → HasKey p
        → AllByRecursion (IsThere test begin) qs
    all_other p [] here above has = tt
    all_other p (q ∷ qs) here above has = (
      λ there. absurd (true≢false (sym has
          ∙ ap (λ key. key_less key p.end) (here ∙ sym (same_key q.begin begin there)) ∙ above.0)),
      all_other p qs here above.1 has,
    )

-- a change of the piece that begins at a key
pub all_changed : (P Q : Piece → Type 0) (test : Piece → Bool) (begin : List ℕ) (change : Piece → List Piece) (ps : List Piece)
    → AllByRecursion (IsThere test begin) ps → AllByRecursion HasKey ps → AllByRecursion P ps
    → ((p : Piece) → HasKey p → test p ≡ true → P p → AllByRecursion Q (change p)) → ((p : Piece) → P p → Q p)
    → AllByRecursion Q (change_at begin change ps)
all_changed P Q test begin change ps there has all changed kept =
    all_flat (λ p. IsThere test begin p × (HasKey p × P p)) Q (λ piece. if bytes_eq piece.begin begin then change piece else piece ∷ [])
    (λ p h. cond_both (bytes_eq p.begin begin) (change p) (p ∷ []) (AllByRecursion Q)
    (λ here. changed p h.1.0 (h.0 here) h.1.1) (λ _. (kept p h.1.1, tt)))
    ps (all_both (IsThere test begin) (λ p. HasKey p × P p) ps there (all_both HasKey P ps has all))

pub follow_changed : (P : Piece → Type 0) (test : Piece → Bool) (begin : List ℕ) (change : Piece → List Piece) (a b : List ℕ) (ps : List Piece)
    → AllByRecursion (IsThere test begin) ps → AllByRecursion P ps → Follow a b ps
    → ((p : Piece) → HasKey p → test p ≡ true → P p → Follow p.begin p.end (change p))
    → Follow a b (change_at begin change ps)
follow_changed P test begin change a b ps there all follow changed =
    follow_flat (λ p. IsThere test begin p × P p) (λ piece. if bytes_eq piece.begin begin then change piece else piece ∷ [])
    (λ p has h. cond_both (bytes_eq p.begin begin) (change p) (p ∷ []) (Follow p.begin p.end)
    (λ here. changed p has (h.0 here) h.1) (λ _. (refl, has, refl)))
    a b ps (all_both (IsThere test begin) P ps there all) follow

-- ---- pieces that are cut at a key

-- what holds of a piece and then of each part of it
abbrev pub HoldsOfParts : (Piece → Type 0) → Type 0
HoldsOfParts P = (p : Piece) (span : Span) → key_less span.begin p.begin ≡ false → key_less p.end span.end ≡ false
    → key_less span.begin span.end ≡ true → P p → P (part p span)

abbrev pub IsInside : List ℕ → Piece → Bool
IsInside key piece = key_less piece.begin key && key_less key piece.end

-- a piece that passes the test doesn't have the key inside
abbrev pub IsUncut : (Phase → Bool) → List ℕ → Piece → Type 0
IsUncut test key piece = test piece.phase ≡ true → IsInside key piece ≡ false

pub all_cut : (P : Piece → Type 0) (test : Phase → Bool) (key : List ℕ) → HoldsOfParts P → (ps : List Piece) → AllByRecursion P ps
    → AllByRecursion (λ p. P p × IsUncut test key p) (cut_where test key ps)
all_cut P test key parts ps all =
    all_flat P (λ p. P p × IsUncut test key p) (λ piece. if test piece.phase then cut key piece else piece ∷ []) each ps all
  where
    each : (p : Piece) → P p → AllByRecursion (λ p. P p × IsUncut test key p) (cond (test p.phase) (cut key p) (p ∷ []))
    each p h =
        cond_both (test p.phase) (cut key p) (p ∷ []) (AllByRecursion (λ p. P p × IsUncut test key p))
        (λ passes. cond_both (IsInside key p)
        (part p (record { begin = p.begin; end = key }) ∷ part p (record { begin = key; end = p.end }) ∷ []) (p ∷ [])
        (AllByRecursion (λ p. P p × IsUncut test key p))
        (λ inside. let sides = and_parts (key_less p.begin key) (key_less key p.end) inside in (
          (
            parts p (record { begin = p.begin; end = key }) (less_irrefl p.begin) (less_asym key p.end sides.1) sides.0 h,
            λ _. and_right_irrefl p,
          ),
          (
            (
              parts p (record { begin = key; end = p.end }) (less_asym p.begin key sides.0) (less_irrefl p.end) sides.1 h,
              λ _. and_left (key_less key key) (key_less key p.end) (less_irrefl key),
            ),
            tt,
          ),
        ))
        (λ outside. ((h, λ _. outside), tt)))
        (λ fails. ((h, λ passes. absurd (true≢false (sym passes ∙ fails))), tt))
      where
        and_right_irrefl : (p : Piece) → (key_less p.begin key && key_less key key) ≡ false
        and_right_irrefl p = and_right (key_less p.begin key) (key_less key key) (less_irrefl key)

-- a piece that has no key inside has none in a part
pub uncut_parts : (test : Phase → Bool) (key : List ℕ) → ((span : Span) (p : Piece) → test (part p span).phase ≡ test p.phase) → HoldsOfParts (IsUncut test key)
uncut_parts test key same p span low high has uncut passes =
    let outside : IsInside key p ≡ false = uncut (sym (same span p) ∙ passes) in
    elim (IsInside key (part p span)) as (λ v. IsInside key (part p span) ≡ v → v ≡ false) [
      | true ↦ λ inside.
          let sides = and_parts (key_less span.begin key) (key_less key span.end) inside in
          sym (and_from (key_less p.begin key) (key_less key p.end) (le_less_trans p.begin span.begin key low sides.0)
          (less_le_trans key span.end p.end sides.1 high))
          ∙ outside
      | false ↦ λ _. refl
    ]
    refl

-- ---- the piece that has a key

-- what holds of each piece that has a key holds of the one that is found for it
pub found : (P : Piece → Type 0) (ps : List Piece) (key : List ℕ) → AllByRecursion (λ p. within (span_of p) key ≡ true → P p) ps
    → IsSome (piece_at ps key) → MatchOption (piece_at ps key) ⊥ P
found P [] key all some = cc
found P (p ∷ ps) key all some =
    elim (within (span_of p) key) as (λ v. within (span_of p) key ≡ v → is_some (cond v (Some p) (piece_at ps key)) ≡ true
    → MatchOption (cond v (Some p) (piece_at ps key)) ⊥ P)
    [ true ↦ λ inside _. all.0 inside | false ↦ λ _ later. found P ps key all.1 later ]
    refl some

-- and of the one that is found, where there is one
pub found_if : (P : Piece → Type 0) (ps : List Piece) (key : List ℕ) → AllByRecursion (λ p. within (span_of p) key ≡ true → P p) ps
    → IfSome (piece_at ps key) P
found_if P [] key all = tt
found_if P (p ∷ ps) key all =
    elim (within (span_of p) key) as (λ v. within (span_of p) key ≡ v → IfSome (cond v (Some p) (piece_at ps key)) P)
    [ true ↦ λ inside. all.0 inside | false ↦ λ _. found_if P ps key all.1 ]
    refl

pub of_phase : (P : Phase → Type 0) (o : Option Piece) → MatchOption o ⊥ (λ p. P p.phase)
    → MatchOption (option_map (λ piece. piece.phase) o) ⊥ P
of_phase P None h = h
of_phase P (Some p) h = h

-- the phase at a key of a piece is that piece's
pub phases_here : (low high : List ℕ) (ps : List Piece) → Follow low high ps
    → AllByRecursion (λ p. (key : List ℕ) → within (span_of p) key ≡ true → phase_at ps key ≡ Some p.phase) ps
phases_here low high [] h = tt
phases_here low high (p ∷ ps) h = (
  λ key inside. at key true inside,
  all_map (λ q. ((key : List ℕ) → within (span_of q) key ≡ true → phase_at ps key ≡ Some q.phase) × (key_less q.begin p.end ≡ false))
      (λ q. (key : List ℕ) → within (span_of q) key ≡ true → phase_at (p ∷ ps) key ≡ Some q.phase)
      (λ q both key inside. at key false (outside q key both.1 inside) ∙ both.0 key inside) ps
      (all_both (λ q. (key : List ℕ) → within (span_of q) key ≡ true → phase_at ps key ≡ Some q.phase) (λ q. key_less q.begin p.end ≡ false) ps
      (phases_here p.end high ps h.2) (begin_above p.end high p.end ps h.2 (less_irrefl p.end))),
)
  where
    at : (key : List ℕ) (here : Bool) → within (span_of p) key ≡ here → phase_at (p ∷ ps) key ≡ cond here (Some p.phase) (phase_at ps key)
    at key here e = ap (λ b. option_map (λ piece. piece.phase) (cond b (Some p) (piece_at ps key))) e ∙ either here
      where
        either : (here : Bool) → option_map (λ piece. piece.phase) (cond here (Some p) (piece_at ps key)) ≡ cond here (Some p.phase) (phase_at ps key)
        either true = refl
        either false = refl

    outside : (q : Piece) (key : List ℕ) → key_less q.begin p.end ≡ false → within (span_of q) key ≡ true → within (span_of p) key ≡ false
    outside q key above inside =
        and_right (not (key_less key p.begin)) (key_less key p.end)
        (le_trans p.end q.begin key above (not-true (key_less key q.begin) (and_parts (not (key_less key q.begin)) (key_less key q.end) inside).0))
