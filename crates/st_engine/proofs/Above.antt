-- The entries above a key.
use Rattle.std.proofs.Common.{◌≡◌, ◌∙◌, ◌<◌, ◌≤◌, ℕ, Bool, true, false, cond, not, List, [], ◌∷◌, length, filter, Option, Some, None, is_some, refl, sym, ap, arith}
use Rattle.std.specs.Option.{option_map, unwrap_or}
use Rattle.std.specs.Ordering.{is_eq}
use Rattle.std.specs.declared.cmp.Ordering.{Ordering}
use Rattle.std.specs.declared.cmp.Ordering.TheVariants.{Less, Equal, Greater}
use Rattle.std.specs.Cmp.{tied_itself}
use Rattle.std.proofs.lemmas.Cmp.{nat_list_cmp_total}
use Rattle.std.proofs.lemmas.Bool.{false≢true}
use Rattle.std.proofs.lemmas.Map.Lookups.{exact_bytes}
use Rattle.st_key.specs.Spans.{key_less}
use Rattle.st_ptree.specs.Entries.{above, first_of, found, key_cmp, pair_of, pairs_of, same, without_key}
use Rattle.st_engine.specs.Replay.{kept_to}
use Rattle.st_engine.proofs.Gaps.{filter-rest, filter-twice}

is_equal : (o : Ordering) → is_eq o ≡ true → o ≡ Equal
is_equal Less e = absurd (false≢true e)
is_equal Equal e = refl
is_equal Greater e = absurd (false≢true e)

-- keys that are one key are equal
pub equal_keys : (a b : List ℕ) → same a b ≡ true → a ≡ b
equal_keys a b e = exact_bytes a b (is_equal (key_cmp a b) e)

pub same_itself : (a : List ℕ) → same a a ≡ true
same_itself a = ap is_eq (tied_itself nat_list_cmp_total a)

abbrev Entries : Type 0 → Type 0
Entries X = List (List ℕ × (ℕ × X))

module _ {X : Type 0} where
  -- the first entry above a key is there, and above it
  pub first-found : (last key : List ℕ) (item : X) (es : Entries X) → Some (key, item) ≡ option_map pair_of (first_of (above es last)) → (key_less last key ≡ true) × (is_some (found key es) ≡ true)
  first-found last key item [] is = absurd (cc (is))
  first-found last key item (e ∷ es) is = by_test (first-found last key item es) (key_less last e.0) refl is
    where
      here : (b : Bool) → is_some (found key es) ≡ true → is_some (cond b (Some e.1) (found key es)) ≡ true
      here true rest = refl
      here false rest = rest

      by_test : (Some (key, item) ≡ option_map pair_of (first_of (above es last)) → (key_less last key ≡ true) × (is_some (found key es) ≡ true))
          → (b : Bool) → key_less last e.0 ≡ b → Some (key, item) ≡ option_map pair_of (first_of (cond b (e ∷ above es last) (above es last))) → (key_less last key ≡ true) × (is_some (found key (e ∷ es)) ≡ true)
      by_test later true b is =
          let at : key ≡ e.0 = ap (λ (o : Option (List ℕ × X)). (unwrap_or o (key, item)).0) is in (
            ap (key_less last) at ∙ b,
            ap (λ (k : List ℕ). is_some (cond (same k e.0) (Some e.1) (found k es))) at ∙ ap (λ (t : Bool). is_some (cond t (Some e.1) (found e.0 es))) (same_itself e.0),
          )
      by_test later false b is =
          let rest = later is in
          (rest.0, here (same key e.0) rest.1)

  shorter_or_same : (p : (List ℕ × (ℕ × X)) → Bool) (es : Entries X) → length (filter p es) ≤ length es
  shorter_or_same p [] = omega arith
  shorter_or_same p (e ∷ es) = elim (p e) as (λ b. length (cond b (e ∷ filter p es) (filter p es)) ≤ length (e ∷ es)) [
    | true ↦ omega (arith, shorter_or_same p es)
    | false ↦ omega (arith, shorter_or_same p es)
  ]

  -- without a key that is there the entries are fewer
  pub fewer : (key : List ℕ) (es : Entries X) → is_some (found key es) ≡ true → length (without_key es key) < length es
  fewer key [] is = absurd (false≢true is)
  fewer key (e ∷ es) is = by_test (fewer key es) (same key e.0) is
    where
      by_test : (is_some (found key es) ≡ true → length (without_key es key) < length es) → (b : Bool) → is_some (cond b (Some e.1) (found key es)) ≡ true → length (cond (not b) (e ∷ without_key es key) (without_key es key)) < length (e ∷ es)
      by_test later true is = omega (arith, shorter_or_same (λ e. not (same key e.0)) es)
      by_test later false is = omega (arith, later is)

-- the pairs up to a key stay where a key above it goes
pub kept-without : (last key : List ℕ) (pairs : List (List ℕ × List ℕ)) → key_less last key ≡ true → kept_to last (filter (λ pair. not (same key pair.0)) pairs) ≡ kept_to last pairs
kept-without last key pairs above_is = filter-twice (λ pair. not (key_less last pair.0)) (λ pair. not (same key pair.0)) (λ pair kept. only pair.0 (same key pair.0) refl kept) pairs
  where
    only : (k : List ℕ) (b : Bool) → same key k ≡ b → not (key_less last k) ≡ true → not (same key k) ≡ true
    only k true b kept = absurd (false≢true (ap not (sym (ap (key_less last) (sym (equal_keys key k b)) ∙ above_is)) ∙ kept))
    only k false b kept = ap not b

pub none-first : {X : Type 0} → (xs : List X) → first_of xs ≡ None → xs ≡ []
none-first [] is = refl
none-first (x ∷ xs) is = absurd (cc (is))

module _ {X : Type 0} (kept : (es : Entries X) (keeps : List ℕ → Bool) → pairs_of (filter (λ e. keeps e.0) es) ≡ filter (λ pair. keeps pair.0) (pairs_of es)) where
  -- where no entry is above a key
  pub none-above : (last : List ℕ) (es : Entries X) → None ≡ option_map pair_of (first_of (above es last)) → filter (λ pair. not (key_less last pair.0)) (pairs_of es) ≡ pairs_of es
  none-above last es none =
      filter-rest (λ pair. key_less last pair.0) (pairs_of es) (sym (kept es (key_less last)) ∙ ap pairs_of (none-first (above es last) (no-first (first_of (above es last)) none)))
    where
      no-first : (o : Option (List ℕ × (ℕ × X))) → None ≡ option_map pair_of o → o ≡ None
      no-first None e = refl
      no-first (Some e) is = absurd (cc (is))
