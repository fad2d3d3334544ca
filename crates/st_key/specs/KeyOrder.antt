-- The order of keys is total and strict.
use Rattle.std.specs.Prelude.{◌≡◌, ℕ, true, false, List, [], ◌∷◌, ◌++◌, ◌<◌}
use Rattle.std.specs.Ordering.{MatchOrdering, nat_cmp, is_lt, ordering_reverse, ordering_then}
use Rattle.std.specs.Cmp.Lexicographic.{slice_cmp}
use Rattle.std.specs.declared.cmp.Ordering.{Ordering}
use Rattle.std.specs.declared.cmp.Ordering.TheVariants.{Less, Equal, Greater}
use Rattle.std.proofs.Common.{arith, refl, sym, ap, subst, ◌∙◌}
use Rattle.std.proofs.lemmas.Cmp.{ranked, nat_cmp_total, nat_list_cmp_total, tied_itself}
use Rattle.std.proofs.lemmas.Map.Lookups.{exact_bytes, exact_unsigned}
use Rattle.st_key.specs.Spans.{key_less}

is_Less : (o : Ordering) → is_lt o ≡ true → o ≡ Less
is_Less Less less = refl
is_Less Equal less = cc
is_Less Greater less = cc

-- no key is less than itself
pub less_irrefl : (a : List ℕ) → key_less a a ≡ false
less_irrefl a = ap is_lt (tied_itself nat_list_cmp_total a)

pub less_trans : (a b c : List ℕ) → key_less a b ≡ true → key_less b c ≡ true → key_less a c ≡ true
less_trans a b c ab bc = ap is_lt (nat_list_cmp_total.trans a b c (is_Less _ ab) (is_Less _ bc))

-- neither is less only where both are the same key
pub less_connected : (a b : List ℕ) → key_less a b ≡ false → key_less b a ≡ false → a ≡ b
less_connected a b ab ba = exact_bytes a b (is_tied (slice_cmp nat_cmp a b) (slice_cmp nat_cmp b a) (nat_list_cmp_total.antisymm b a) ab ba)
  where
    is_tied : (o p : Ordering) → p ≡ ordering_reverse o → is_lt o ≡ false → is_lt p ≡ false → o ≡ Equal
    is_tied Less p e less more = cc
    is_tied Equal p e less more = refl
    is_tied Greater p e less more = let less_p : p ≡ Less = e in cc

pub less_asym : (a b : List ℕ) → key_less a b ≡ true → key_less b a ≡ false
less_asym a b ab =
    elim (key_less b a) as (λ v. key_less b a ≡ v → v ≡ false)
    [ true ↦ λ ba. sym (less_trans a b a ab ba) ∙ less_irrefl a | false ↦ λ _. refl ]
    refl

-- a ≤ b < c
pub le_less_trans : (a b c : List ℕ) → key_less b a ≡ false → key_less b c ≡ true → key_less a c ≡ true
le_less_trans a b c ba bc =
    elim (key_less a b) as (λ v. key_less a b ≡ v → key_less a c ≡ true) [
      | true ↦ λ ab. less_trans a b c ab bc
      | false ↦ λ ab. subst (λ k. key_less k c ≡ true) (sym (less_connected a b ab ba)) bc
    ]
    refl

-- a < b ≤ c
pub less_le_trans : (a b c : List ℕ) → key_less a b ≡ true → key_less c b ≡ false → key_less a c ≡ true
less_le_trans a b c ab cb =
    elim (key_less b c) as (λ v. key_less b c ≡ v → key_less a c ≡ true) [
      | true ↦ λ bc. less_trans a b c ab bc
      | false ↦ λ bc. subst (λ k. key_less a k ≡ true) (less_connected b c bc cb) ab
    ]
    refl

-- a key is less than it with a byte appended
pub less_after : (k : List ℕ) → key_less k (k ++ 0 ∷ []) ≡ true
less_after [] = refl
less_after (x ∷ k) =
    let same : nat_cmp x x ≡ Equal = tied_itself nat_cmp_total x in
    rw same (less_after k)

first_differs : (o rest below : Ordering) → is_lt (ordering_then o rest) ≡ false → is_lt (ordering_then o below) ≡ true
    → (o ≡ Equal) × (is_lt rest ≡ false) × (is_lt below ≡ true)
first_differs Less rest below h g = cc
first_differs Equal rest below h g = (refl, h, g)
first_differs Greater rest below h g = cc

-- no key lies between the two
pub alone_after : (k other : List ℕ) → key_less other k ≡ false → key_less other (k ++ 0 ∷ []) ≡ true → other ≡ k
alone_after [] [] h g = refl
alone_after [] (a ∷ other) h g = absurd (none_below a other g)
  where
    not_empty : (xs : List ℕ) → is_lt (slice_cmp nat_cmp xs []) ≡ true → ⊥
    not_empty [] e = cc
    not_empty (x ∷ xs) e = cc

    below_zero : (a : ℕ) (o rest : Ordering) → MatchOrdering o (a < 0) (a ≡ 0) (0 < a) → (is_lt rest ≡ true → ⊥)
        → is_lt (ordering_then o rest) ≡ true → ⊥
    below_zero a Less rest ranks no_rest e = omega arith
    below_zero a Equal rest ranks no_rest e = no_rest e
    below_zero a Greater rest ranks no_rest e = cc

    none_below : (a : ℕ) (other : List ℕ) → key_less (a ∷ other) (0 ∷ []) ≡ true → ⊥
    none_below a other e =
        below_zero a (nat_cmp a 0) (slice_cmp nat_cmp other []) (ranked a 0 (nat_cmp a 0) refl) (not_empty other) e
alone_after (x ∷ k) [] h g = cc
alone_after (x ∷ k) (a ∷ other) h g =
    let parts = first_differs (nat_cmp a x) (slice_cmp nat_cmp other k) (slice_cmp nat_cmp other (k ++ 0 ∷ [])) h g in
    let heads : a ≡ x = exact_unsigned a x parts.0 in
    let tails : other ≡ k = alone_after k other parts.1 parts.2 in
    cc
