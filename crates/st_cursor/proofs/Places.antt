-- Where the first batch above a version stands.
use Rattle.std.proofs.Common.{◌≡◌, ◌≤◌, ◌<◌, ◌+◌, ℕ, zero, suc, Bool, true, false, cond, nat_le, nat_lt, List, [], ◌∷◌, drop, length, Option, Some, None, IfSome, is_some, get_or, Bor, refl, sym, ap, subst, ◌∙◌, arith}
use Rattle.std.specs.List.{find, prefix_len, slice_get}
use Rattle.std.specs.Option.{option_copied}
use Rattle.std.proofs.lemmas.Bool.{false≢true}
use Rattle.std.proofs.lemmas.Option.{same_Some}
use Rattle.std.proofs.lemmas.Bool.Decides.{nat_tests}
use Rattle.std.proofs.lemmas.List.Sums.{prefix_len-le-length}
use Rattle.st_mutation.specs.declared.batch.Batch.{Batch}

-- how many batches stand before it
abbrev pub up_to : ℕ → List Batch → ℕ
up_to version log = prefix_len (λ batch. nat_le batch.version version) log

not_above : (a b : ℕ) → nat_le a b ≡ true → nat_lt b a ≡ false
not_above a b is = grind (arith, nat_tests)

above : (a b : ℕ) → nat_le a b ≡ false → nat_lt b a ≡ true
above a b is = grind (arith, nat_tests)

is_above : (a b : ℕ) → nat_lt a b ≡ true → a < b
is_above a b is = grind (arith, nat_tests)

not_below : (i : ℕ) → nat_lt i 0 ≡ false
not_below i = grind (arith, nat_tests)

zero_below : (n : ℕ) → nat_lt 0 (suc n) ≡ true
zero_below n = grind (arith, nat_tests)

sucs_below : (i n : ℕ) → nat_lt (suc i) (suc n) ≡ nat_lt i n
sucs_below i n = by_test (nat_lt i n) refl
  where
    by_test : (t : Bool) → nat_lt i n ≡ t → nat_lt (suc i) (suc n) ≡ t
    by_test true is = grind (arith, nat_tests)
    by_test false is = grind (arith, nat_tests)

still_to : (a b c : ℕ) → b ≤ c → nat_le a b ≡ true → nat_le a c ≡ true
still_to a b c le is = grind (arith, nat_tests)

one_more : (n : ℕ) → 1 + n ≡ suc n
one_more n = omega arith

passed : (version : ℕ) (batch : Batch) (log : List Batch) → nat_le batch.version version ≡ true → up_to version (batch ∷ log) ≡ suc (up_to version log)
passed version batch log is = ap (λ (t : Bool). cond t (1 + up_to version log) 0) is ∙ one_more (up_to version log)

stopped : (version : ℕ) (batch : Batch) (log : List Batch) → nat_le batch.version version ≡ false → up_to version (batch ∷ log) ≡ 0
stopped version batch log is = ap (λ (t : Bool). cond t (1 + up_to version log) 0) is

-- the first batch above a version stands behind them
pub first_is : (version : ℕ) (log : List Batch) → find (λ batch. nat_lt version batch.version) log ≡ slice_get log (up_to version log)
first_is version [] = refl
first_is version (batch ∷ log) = by_test (first_is version log) (nat_le batch.version version) refl
  where
    by_test : find (λ b. nat_lt version b.version) log ≡ slice_get log (up_to version log) → (t : Bool) → nat_le batch.version version ≡ t
        → find (λ b. nat_lt version b.version) (batch ∷ log) ≡ slice_get (batch ∷ log) (up_to version (batch ∷ log))
    by_test rest true is =
        ap (λ (t : Bool). cond t (Some batch) (find (λ b. nat_lt version b.version) log)) (not_above batch.version version is)
        ∙ rest
        ∙ sym (ap (slice_get (batch ∷ log)) (passed version batch log is))
    by_test rest false is =
        ap (λ (t : Bool). cond t (Some batch) (find (λ b. nat_lt version b.version) log)) (above batch.version version is)
        ∙ sym (ap (slice_get (batch ∷ log)) (stopped version batch log is))

-- and is above it
pub found_above : (version : ℕ) (log : List Batch) → IfSome (find (λ batch. nat_lt version batch.version) log) (λ batch. version < batch.version)
found_above version [] = tt
found_above version (batch ∷ log) = by_test (found_above version log) (nat_lt version batch.version) refl
  where
    by_test : IfSome (find (λ b. nat_lt version b.version) log) (λ b. version < b.version) → (t : Bool) → nat_lt version batch.version ≡ t
        → IfSome (cond t (Some batch) (find (λ b. nat_lt version b.version) log)) (λ b. version < b.version)
    by_test rest true is = is_above version batch.version is
    by_test rest false is = rest

pub within : (version : ℕ) (log : List Batch) → up_to version log ≤ length log
within version log = prefix_len-le-length (λ batch. nat_le batch.version version) log

-- a greater version goes on from there
pub goes_on : (last version : ℕ) (log : List Batch) → last ≤ version → up_to last log + up_to version (drop (up_to last log) log) ≡ up_to version log
goes_on last version [] le = refl
goes_on last version (batch ∷ log) le = by_test (goes_on last version log le) (nat_le batch.version last) refl
  where
    by_test : up_to last log + up_to version (drop (up_to last log) log) ≡ up_to version log → (t : Bool) → nat_le batch.version last ≡ t
        → up_to last (batch ∷ log) + up_to version (drop (up_to last (batch ∷ log)) (batch ∷ log)) ≡ up_to version (batch ∷ log)
    by_test rest true is =
        let one = passed last batch log is in
        let all = passed version batch log (still_to batch.version last version le is) in
        ap (λ (n : ℕ). n + up_to version (drop n (batch ∷ log))) one ∙ (let n : suc (up_to last log) + up_to version (drop (up_to last log) log) ≡ suc (up_to version log) = omega arith in n) ∙ sym all
    by_test rest false is =
        let none = stopped last batch log is in
        ap (λ (n : ℕ). n + up_to version (drop n (batch ∷ log))) none ∙ (let n : 0 + up_to version (batch ∷ log) ≡ up_to version (batch ∷ log) = omega arith in n)

-- what stands at a place of a list, where a reading of it is known
pub at_place : {X : Type 0} → (xs : List X) (i : ℕ) (r : Option (Bor X)) → is_some r ≡ nat_lt i (length xs) → IfSome r (λ x. x.now ≡ get_or xs i x.now) → option_copied r ≡ slice_get xs i
at_place [] i None there is = refl
at_place [] i (Some x) there is = absurd (false≢true (sym (there ∙ not_below i)))
at_place (y ∷ xs) zero None there is = absurd (false≢true (there ∙ zero_below (length xs)))
at_place (y ∷ xs) zero (Some x) there is = ap Some is
at_place (y ∷ xs) (suc i) None there is = at_place xs i None (there ∙ sucs_below i (length xs)) tt
at_place (y ∷ xs) (suc i) (Some x) there is = at_place xs i (Some x) (there ∙ sucs_below i (length xs)) is

-- what holds of an item holds of the one behind a reference to it
pub copied_if : {X : Type 0} → (P : X → Type 0) (r : Option (Bor X)) (found : Option X) → option_copied r ≡ found → IfSome found P → IfSome r (λ x. P x.now)
copied_if P None found is holds = tt
copied_if P (Some x) None is holds = absurd (cc (is))
copied_if P (Some x) (Some y) is holds = subst P (sym (same_Some x.now y is)) holds
