-- The batches between two versions, and the version that a commit begins with.
use Rattle.std.proofs.Common.{◌≡◌, ◌∙◌, ◌≤◌, ◌<◌, inl, inr, ◌++◌, ◌&&◌, ℕ, suc, max, Bool, true, false, cond, nat_le, nat_lt, leb-true, leb-false, le-leb, List, [], ◌∷◌, filter, map, Option, Some, None, unwrap_or, refl, sym, ap, subst, arith}
use Rattle.std.specs.List.{AllByRecursion}
use Rattle.std.specs.Option.{option_map, option_or}
use Rattle.std.proofs.lemmas.Bool.{false≢true, lt-leb}
use Rattle.std.proofs.lemmas.List.Elements.{filter-append}
use Rattle.std.proofs.lemmas.Option.{same_Some}
use Rattle.st_fold.specs.Map.{batches_to}
use Rattle.st_fold.specs.Plain.{Rises}
use Rattle.st_model.specs.State.{greatest_to}
use Rattle.st_mutation.specs.declared.batch.Batch.{Batch}
use Rattle.st_ptree.specs.Entries.{last_of}
use Rattle.st_course.specs.Sent.{batches_between}
use Rattle.st_board.specs.Base.{Among}
use Rattle.st_board.proofs.Lists.{all-filter, all-passing, all-weaker, filter-all, filter-none}
use Rattle.st_board.proofs.Logs.{IsNext}

module _ {X : Type 0} where
  -- what passes a test that is the stronger one passes both
  pub filter-through : (p q : X → Bool) → ((x : X) → p x ≡ true → q x ≡ true) → (xs : List X) → filter p (filter q xs) ≡ filter p xs
  filter-through p q passes [] = refl
  filter-through p q passes (x ∷ xs) = by_tests (q x) (p x) refl refl (filter-through p q passes xs)
    where
      taken : (t : Bool) → q x ≡ t → filter p (filter q (x ∷ xs)) ≡ filter p (cond t (x ∷ filter q xs) (filter q xs))
      taken t is = ap (λ b. filter p (cond b (x ∷ filter q xs) (filter q xs))) is

      by_tests : (s t : Bool) → q x ≡ s → p x ≡ t → filter p (filter q xs) ≡ filter p xs → filter p (filter q (x ∷ xs)) ≡ filter p (x ∷ xs)
      by_tests true t isq isp rest = taken true isq ∙ ap (λ l. cond (p x) (x ∷ l) l) rest
      by_tests false true isq isp rest = absurd (false≢true (sym isq ∙ passes x isp))
      by_tests false false isq isp rest = taken false isq ∙ rest ∙ sym (ap (λ b. cond b (x ∷ filter p xs) (filter p xs)) isp)

  -- two tests pass the same in either order
  pub filter-swap : (p q : X → Bool) (xs : List X) → filter p (filter q xs) ≡ filter q (filter p xs)
  filter-swap p q [] = refl
  filter-swap p q (x ∷ xs) = by_tests (p x) (q x) refl refl (filter-swap p q xs)
    where
      by_tests : (s t : Bool) → p x ≡ s → q x ≡ t → filter p (filter q xs) ≡ filter q (filter p xs) → filter p (filter q (x ∷ xs)) ≡ filter q (filter p (x ∷ xs))
      by_tests true true isp isq rest =
          ap (λ b. filter p (cond b (x ∷ filter q xs) (filter q xs))) isq
          ∙ ap (λ b. cond b (x ∷ filter p (filter q xs)) (filter p (filter q xs))) isp
          ∙ ap (λ l. x ∷ l) rest
          ∙ sym (ap (λ b. filter q (cond b (x ∷ filter p xs) (filter p xs))) isp ∙ ap (λ b. cond b (x ∷ filter q (filter p xs)) (filter q (filter p xs))) isq)
      by_tests true false isp isq rest =
          ap (λ b. filter p (cond b (x ∷ filter q xs) (filter q xs))) isq
          ∙ rest
          ∙ sym (ap (λ b. filter q (cond b (x ∷ filter p xs) (filter p xs))) isp ∙ ap (λ b. cond b (x ∷ filter q (filter p xs)) (filter q (filter p xs))) isq)
      by_tests false true isp isq rest =
          ap (λ b. filter p (cond b (x ∷ filter q xs) (filter q xs))) isq
          ∙ ap (λ b. cond b (x ∷ filter p (filter q xs)) (filter p (filter q xs))) isp
          ∙ rest
          ∙ sym (ap (λ b. filter q (cond b (x ∷ filter p xs) (filter p xs))) isp)
      by_tests false false isp isq rest =
          ap (λ b. filter p (cond b (x ∷ filter q xs) (filter q xs))) isq
          ∙ rest
          ∙ sym (ap (λ b. filter q (cond b (x ∷ filter p xs) (filter p xs))) isp)

  -- what passes one test and then another passes both
  pub filter-both : (p q : X → Bool) (xs : List X) → filter (λ x. p x && q x) xs ≡ filter q (filter p xs)
  filter-both p q [] = refl
  filter-both p q (x ∷ xs) = by_test (p x) refl (filter-both p q xs)
    where
      by_test : (t : Bool) → p x ≡ t → filter (λ y. p y && q y) xs ≡ filter q (filter p xs) → filter (λ y. p y && q y) (x ∷ xs) ≡ filter q (filter p (x ∷ xs))
      by_test true is rest =
          (λ i. cond (is i && q x) (x ∷ rest i) (rest i))
          ∙ sym (ap (λ b. filter q (cond b (x ∷ filter p xs) (filter p xs))) is)
      by_test false is rest =
          (λ i. cond (is i && q x) (x ∷ rest i) (rest i))
          ∙ sym (ap (λ b. filter q (cond b (x ∷ filter p xs) (filter p xs))) is)

module _ {X Y : Type 0} (f : X → Y) where
  pub filter-mapped : (p : Y → Bool) (xs : List X) → filter p (map f xs) ≡ map f (filter (λ x. p (f x)) xs)
  filter-mapped p [] = refl
  filter-mapped p (x ∷ xs) = by_test (p (f x)) (filter-mapped p xs)
    where
      by_test : (t : Bool) → filter p (map f xs) ≡ map f (filter (λ y. p (f y)) xs)
          → cond t (f x ∷ filter p (map f xs)) (filter p (map f xs)) ≡ map f (cond t (x ∷ filter (λ y. p (f y)) xs) (filter (λ y. p (f y)) xs))
      by_test true rest = ap (λ l. f x ∷ l) rest
      by_test false rest = rest

  pub last-mapped : (xs : List X) → last_of (map f xs) ≡ option_map f (last_of xs)
  last-mapped [] = refl
  last-mapped (x ∷ xs) = ap (λ o. option_or o (Some (f x))) (last-mapped xs) ∙ by_last (last_of xs)
    where
      by_last : (o : Option X) → option_or (option_map f o) (Some (f x)) ≡ option_map f (option_or o (Some x))
      by_last None = refl
      by_last (Some z) = refl

-- ---- the batches between

-- the next batch comes last
pub between-next : (log : List Batch) (above newest : ℕ) (batch : Batch) → IsNext log newest batch → above ≤ newest
    → batches_between log above batch.version ≡ batches_between log above newest ++ batch ∷ []
between-next log above newest batch next le =
    ap (filter (λ b. nat_lt above b.version)) next.behind
    ∙ filter-append (λ b. nat_lt above b.version) (batches_to newest log) (batch ∷ [])
    ∙ ap (λ (t : Bool). batches_between log above newest ++ cond t (batch ∷ []) []) (le-leb (suc above) batch.version (let lt = next.above in omega arith))

-- those above a later version
pub between-above : (log : List Batch) (above version newest : ℕ) → above ≤ version
    → filter (λ b. nat_lt version b.version) (batches_between log above newest) ≡ batches_between log version newest
between-above log above version newest le =
    filter-through (λ b. nat_lt version b.version) (λ b. nat_lt above b.version)
    (λ b is. let lt = leb-true (suc version) b.version is in le-leb (suc above) b.version (omega arith))
    (batches_to newest log)

-- those up to an earlier one
pub between-to : (log : List Batch) (above version newest : ℕ) → version ≤ newest
    → filter (λ b. nat_le b.version version) (batches_between log above newest) ≡ batches_between log above version
between-to log above version newest le =
    filter-swap (λ b. nat_le b.version version) (λ b. nat_lt above b.version) (batches_to newest log)
    ∙ ap (filter (λ b. nat_lt above b.version))
    (filter-through (λ b. nat_le b.version version) (λ b. nat_le b.version newest) (λ b is. let low = leb-true b.version version is in le-leb b.version newest (omega arith)) log)

pub between-none : (log : List Batch) (version : ℕ) → batches_between log version version ≡ []
between-none log version =
    filter-none (λ b. nat_lt version b.version) (batches_to version log)
    (all-passing (λ b. nat_lt version b.version ≡ false) (λ b. nat_le b.version version) (λ b is. let low = leb-true b.version version is in lt-leb (suc version) b.version (omega arith)) log)

-- ---- versions that rise

-- numbers that rise from above this one
abbrev pub Climbs : ℕ → List ℕ → Type 0
Climbs from [] = Unit {0}
Climbs from (v ∷ vs) = (from < v) × Climbs v vs

abbrev pub versions_of : List Batch → (above upto : ℕ) → List ℕ
versions_of log above upto = map (λ b. b.version) (batches_between log above upto)

pub climbs-between : (log : List Batch) (from above newest low : ℕ) → Rises from log → low ≤ max from above → Climbs low (versions_of log above newest)
climbs-between [] from above newest low rises le = tt
climbs-between (b ∷ log) from above newest low rises le =
    by_tests (nat_le b.version newest) (nat_lt above b.version) refl refl (λ next small. climbs-between log b.version above newest next rises.1 small)
  where
    first : from < b.version
    first = rises.0

    by_tests : (s t : Bool) → nat_le b.version newest ≡ s → nat_lt above b.version ≡ t → ((next : ℕ) → next ≤ max b.version above → Climbs next (versions_of log above newest)) → Climbs low (versions_of (b ∷ log) above newest)
    by_tests false t iss ist rest =
        subst (λ s. Climbs low (map (λ c. c.version) (filter (λ c. nat_lt above c.version) (cond s (b ∷ batches_to newest log) (batches_to newest log))))) (sym iss)
        (rest low (let f = first in omega arith))
    by_tests true false iss ist rest =
        subst (λ s. Climbs low (map (λ c. c.version) (filter (λ c. nat_lt above c.version) (cond s (b ∷ batches_to newest log) (batches_to newest log))))) (sym iss)
        (subst (λ t. Climbs low (map (λ c. c.version) (cond t (b ∷ batches_between log above newest) (batches_between log above newest)))) (sym ist)
        (rest low (let f = first in omega arith)))
    by_tests true true iss ist rest =
        subst (λ s. Climbs low (map (λ c. c.version) (filter (λ c. nat_lt above c.version) (cond s (b ∷ batches_to newest log) (batches_to newest log))))) (sym iss)
        (subst (λ t. Climbs low (map (λ c. c.version) (cond t (b ∷ batches_between log above newest) (batches_between log above newest)))) (sym ist)
        ((let f = first in let lt = leb-true (suc above) b.version ist in omega arith), rest b.version (omega arith)))

climbs-all : (from : ℕ) (vs : List ℕ) → Climbs from vs → AllByRecursion (λ v. from < v) vs
climbs-all from [] climbs = tt
climbs-all from (v ∷ vs) climbs = (climbs.0, all-weaker (λ w. v < w) (λ w. from < w) (λ w gt. let lt = climbs.0 in omega arith) vs (climbs-all v vs climbs.1))

-- ---- a number among others

pub among-above : (from : ℕ) (vs : List ℕ) (v : ℕ) → Climbs from vs → Among v vs → from < v
among-above from [] v climbs among = absurd among
among-above from (u ∷ vs) v climbs (inl is) = let lt = climbs.0 in omega arith
among-above from (u ∷ vs) v climbs (inr later) = let lt = climbs.0 in let gt = among-above u vs v climbs.1 later in omega arith

pub among-more : (v : ℕ) (vs ws : List ℕ) → Among v vs → Among v (vs ++ ws)
among-more v [] ws among = absurd among
among-more v (u ∷ vs) ws (inl is) = inl is
among-more v (u ∷ vs) ws (inr later) = inr (among-more v vs ws later)

among-filter : (p : ℕ → Bool) (v : ℕ) (vs : List ℕ) → Among v (filter p vs) → Among v vs
among-filter p v [] among = absurd among
among-filter p v (u ∷ vs) among = by_test (p u) among (among-filter p v vs)
  where
    by_test : (t : Bool) → Among v (cond t (u ∷ filter p vs) (filter p vs)) → (Among v (filter p vs) → Among v vs) → Among v (u ∷ vs)
    by_test true (inl is) rest = inl is
    by_test true (inr later) rest = inr (rest later)
    by_test false later rest = inr (rest later)

among-last : (v : ℕ) (vs : List ℕ) → last_of vs ≡ Some v → Among v vs
among-last v [] is = absurd (cc (is))
among-last v (u ∷ vs) is = by_last (last_of vs) refl is (among-last v vs)
  where
    by_last : (o : Option ℕ) → last_of vs ≡ o → option_or o (Some u) ≡ Some v → (last_of vs ≡ Some v → Among v vs) → Among v (u ∷ vs)
    by_last None none is rest = inl (same_Some u v is)
    by_last (Some w) some is rest = inr (rest (some ∙ is))

-- the last of those up to one of them is that one
pub last-among : (u : ℕ) (vs : List ℕ) (v : ℕ) → Climbs u vs → Among v (u ∷ vs) → last_of (filter (λ w. nat_le w v) (u ∷ vs)) ≡ Some v
last-among u vs v climbs (inl is) =
    ap (λ l. last_of (cond (nat_le u v) (u ∷ l) l)) (filter-none (λ w. nat_le w v) vs (all-weaker (λ w. u < w) (λ w. nat_le w v ≡ false) (λ w gt. lt-leb w v (omega arith)) vs (climbs-all u vs climbs)))
    ∙ ap (λ t. last_of (cond t (u ∷ []) [])) (le-leb u v (omega arith))
    ∙ ap Some is
last-among u [] v climbs (inr none) = absurd none
last-among u (w ∷ vs) v climbs (inr later) = by_test (nat_le u v) (last-among w vs v climbs.1 later)
  where
    by_test : (t : Bool) → last_of (filter (λ x. nat_le x v) (w ∷ vs)) ≡ Some v → last_of (cond t (u ∷ filter (λ x. nat_le x v) (w ∷ vs)) (filter (λ x. nat_le x v) (w ∷ vs))) ≡ Some v
    by_test true rest = ap (λ o. option_or o (Some u)) rest
    by_test false rest = rest

-- and those from it on are it and those above it
pub from-among : (u : ℕ) (vs : List ℕ) (v : ℕ) → Climbs u vs → Among v (u ∷ vs) → filter (λ w. nat_le v w) (u ∷ vs) ≡ v ∷ filter (λ w. nat_lt v w) (u ∷ vs)
from-among u vs v climbs (inl is) =
    ap (λ t. cond t (u ∷ filter (λ w. nat_le v w) vs) (filter (λ w. nat_le v w) vs)) (le-leb v u (omega arith))
    ∙ ap (λ l. u ∷ l) (filter-all (λ w. nat_le v w) vs (all-weaker (λ w. u < w) (λ w. nat_le v w ≡ true) (λ w gt. le-leb v w (omega arith)) vs above))
    ∙ ap (λ w. w ∷ vs) is
    ∙ sym (ap (λ t. v ∷ cond t (u ∷ filter (λ w. nat_lt v w) vs) (filter (λ w. nat_lt v w) vs)) (lt-leb (suc v) u (omega arith))
    ∙ ap (λ l. v ∷ l) (filter-all (λ w. nat_lt v w) vs (all-weaker (λ w. u < w) (λ w. nat_lt v w ≡ true) (λ w gt. le-leb (suc v) w (omega arith)) vs above)))
  where
    above : AllByRecursion (λ w. u < w) vs
    above = climbs-all u vs climbs
from-among u [] v climbs (inr none) = absurd none
from-among u (x ∷ vs) v climbs (inr later) =
    let gt = among-above u (x ∷ vs) v climbs later in
    ap (λ t. cond t (u ∷ filter (λ w. nat_le v w) (x ∷ vs)) (filter (λ w. nat_le v w) (x ∷ vs))) (lt-leb v u (omega arith))
    ∙ from-among x vs v climbs.1 later
    ∙ sym (ap (λ t. v ∷ cond t (u ∷ filter (λ w. nat_lt v w) (x ∷ vs)) (filter (λ w. nat_lt v w) (x ∷ vs))) (lt-leb (suc v) u (omega arith)))

-- ---- the version of a commit

module _ (bound newest : ℕ) (within : bound ≤ newest) where
  abbrev last_from : ℕ → List Batch → ℕ
  last_from first log = unwrap_or (last_of (filter (λ v. nat_le v bound) (versions_of log first newest))) first

  -- what rises from a version on is above any that is below
  all-above : (log : List Batch) (from above : ℕ) → Rises from log → above ≤ from → batches_between log above newest ≡ batches_to newest log
  all-above log from above rises le =
      filter-all (λ b. nat_lt above b.version) (batches_to newest log) (all-filter (λ b. nat_lt above b.version ≡ true) (λ b. nat_le b.version newest) log (higher log from rises le))
    where
      higher : (l : List Batch) (low : ℕ) → Rises low l → above ≤ low → AllByRecursion (λ b. nat_lt above b.version ≡ true) l
      higher [] low rises le = tt
      higher (b ∷ l) low rises le = let lt = rises.0 in (le-leb (suc above) b.version (omega arith), higher l b.version rises.1 (omega arith))

  -- the greatest version up to a bound is the last of those that rise
  pub greatest-is-last : (log : List Batch) (from first : ℕ) → Rises from log → last_from first log ≡ greatest_to bound first log
  greatest-is-last [] from first rises = refl
  greatest-is-last (b ∷ log) from first rises = by_tests (nat_le b.version newest) (nat_lt first b.version) (nat_le b.version bound) refl refl refl (λ next. greatest-is-last log b.version next rises.1)
    where
      inside : (t : Bool) → nat_le b.version newest ≡ t → last_from first (b ∷ log) ≡ unwrap_or (last_of (filter (λ v. nat_le v bound) (map (λ c. c.version) (filter (λ c. nat_lt first c.version) (cond t (b ∷ batches_to newest log) (batches_to newest log)))))) first
      inside t is = ap (λ s. unwrap_or (last_of (filter (λ v. nat_le v bound) (map (λ c. c.version) (filter (λ c. nat_lt first c.version) (cond s (b ∷ batches_to newest log) (batches_to newest log)))))) first) is

      above : (t : Bool) → nat_lt first b.version ≡ t → unwrap_or (last_of (filter (λ v. nat_le v bound) (map (λ c. c.version) (filter (λ c. nat_lt first c.version) (b ∷ batches_to newest log))))) first
          ≡ unwrap_or (last_of (filter (λ v. nat_le v bound) (map (λ c. c.version) (cond t (b ∷ batches_between log first newest) (batches_between log first newest))))) first
      above t is = ap (λ s. unwrap_or (last_of (filter (λ v. nat_le v bound) (map (λ c. c.version) (cond s (b ∷ batches_between log first newest) (batches_between log first newest))))) first) is

      low : (t : Bool) → nat_le b.version bound ≡ t → unwrap_or (last_of (filter (λ v. nat_le v bound) (b.version ∷ versions_of log first newest))) first
          ≡ unwrap_or (last_of (cond t (b.version ∷ filter (λ v. nat_le v bound) (versions_of log first newest)) (filter (λ v. nat_le v bound) (versions_of log first newest)))) first
      low t is = ap (λ s. unwrap_or (last_of (cond s (b.version ∷ filter (λ v. nat_le v bound) (versions_of log first newest)) (filter (λ v. nat_le v bound) (versions_of log first newest)))) first) is

      greatest : (s t : Bool) → nat_lt first b.version ≡ s → nat_le b.version bound ≡ t → greatest_to bound first (b ∷ log) ≡ greatest_to bound (cond (s && t) b.version first) log
      greatest s t iss ist = λ i. greatest_to bound (cond (iss i && ist i) b.version first) log

      or_first : (o : Option ℕ) → unwrap_or (option_or o (Some b.version)) first ≡ unwrap_or o b.version
      or_first None = refl
      or_first (Some v) = refl

      by_tests : (r s t : Bool) → nat_le b.version newest ≡ r → nat_lt first b.version ≡ s → nat_le b.version bound ≡ t → ((next : ℕ) → last_from next log ≡ greatest_to bound next log) → last_from first (b ∷ log) ≡ greatest_to bound first (b ∷ log)
      by_tests true true true isr iss ist rest =
          let lt = leb-true (suc first) b.version iss in
          inside true isr ∙ above true iss ∙ low true ist
          ∙ or_first (last_of (filter (λ v. nat_le v bound) (versions_of log first newest)))
          ∙ ap (λ l. unwrap_or (last_of (filter (λ v. nat_le v bound) (map (λ c. c.version) l))) b.version) (all-above log b.version first rises.1 (omega arith) ∙ sym (all-above log b.version b.version rises.1 (omega arith)))
          ∙ rest b.version
          ∙ sym (greatest true true iss ist)
      by_tests true true false isr iss ist rest = inside true isr ∙ above true iss ∙ low false ist ∙ rest first ∙ sym (greatest true false iss ist)
      by_tests true false true isr iss ist rest = inside true isr ∙ above false iss ∙ rest first ∙ sym (greatest false true iss ist)
      by_tests true false false isr iss ist rest = inside true isr ∙ above false iss ∙ rest first ∙ sym (greatest false false iss ist)
      by_tests false s true isr iss ist rest = absurd (let gt = leb-false b.version newest isr in let le = leb-true b.version bound ist in omega (arith, within))
      by_tests false true false isr iss ist rest = inside false isr ∙ rest first ∙ sym (greatest true false iss ist)
      by_tests false false false isr iss ist rest = inside false isr ∙ rest first ∙ sym (greatest false false iss ist)

-- it is durable or one of those between, and so of all of them
pub greatest-among : (bound first newest : ℕ) (log : List Batch) (from : ℕ) → bound ≤ newest → Rises from log → Among (greatest_to bound first log) (first ∷ versions_of log first newest)
greatest-among bound first newest log from within rises =
    subst (λ v. Among v (first ∷ versions_of log first newest)) (greatest-is-last bound newest within log from first rises)
    (by_last (last_of (filter (λ v. nat_le v bound) (versions_of log first newest))) refl)
  where
    by_last : (o : Option ℕ) → last_of (filter (λ v. nat_le v bound) (versions_of log first newest)) ≡ o → Among (unwrap_or o first) (first ∷ versions_of log first newest)
    by_last None is = inl refl
    by_last (Some v) is = inr (among-filter (λ u. nat_le u bound) v (versions_of log first newest) (among-last v (filter (λ u. nat_le u bound) (versions_of log first newest)) is))
