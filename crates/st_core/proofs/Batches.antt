-- The batch that comes next, and the versions of a log.
use Rattle.std.proofs.Common.{◌≡◌, ◌∙◌, ◌&&◌, ◌||◌, ◌==◌, ◌<◌, ◌≤◌, ℕ, if◌then◌else◌, Bool, true, false, cond, nat_le, nat_lt, List, [], ◌∷◌, Option, Some, None, option_and_then, IsTrue, refl, sym, ap, arith, leb-true, le-leb, leb-false}
use Rattle.std.specs.List.{AllByRecursion, find, list_any}
use Rattle.std.proofs.lemmas.Bool.{lt-leb}
use Rattle.std.proofs.lemmas.Bool.Decides.{nat_tests}
use Rattle.st_core.specs.Acts.{to}
use Rattle.st_cursor.specs.Reading.{Reading, next_of}
use Rattle.st_fold.specs.Map.{batches_to}
use Rattle.st_fold.specs.Plain.{Rises}
use Rattle.st_model.specs.State.{Given, State, commit_version, greatest_to, next_batch}
use Rattle.st_mutation.specs.declared.batch.Batch.{Batch}
use Rattle.st_restart.specs.Agreement.{is_version}

-- a batch, unless its version is greater than this one
abbrev pub within : ℕ → Batch → Option Batch
within upto batch = if nat_le batch.version upto then Some batch else None

none-above : (low upto : ℕ) (log : List Batch) → upto ≤ low → Rises low log → batches_to upto log ≡ []
none-above low upto [] above rises = refl
none-above low upto (batch ∷ log) above rises =
    by_test (nat_le batch.version upto) refl (none-above batch.version upto log (let lt = rises.0 in omega arith) rises.1)
  where
    by_test : (t : Bool) → nat_le batch.version upto ≡ t → batches_to upto log ≡ [] → cond t (batch ∷ batches_to upto log) (batches_to upto log) ≡ []
    by_test true is later = absurd (let le = leb-true batch.version upto is in let lt = rises.0 in omega arith)
    by_test false is later = later

-- the batch that comes next up to a version is the one that comes next, unless it is above it
pub next-within : (newest upto low : ℕ) (log : List Batch) → Rises low log
    → find (λ batch. nat_lt newest batch.version) (batches_to upto log) ≡ option_and_then (within upto) (find (λ batch. nat_lt newest batch.version) log)
next-within newest upto low [] rises = refl
next-within newest upto low (batch ∷ log) rises = by_within (next-within newest upto batch.version log rises.1) (nat_le batch.version upto) refl
  where
    above : Batch → Bool
    above b = nat_lt newest b.version

    by_within : find above (batches_to upto log) ≡ option_and_then (within upto) (find above log) → (t : Bool) → nat_le batch.version upto ≡ t
        → find above (cond t (batch ∷ batches_to upto log) (batches_to upto log)) ≡ option_and_then (within upto) (find above (batch ∷ log))
    by_within later true is = by_above (above batch)
      where
        by_above : (u : Bool) → cond u (Some batch) (find above (batches_to upto log)) ≡ option_and_then (within upto) (cond u (Some batch) (find above log))
        by_above true = ap (λ (t : Bool). cond t (Some batch) None) (sym is)
        by_above false = later
    by_within later false is = by_above (above batch)
      where
        nothing : batches_to upto log ≡ []
        nothing = none-above batch.version upto log (let lt = leb-false batch.version upto is in omega arith) rises.1

        by_above : (u : Bool) → find above (batches_to upto log) ≡ option_and_then (within upto) (cond u (Some batch) (find above log))
        by_above true = ap (find above) nothing ∙ ap (λ (t : Bool). cond t (Some batch) None) (sym is)
        by_above false = later

-- the same of a cursor that stands at the newest version
pub next-upto : (given : Given) (state : State) (cursor : Reading) → cursor.log ≡ given.log → cursor.last ≡ state.newest → Rises 0 given.log
    → (upto : ℕ) (found : Option Batch) → found ≡ next_of cursor → next_batch (to upto given) state ≡ option_and_then (within upto) found
next-upto given state cursor of_log at rises upto found is =
    next-within state.newest upto 0 given.log rises
    ∙ ap (option_and_then (within upto)) ((λ i. find (λ batch. nat_lt (sym at i) batch.version) (sym of_log i)) ∙ sym is)

pub within-not : (upto : ℕ) (batch : Batch) → upto < batch.version → within upto batch ≡ None
within-not upto batch above = ap (λ (t : Bool). cond t (Some batch) None) (lt-leb batch.version upto above)

pub within-is : (upto : ℕ) (batch : Batch) → batch.version ≤ upto → within upto batch ≡ Some batch
within-is upto batch le = ap (λ (t : Bool). cond t (Some batch) None) (le-leb batch.version upto le)

-- ---- the version of a commit is one of the log, or the durable one

abbrev AreOf : List Batch → List Batch → Type 0
AreOf whole batches = AllByRecursion (λ batch. list_any (λ other. other.version == batch.version) whole ≡ true) batches

pub same-number : (n : ℕ) → (n == n) ≡ true
same-number n = grind (arith, nat_tests)

or-right : (a b : Bool) → b ≡ true → (a || b) ≡ true
or-right true b is = refl
or-right false b is = is

are-more : (batch : Batch) (whole batches : List Batch) → AreOf whole batches → AreOf (batch ∷ whole) batches
are-more batch whole [] are = tt
are-more batch whole (b ∷ batches) are =
    (or-right (batch.version == b.version) (list_any (λ other. other.version == b.version) whole) are.0, are-more batch whole batches are.1)

are-themselves : (log : List Batch) → AreOf log log
are-themselves [] = tt
are-themselves (batch ∷ log) = (
  ap (λ (t : Bool). t || list_any (λ other. other.version == batch.version) log) (same-number batch.version),
  are-more batch log log (are-themselves log),
)

greatest-version : (whole : List Batch) (bound first : ℕ) (batches : List Batch) → AreOf whole batches → IsTrue (is_version whole first)
    → IsTrue (is_version whole (greatest_to bound first batches))
greatest-version whole bound first [] are is = is
greatest-version whole bound first (batch ∷ batches) are is =
    by_test (nat_lt first batch.version && nat_le batch.version bound)
    (greatest-version whole bound batch.version batches are.1 (or-right (batch.version == 0) (list_any (λ other. other.version == batch.version) whole) are.0))
    (greatest-version whole bound first batches are.1 is)
  where
    by_test : (t : Bool) → IsTrue (is_version whole (greatest_to bound batch.version batches)) → IsTrue (is_version whole (greatest_to bound first batches))
        → IsTrue (is_version whole (greatest_to bound (if t then batch.version else first) batches))
    by_test true with_batch without = with_batch
    by_test false with_batch without = without

pub commit-version : (given : Given) (state : State) → IsTrue (is_version given.log state.durable) → IsTrue (is_version given.log (commit_version given state))
commit-version given state is = greatest-version given.log _ state.durable given.log (are-themselves given.log) is
