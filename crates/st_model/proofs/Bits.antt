-- Keys of spans that were put in and taken out, and the log's moves, key by key.
use Rattle.std.proofs.Common.{◌≡◌, ℕ, ◌<◌, ◌≤◌, Bool, true, false, not, ◌&&◌, ◌||◌, ◌==◌, nat_lt, nat_le, List, [], ◌∷◌, ◌++◌, filter, fold, drop, Some, ◌⊎◌, ⊎_elim, refl, sym, ap, subst, ◌∙◌, arith, le_refl, le_trans, lt_trans, le_of_lt}
use Rattle.std.proofs.lemmas.Bool.{cond_both, cond-true, cond-false, or_cases, or_parts, or_left, or_right, or_from, and_parts, and_left, leb-true, leb-false, le-leb, lt-leb, ltb-true, lt-ltb, eqb-true, eq-eqb, ne_eqb, both_ways, cases_lt}
use Rattle.std.proofs.lemmas.List.Folds.{list_any-append}
use Rattle.std.proofs.lemmas.List.Sums.{fold-append}
use Rattle.std.specs.List.{AllByRecursion, flat_map, list_any}
use Rattle.st_key.specs.Members.{holds-with_span, holds-without_span}
use Rattle.st_key.specs.Parts.{with_span, without_span}
use Rattle.st_key.specs.Spans.{Span, within, holds}
use Rattle.st_mutation.specs.declared.batch.Batch.{Batch}
use Rattle.st_mutation.specs.declared.batch.Move.{Move}
use Rattle.st_mutation.specs.declared.batch.Move.TheVariants.{Assign, Release}
use Rattle.st_fold.specs.Map.{batches_to}
use Rattle.st_fold.specs.Plain.{Rises}
use Rattle.st_model.specs.Facts.{takes_away}
use Rattle.st_model.specs.Plain.{IsSplit, plain_state}
use Rattle.st_model.specs.State.{Given, assigned, next_batch, move_span, released, released_in, released_between}
use Rattle.st_model.proofs.Batches.{none_to, next_is, first_is}

pub or_false : (x : Bool) → (x || false) ≡ x
or_false true = refl
or_false false = refl

pub holds-append : (xs ys : List Span) (key : List ℕ) → holds (xs ++ ys) key ≡ (holds xs key || holds ys key)
holds-append xs ys key = list_any-append (λ span. within span key) xs ys

pub holds-fold_with : (spans more : List Span) (key : List ℕ) → holds (fold with_span spans more) key ≡ (holds spans key || holds more key)
holds-fold_with spans [] key = sym (or_false (holds spans key))
holds-fold_with spans (span ∷ more) key =
    holds-fold_with (with_span spans span) more key
    ∙ ap (λ b. b || holds more key) (holds-with_span spans span key)
    ∙ or_assoc (holds spans key) (within span key) (holds more key)
  where
    or_assoc : (x y z : Bool) → ((x || y) || z) ≡ (x || (y || z))
    or_assoc true y z = refl
    or_assoc false y z = refl

pub holds-fold_without : (spans less : List Span) (key : List ℕ)
    → holds (fold without_span spans less) key ≡ (holds spans key && not (holds less key))
holds-fold_without spans [] key = and_true (holds spans key)
  where
    and_true : (x : Bool) → x ≡ (x && true)
    and_true true = refl
    and_true false = refl
holds-fold_without spans (span ∷ less) key =
    holds-fold_without (without_span spans span) less key
    ∙ ap (λ b. b && not (holds less key)) (holds-without_span spans span key)
    ∙ and_not (holds spans key) (within span key) (holds less key)
  where
    and_not : (x y z : Bool) → ((x && not y) && not z) ≡ (x && not (y || z))
    and_not true true z = refl
    and_not true false z = refl
    and_not false y z = refl

-- ---- one move, and the moves of a batch

pub holds-assigned : (spans : List Span) (span : Span) (key : List ℕ) → holds (move_span spans (Assign span)) key ≡ (holds spans key || within span key)
holds-assigned spans span key = holds-with_span spans span key

pub holds-released : (spans : List Span) (span : Span) (key : List ℕ) → holds (move_span spans (Release span)) key ≡ (holds spans key && not (within span key))
holds-released spans span key = holds-without_span spans span key

-- a key that no move takes away stays
moves_keep : (spans : List Span) (moves : List Move) (key : List ℕ) → holds spans key ≡ true → holds (flat_map released moves) key ≡ false
    → holds (fold move_span spans moves) key ≡ true
moves_keep spans [] key is none = is
moves_keep spans (Assign span ∷ moves) key is none =
    moves_keep (with_span spans span) moves key
    (holds-with_span spans span key ∙ ap (λ b. b || within span key) is) none
moves_keep spans (Release span ∷ moves) key is none =
    let parts = or_parts (within span key) (holds (flat_map released moves) key) none in
    moves_keep (without_span spans span) moves key
    (holds-without_span spans span key ∙ ap (λ b. b && not (within span key)) is ∙ ap not parts.0) parts.1

-- ---- what batches take away

abbrev takes : ℕ → List ℕ → Batch → Bool
takes version key batch = batch.version == version && holds (released_in batch) key

-- a key that no batch of these versions takes away is in none of the spans that they take away
pub none_released : (above upto : ℕ) (log : List Batch) (key : List ℕ)
    → ((version : ℕ) → above < version → version ≤ upto → takes_away log version key ≡ false)
    → holds (released_between above upto log) key ≡ false
none_released above upto [] key none = refl
none_released above upto (batch ∷ log) key none =
    let rest = none_released above upto log key
    (λ version low high. (or_parts (takes version key batch) (takes_away log version key) (none version low high)).1) in
    cond_both (nat_le batch.version upto) (batch ∷ batches_to upto log) (batches_to upto log)
    (λ batches. holds (flat_map released_in (filter (λ batch. nat_lt above batch.version) batches)) key ≡ false)
    (λ within. cond_both (nat_lt above batch.version)
    (batch ∷ filter (λ batch. nat_lt above batch.version) (batches_to upto log)) (filter (λ batch. nat_lt above batch.version) (batches_to upto log))
    (λ batches. holds (flat_map released_in batches) key ≡ false)
    (λ later.
    let first = (or_parts (takes batch.version key batch) (takes_away log batch.version key)
    (none batch.version (ltb-true above batch.version later) (leb-true batch.version upto within))).0 in
    holds-append (released_in batch) (released_between above upto log) key
    ∙ or_from (holds (released_in batch) key) (holds (released_between above upto log) key)
    (sym (ap (λ b. b && holds (released_in batch) key) (eq-eqb batch.version batch.version refl)) ∙ first) rest)
    (λ _. rest))
    (λ _. rest)

-- and one that the batch of such a version takes away is in one of them
pub one_released : (above upto since : ℕ) (log : List Batch) (key : List ℕ) → above < since → since ≤ upto
    → takes_away log since key ≡ true → holds (released_between above upto log) key ≡ true
one_released above upto since [] key low high takes_it = cc
one_released above upto since (batch ∷ log) key low high takes_it =
    cond_both (nat_le batch.version upto) (batch ∷ batches_to upto log) (batches_to upto log)
    (λ batches. holds (flat_map released_in (filter (λ batch. nat_lt above batch.version) batches)) key ≡ true)
    (λ _. cond_both (nat_lt above batch.version)
    (batch ∷ filter (λ batch. nat_lt above batch.version) (batches_to upto log)) (filter (λ batch. nat_lt above batch.version) (batches_to upto log))
    (λ batches. holds (flat_map released_in batches) key ≡ true)
    (λ _. holds-append (released_in batch) (released_between above upto log) key
    ∙ ⊎_elim (λ first. or_left (holds (released_in batch) key) (holds (released_between above upto log) key)
    (and_parts (batch.version == since) (holds (released_in batch) key) first).1)
    (λ later. or_right (holds (released_in batch) key) (holds (released_between above upto log) key)
    (one_released above upto since log key low high later)) cases)
    (λ out. ⊎_elim (λ first. absurd (both_ways (nat_lt above batch.version) out (lt-ltb above batch.version (subst (λ v. above < v) (sym (is_since first)) low))))
    (λ later. one_released above upto since log key low high later) cases))
    (λ out. ⊎_elim (λ first. absurd (both_ways (nat_le batch.version upto) out (le-leb batch.version upto (subst (λ v. v ≤ upto) (sym (is_since first)) high))))
    (λ later. one_released above upto since log key low high later) cases)
  where
    cases : (takes since key batch ≡ true) ⊎ (takes_away log since key ≡ true)
    cases = or_cases (takes since key batch) (takes_away log since key) takes_it

    is_since : takes since key batch ≡ true → batch.version ≡ since
    is_since first = eqb-true batch.version since (and_parts (batch.version == since) (holds (released_in batch) key) first).0

-- ---- a log whose versions rise, parted at a version

pub split_here : (log : List Batch) (low newest : ℕ) → Rises low log → (left : List Batch) × IsSplit log newest left
split_here [] low newest rises = ([], record { applied = []; whole = refl; below = tt; above = tt })
split_here (batch ∷ log) low newest rises =
    ⊎_elim
    (λ later. (batch ∷ log, record { applied = []; whole = refl; below = tt; above = (later, rises.1) }))
    (λ reached.
    let rest = split_here log batch.version newest rises.1 in (
      rest.0,
      record {
        applied = batch ∷ rest.1.applied;
        whole = ap (λ batches. batch ∷ batches) rest.1.whole;
        below = (reached, rest.1.below);
        above = rest.1.above;
      },
    ))
    (cases_lt newest batch.version)

-- the batches up to a version that isn't below are those up to here and some that are left
to_applied : (newest upto : ℕ) (applied left : List Batch) → AllByRecursion (λ batch. batch.version ≤ newest) applied → newest ≤ upto
    → batches_to upto (applied ++ left) ≡ applied ++ batches_to upto left
to_applied newest upto [] left below low = refl
to_applied newest upto (batch ∷ applied) left below low =
    cond-true (nat_le batch.version upto) (batch ∷ batches_to upto (applied ++ left)) (batches_to upto (applied ++ left))
    (le-leb batch.version upto (le_trans below.0 low))
    ∙ ap (λ batches. batch ∷ batches) (to_applied newest upto applied left below.1 low)

abbrev move_all : List Span → Batch → List Span
move_all spans batch = fold move_span spans batch.moves

-- what is assigned at such a version, from what is assigned here
pub assigned_on : (own : List Span) (log : List Batch) (newest upto : ℕ) (left : List Batch) → IsSplit log newest left → newest ≤ upto
    → assigned own log upto ≡ fold move_all (assigned own log newest) (batches_to upto left)
assigned_on own log newest upto left split low =
    to_here upto low
    ∙ ap (λ spans. fold move_all spans (batches_to upto left))
    (sym (to_here newest (le_refl newest) ∙ ap (fold move_all (fold move_all own split.applied)) (none_to newest newest left (le_refl newest) split.above)))
  where
    to_here : (upto : ℕ) → newest ≤ upto → assigned own log upto ≡ fold move_all (fold move_all own split.applied) (batches_to upto left)
    to_here upto low =
        ap (λ batches. fold move_all own (batches_to upto batches)) split.whole
        ∙ ap (fold move_all own) (to_applied newest upto split.applied left split.below low)
        ∙ fold-append move_all own split.applied (batches_to upto left)

-- what holds of the batch of a version
abbrev at_version : ℕ → (Batch → Bool) → Batch → Bool
at_version version test batch = batch.version == version && test batch

-- only those that are left have a version above here
any_left : (log : List Batch) (newest : ℕ) (left : List Batch) (version : ℕ) (test : Batch → Bool) → IsSplit log newest left → newest < version
    → list_any (at_version version test) log ≡ list_any (at_version version test) left
any_left log newest left version test split later =
    ap (list_any (at_version version test)) split.whole
    ∙ list_any-append (at_version version test) split.applied left
    ∙ ap (λ b. b || list_any (at_version version test) left) (none split.applied split.below)
  where
    none : (applied : List Batch) → AllByRecursion (λ batch. batch.version ≤ newest) applied → list_any (at_version version test) applied ≡ false
    none [] below = refl
    none (batch ∷ applied) below =
        or_from (at_version version test batch) (list_any (at_version version test) applied)
        (and_left (batch.version == version) (test batch) (ne_eqb batch.version version (λ same. omega (arith, below.0))))
        (none applied below.1)

-- no batch of a log that begins above a version has it
any_none : (log : List Batch) (low version : ℕ) (test : Batch → Bool) → Rises low log → version ≤ low → list_any (at_version version test) log ≡ false
any_none [] low version test rises under = refl
any_none (batch ∷ log) low version test rises under =
    or_from (at_version version test batch) (list_any (at_version version test) log)
    (and_left (batch.version == version) (test batch) (ne_eqb batch.version version (λ same. omega (arith, rises.0))))
    (any_none log batch.version version test rises.1 (omega (arith, rises.0)))

-- a key that is assigned, and that no batch up to a version takes away, is assigned there
pub assigned_since : (own : List Span) (log : List Batch) (low newest upto : ℕ) (key : List ℕ) → Rises low log → newest ≤ upto
    → holds (assigned own log newest) key ≡ true
    → ((version : ℕ) → newest < version → version ≤ upto → takes_away log version key ≡ false)
    → holds (assigned own log upto) key ≡ true
assigned_since own log low newest upto key rises under is none =
    let split = split_here log low newest rises in
    ap (λ spans. holds spans key) (assigned_on own log newest upto split.0 split.1 under)
    ∙ keeps (assigned own log newest) newest split.0 split.1.above is
    (λ version later high. sym (any_left log newest split.0 version (λ batch. holds (released_in batch) key) split.1 later) ∙ none version later high)
  where
    keeps : (spans : List Span) (from : ℕ) (left : List Batch) → Rises from left → holds spans key ≡ true
        → ((version : ℕ) → from < version → version ≤ upto → takes_away left version key ≡ false)
        → holds (fold move_all spans (batches_to upto left)) key ≡ true
    keeps spans from [] rises is none = is
    keeps spans from (batch ∷ left) rises is none =
        cond_both (nat_le batch.version upto) (batch ∷ batches_to upto left) (batches_to upto left)
        (λ batches. holds (fold move_all spans batches) key ≡ true)
        (λ within.
        let here = (or_parts (takes batch.version key batch) (takes_away left batch.version key)
        (none batch.version rises.0 (leb-true batch.version upto within))).0 in
        keeps (move_all spans batch) batch.version left rises.1
        (moves_keep spans batch.moves key is
        (sym (ap (λ b. b && holds (released_in batch) key) (eq-eqb batch.version batch.version refl)) ∙ here))
        (λ version later high. (or_parts (takes version key batch) (takes_away left version key)
        (none version (lt_trans rises.0 later) high)).1))
        (λ out.
        ap (λ batches. holds (fold move_all spans batches) key) (none_to upto batch.version left (omega (arith, leb-false batch.version upto out)) rises.1) ∙ is)

-- ---- the batch that comes next

-- nothing moves up to it, it moves what its moves say, and it is the one batch of its version
pub record IsNext (own : List Span) (log : List Batch) (newest : ℕ) (batch : Batch) : Type 0 where
  pub above : newest < batch.version
  pub unmoved : (version : ℕ) → newest ≤ version → version < batch.version → assigned own log version ≡ assigned own log newest
  pub moved : assigned own log batch.version ≡ fold move_span (assigned own log newest) batch.moves
  pub none_between : (version : ℕ) (test : Batch → Bool) → newest < version → version < batch.version
      → list_any (λ other. other.version == version && test other) log ≡ false
  pub alone : (test : Batch → Bool) → list_any (λ other. other.version == batch.version && test other) log ≡ test batch

pub is_next : (given : Given) (newest low : ℕ) (batch : Batch) → Rises low given.log → next_batch given (plain_state newest) ≡ Some batch
    → IsNext given.own given.log newest batch
is_next given newest low batch rises e =
    let split = split_here given.log low newest rises in
    let left = first_is given.upto split.0 batch (sym (next_is given newest split.0 split.1) ∙ e) in
    next_of split.0 (drop 1 split.0) split.1 left
  where
    next_of : (left later : List Batch) → IsSplit given.log newest left → left ≡ batch ∷ later → IsNext given.own given.log newest batch
    next_of left later split is =
        let here : IsSplit given.log newest (batch ∷ later) = subst (IsSplit given.log newest) is split in
        record {
          above = here.above.0;
          unmoved = λ version under over.
              assigned_on given.own given.log newest version (batch ∷ later) here under
              ∙ ap (fold move_all (assigned given.own given.log newest))
              (cond-false (nat_le batch.version version) (batch ∷ batches_to version later) (batches_to version later) (lt-leb batch.version version over)
              ∙ none_to version batch.version later (le_of_lt over) here.above.1);
          moved =
              assigned_on given.own given.log newest batch.version (batch ∷ later) here (le_of_lt here.above.0)
              ∙ ap (fold move_all (assigned given.own given.log newest))
              (cond-true (nat_le batch.version batch.version) (batch ∷ batches_to batch.version later) (batches_to batch.version later)
              (le-leb batch.version batch.version (le_refl batch.version))
              ∙ ap (λ batches. batch ∷ batches) (none_to batch.version batch.version later (le_refl batch.version) here.above.1));
          none_between = λ version test under over.
              any_left given.log newest (batch ∷ later) version test here under
              ∙ or_from (at_version version test batch) (list_any (at_version version test) later)
              (and_left (batch.version == version) (test batch) (ne_eqb batch.version version (λ same. omega arith)))
              (any_none later batch.version version test here.above.1 (le_of_lt over));
          alone = λ test.
              any_left given.log newest (batch ∷ later) batch.version test here here.above.0
              ∙ ap (λ b. (b && test batch) || list_any (at_version batch.version test) later) (eq-eqb batch.version batch.version refl)
              ∙ ap (λ b. test batch || b) (any_none later batch.version batch.version test here.above.1 (le_refl batch.version))
              ∙ or_false (test batch);
        }
