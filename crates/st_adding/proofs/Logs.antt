-- What a log does between two versions.
use Rattle.std.proofs.Common.{◌≡◌, ◌∙◌, ◌<◌, ◌≤◌, ◌&&◌, ◌++◌, ◌∷◌, ℕ, Bool, true, false, cond, nat_le, nat_lt, List, [], map, filter, Option, Some, None, refl, sym, ap, subst, arith}
use Rattle.std.specs.List.{AllByRecursion, cons_option, flat_map}
use Rattle.std.specs.Option.{option_map}
use Rattle.std.proofs.lemmas.Bool.Decides.{nat_tests}
use Rattle.std.proofs.lemmas.Grind.{flat_map-append}
use Rattle.std.proofs.lemmas.List.Elements.{filter-append, filter_map-append}
use Rattle.std.proofs.lemmas.Option.{same_Some}
use Rattle.st_fold.specs.Plain.{Rises}
use Rattle.st_key.specs.Spans.{Span}
use Rattle.st_mutation.specs.declared.batch.Batch.{Batch}
use Rattle.st_mutation.specs.declared.batch.Mutation.{Mutation}
use Rattle.st_mutation.specs.Clip.{clipped}
use Rattle.st_adding.specs.Updates.{Holding, Update, batches_between, dropped_to, first_above, part_in, updates_from, updates_in, updates_of, with_batch}

not_both : (a n v : ℕ) → n ≤ a → (nat_lt a v && nat_le v n) ≡ false
not_both a n v le = by_tests (nat_lt a v) refl (nat_le v n) refl
  where
    by_tests : (s : Bool) → nat_lt a v ≡ s → (t : Bool) → nat_le v n ≡ t → (nat_lt a v && nat_le v n) ≡ false
    by_tests s above t up_to = grind (arith, nat_tests)

past : (v n : ℕ) → n < v → nat_le v n ≡ false
past v n lt = grind (arith, nat_tests)

reached : (v n : ℕ) → v ≤ n → nat_le v n ≡ true
reached v n le = grind (arith, nat_tests)

above : (a v : ℕ) → a < v → nat_lt a v ≡ true
above a v lt = grind (arith, nat_tests)

is_above : (a v : ℕ) → nat_lt a v ≡ true → a < v
is_above a v is = grind (arith, nat_tests)

is_not_above : (a v : ℕ) → nat_lt a v ≡ false → v ≤ a
is_not_above a v is = grind (arith, nat_tests)

and-false : (b : Bool) → (b && false) ≡ false
and-false true = refl
and-false false = refl

without : (a n : ℕ) (batch : Batch) (later : List Batch) → (nat_lt a batch.version && nat_le batch.version n) ≡ false
    → batches_between a n (batch ∷ later) ≡ batches_between a n later
without a n batch later is = ap (λ (t : Bool). cond t (batch ∷ batches_between a n later) (batches_between a n later)) is

-- nothing stands between a version and itself
pub none_between : (at : ℕ) (log : List Batch) → batches_between at at log ≡ []
none_between at [] = refl
none_between at (batch ∷ later) = without at at batch later (not_both at at batch.version (omega arith)) ∙ none_between at later

-- nor above all that a log rises from
none_past : (at newest version : ℕ) (log : List Batch) → Rises version log → newest ≤ version → batches_between at newest log ≡ []
none_past at newest version [] rises le = refl
none_past at newest version (batch ∷ later) rises le =
    let lt : newest < batch.version = omega (arith, rises.0) in
    without at newest batch later (ap (λ (t : Bool). nat_lt at batch.version && t) (past batch.version newest lt) ∙ and-false (nat_lt at batch.version))
    ∙ none_past at newest batch.version later rises.1 (omega arith)

-- the first batch above a version is above it
found_above : (version : ℕ) (log : List Batch) (batch : Batch) → first_above version log ≡ Some batch → version < batch.version
found_above version [] batch is = absurd (cc (is))
found_above version (other ∷ later) batch is = by_test (found_above version later batch) (nat_lt version other.version) refl is
  where
    by_test : (first_above version later ≡ Some batch → version < batch.version) → (t : Bool) → nat_lt version other.version ≡ t
        → cond t (Some other) (first_above version later) ≡ Some batch → version < batch.version
    by_test rest true up found = subst (λ (b : Batch). version < b.version) (same_Some other batch found) (is_above version other.version up)
    by_test rest false up found = rest found

-- up to the first batch above a version there is that batch more
batches_more : (log : List Batch) (before at newest : ℕ) (batch : Batch) → Rises before log → at ≤ newest → first_above newest log ≡ Some batch
    → batches_between at batch.version log ≡ batches_between at newest log ++ batch ∷ []
batches_more [] before at newest batch rises le is = absurd (cc (is))
batches_more (other ∷ later) before at newest batch rises le is =
    by_test (batches_more later other.version at newest batch rises.1 le) (nat_lt newest other.version) refl is
  where
    -- it is the first of all
    first : newest < other.version → batches_between at other.version (other ∷ later) ≡ batches_between at newest (other ∷ later) ++ other ∷ []
    first lt =
        let up : nat_lt at other.version ≡ true = above at other.version (omega arith) in
        let to : nat_le other.version other.version ≡ true = reached other.version other.version (omega arith) in
        let none : nat_le other.version newest ≡ false = past other.version newest lt in
        (λ i. cond (up i && to i) (other ∷ batches_between at other.version later) (batches_between at other.version later))
        ∙ ap (λ (bs : List Batch). other ∷ bs) (none_past at other.version other.version later rises.1 (omega arith))
        ∙ sym (
        ap (λ (bs : List Batch). bs ++ other ∷ [])
        (without at newest other later (ap (λ (t : Bool). nat_lt at other.version && t) none ∙ and-false (nat_lt at other.version))
        ∙ none_past at newest other.version later rises.1 (omega arith))
        )

    same_test : other.version ≤ newest → newest < batch.version → (nat_lt at other.version && nat_le other.version batch.version) ≡ (nat_lt at other.version && nat_le other.version newest)
    same_test low lt =
        λ i. nat_lt at other.version && (reached other.version batch.version (omega arith) ∙ sym (reached other.version newest low)) i

    kept : (t : Bool) → (low high : List Batch) → high ≡ low ++ batch ∷ [] → cond t (other ∷ high) high ≡ cond t (other ∷ low) low ++ batch ∷ []
    kept true low high is = ap (λ (bs : List Batch). other ∷ bs) is
    kept false low high is = is

    by_test : (first_above newest later ≡ Some batch → batches_between at batch.version later ≡ batches_between at newest later ++ batch ∷ [])
        → (t : Bool) → nat_lt newest other.version ≡ t → cond t (Some other) (first_above newest later) ≡ Some batch
        → batches_between at batch.version (other ∷ later) ≡ batches_between at newest (other ∷ later) ++ batch ∷ []
    by_test rest true up found =
        subst (λ (b : Batch). batches_between at b.version (other ∷ later) ≡ batches_between at newest (other ∷ later) ++ b ∷ []) (same_Some other batch found) (first (is_above newest other.version up))
    by_test rest false up found =
        ap (λ (t : Bool). cond t (other ∷ batches_between at batch.version later) (batches_between at batch.version later))
        (same_test (is_not_above newest other.version up) (found_above newest later batch found))
        ∙ kept (nat_lt at other.version && nat_le other.version newest) (batches_between at newest later) (batches_between at batch.version later) (rest found)

pub append_nil : {X : Type 0} → (xs : List X) → xs ++ [] ≡ xs
append_nil [] = refl
append_nil (x ∷ xs) = ap (λ ys. x ∷ ys) (append_nil xs)

-- and so there are its updates more
pub updates_more : (log : List Batch) (span : Span) (before at newest : ℕ) (batch : Batch) → Rises before log → at ≤ newest → first_above newest log ≡ Some batch
    → updates_of log span at newest ++ updates_in span (updates_from batch) ≡ updates_of log span at batch.version
updates_more log span before at newest batch rises le is =
    sym (filter_map-append (part_in span) (flat_map updates_from (batches_between at newest log)) (updates_from batch))
    ∙ ap (λ (us : List Update). updates_in span (flat_map updates_from (batches_between at newest log) ++ us)) (sym (append_nil (updates_from batch)))
    ∙ ap (updates_in span) (sym (flat_map-append updates_from (batches_between at newest log) (batch ∷ [])))
    ∙ ap (λ (bs : List Batch). updates_in span (flat_map updates_from bs)) (sym (batches_more log before at newest batch rises le is))

-- the versions of updates are at most this one
abbrev AreTo : ℕ → List Update → Type 0
AreTo version updates = AllByRecursion (λ update. update.0 ≤ version) updates

to_append : (version : ℕ) (us vs : List Update) → AreTo version us → AreTo version vs → AreTo version (us ++ vs)
to_append version [] vs first second = second
to_append version (u ∷ us) vs first second = (first.0, to_append version us vs first.1 second)

to_part : (version : ℕ) (of : ℕ) (part : Option Mutation) (rest : List Update) → of ≤ version → AreTo version rest
    → AreTo version (cons_option (option_map (λ m. (of, m)) part) rest)
to_part version of None rest le later = later
to_part version of (Some part) rest le later = (le, later)

to_parts : (version : ℕ) (span : Span) (updates : List Update) → AreTo version updates → AreTo version (updates_in span updates)
to_parts version span [] are = tt
to_parts version span (update ∷ updates) are = to_part version update.0 (clipped update.1 span) (updates_in span updates) are.0 (to_parts version span updates are.1)

to_batch : (version of : ℕ) (mutations : List Mutation) → of ≤ version → AreTo version (map (λ m. (of, m)) mutations)
to_batch version of [] le = tt
to_batch version of (m ∷ mutations) le = (le, to_batch version of mutations le)

to_batches : (at newest : ℕ) (log : List Batch) → AreTo newest (flat_map updates_from (batches_between at newest log))
to_batches at newest [] = tt
to_batches at newest (batch ∷ later) = by_test (to_batches at newest later) (nat_lt at batch.version && nat_le batch.version newest) refl
  where
    up_to : (s t : Bool) → (s && t) ≡ true → t ≡ true
    up_to true t is = is
    up_to false t is = absurd (cc (is))

    is_reached : nat_le batch.version newest ≡ true → batch.version ≤ newest
    is_reached is = grind (arith, nat_tests)

    by_test : AreTo newest (flat_map updates_from (batches_between at newest later)) → (t : Bool) → (nat_lt at batch.version && nat_le batch.version newest) ≡ t
        → AreTo newest (flat_map updates_from (cond t (batch ∷ batches_between at newest later) (batches_between at newest later)))
    by_test rest true is =
        to_append newest (updates_from batch) (flat_map updates_from (batches_between at newest later))
        (to_batch newest batch.version batch.mutations (is_reached (up_to (nat_lt at batch.version) (nat_le batch.version newest) is))) rest
    by_test rest false is = rest

-- the updates of a log are up to its newest version
pub updates_to : (log : List Batch) (span : Span) (at newest : ℕ) → AreTo newest (updates_of log span at newest)
updates_to log span at newest = to_parts newest span (flat_map updates_from (batches_between at newest log)) (to_batches at newest log)

all_stay : (version : ℕ) (updates : List Update) → AreTo version updates → filter (λ update. nat_le update.0 version) updates ≡ updates
all_stay version [] are = refl
all_stay version (update ∷ updates) are =
    ap (λ (t : Bool). cond t (update ∷ filter (λ u. nat_le u.0 version) updates) (filter (λ u. nat_le u.0 version) updates)) (reached update.0 version are.0)
    ∙ ap (λ (us : List Update). update ∷ us) (all_stay version updates are.1)

none_stays : (version of : ℕ) (span : Span) (mutations : List Mutation) → version < of
    → filter (λ update. nat_le update.0 version) (updates_in span (map (λ m. (of, m)) mutations)) ≡ []
none_stays version of span [] lt = refl
none_stays version of span (mutation ∷ mutations) lt =
    one (clipped mutation span) (updates_in span (map (λ m. (of, m)) mutations)) (none_stays version of span mutations lt)
  where
    one : (part : Option Mutation) (rest : List Update) → filter (λ update. nat_le update.0 version) rest ≡ []
        → filter (λ update. nat_le update.0 version) (cons_option (option_map (λ m. (of, m)) part) rest) ≡ []
    one None rest none = none
    one (Some part) rest none =
        ap (λ (t : Bool). cond t ((of, part) ∷ filter (λ update. nat_le update.0 version) rest) (filter (λ update. nat_le update.0 version) rest)) (past of version lt) ∙ none

-- dropping to a version undoes the holding of a batch above it
pub drop_undoes : (held : Holding) (newest : ℕ) (batch : Batch) → AreTo newest held.updates → newest < batch.version → dropped_to newest (with_batch batch held) ≡ held
drop_undoes held newest batch are lt =
    let kept = filter-append (λ (update : Update). nat_le update.0 newest) held.updates (updates_in held.piece (updates_from batch)) in
    let stay = all_stay newest held.updates are in
    let none = none_stays newest batch.version held.piece batch.mutations lt in
    ap (λ (us : List Update). record { piece = held.piece; at = held.at; updates = us })
    (kept ∙ (λ i. stay i ++ none i) ∙ append_nil held.updates)
