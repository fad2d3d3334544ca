-- The course of a watch from version to version.
use Rattle.std.proofs.Common.{◌≡◌, ◌∙◌, ◌<◌, ◌≤◌, ◌++◌, ℕ, Bool, true, false, cond, not, ◌&&◌, ◌||◌, ◌⊎◌, inl, inr, nat_le, nat_lt, ◌==◌, List, [], ◌∷◌, Option, Some, None, map, filter, fold, refl, sym, ap, subst, arith}
use Rattle.std.specs.List.{AllByRecursion, find, list_any}
use Rattle.std.specs.Option.{ForSome, option_map, option_or}
use Rattle.std.proofs.lemmas.Bool.{cases_lt, eq-eqb, eqb-true, false≢true, le-leb, leb-false, leb-true, lt-leb, lt-ltb, le-ltb, or_right, ltb-false, ltb-true, not-false}
use Rattle.std.proofs.lemmas.List.{map-append}
use Rattle.std.proofs.lemmas.List.Elements.{filter-append}
use Rattle.std.proofs.lemmas.Slice.Eq.{bytes_eq-Decides}
use Rattle.st_key.specs.Spans.{Span, holds, within}
use Rattle.st_mutation.specs.declared.batch.Batch.{Batch}
use Rattle.st_fold.specs.Map.{apply_batch, batches_to, folded, value_at}
use Rattle.st_fold.specs.Plain.{Rises}
use Rattle.st_model.specs.declared.watch.WatchState.{WatchState}
use Rattle.st_model.specs.declared.watch.WatchState.TheVariants.{Waiting, Fired, Lost}
use Rattle.st_model.specs.State.{Watch, released_in}
use Rattle.st_model.specs.Watching.{batches_since, fires_at, first_of_both, lost_at, same_value, watch_state}
use Rattle.st_watch.specs.declared.entry.Standing.{Standing}
use Rattle.st_watch.specs.Course.{IsNext, after_version, next_state, standing_at}
use Rattle.st_watch.specs.Layout.{in_state}
use Rattle.st_watch.specs.Watches.{after_loss, after_touch, is_waiting, new_watch}
use Rattle.st_watch.proofs.Lists.{all-filtered, all-mapped, all-passing, all-weaker}

find-more : {X : Type 0} (p : X → Bool) (xs ys : List X) → find p (xs ++ ys) ≡ option_or (find p xs) (find p ys)
find-more p [] ys = refl
find-more p (x ∷ xs) ys = by_test (p x) (find-more p xs ys)
  where
    by_test : (t : Bool) → find p (xs ++ ys) ≡ option_or (find p xs) (find p ys) → cond t (Some x) (find p (xs ++ ys)) ≡ option_or (cond t (Some x) (find p xs)) (find p ys)
    by_test true rest = refl
    by_test false rest = rest

-- what is found is one of all
find-all : {X : Type 0} (P : X → Type 0) (p : X → Bool) (xs : List X) → AllByRecursion P xs → ForSome (find p xs) P
find-all P p [] all = λ x is. absurd (cc (is))
find-all P p (y ∷ xs) all = by_test (p y) (find-all P p xs all.1)
  where
    by_test : (t : Bool) → ForSome (find p xs) P → ForSome (cond t (Some y) (find p xs)) P
    by_test true rest = λ x is. let one : y ≡ x = cc (is) in subst P one all.0
    by_test false rest = rest

map-or : {X Y : Type 0} (f : X → Y) (a b : Option X) → option_map f (option_or a b) ≡ option_or (option_map f a) (option_map f b)
map-or f None b = refl
map-or f (Some x) b = refl

-- no batch is above a version and not above it
none_since : (watch : Watch) (log : List Batch) → batches_since log watch watch.since ≡ []
none_since watch [] = refl
none_since watch (batch ∷ log) = by_test (nat_le batch.version watch.since) refl (none_since watch log)
  where
    by_test : (t : Bool) → nat_le batch.version watch.since ≡ t → batches_since log watch watch.since ≡ []
        → filter (λ b. nat_lt watch.since b.version) (cond t (batch ∷ batches_to watch.since log) (batches_to watch.since log)) ≡ []
    by_test true is rest =
        ap (λ (t : Bool). cond t (batch ∷ batches_since log watch watch.since) (batches_since log watch watch.since))
        (le-ltb watch.since batch.version (leb-true batch.version watch.since is))
        ∙ rest
    by_test false is rest = rest

pub new-stands : (log : List Batch) (watch : Watch) → standing_at log watch watch.since ≡ new_watch watch.key watch.value (value_at (folded log watch.since) watch.key) watch.since
new-stands log watch =
    ap (λ (s : WatchState). record { key = watch.key; value = watch.value; state = s })
    (ap (λ (bs : List Batch). first_of_both (find (λ version. not (same_value (value_at (folded log version) watch.key) watch.value)) (watch.since ∷ map (λ b. b.version) bs))
    (option_map (λ b. b.version) (find (λ b. holds (released_in b) watch.key) bs))) (none_since watch log)
    ∙ by_value (same_value (value_at (folded log watch.since) watch.key) watch.value))
  where
    by_value : (t : Bool) → first_of_both (cond (not t) (Some watch.since) None) None ≡ cond t Waiting (Fired watch.since)
    by_value true = refl
    by_value false = refl

-- the state that follows from both firsts
follows : (version : ℕ) (gone same : Bool) (fires loses : Option ℕ) → ForSome fires (λ n. n < version) → ForSome loses (λ n. n < version)
    → first_of_both (option_or fires (cond (not same) (Some version) None)) (option_or loses (cond gone (Some version) None)) ≡ next_state (first_of_both fires loses) gone same version
follows version gone same None None below_fires below_loses = by_cases gone same
  where
    by_cases : (gone same : Bool) → first_of_both (cond (not same) (Some version) None) (cond gone (Some version) None) ≡ next_state Waiting gone same version
    by_cases true true = refl
    by_cases true false = ap (λ (t : Bool). cond t (Lost version) (Fired version)) (le-leb version version (omega arith))
    by_cases false true = refl
    by_cases false false = refl
follows version gone same None (Some loses) below_fires below_loses = by_case same
  where
    by_case : (same : Bool) → first_of_both (cond (not same) (Some version) None) (Some loses) ≡ Lost loses
    by_case true = refl
    by_case false = let less : loses < version = below_loses loses refl in ap (λ (t : Bool). cond t (Lost loses) (Fired version)) (le-leb loses version (omega arith))
follows version gone same (Some fires) None below_fires below_loses = by_case gone
  where
    by_case : (gone : Bool) → first_of_both (Some fires) (cond gone (Some version) None) ≡ Fired fires
    by_case true = let less : fires < version = below_fires fires refl in ap (λ (t : Bool). cond t (Lost version) (Fired fires)) (lt-leb version fires less)
    by_case false = refl
follows version gone same (Some fires) (Some loses) below_fires below_loses = by_test (nat_le loses fires)
  where
    by_test : (t : Bool) → cond t (Lost loses) (Fired fires) ≡ next_state (cond t (Lost loses) (Fired fires)) gone same version
    by_test true = refl
    by_test false = refl

module _ (log : List Batch) (watch : Watch) (newest : ℕ) (batch : Batch) (since : watch.since ≤ newest) (next : IsNext log newest batch) where
  abbrev differs : ℕ → Bool
  differs version = not (same_value (value_at (folded log version) watch.key) watch.value)

  abbrev takes : Batch → Bool
  takes b = holds (released_in b) watch.key

  since-more : batches_since log watch batch.version ≡ batches_since log watch newest ++ batch ∷ []
  since-more =
      ap (filter (λ b. nat_lt watch.since b.version)) next.batches
      ∙ filter-append (λ b. nat_lt watch.since b.version) (batches_to newest log) (batch ∷ [])
      ∙ ap (λ (t : Bool). batches_since log watch newest ++ cond t (batch ∷ []) []) (lt-ltb watch.since batch.version (let above = next.above in omega (arith, above)))

  fires-more : fires_at log watch batch.version ≡ option_or (fires_at log watch newest) (cond (differs batch.version) (Some batch.version) None)
  fires-more =
      ap (λ (bs : List Batch). find differs (watch.since ∷ map (λ b. b.version) bs)) since-more
      ∙ ap (λ (vs : List ℕ). find differs (watch.since ∷ vs)) (map-append (λ (b : Batch). b.version) (batches_since log watch newest) (batch ∷ []))
      ∙ find-more differs (watch.since ∷ map (λ b. b.version) (batches_since log watch newest)) (batch.version ∷ [])

  lost-more : lost_at log watch batch.version ≡ option_or (lost_at log watch newest) (cond (takes batch) (Some batch.version) None)
  lost-more =
      ap (λ (bs : List Batch). option_map (λ b. b.version) (find takes bs)) since-more
      ∙ ap (option_map (λ (b : Batch). b.version)) (find-more takes (batches_since log watch newest) (batch ∷ []))
      ∙ map-or (λ (b : Batch). b.version) (find takes (batches_since log watch newest)) (cond (takes batch) (Some batch) None)
      ∙ ap (option_or (lost_at log watch newest)) (by_test (takes batch))
    where
      by_test : (t : Bool) → option_map (λ (b : Batch). b.version) (cond t (Some batch) None) ≡ cond t (Some batch.version) None
      by_test true = refl
      by_test false = refl

  -- the batches so far are not above the newest version
  below : AllByRecursion (λ (b : Batch). b.version < batch.version) (batches_since log watch newest)
  below =
      all-filtered (λ (b : Batch). b.version < batch.version) (λ b. nat_lt watch.since b.version) (batches_to newest log)
      (all-weaker (λ (b : Batch). nat_le b.version newest ≡ true) (λ b. b.version < batch.version)
      (λ b is. let le = leb-true b.version newest is in let above = next.above in omega (arith, le, above)) (batches_to newest log)
      (all-passing (λ b. nat_le b.version newest) log))

  fires-below : ForSome (fires_at log watch newest) (λ n. n < batch.version)
  fires-below =
      find-all (λ n. n < batch.version) differs (watch.since ∷ map (λ b. b.version) (batches_since log watch newest))
      ((let above = next.above in omega (arith, above)), all-mapped (λ n. n < batch.version) (λ (b : Batch). b.version) (batches_since log watch newest) below)

  lost-below : ForSome (lost_at log watch newest) (λ n. n < batch.version)
  lost-below = by_found (find takes (batches_since log watch newest)) (find-all (λ (b : Batch). b.version < batch.version) takes (batches_since log watch newest) below)
    where
      by_found : (o : Option Batch) → ForSome o (λ b. b.version < batch.version) → ForSome (option_map (λ (b : Batch). b.version) o) (λ n. n < batch.version)
      by_found None all = λ n is. absurd (cc (is))
      by_found (Some b) all = λ n is. let one : b.version ≡ n = cc (is) in subst (λ m. m < batch.version) one (all b refl)

  pub moved-on : watch_state log watch batch.version
      ≡ next_state (watch_state log watch newest) (takes batch) (same_value (value_at (folded log batch.version) watch.key) watch.value) batch.version
  moved-on =
      ap (λ (f : Option ℕ). first_of_both f (lost_at log watch batch.version)) fires-more
      ∙ ap (first_of_both (option_or (fires_at log watch newest) (cond (differs batch.version) (Some batch.version) None))) lost-more
      ∙ follows batch.version (takes batch) (same_value (value_at (folded log batch.version) watch.key) watch.value) (fires_at log watch newest) (lost_at log watch newest) fires-below lost-below

-- spans that are taken away one by one
abbrev lost_again : List Span → ℕ → Standing → Standing
lost_again spans version s = in_state (cond (is_waiting s.state && holds spans s.key) (Lost version) s.state) s

lost_by : (spans : List Span) (version : ℕ) (s : Standing)
    → fold (λ before span. after_loss span version before) s spans ≡ in_state (cond (is_waiting s.state && holds spans s.key) (Lost version) s.state) s
lost_by [] version s = by_state s.state
  where
    by_state : (state : WatchState) → in_state state s ≡ in_state (cond (is_waiting state && false) (Lost version) state) s
    by_state Waiting = refl
    by_state (Fired at) = refl
    by_state (Lost at) = refl
lost_by (span ∷ spans) version s = lost_by spans version (after_loss span version s) ∙ by_state s.state (within span s.key)
  where
    by_state : (state : WatchState) (t : Bool)
        → lost_again spans version (cond (is_waiting state && t) (in_state (Lost version) (in_state state s)) (in_state state s))
        ≡ in_state (cond (is_waiting state && (t || holds spans s.key)) (Lost version) state) s
    by_state Waiting true = refl
    by_state Waiting false = refl
    by_state (Fired at) t = refl
    by_state (Lost at) t = refl

-- the steps of a version make the next state
abbrev touched_if : (same_key : Bool) (now : Option (List ℕ)) (version : ℕ) (s : Standing) → Standing
touched_if same_key now version s = cond (is_waiting s.state && same_key && not (same_value now s.value)) (in_state (Fired version) s) s

steps-make : (spans : List Span) (now : Option (List ℕ)) (version : ℕ) (s : Standing)
    → after_version spans now version s ≡ in_state (next_state s.state (holds spans s.key) (same_value now s.value) version) s
steps-make spans now version s =
    ap (after_touch s.key now version) (lost_by spans version s)
    ∙ ap (λ (t : Bool). touched_if t now version (in_state (cond (is_waiting s.state && holds spans s.key) (Lost version) s.state) s)) ((bytes_eq-Decides s.key s.key).1 refl)
    ∙ by_state s.state (holds spans s.key) (same_value now s.value)
  where
    by_state : (state : WatchState) (gone same : Bool)
        → cond (is_waiting (cond (is_waiting state && gone) (Lost version) state) && true && not same)
        (in_state (Fired version) s)
        (in_state (cond (is_waiting state && gone) (Lost version) state) s)
        ≡ in_state (next_state state gone same version) s
    by_state Waiting true true = refl
    by_state Waiting true false = refl
    by_state Waiting false true = refl
    by_state Waiting false false = refl
    by_state (Fired at) gone same = refl
    by_state (Lost at) gone same = refl

pub stepped-on : (log : List Batch) (watch : Watch) (newest : ℕ) (batch : Batch) → watch.since ≤ newest → IsNext log newest batch
    → standing_at log watch batch.version
    ≡ after_version (released_in batch) (value_at (folded log batch.version) watch.key) batch.version (standing_at log watch newest)
stepped-on log watch newest batch since next =
    ap (λ (s : WatchState). record { key = watch.key; value = watch.value; state = s }) (moved-on log watch newest batch since next)
    ∙ sym (steps-make (released_in batch) (value_at (folded log batch.version) watch.key) batch.version (standing_at log watch newest))

-- no batch of a log that rises from a version on is at it or below it
none-to : (low n : ℕ) (log : List Batch) → Rises low log → n ≤ low → batches_to n log ≡ []
none-to low n [] rises le = refl
none-to low n (batch ∷ log) rises le =
    ap (λ (t : Bool). cond t (batch ∷ batches_to n log) (batches_to n log)) (lt-leb batch.version n (let above = rises.0 in omega (arith, above, le)))
    ∙ none-to batch.version n log rises.1 (let above = rises.0 in omega (arith, above, le))

-- the first batch above a version, where it is also up to a bound
is-next : (low : ℕ) (log : List Batch) (newest : ℕ) (batch : Batch) → Rises low log → find (λ next. nat_lt newest next.version) log ≡ Some batch → IsNext log newest batch
is-next low [] newest batch rises is = absurd (cc (is))
is-next low (b ∷ log) newest batch rises is = by_test (nat_lt newest b.version) refl (is-next b.version log newest batch rises.1) is
  where
    by_test : (t : Bool) → nat_lt newest b.version ≡ t → (find (λ next. nat_lt newest next.version) log ≡ Some batch → IsNext log newest batch)
        → cond t (Some b) (find (λ next. nat_lt newest next.version) log) ≡ Some batch → IsNext (b ∷ log) newest batch
    by_test true above rest is =
        let one : b ≡ batch = cc (is) in
        let less = ltb-true newest b.version above in
        subst (λ (x : Batch). IsNext (b ∷ log) newest x) one (record {
          above = less;
          batches = ap (λ (t : Bool). cond t (b ∷ batches_to b.version log) (batches_to b.version log)) (le-leb b.version b.version (omega arith))
              ∙ ap (λ (l : List Batch). b ∷ l) (none-to b.version b.version log rises.1 (omega arith))
              ∙ sym (ap (λ (l : List Batch). l ++ b ∷ []) (ap (λ (t : Bool). cond t (b ∷ batches_to newest log) (batches_to newest log)) (lt-leb b.version newest less)
              ∙ none-to b.version newest log rises.1 (omega (arith, less))));
        })
    by_test false not_above rest is =
        let next = rest is in
        let le = ltb-false newest b.version not_above in record {
          above = next.above;
          batches = ap (λ (t : Bool). cond t (b ∷ batches_to batch.version log) (batches_to batch.version log)) (le-leb b.version batch.version (let above = next.above in omega (arith, le, above)))
              ∙ ap (λ (l : List Batch). b ∷ l) next.batches
              ∙ sym (ap (λ (t : Bool). cond t (b ∷ batches_to newest log) (batches_to newest log) ++ batch ∷ []) (le-leb b.version newest le));
        }

pub first-is-next : (low : ℕ) (log : List Batch) (newest : ℕ) (batch : Batch) → Rises low log → find (λ next. nat_lt newest next.version) log ≡ Some batch → IsNext log newest batch
first-is-next low log newest batch rises is = is-next low log newest batch rises is

-- the first one up to a bound is the first one
pub bounded-is-first : (low : ℕ) (log : List Batch) (upto newest : ℕ) (batch : Batch) → Rises low log
    → find (λ next. nat_lt newest next.version) (batches_to upto log) ≡ Some batch → find (λ next. nat_lt newest next.version) log ≡ Some batch
bounded-is-first low [] upto newest batch rises is = is
bounded-is-first low (b ∷ log) upto newest batch rises is = by_bound (nat_le b.version upto) refl (bounded-is-first b.version log upto newest batch rises.1) is
  where
    by_test : (t : Bool) → (find (λ next. nat_lt newest next.version) (batches_to upto log) ≡ Some batch → find (λ next. nat_lt newest next.version) log ≡ Some batch)
        → cond t (Some b) (find (λ next. nat_lt newest next.version) (batches_to upto log)) ≡ Some batch → cond t (Some b) (find (λ next. nat_lt newest next.version) log) ≡ Some batch
    by_test true rest is = is
    by_test false rest is = rest is

    by_bound : (t : Bool) → nat_le b.version upto ≡ t
        → (find (λ next. nat_lt newest next.version) (batches_to upto log) ≡ Some batch → find (λ next. nat_lt newest next.version) log ≡ Some batch)
        → find (λ next. nat_lt newest next.version) (cond t (b ∷ batches_to upto log) (batches_to upto log)) ≡ Some batch
        → find (λ next. nat_lt newest next.version) (b ∷ log) ≡ Some batch
    by_bound true within rest is = by_test (nat_lt newest b.version) rest is
    by_bound false beyond rest is =
        let none : batches_to upto log ≡ [] = none-to b.version upto log rises.1 (let less = leb-false b.version upto beyond in omega (arith, less)) in
        absurd (cc (sym (ap (find (λ (next : Batch). nat_lt newest next.version)) none) ∙ is))

-- A version of a watch up to a newest one, up to which the same batches come.
record LastVersion (log : List Batch) (watch : Watch) (newest u : ℕ) : Type 0 where
  same : batches_to u log ≡ batches_to newest log
  one_of : (u ≡ watch.since) ⊎ (list_any (λ b. b.version == u) (batches_since log watch newest) ≡ true)

-- each batch of a log that rises from a version on is above it
rises-above : (low u : ℕ) (log : List Batch) → Rises low log → list_any (λ b. b.version == u) log ≡ true → low < u
rises-above low u [] rises any = absurd (false≢true any)
rises-above low u (b ∷ log) rises any = by_test (b.version == u) refl (rises-above b.version u log rises.1) any
  where
    by_test : (t : Bool) → (b.version == u) ≡ t → (list_any (λ b. b.version == u) log ≡ true → b.version < u) → (t || list_any (λ b. b.version == u) log) ≡ true → low < u
    by_test true is rest any = let same = eqb-true b.version u is in let above = rises.0 in omega (arith, same, above)
    by_test false is rest any = let more = rest any in let above = rises.0 in omega (arith, more, above)

any-filtered : {X : Type 0} (p q : X → Bool) (xs : List X) → list_any p (filter q xs) ≡ true → list_any p xs ≡ true
any-filtered p q [] any = any
any-filtered p q (x ∷ xs) any = by_test (q x) (p x) (any-filtered p q xs) refl any
  where
    by_test : (s t : Bool) → (list_any p (filter q xs) ≡ true → list_any p xs ≡ true) → p x ≡ t → list_any p (cond s (x ∷ filter q xs) (filter q xs)) ≡ true → (t || list_any p xs) ≡ true
    by_test s true rest is any = refl
    by_test true false rest is any = rest (ap (λ (t : Bool). t || list_any p (filter q xs)) (sym is) ∙ any)
    by_test false false rest is any = rest any

-- at a version of the watch its test was made
made-at : (u : ℕ) (q : ℕ → Bool) (bs : List Batch) → AllByRecursion (λ n. q n ≡ false) (map (λ b. b.version) bs) → list_any (λ b. b.version == u) bs ≡ true → q u ≡ false
made-at u q [] all any = absurd (false≢true any)
made-at u q (b ∷ bs) all any = by_test (b.version == u) refl (made-at u q bs all.1) any
  where
    by_test : (t : Bool) → (b.version == u) ≡ t → (list_any (λ b. b.version == u) bs ≡ true → q u ≡ false) → (t || list_any (λ b. b.version == u) bs) ≡ true → q u ≡ false
    by_test true is rest any = subst (λ n. q n ≡ false) (eqb-true b.version u is) all.0
    by_test false is rest any = rest any

none-passes : {X : Type 0} (q : X → Bool) (xs : List X) → find q xs ≡ None → AllByRecursion (λ x. q x ≡ false) xs
none-passes q [] none = tt
none-passes q (x ∷ xs) none = by_test (q x) refl (none-passes q xs) none
  where
    by_test : (t : Bool) → q x ≡ t → (find q xs ≡ None → AllByRecursion (λ x. q x ≡ false) xs) → cond t (Some x) (find q xs) ≡ None → (q x ≡ false) × AllByRecursion (λ x. q x ≡ false) xs
    by_test true is rest none = absurd (cc (none))
    by_test false is rest none = (is, rest none)

last-version : (low : ℕ) (log : List Batch) (watch : Watch) (newest : ℕ) → Rises low log → watch.since ≤ newest → (u : ℕ) × LastVersion log watch newest u
last-version low [] watch newest rises since = (watch.since, record { same = refl; one_of = inl refl })
last-version low (b ∷ log) watch newest rises since = by_test (nat_le b.version newest) refl (last-version b.version log watch newest rises.1 since)
  where
    here : (n : ℕ) → b.version ≤ n → batches_to n (b ∷ log) ≡ b ∷ batches_to n log
    here n le = ap (λ (t : Bool). cond t (b ∷ batches_to n log) (batches_to n log)) (le-leb b.version n le)

    past : (n : ℕ) → n < b.version → batches_to n (b ∷ log) ≡ []
    past n less =
        ap (λ (t : Bool). cond t (b ∷ batches_to n log) (batches_to n log)) (lt-leb b.version n less)
        ∙ none-to b.version n log rises.1 (omega (arith, less))

    -- the batch comes after the watch
    with_it : (t : Bool) → nat_le b.version newest ≡ true → watch.since < b.version → list_any (λ x. x.version == b.version) (batches_since (b ∷ log) watch newest) ≡ true
    with_it t le less =
        ap (λ (l : List Batch). list_any (λ x. x.version == b.version) (filter (λ x. nat_lt watch.since x.version) l)) (here newest (leb-true b.version newest le))
        ∙ ap (λ (t : Bool). list_any (λ x. x.version == b.version) (cond t (b ∷ batches_since log watch newest) (batches_since log watch newest))) (lt-ltb watch.since b.version less)
        ∙ ap (λ (t : Bool). t || list_any (λ x. x.version == b.version) (batches_since log watch newest)) (eq-eqb b.version b.version refl)

    more_any : (u : ℕ) → nat_le b.version newest ≡ true → list_any (λ x. x.version == u) (batches_since log watch newest) ≡ true → list_any (λ x. x.version == u) (batches_since (b ∷ log) watch newest) ≡ true
    more_any u le any =
        ap (λ (l : List Batch). list_any (λ x. x.version == u) (filter (λ x. nat_lt watch.since x.version) l)) (here newest (leb-true b.version newest le))
        ∙ by_since (nat_lt watch.since b.version) (b.version == u)
      where
        by_since : (s t : Bool) → list_any (λ x. x.version == u) (cond s (b ∷ batches_since log watch newest) (batches_since log watch newest)) ≡ true
        by_since true t = or_right (b.version == u) (list_any (λ x. x.version == u) (batches_since log watch newest)) any
        by_since false t = any

    by_test : (t : Bool) → nat_le b.version newest ≡ t → (u : ℕ) × LastVersion log watch newest u → (u : ℕ) × LastVersion (b ∷ log) watch newest u
    by_test true is last = by_one last.1.one_of
      where
        le : b.version ≤ newest
        le = leb-true b.version newest is

        by_one : (last.0 ≡ watch.since) ⊎ (list_any (λ x. x.version == last.0) (batches_since log watch newest) ≡ true) → (u : ℕ) × LastVersion (b ∷ log) watch newest u
        by_one (inr any) =
            let less : b.version < last.0 =
            rises-above b.version last.0 log rises.1
            (any-filtered (λ x. x.version == last.0) (λ x. nat_le x.version newest) log (any-filtered (λ x. x.version == last.0) (λ x. nat_lt watch.since x.version) (batches_to newest log) any)) in
            (last.0, record { same = here last.0 (omega (arith, less)) ∙ ap (λ (l : List Batch). b ∷ l) last.1.same ∙ sym (here newest le); one_of = inr (more_any last.0 is any) })
        by_one (inl at_since) =
            elim (cases_lt watch.since b.version) [
              | inl less ↦ (
                b.version,
                record {
                  same = here b.version (omega arith)
                      ∙ ap (λ (l : List Batch). b ∷ l)
                      (none-to b.version b.version log rises.1 (omega arith)
                      ∙ sym (sym last.1.same ∙ ap (λ (n : ℕ). batches_to n log) at_since ∙ none-to b.version watch.since log rises.1 (omega (arith, less))))
                      ∙ sym (here newest le);
                  one_of = inr (with_it true is less);
                },
              )
              | inr more ↦ (
                watch.since,
                record {
                  same = here watch.since more ∙ ap (λ (l : List Batch). b ∷ l) (ap (λ (n : ℕ). batches_to n log) (sym at_since) ∙ last.1.same) ∙ sym (here newest le);
                  one_of = inl refl;
                },
              )
            ]
    by_test false is last =
        let beyond = leb-false b.version newest is in
        (watch.since, record { same = past watch.since (omega (arith, beyond, since)) ∙ sym (past newest (omega (arith, beyond))); one_of = inl refl })

-- a watch that waits has fired at no version
waits-unfired : (fires loses : Option ℕ) → first_of_both fires loses ≡ Waiting → fires ≡ None
waits-unfired None loses is = refl
waits-unfired (Some fires) None is = absurd (cc (is))
waits-unfired (Some fires) (Some loses) is = by_test (nat_le loses fires) is
  where
    by_test : (t : Bool) → cond t (Lost loses) (Fired fires) ≡ Waiting → Some fires ≡ None
    by_test true is = absurd (cc (is))
    by_test false is = absurd (cc (is))

pub keeps-value : (low : ℕ) (log : List Batch) (watch : Watch) (newest : ℕ) → Rises low log → watch.since ≤ newest → watch_state log watch newest ≡ Waiting
    → same_value (value_at (folded log newest) watch.key) watch.value ≡ true
keeps-value low log watch newest rises since is =
    ap (λ (l : List Batch). same_value (value_at (fold apply_batch [] l) watch.key) watch.value) (sym last.1.same)
    ∙ not-false (same_value (value_at (folded log last.0) watch.key) watch.value) (by_one last.1.one_of)
  where
    last : (u : ℕ) × LastVersion log watch newest u
    last = last-version low log watch newest rises since

    all : AllByRecursion (λ n. not (same_value (value_at (folded log n) watch.key) watch.value) ≡ false) (watch.since ∷ map (λ b. b.version) (batches_since log watch newest))
    all =
        none-passes (λ n. not (same_value (value_at (folded log n) watch.key) watch.value)) (watch.since ∷ map (λ b. b.version) (batches_since log watch newest))
        (waits-unfired (fires_at log watch newest) (lost_at log watch newest) is)

    by_one : (last.0 ≡ watch.since) ⊎ (list_any (λ x. x.version == last.0) (batches_since log watch newest) ≡ true)
        → not (same_value (value_at (folded log last.0) watch.key) watch.value) ≡ false
    by_one (inl at_since) = subst (λ n. not (same_value (value_at (folded log n) watch.key) watch.value) ≡ false) (sym at_since) all.0
    by_one (inr any) = made-at last.0 (λ n. not (same_value (value_at (folded log n) watch.key) watch.value)) (batches_since log watch newest) all.1 any
