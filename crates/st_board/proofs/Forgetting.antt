-- A commit in the versions that are kept, and their beginning.
use Rattle.std.proofs.Common.{◌≡◌, ◌∙◌, ◌≤◌, ◌<◌, ◌++◌, ◌&&◌, ℕ, suc, max, Bool, true, false, cond, nat_le, nat_lt, leb-true, leb-false, le-leb, List, [], ◌∷◌, fold, filter, map, Option, Some, None, IfSome, refl, sym, ap, subst, arith}
use Rattle.std.specs.List.{AllByRecursion, list_all}
use Rattle.std.specs.Option.{option_map, option_map_or, option_or}
use Rattle.std.proofs.lemmas.Bool.{and_parts, false≢true, lt-leb}
use Rattle.std.proofs.lemmas.List.{map-append}
use Rattle.std.proofs.lemmas.List.Sums.{fold-append}
use Rattle.std.proofs.lemmas.Option.{same_Some}
use Rattle.st_mutation.specs.Effect.{value_by}
use Rattle.st_mutation.specs.declared.batch.Batch.{Batch}
use Rattle.st_mutation.specs.declared.batch.Mutation.{Mutation}
use Rattle.st_ptree.specs.Entries.{last_of}
use Rattle.st_versioned.specs.Root.{Pairs, Row, decided, value_at}
use Rattle.st_versioned.specs.Window.{Kept, Stands, Versions, forgot, is_rising, kept_from, last_to, mutations_to, root_of}
use Rattle.st_board.specs.Kept.{IsUsers, KeepsVersions, NeverFall, led_to}
use Rattle.st_board.specs.Tells.{TellsTo}
use Rattle.st_course.specs.Sent.{value_of}
use Rattle.st_board.proofs.Lists.{all-filter, all-last, all-passing, all-weaker, filter-all, filter-none, last-none}
use Rattle.st_board.proofs.Sealing.{inside}
use Rattle.st_board.proofs.Telling.{tells-durable}

module _ {X : Type 0} where
  -- what passes no test passes none where nothing is left
  none-passes : (p : X → Bool) (xs : List X) → filter p xs ≡ [] → AllByRecursion (λ x. p x ≡ false) xs
  none-passes p [] is = tt
  none-passes p (x ∷ xs) is = by_test (p x) refl is (none-passes p xs)
    where
      by_test : (t : Bool) → p x ≡ t → cond t (x ∷ filter p xs) (filter p xs) ≡ [] → (filter p xs ≡ [] → AllByRecursion (λ x. p x ≡ false) xs) → AllByRecursion (λ x. p x ≡ false) (x ∷ xs)
      by_test true here is rest = absurd (cc (is))
      by_test false here is rest = (here, rest is)

  -- the last that passes a test is still the last where it passes another test too
  last-passing : (p q : X → Bool) (xs : List X) → ((y : X) → last_of (filter p xs) ≡ Some y → q y ≡ true) → last_of (filter p (filter q xs)) ≡ last_of (filter p xs)
  last-passing p q [] passes = refl
  last-passing p q (x ∷ xs) passes = by_rest (last_of (filter p xs)) refl (last-passing p q xs)
    where
      -- x comes before those that are left
      ahead : (t : Bool) → p x ≡ t → last_of (filter p (x ∷ xs)) ≡ cond t (option_or (last_of (filter p xs)) (Some x)) (last_of (filter p xs))
      ahead true is = ap (λ b. last_of (cond b (x ∷ filter p xs) (filter p xs))) is
      ahead false is = ap (λ b. last_of (cond b (x ∷ filter p xs) (filter p xs))) is

      both : (s t : Bool) → q x ≡ s → p x ≡ t → last_of (filter p (filter q (x ∷ xs))) ≡ cond (s && t) (option_or (last_of (filter p (filter q xs))) (Some x)) (last_of (filter p (filter q xs)))
      both true true isq isp = ap (λ b. last_of (filter p (cond b (x ∷ filter q xs) (filter q xs)))) isq ∙ ap (λ b. last_of (cond b (x ∷ filter p (filter q xs)) (filter p (filter q xs)))) isp
      both true false isq isp = ap (λ b. last_of (filter p (cond b (x ∷ filter q xs) (filter q xs)))) isq ∙ ap (λ b. last_of (cond b (x ∷ filter p (filter q xs)) (filter p (filter q xs)))) isp
      both false t isq isp = ap (λ b. last_of (filter p (cond b (x ∷ filter q xs) (filter q xs)))) isq

      by_rest : (o : Option X) → last_of (filter p xs) ≡ o → (((y : X) → last_of (filter p xs) ≡ Some y → q y ≡ true) → last_of (filter p (filter q xs)) ≡ last_of (filter p xs))
          → last_of (filter p (filter q (x ∷ xs))) ≡ last_of (filter p (x ∷ xs))
      by_rest (Some z) is later = by_tests (q x) (p x) refl refl
        where
          is_last : last_of (filter p (x ∷ xs)) ≡ Some z
          is_last = by_test (p x) refl
            where
              by_test : (t : Bool) → p x ≡ t → last_of (filter p (x ∷ xs)) ≡ Some z
              by_test true here = ahead true here ∙ ap (λ o. option_or o (Some x)) is
              by_test false here = ahead false here ∙ is

          left : last_of (filter p (filter q xs)) ≡ Some z
          left = later (λ y isy. passes y (is_last ∙ sym is ∙ isy)) ∙ is

          by_tests : (s t : Bool) → q x ≡ s → p x ≡ t → last_of (filter p (filter q (x ∷ xs))) ≡ last_of (filter p (x ∷ xs))
          by_tests true true isq isp = both true true isq isp ∙ ap (λ o. option_or o (Some x)) left ∙ sym is_last
          by_tests true false isq isp = both true false isq isp ∙ left ∙ sym is_last
          by_tests false t isq isp = both false t isq isp ∙ left ∙ sym is_last
      by_rest None is later = by_tests (q x) (p x) refl refl
        where
          left : last_of (filter p (filter q xs)) ≡ None
          left = later (λ y isy. absurd (cc (sym is ∙ isy))) ∙ is

          by_tests : (s t : Bool) → q x ≡ s → p x ≡ t → last_of (filter p (filter q (x ∷ xs))) ≡ last_of (filter p (x ∷ xs))
          by_tests true true isq isp = both true true isq isp ∙ ap (λ o. option_or o (Some x)) (left ∙ sym is) ∙ sym (ahead true isp)
          by_tests true false isq isp = both true false isq isp ∙ left ∙ sym (ahead false isp ∙ is)
          by_tests false true isq isp = absurd (false≢true (sym isq ∙ passes x (ahead true isp ∙ ap (λ o. option_or o (Some x)) is)))
          by_tests false false isq isp = both false false isq isp ∙ left ∙ sym (ahead false isp ∙ is)

-- in versions that rise the last that passes a test is the greatest
last-greatest : (p : Kept → Bool) (roots : List Kept) (y : Kept) → is_rising roots ≡ true → last_of (filter p roots) ≡ Some y → AllByRecursion (λ x. p x ≡ true → x.version ≤ y.version) roots
last-greatest p [] y rises is = tt
last-greatest p (x ∷ roots) y rises is = by_rest (last_of (filter p roots)) refl (last-greatest p roots)
  where
    parts : (list_all (λ other. nat_lt x.version other.version) roots ≡ true) × (is_rising roots ≡ true)
    parts = and_parts (list_all (λ other. nat_lt x.version other.version) roots) (is_rising roots) rises

    each-later : (l : List Kept) → list_all (λ other. nat_lt x.version other.version) l ≡ true → AllByRecursion (λ other. x.version < other.version) l
    each-later [] all = tt
    each-later (o ∷ l) all = let ps = and_parts (nat_lt x.version o.version) (list_all (λ other. nat_lt x.version other.version) l) all in (leb-true (suc x.version) o.version ps.0, each-later l ps.1)

    by_rest : (o : Option Kept) → last_of (filter p roots) ≡ o → ((z : Kept) → is_rising roots ≡ true → last_of (filter p roots) ≡ Some z → AllByRecursion (λ k. p k ≡ true → k.version ≤ z.version) roots)
        → AllByRecursion (λ k. p k ≡ true → k.version ≤ y.version) (x ∷ roots)
    by_rest (Some z) some later =
        let one : z ≡ y = by_test (p x) refl in
        subst (λ k. AllByRecursion (λ other. p other ≡ true → other.version ≤ k.version) (x ∷ roots)) one
        ((λ _. let lt : x.version < z.version = all-last (λ other. x.version < other.version) (filter p roots) z (all-filter (λ other. x.version < other.version) p roots (each-later roots parts.0)) some in omega arith), later z parts.1 some)
      where
        by_test : (t : Bool) → p x ≡ t → z ≡ y
        by_test true here = same_Some z y (sym (ap (λ b. last_of (cond b (x ∷ filter p roots) (filter p roots))) here ∙ ap (λ o. option_or o (Some x)) some) ∙ is)
        by_test false here = same_Some z y (sym (ap (λ b. last_of (cond b (x ∷ filter p roots) (filter p roots))) here ∙ some) ∙ is)
    by_rest None none later = by_test (p x) refl
      where
        left : AllByRecursion (λ k. p k ≡ true → k.version ≤ y.version) roots
        left = all-weaker (λ k. p k ≡ false) (λ k. p k ≡ true → k.version ≤ y.version) (λ k fails passes. absurd (false≢true (sym fails ∙ passes))) roots (none-passes p roots (last-none (filter p roots) none))

        by_test : (t : Bool) → p x ≡ t → AllByRecursion (λ k. p k ≡ true → k.version ≤ y.version) (x ∷ roots)
        by_test true here =
            let one : x ≡ y = same_Some x y (sym (ap (λ b. last_of (cond b (x ∷ filter p roots) (filter p roots))) here ∙ ap (λ o. option_or o (Some x)) none) ∙ is) in
            ((λ _. subst (λ k. x.version ≤ k.version) one (omega arith)), left)
        by_test false here = absurd (cc (sym (ap (λ b. last_of (cond b (x ∷ filter p roots) (filter p roots))) here ∙ none) ∙ is))

-- ---- mutations

never-fall-filter : (p : ℕ × Mutation → Bool) (ms : List (ℕ × Mutation)) → NeverFall ms → NeverFall (filter p ms)
never-fall-filter p [] order = tt
never-fall-filter p (m ∷ ms) order = by_test (p m) (never-fall-filter p ms order.1)
  where
    by_test : (t : Bool) → NeverFall (filter p ms) → NeverFall (cond t (m ∷ filter p ms) (filter p ms))
    by_test true rest = (all-filter (λ other. m.0 ≤ other.0) p ms order.0, rest)
    by_test false rest = rest

-- those up to a version are those up to an earlier one, and then those between
parted : (first last : ℕ) (ms : List (ℕ × Mutation)) → first ≤ last → NeverFall ms
    → filter (λ made. nat_le made.0 last) ms ≡ filter (λ made. nat_le made.0 first) ms ++ filter (λ made. nat_le made.0 last) (filter (λ made. nat_lt first made.0) ms)
parted first last [] le order = refl
parted first last (m ∷ ms) le order = by_test (nat_le m.0 first) refl (parted first last ms le order.1)
  where
    by_test : (t : Bool) → nat_le m.0 first ≡ t
        → filter (λ made. nat_le made.0 last) ms ≡ filter (λ made. nat_le made.0 first) ms ++ filter (λ made. nat_le made.0 last) (filter (λ made. nat_lt first made.0) ms)
        → filter (λ made. nat_le made.0 last) (m ∷ ms) ≡ cond t (m ∷ filter (λ made. nat_le made.0 first) ms) (filter (λ made. nat_le made.0 first) ms) ++ filter (λ made. nat_le made.0 last) (filter (λ made. nat_lt first made.0) (m ∷ ms))
    by_test true is rest =
        let low : m.0 ≤ first = leb-true _ _ is in
        ap (λ t. cond t (m ∷ filter (λ made. nat_le made.0 last) ms) (filter (λ made. nat_le made.0 last) ms)) (le-leb m.0 last (omega arith))
        ∙ ap (λ l. m ∷ l) rest
        ∙ ap (λ t. m ∷ filter (λ made. nat_le made.0 first) ms ++ filter (λ made. nat_le made.0 last) (cond t (m ∷ filter (λ made. nat_lt first made.0) ms) (filter (λ made. nat_lt first made.0) ms))) (sym (lt-leb (suc first) m.0 (omega arith)))
    by_test false is rest =
        let high : first < m.0 = leb-false m.0 first is in
        sym (λ i. filter-none (λ made. nat_le made.0 first) ms (all-weaker (λ other. m.0 ≤ other.0) (λ made. nat_le made.0 first ≡ false) (λ other ge. lt-leb other.0 first (omega arith)) ms order.0) i
        ++ filter (λ made. nat_le made.0 last) (filter-all (λ made. nat_lt first made.0) (m ∷ ms) (le-leb (suc first) m.0 high, all-weaker (λ other. m.0 ≤ other.0) (λ made. nat_lt first made.0 ≡ true) (λ other ge. le-leb (suc first) other.0 (omega arith)) ms order.0) i))

led_to-append : (key : List ℕ) (before : Option (List ℕ)) (a b : List (ℕ × Mutation)) → led_to key before (a ++ b) ≡ led_to key (led_to key before a) b
led_to-append key before a b =
    ap (fold (value_by key) before) (map-append (λ made. made.1) a b) ∙ fold-append (value_by key) before (map (λ made. made.1) a) (map (λ made. made.1) b)

-- ---- a commit

module _ (log : List Batch) (durable newest : ℕ) (window : Versions) (base : Pairs) (keeps : KeepsVersions log durable newest window base) (version : ℕ) (first : durable ≤ version) (last : version ≤ newest) where
  abbrev Left : Versions
  Left = forgot version window

  is_version : max window.forgotten version ≡ version
  is_version = let e = keeps.forgotten_is in omega arith

  abbrev from : ℕ
  from = kept_from (max window.forgotten version) window.roots

  -- the root of a version that can still be read stays
  same-last : (later : ℕ) → version ≤ later → last_to later Left.roots ≡ last_to later window.roots
  same-last later le = last-passing (λ kept. nat_le kept.version later) (λ kept. nat_le from kept.version) window.roots passes
    where
      passes : (y : Kept) → last_to later window.roots ≡ Some y → nat_le from y.version ≡ true
      passes y is = by_first (last_to (max window.forgotten version) window.roots) refl
        where
          greatest : AllByRecursion (λ x. nat_le x.version later ≡ true → x.version ≤ y.version) window.roots
          greatest = last-greatest (λ kept. nat_le kept.version later) window.roots y keeps.stands.rising is

          by_first : (o : Option Kept) → last_to (max window.forgotten version) window.roots ≡ o → nat_le (option_map_or (λ kept. kept.version) o 0) y.version ≡ true
          by_first None none = le-leb 0 y.version (omega arith)
          by_first (Some kept) some =
              let low : nat_le kept.version (max window.forgotten version) ≡ true =
              all-last (λ k. nat_le k.version (max window.forgotten version) ≡ true) (filter (λ k. nat_le k.version (max window.forgotten version)) window.roots) kept
              (all-passing (λ k. nat_le k.version (max window.forgotten version) ≡ true) (λ k. nat_le k.version (max window.forgotten version)) (λ k passed. passed) window.roots) some in
              let below : kept.version ≤ max window.forgotten version = leb-true _ _ low in
              let e = is_version in
              le-leb kept.version y.version
              (all-last (λ x. nat_le x.version later ≡ true → x.version ≤ y.version) (filter (λ k. nat_le k.version (max window.forgotten version)) window.roots) kept
              (all-filter (λ x. nat_le x.version later ≡ true → x.version ≤ y.version) (λ k. nat_le k.version (max window.forgotten version)) window.roots greatest) some (le-leb kept.version later (omega arith)))

  same-root : (later : ℕ) → version ≤ later → later ≤ newest → root_of Left later ≡ root_of window later
  same-root later low high =
      inside Left later (let e = is_version in omega arith) (let e = keeps.newest_is in omega arith)
      ∙ ap (option_map (λ kept. kept.root)) (same-last later low)
      ∙ sym (inside window later (let e = keeps.forgotten_is in omega arith) (let e = keeps.newest_is in omega arith))

  pub kept-committed : (next : Pairs) → ((key : List ℕ) → IsUsers key → value_at next key ≡ value_of log version key) → Stands Left → KeepsVersions log version newest Left next
  kept-committed next next_is stands = record {
    sealed = keeps.sealed;
    forgotten_is = is_version;
    newest_is = keeps.newest_is;
    stands = stands;
    tells = λ later key low high users.
        subst (λ o. IfSome o (λ r. TellsTo log version later key (decided r key))) (sym (same-root later low high))
        (told later key low (root_of window later) (keeps.tells later key (omega arith) high users));
    base_is = next_is;
    leads = λ later key low high users.
        ap (λ m. led_to key (value_of log version key) (filter (λ made. nat_le made.0 later) (filter (λ made. nat_lt m made.0) window.mutations))) is_version
        ∙ ap (λ v. led_to key v (filter (λ made. nat_le made.0 later) (filter (λ made. nat_lt version made.0) window.mutations))) (sym (keeps.leads version key first last users))
        ∙ sym (led_to-append key (value_of log durable key) (mutations_to version window) (filter (λ made. nat_le made.0 later) (filter (λ made. nat_lt version made.0) window.mutations)))
        ∙ ap (led_to key (value_of log durable key)) (sym (parted version later window.mutations low keeps.in_order))
        ∙ keeps.leads later key (omega arith) high users;
    above =
        subst (λ m. AllByRecursion (λ made. version < made.0) (filter (λ made. nat_lt m made.0) window.mutations)) (sym is_version)
        (all-passing (λ made. version < made.0) (λ made. nat_lt version made.0) (λ made is. leb-true (suc version) made.0 is) window.mutations);
    in_order = never-fall-filter (λ made. nat_lt (max window.forgotten version) made.0) window.mutations keeps.in_order;
  }
    where
      told : (later : ℕ) (key : List ℕ) → version ≤ later → (o : Option (List Row)) → IfSome o (λ r. TellsTo log durable later key (decided r key)) → IfSome o (λ r. TellsTo log version later key (decided r key))
      told later key low None is = tt
      told later key low (Some r) is = tells-durable log key durable version later (decided r key) first low is

-- ---- the beginning

abbrev first_kept : ℕ → Kept
first_kept version = record { version = version; root = [] }

abbrev pub first_window : ℕ → Versions
first_window version = record { forgotten = version; newest = version; roots = record { version = version; root = [] } ∷ []; making = None; mutations = [] }

pub kept-first : (log : List Batch) (version : ℕ) (base : Pairs) → ((key : List ℕ) → IsUsers key → value_at base key ≡ value_of log version key) → Stands (first_window version) → KeepsVersions log version version (first_window version) base
kept-first log version base is stands = record {
  sealed = refl;
  forgotten_is = refl;
  newest_is = refl;
  stands = stands;
  tells = λ later key low high users.
      let one : later ≡ version = omega arith in
      subst (λ v. IfSome (root_of (first_window version) v) (λ r. TellsTo log version v key (decided r key))) (sym one)
      (subst (λ o. IfSome o (λ r. TellsTo log version version key (decided r key))) (sym is_root)
      (λ between from upto. let same_version : between ≡ version = omega arith in ap (λ v. value_of log v key) same_version));
  base_is = is;
  leads = λ later key low high users. let one : later ≡ version = omega arith in subst (λ v. value_of log version key ≡ value_of log v key) (sym one) refl;
  above = tt;
  in_order = tt;
}
  where
    is_root : root_of (first_window version) version ≡ Some []
    is_root =
        inside (first_window version) version (omega arith) (omega arith)
        ∙ ap (λ (t : Bool). option_map (λ (kept : Kept). kept.root) (last_of (cond t (first_kept version ∷ []) []))) (le-leb version version (omega arith))
