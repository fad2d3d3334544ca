-- Changes of entries.
use Rattle.std.proofs.Common.{◌≡◌, ◌∙◌, ◌<◌, ◌≤◌, ◌+◌, ◌-◌, ℕ, zero, suc, Bool, true, false, cond, not, ◌&&◌, List, [], ◌∷◌, ◌++◌, Option, map, filter, take, drop, length, refl, sym, ap, subst, arith, length-drop, length-append}
use Rattle.std.proofs.lemmas.Bool.{and_from, and_left, and_right}
use Rattle.std.proofs.lemmas.List.{drop-append-le, drop-drop, drop-map, drop-take, length-take-le, take-append-drop, take-map, take-take}
use Rattle.std.proofs.lemmas.List.Sorted.{IsPermutation-refl}
use Rattle.std.specs.List.{AllByRecursion, insert, remove}
use Rattle.std.specs.List.Sorted.{IsPermutation}
use Rattle.std.specs.Prelude.{bytes_eq}
use Rattle.st_key.specs.KeyOrder.{less_asym}
use Rattle.st_key.specs.Spans.{Span, key_less, within}
use Rattle.st_model.specs.declared.watch.WatchState.TheVariants.{Fired, Lost}
use Rattle.st_model.specs.Watching.{same_value}
use Rattle.st_watch.specs.declared.entry.Entry.{Entry}
use Rattle.st_watch.specs.declared.entry.Standing.{Standing}
use Rattle.st_watch.specs.Layout.{IsParted, IsRising, IsRun, after_value, in_state, waits, with_change}
use Rattle.st_watch.specs.Watches.{after_loss, after_touch, is_waiting}
use Rattle.st_watch.proofs.Lists.{all-drop, all-join, all-passing, all-take, all-weaker, insert-within, map-none, mapped-part, remove-behind, remove-within}
use Rattle.st_watch.proofs.Order.{rising-changed, rising-filtered, rising-remove, rising-with}

-- a change of watches that wait, and pass a test
pub record IsChange (test : Entry → Bool) (change part : Standing → Standing) : Type 0 where
  pub ended : (e : Entry) → waits e ≡ false → change e.standing ≡ e.standing
  pub other : (e : Entry) → test e ≡ false → change e.standing ≡ e.standing
  pub here : (e : Entry) → waits e ≡ true → test e ≡ true → part e.standing ≡ change e.standing
  pub keys : (s : Standing) → (change s).key ≡ s.key

module _ (test : Entry → Bool) (change part : Standing → Standing) (is : IsChange test change part) (entries : List Entry) (waiting from to : ℕ)
    (parted : IsParted entries waiting) (run : IsRun test (take waiting entries) from to) where
  abbrev g : Entry → Entry
  g = with_change change

  long : length (take waiting entries) ≡ waiting
  long = length-take-le waiting entries parted.bound

  within_bound : to ≤ waiting
  within_bound = subst (λ n. to ≤ n) long run.bound

  before : AllByRecursion (λ e. g e ≡ e) (take from entries)
  before =
      subst (λ l. AllByRecursion (λ e. g e ≡ e) l) (take-take from waiting entries (omega (arith, within_bound, run.order)))
      (all-weaker (λ e. test e ≡ false) (λ e. g e ≡ e) (λ e no. ap (λ s. record { id = e.id; standing = s }) (is.other e no)) (take from (take waiting entries)) run.before)

  -- the rest of those that wait
  rest : drop from (take waiting entries) ≡ take (waiting - from) (drop from entries)
  rest =
      let sum : from + (waiting - from) ≡ waiting = omega (arith, within_bound, run.order) in
      ap (λ n. drop from (take n entries)) (sym sum) ∙ drop-take from (waiting - from) entries

  mid : take (to - from) (drop from (take waiting entries)) ≡ take (to - from) (drop from entries)
  mid = ap (take (to - from)) rest ∙ take-take (to - from) (waiting - from) (drop from entries) (omega (arith, within_bound, run.order))

  all-waiting : AllByRecursion (λ e. waits e ≡ true) (drop from (take waiting entries))
  all-waiting = all-drop (λ e. waits e ≡ true) from (take waiting entries) parted.first

  both : (n : ℕ) (xs : List Entry) → AllByRecursion (λ e. waits e ≡ true) xs → AllByRecursion (λ e. test e ≡ true) (take n xs) → AllByRecursion (λ e. with_change part e ≡ g e) (take n xs)
  both zero xs wait pass = tt
  both (suc n) [] wait pass = tt
  both (suc n) (x ∷ xs) wait pass = (ap (λ s. record { id = x.id; standing = s }) (is.here x wait.0 pass.0), both n xs wait.1 pass.1)

  inside : AllByRecursion (λ e. with_change part e ≡ g e) (take (to - from) (drop from entries))
  inside =
      subst (λ l. AllByRecursion (λ e. with_change part e ≡ g e) l) mid
      (both (to - from) (drop from (take waiting entries)) all-waiting run.inside)

  behind : AllByRecursion (λ e. g e ≡ e) (drop (to - from) (drop from entries))
  behind =
      let split : entries ≡ take waiting entries ++ drop waiting entries = sym (take-append-drop waiting entries) in
      let sum : from + (to - from) ≡ to = omega (arith, run.order) in
      let there : drop to entries ≡ drop to (take waiting entries) ++ drop waiting entries =
      ap (drop to) split ∙ drop-append-le to (take waiting entries) (drop waiting entries) run.bound in
      subst (λ l. AllByRecursion (λ e. g e ≡ e) l) (sym (drop-drop (to - from) from entries ∙ ap (λ n. drop n entries) sum ∙ there))
      (all-join (λ e. g e ≡ e) (drop to (take waiting entries)) (drop waiting entries)
      (all-weaker (λ e. test e ≡ false) (λ e. g e ≡ e) (λ e no. ap (λ s. record { id = e.id; standing = s }) (is.other e no)) (drop to (take waiting entries)) run.behind)
      (all-weaker (λ e. waits e ≡ false) (λ e. g e ≡ e) (λ e no. ap (λ s. record { id = e.id; standing = s }) (is.ended e no)) (drop waiting entries) parted.others))

  -- the entries after the change of the run
  changed-run : take from entries ++ (map (with_change part) (take (to - from) (drop from entries)) ++ drop (to - from) (drop from entries)) ≡ map g entries
  changed-run = mapped-part (with_change part) g entries from (to - from) before inside behind

  -- those that waited no longer are as they were
  ended-stay : AllByRecursion (λ e. waits e ≡ false) (drop waiting (map g entries))
  ended-stay =
      subst (λ l. AllByRecursion (λ e. waits e ≡ false) l)
      (sym (drop-map g waiting entries
      ∙ map-none g (drop waiting entries) (all-weaker (λ e. waits e ≡ false) (λ e. g e ≡ e) (λ e no. ap (λ s. record { id = e.id; standing = s }) (is.ended e no)) (drop waiting entries) parted.others)))
      parted.others

  module _ (run_new : List Entry) (made : run_new ≡ map (with_change part) (take (to - from) (drop from entries))) where
    abbrev put : List Entry
    put = take from entries ++ (run_new ++ drop (to - from) (drop from entries))

    pub put-is : put ≡ map g entries
    put-is = ap (λ l. take from entries ++ (l ++ drop (to - from) (drop from entries))) made ∙ changed-run

    pub put-others : AllByRecursion (λ e. waits e ≡ false) (drop waiting put)
    put-others = subst (λ l. AllByRecursion (λ e. waits e ≡ false) (drop waiting l)) (sym put-is) ended-stay

    -- put in order again
    pub put-parted : (new : List Entry) (left : ℕ) → left ≤ length new → take left new ≡ filter waits (take waiting put) → AllByRecursion (λ e. waits e ≡ false) (drop left new) → IsParted new left
    put-parted new left bound first others = record {
      bound = bound;
      first = subst (λ l. AllByRecursion (λ e. waits e ≡ true) l) (sym first) (all-passing waits (take waiting put));
      others = others;
      rising = subst IsRising (sym (first ∙ ap (λ l. filter waits (take waiting l)) put-is ∙ ap (filter waits) (take-map g waiting entries)))
          (rising-filtered waits (map g (take waiting entries)) (rising-changed change is.keys (take waiting entries) parted.rising));
    }

    pub put-moved : (new : List Entry) → IsPermutation put new → IsPermutation (map g entries) new
    put-moved new moved = subst (λ l. IsPermutation l new) put-is moved

    pub put-same : IsPermutation (map g entries) put
    put-same = subst (λ l. IsPermutation l put) put-is (IsPermutation-refl put)

-- a touch and a loss are such changes
pub is-touch : (key : List ℕ) (now : Option (List ℕ)) (version : ℕ) → IsChange (λ e. bytes_eq e.standing.key key) (after_touch key now version) (after_value now version)
is-touch key now version = record {
  ended = λ e no. ap (λ (t : Bool). cond t (in_state (Fired version) e.standing) e.standing)
      (and_left _ (not (same_value now e.standing.value)) (and_left _ (bytes_eq e.standing.key key) no));
  other = λ e no. ap (λ (t : Bool). cond t (in_state (Fired version) e.standing) e.standing)
      (and_left _ (not (same_value now e.standing.value)) (and_right (waits e) _ no));
  here = λ e wait yes. by_value (same_value now e.standing.value) e.standing
      ∙ ap (λ (t : Bool). cond (t && not (same_value now e.standing.value)) (in_state (Fired version) e.standing) e.standing) (sym (and_from _ _ wait yes));
  keys = λ s. by_test (is_waiting s.state && bytes_eq s.key key && not (same_value now s.value)) s;
}
  where
    by_value : (t : Bool) (s : Standing) → cond t s (in_state (Fired version) s) ≡ cond (true && not t) (in_state (Fired version) s) s
    by_value true s = refl
    by_value false s = refl

    by_test : (t : Bool) (s : Standing) → (cond t (in_state (Fired version) s) s).key ≡ s.key
    by_test true s = refl
    by_test false s = refl

pub is-loss : (span : Span) (version : ℕ) → IsChange (λ e. within span e.standing.key) (after_loss span version) (in_state (Lost version))
is-loss span version = record {
  ended = λ e no. ap (λ (t : Bool). cond t (in_state (Lost version) e.standing) e.standing) (and_left _ (within span e.standing.key) no);
  other = λ e no. ap (λ (t : Bool). cond t (in_state (Lost version) e.standing) e.standing) (and_right (waits e) _ no);
  here = λ e wait yes. ap (λ (t : Bool). cond t (in_state (Lost version) e.standing) e.standing) (sym (and_from _ _ wait yes));
  keys = λ s. by_test (is_waiting s.state && within span s.key) s;
}
  where
    by_test : (t : Bool) (s : Standing) → (cond t (in_state (Lost version) s) s).key ≡ s.key
    by_test true s = refl
    by_test false s = refl

-- an entry that waits goes in behind those with keys up to its own
pub parted-with : (entries new : List Entry) (waiting more at : ℕ) (entry : Entry) → IsParted entries waiting → waits entry ≡ true → new ≡ insert entries at entry → more ≡ suc waiting
    → at ≤ length (take waiting entries)
    → AllByRecursion (λ e. key_less entry.standing.key e.standing.key ≡ false) (take at (take waiting entries))
    → AllByRecursion (λ e. key_less entry.standing.key e.standing.key ≡ true) (drop at (take waiting entries)) → IsParted new more
parted-with entries new waiting more at entry parted wait is next bound below above =
    let long = length-take-le waiting entries parted.bound in
    let at_bound : at ≤ waiting = subst (λ n. at ≤ n) long bound in
    let parts = insert-within at waiting more entry entries next at_bound parted.bound in
    let first : take more new ≡ insert (take waiting entries) at entry = ap (take more) is ∙ parts.0 in
    let others : drop more new ≡ drop waiting entries = ap (drop more) is ∙ parts.1 in
    let whole = take-append-drop at (take waiting entries) in
    let here = λ (e : Entry). waits e ≡ true in record {
      bound = rw is (omega (arith, parted.bound, length-append (take at entries) (entry ∷ drop at entries), length-take-le at entries (omega (arith, at_bound, parted.bound)), length-drop at entries, next));
      first = subst (λ l. AllByRecursion here l) (sym first)
          (all-join here (take at (take waiting entries)) (entry ∷ drop at (take waiting entries))
          (all-take here at (take waiting entries) parted.first) (wait, all-drop here at (take waiting entries) parted.first));
      others = subst (λ l. AllByRecursion (λ (e : Entry). waits e ≡ false) l) (sym others) parted.others;
      rising = subst IsRising (sym first)
          (rising-with (take at (take waiting entries)) entry (drop at (take waiting entries)) (subst IsRising (sym whole) parted.rising) below
          (all-weaker (λ e. key_less entry.standing.key e.standing.key ≡ true) (λ e. key_less e.standing.key entry.standing.key ≡ false)
          (λ e less. less_asym entry.standing.key e.standing.key less) (drop at (take waiting entries)) above));
    }

-- an entry is taken out
pub parted-without : (entries new : List Entry) (waiting left at : ℕ) → IsParted entries waiting → new ≡ remove entries at → at < waiting → waiting ≡ suc left → IsParted new left
parted-without entries new waiting left at parted is inside next =
    let parts = remove-within at waiting left entries next inside parted.bound in
    let first : take left new ≡ remove (take waiting entries) at = ap (take left) is ∙ parts.0 in
    let others : drop left new ≡ drop waiting entries = ap (drop left) is ∙ parts.1 in
    let here = λ (e : Entry). waits e ≡ true in record {
      bound = rw is (omega (arith, parted.bound, length-append (take at entries) (drop (suc at) entries), length-take-le at entries (omega (arith, inside, parted.bound)), length-drop (suc at) entries, next));
      first = subst (λ l. AllByRecursion here l) (sym first)
          (all-join here (take at (take waiting entries)) (drop (suc at) (take waiting entries))
          (all-take here at (take waiting entries) parted.first) (all-drop here (suc at) (take waiting entries) parted.first));
      others = subst (λ l. AllByRecursion (λ (e : Entry). waits e ≡ false) l) (sym others) parted.others;
      rising = subst IsRising (sym first) (rising-remove at (take waiting entries) parted.rising);
    }

pub parted-without-ended : (entries new : List Entry) (waiting at : ℕ) → IsParted entries waiting → new ≡ remove entries at → waiting ≤ at → at < length entries → IsParted new waiting
parted-without-ended entries new waiting at parted is behind inside =
    let parts = remove-behind (λ (e : Entry). waits e ≡ false) at waiting entries behind inside parted.others in
    let first : take waiting new ≡ take waiting entries = ap (take waiting) is ∙ parts.0 in record {
      bound = rw is (omega (arith, behind, inside, length-append (take at entries) (drop (suc at) entries), length-take-le at entries (omega (arith, inside)), length-drop (suc at) entries));
      first = subst (λ l. AllByRecursion (λ (e : Entry). waits e ≡ true) l) (sym first) parted.first;
      others = subst (λ l. AllByRecursion (λ (e : Entry). waits e ≡ false) (drop waiting l)) (sym is) parts.1;
      rising = subst IsRising (sym first) parted.rising;
    }
