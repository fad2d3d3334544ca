-- Entries by their numbers.
use Rattle.std.proofs.Common.{◌≡◌, ◌≢◌, ◌∙◌, ◌<◌, ◌≤◌, ◌+◌, ℕ, zero, suc, Bool, true, false, cond, not, ◌==◌, ◌⊎◌, inl, inr, is_some, List, [], ◌∷◌, Option, Some, None, map, length, get_or, refl, sym, ap, subst, arith}
use Rattle.std.specs.List.{Contains, count_by, find, position, position_or_len, prefix_len, remove}
use Rattle.std.specs.List.Sorted.{IsPermutation}
use Rattle.std.specs.Option.{option_map}
use Rattle.std.proofs.lemmas.Bool.{eq-eqb, eqb-true, lt-ltb, ne_eqb}
use Rattle.std.proofs.lemmas.List.{get_or_default, length-map}
use Rattle.std.proofs.lemmas.List.Quantifiers.{position-Some}
use Rattle.std.proofs.lemmas.List.Sorted.{Contains-permutation, IsPermutation-remove, length_permutation, sum_by-IsPermutation}
use Rattle.std.proofs.lemmas.List.Sums.{sum_by-cons}
use Rattle.st_watch.specs.declared.entry.Entry.{Entry}
use Rattle.st_watch.specs.declared.entry.Standing.{Standing}
use Rattle.st_watch.specs.Layout.{IsDistinct, with_change}

module _ {X : Type 0} (p : X → Bool) where
  count-cons : (x : X) (xs : List X) → count_by p (x ∷ xs) ≡ cond (p x) 1 0 + count_by p xs
  count-cons x xs = sum_by-cons (λ y. cond (p y) 1 0) x xs

  count-yes : (x : X) (xs : List X) → p x ≡ true → count_by p (x ∷ xs) ≡ 1 + count_by p xs
  count-yes x xs is = count-cons x xs ∙ ap (λ (t : Bool). cond t 1 0 + count_by p xs) is

  count-no : (x : X) (xs : List X) → p x ≡ false → count_by p (x ∷ xs) ≡ 0 + count_by p xs
  count-no x xs is = count-cons x xs ∙ ap (λ (t : Bool). cond t 1 0 + count_by p xs) is

  find-yes : (x : X) (xs : List X) → p x ≡ true → find p (x ∷ xs) ≡ Some x
  find-yes x xs is = ap (λ (t : Bool). cond t (Some x) (find p xs)) is

  find-no : (x : X) (xs : List X) → p x ≡ false → find p (x ∷ xs) ≡ find p xs
  find-no x xs is = ap (λ (t : Bool). cond t (Some x) (find p xs)) is

  -- an element at a place counts
  counted-at : (xs : List X) (k : ℕ) (d : X) → k < length xs → p (get_or xs k d) ≡ true → 1 ≤ count_by p xs
  counted-at [] k d inside is = absurd (omega arith)
  counted-at (x ∷ xs) zero d inside is = let one = count-yes x xs is in omega (arith, one)
  counted-at (x ∷ xs) (suc k) d inside is = let rest = counted-at xs k d (omega arith) is in let all = count-cons x xs in omega (arith, rest, all)

  none-counted : (xs : List X) → count_by p xs ≡ 0 → find p xs ≡ None
  none-counted [] none = refl
  none-counted (x ∷ xs) none = by_test (p x) refl (none-counted xs)
    where
      by_test : (t : Bool) → p x ≡ t → (count_by p xs ≡ 0 → find p xs ≡ None) → find p (x ∷ xs) ≡ None
      by_test true is rest = let one = count-yes x xs is in absurd (omega (arith, one, none))
      by_test false is rest = let one = count-no x xs is in find-no x xs is ∙ rest (omega (arith, one, none))

  none-found : (xs : List X) → find p xs ≡ None → count_by p xs ≡ 0
  none-found [] none = refl
  none-found (x ∷ xs) none = by_test (p x) refl (none-found xs)
    where
      by_test : (t : Bool) → p x ≡ t → (find p xs ≡ None → count_by p xs ≡ 0) → count_by p (x ∷ xs) ≡ 0
      by_test true is rest = absurd (cc (none, find-yes x xs is))
      by_test false is rest =
          let one = count-no x xs is in
          let less = rest (sym (find-no x xs is) ∙ none) in
          omega (arith, one, less)

  -- what is found stands somewhere and passes
  pub found-member : (xs : List X) (x : X) → find p xs ≡ Some x → Contains xs x × (p x ≡ true)
  found-member [] x is = absurd (cc (is))
  found-member (y ∷ xs) x is = by_test (p y) refl (found-member xs x)
    where
      by_test : (t : Bool) → p y ≡ t → (find p xs ≡ Some x → Contains xs x × (p x ≡ true)) → Contains (y ∷ xs) x × (p x ≡ true)
      by_test true passes rest =
          let one : y ≡ x = cc (is, find-yes y xs passes) in
          ((0, omega arith, one), ap p (sym one) ∙ passes)
      by_test false fails rest =
          let later = rest (sym (find-no y xs fails) ∙ is) in
          ((suc later.0.0, omega (arith, later.0.1), later.0.2), later.1)

  -- of elements of which at most one passes, that one is found
  pub member-found : (xs : List X) (k : ℕ) (x : X) → count_by p xs ≤ 1 → k < length xs → get_or xs k x ≡ x → p x ≡ true → find p xs ≡ Some x
  member-found [] k x few inside is passes = absurd (omega arith)
  member-found (y ∷ xs) zero x few inside is passes = find-yes y xs (ap p is ∙ passes) ∙ ap Some is
  member-found (y ∷ xs) (suc k) x few inside is passes = by_test (p y) refl (member-found xs k x)
    where
      by_test : (t : Bool) → p y ≡ t → (count_by p xs ≤ 1 → k < length xs → get_or xs k x ≡ x → p x ≡ true → find p xs ≡ Some x) → find p (y ∷ xs) ≡ Some x
      by_test true first rest =
          let one = count-yes y xs first in
          let two = counted-at xs k x (omega arith) (ap p is ∙ passes) in
          absurd (omega (arith, one, two, few))
      by_test false fails rest =
          let one = count-no y xs fails in
          find-no y xs fails ∙ rest (omega (arith, one, few)) (omega arith) is passes

  -- in another order the same is found
  pub found-permuted : (xs ys : List X) → IsPermutation xs ys → count_by p xs ≤ 1 → find p ys ≡ find p xs
  found-permuted xs ys moved few = by_found (find p xs) refl
    where
      counts : count_by p ys ≡ count_by p xs
      counts = sum_by-IsPermutation (λ x. cond (p x) 1 0) xs ys moved

      by_found : (o : Option X) → find p xs ≡ o → find p ys ≡ o
      by_found None is = none-counted ys (counts ∙ none-found xs is)
      by_found (Some x) is =
          let there = found-member xs x is in
          let here = Contains-permutation xs ys x moved there.0 in
          member-found ys here.0 x (omega (arith, counts, few)) here.1 here.2 there.1

  pub counted-permuted : (xs ys : List X) → IsPermutation xs ys → count_by p ys ≡ count_by p xs
  counted-permuted xs ys moved = sum_by-IsPermutation (λ x. cond (p x) 1 0) xs ys moved

  -- a change that the test doesn't see
  found-mapped : (g : X → X) → ((x : X) → p (g x) ≡ p x) → (xs : List X) → find p (map g xs) ≡ option_map g (find p xs)
  found-mapped g same [] = refl
  found-mapped g same (x ∷ xs) = ap (λ (t : Bool). cond t (Some (g x)) (find p (map g xs))) (same x) ∙ by_test (p x) (found-mapped g same xs)
    where
      by_test : (t : Bool) → find p (map g xs) ≡ option_map g (find p xs) → cond t (Some (g x)) (find p (map g xs)) ≡ option_map g (cond t (Some x) (find p xs))
      by_test true rest = refl
      by_test false rest = rest

  counted-mapped : (g : X → X) → ((x : X) → p (g x) ≡ p x) → (xs : List X) → count_by p (map g xs) ≡ count_by p xs
  counted-mapped g same [] = refl
  counted-mapped g same (x ∷ xs) =
      count-cons (g x) (map g xs) ∙ ap (λ (t : Bool). cond t 1 0 + count_by p (map g xs)) (same x)
      ∙ ap (λ (n : ℕ). cond (p x) 1 0 + n) (counted-mapped g same xs) ∙ sym (count-cons x xs)

  -- the place of what is found
  passed : (xs : List X) → (find p xs ≡ None) ⊎ (prefix_len (λ x. not (p x)) xs < length xs)
  passed [] = inl refl
  passed (x ∷ xs) = by_test (p x) refl (passed xs)
    where
      by_test : (t : Bool) → p x ≡ t → (find p xs ≡ None) ⊎ (prefix_len (λ x. not (p x)) xs < length xs)
          → (find p (x ∷ xs) ≡ None) ⊎ (cond (not (p x)) (1 + prefix_len (λ x. not (p x)) xs) 0 < suc (length xs))
      by_test true is rest = inr (rw is (omega arith))
      by_test false is (inl none) = inl (find-no x xs is ∙ none)
      by_test false is (inr less) = inr (rw is (omega (arith, less)))

  pub no-place : (xs : List X) → position p xs ≡ None → find p xs ≡ None
  no-place xs none = by_case (passed xs)
    where
      by_case : (find p xs ≡ None) ⊎ (prefix_len (λ x. not (p x)) xs < length xs) → find p xs ≡ None
      by_case (inl is) = is
      by_case (inr less) =
          absurd (some-none (sym (ap (λ (t : Bool). cond t (Some (position_or_len p xs)) None) (lt-ltb (position_or_len p xs) (length xs) less)) ∙ none))
        where
          some-none : Some (position_or_len p xs) ≡ None → ⊥
          some-none is = cc (is)

abbrev pub by : ℕ → Entry → Bool
by id entry = entry.id == id

-- the watch of a number
abbrev pub standing_of : List Entry → ℕ → Option Standing
standing_of entries id = option_map (λ (entry : Entry). entry.standing) (find (by id) entries)

map-map : (o : Option Entry) (change : Standing → Standing) → option_map (λ (entry : Entry). entry.standing) (option_map (with_change change) o) ≡ option_map change (option_map (λ (entry : Entry). entry.standing) o)
map-map None change = refl
map-map (Some e) change = refl

-- each watch is changed
module _ (change : Standing → Standing) (old new : List Entry) (distinct : IsDistinct old) (moved : IsPermutation (map (with_change change) old) new) where
  few : (id : ℕ) → count_by (by id) (map (with_change change) old) ≤ 1
  few id = subst (λ n. n ≤ 1) (sym (counted-mapped (by id) (with_change change) (λ x. refl) old)) (distinct id)

  pub changed-distinct : IsDistinct new
  changed-distinct id = subst (λ n. n ≤ 1) (sym (counted-permuted (by id) (map (with_change change) old) new moved)) (few id)

  pub changed-each : (id : ℕ) → standing_of new id ≡ option_map change (standing_of old id)
  changed-each id =
      ap (option_map (λ (entry : Entry). entry.standing))
      (found-permuted (by id) (map (with_change change) old) new moved (few id) ∙ found-mapped (by id) (with_change change) (λ x. refl) old)
      ∙ map-map (find (by id) old) change

  pub changed-count : length new ≡ length old
  changed-count = length_permutation (map (with_change change) old) new moved ∙ length-map old (with_change change)

none-mapped : {X Y : Type 0} (f : X → Y) (o : Option X) → option_map f o ≡ None → o ≡ None
none-mapped f None is = refl
none-mapped f (Some x) is = absurd (cc (is))

-- one more is registered
module _ (entry : Entry) (old new : List Entry) (distinct : IsDistinct old) (unknown : standing_of old entry.id ≡ None) (moved : IsPermutation (entry ∷ old) new) where
  more : (id : ℕ) → count_by (by id) (entry ∷ old) ≤ 1
  more id = by_test (by id entry) refl
    where
      by_test : (t : Bool) → by id entry ≡ t → count_by (by id) (entry ∷ old) ≤ 1
      by_test true is =
          let same : entry.id ≡ id = eqb-true entry.id id is in
          let none : count_by (by id) old ≡ 0 = none-found (by id) old (subst (λ n. find (by n) old ≡ None) same (none-mapped (λ (e : Entry). e.standing) (find (by entry.id) old) unknown)) in
          let one = count-yes (by id) entry old is in
          omega (arith, none, one)
      by_test false is =
          let one = count-no (by id) entry old is in
          let rest = distinct id in
          omega (arith, rest, one)

  pub more-distinct : IsDistinct new
  more-distinct id = subst (λ n. n ≤ 1) (sym (counted-permuted (by id) (entry ∷ old) new moved)) (more id)

  pub more-there : standing_of new entry.id ≡ Some entry.standing
  more-there =
      ap (option_map (λ (e : Entry). e.standing))
      (found-permuted (by entry.id) (entry ∷ old) new moved (more entry.id) ∙ find-yes (by entry.id) entry old (eq-eqb entry.id entry.id refl))

  pub more-others : (other : ℕ) → other ≢ entry.id → standing_of new other ≡ standing_of old other
  more-others other apart =
      ap (option_map (λ (e : Entry). e.standing))
      (found-permuted (by other) (entry ∷ old) new moved (more other) ∙ find-no (by other) entry old (ne_eqb entry.id other (λ is. apart (sym is))))

  pub more-count : length new ≡ suc (length old)
  more-count = length_permutation (entry ∷ old) new moved

-- one is released
module _ (old new : List Entry) (id at : ℕ) (entry : Entry) (distinct : IsDistinct old) (placed : position (by id) old ≡ Some at) (is : new ≡ remove old at) where
  abbrev here : Entry
  here = get_or old at entry

  facts : (at < length old) × (by id here ≡ true) × ((k : ℕ) → k < at → by id (get_or old k entry) ≡ false)
  facts = position-Some (by id) old at entry placed

  moved : IsPermutation old (here ∷ new)
  moved = subst (λ l. IsPermutation old (here ∷ l)) (sym is) (IsPermutation-remove old at here facts.0 (get_or_default old at entry here facts.0))

  left : (other : ℕ) → count_by (by other) (here ∷ new) ≤ 1
  left other = subst (λ n. n ≤ 1) (sym (counted-permuted (by other) old (here ∷ new) moved)) (distinct other)

  pub less-distinct : IsDistinct new
  less-distinct other = let all = left other in let one = count-cons (by other) here new in omega (arith, all, one)

  pub less-gone : standing_of new id ≡ None
  less-gone =
      let all = left id in
      let one = count-yes (by id) here new facts.1 in
      ap (option_map (λ (e : Entry). e.standing)) (none-counted (by id) new (omega (arith, all, one)))

  pub less-others : (other : ℕ) → other ≢ id → standing_of new other ≡ standing_of old other
  less-others other apart =
      ap (option_map (λ (e : Entry). e.standing))
      (sym (find-no (by other) here new (ne_eqb here.id other (λ same. apart (sym same ∙ eqb-true here.id id facts.1))))
      ∙ found-permuted (by other) old (here ∷ new) moved (distinct other))

  pub less-count : suc (length new) ≡ length old
  less-count = length_permutation old (here ∷ new) moved

  pub less-known : is_some (standing_of old id) ≡ true
  less-known =
      ap (λ (o : Option Entry). is_some (option_map (λ (e : Entry). e.standing) o))
      (sym (found-permuted (by id) old (here ∷ new) moved (distinct id)) ∙ find-yes (by id) here new facts.1)

pub unknown-none : (entries : List Entry) (id : ℕ) → position (by id) entries ≡ None → standing_of entries id ≡ None
unknown-none entries id none = ap (option_map (λ (e : Entry). e.standing)) (no-place (by id) entries none)

pub state-mapped : (o : Option Entry) → option_map (λ (e : Entry). e.standing.state) o ≡ option_map (λ (s : Standing). s.state) (option_map (λ (e : Entry). e.standing) o)
state-mapped None = refl
state-mapped (Some e) = refl

-- where one has a place there is one
pub some-entry : (entries : List Entry) (id at : ℕ) → position (by id) entries ≡ Some at → Entry
some-entry [] id at is = absurd (cc (is))
some-entry (entry ∷ entries) id at is = entry
