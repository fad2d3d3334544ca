-- Facts of each element of a list, of its parts and of what is made of it.
use Rattle.std.proofs.Common.{◌≡◌, ◌≢◌, ◌∙◌, ◌<◌, ◌≤◌, ◌+◌, ◌-◌, ℕ, zero, suc, Bool, true, false, cond, List, [], ◌∷◌, ◌++◌, map, filter, take, drop, length, get_or, set, refl, sym, ap, subst, inl, inr, length-drop, arith}
use Rattle.std.proofs.lemmas.Bool.{cases_lt}
use Rattle.std.proofs.lemmas.List.{get_or-drop, get_or_default, map-append, take-append-drop}
use Rattle.std.specs.List.{AllByRecursion, AllWithin, SwappedAt, insert, remove}

-- what holds of each element holds of that at a place
pub all-at : {X : Type 0} (P : X → Type 0) (xs : List X) (i : ℕ) (d : X) → AllByRecursion P xs → i < length xs → P (get_or xs i d)
all-at P [] i d all inside = absurd (omega arith)
all-at P (x ∷ xs) zero d all inside = all.0
all-at P (x ∷ xs) (suc i) d all inside = all-at P xs i d all.1 (omega arith)

pub all-weaker : {X : Type 0} (P Q : X → Type 0) → ((x : X) → P x → Q x) → (xs : List X) → AllByRecursion P xs → AllByRecursion Q xs
all-weaker P Q leads [] all = tt
all-weaker P Q leads (x ∷ xs) all = (leads x all.0, all-weaker P Q leads xs all.1)

pub all-join : {X : Type 0} (P : X → Type 0) (xs ys : List X) → AllByRecursion P xs → AllByRecursion P ys → AllByRecursion P (xs ++ ys)
all-join P [] ys first others = others
all-join P (x ∷ xs) ys first others = (first.0, all-join P xs ys first.1 others)

pub all-front : {X : Type 0} (P : X → Type 0) (xs ys : List X) → AllByRecursion P (xs ++ ys) → AllByRecursion P xs
all-front P [] ys all = tt
all-front P (x ∷ xs) ys all = (all.0, all-front P xs ys all.1)

pub all-back : {X : Type 0} (P : X → Type 0) (xs ys : List X) → AllByRecursion P (xs ++ ys) → AllByRecursion P ys
all-back P [] ys all = all
all-back P (x ∷ xs) ys all = all-back P xs ys all.1

pub all-take : {X : Type 0} (P : X → Type 0) (i : ℕ) (xs : List X) → AllByRecursion P xs → AllByRecursion P (take i xs)
all-take P zero xs all = tt
all-take P (suc i) [] all = tt
all-take P (suc i) (x ∷ xs) all = (all.0, all-take P i xs all.1)

pub all-drop : {X : Type 0} (P : X → Type 0) (i : ℕ) (xs : List X) → AllByRecursion P xs → AllByRecursion P (drop i xs)
all-drop P zero xs all = all
all-drop P (suc i) [] all = tt
all-drop P (suc i) (x ∷ xs) all = all-drop P i xs all.1

-- below a place, and from it on
pub all-below : {X : Type 0} (P : X → Type 0) (i : ℕ) (xs : List X) → AllWithin P xs 0 i → AllByRecursion P (take i xs)
all-below P zero xs within = tt
all-below P (suc i) [] within = tt
all-below P (suc i) (x ∷ xs) within =
    (within 0 x (omega arith) (omega arith), all-below P i xs (λ k d low high. within (suc k) d (omega arith) (omega arith)))

pub all-from : {X : Type 0} (P : X → Type 0) (i : ℕ) (xs : List X) → AllWithin P xs i (length xs) → AllByRecursion P (drop i xs)
all-from P zero [] within = tt
all-from P (suc i) [] within = tt
all-from P zero (x ∷ xs) within =
    (within 0 x (omega arith) (omega arith), all-from P zero xs (λ k d low high. within (suc k) d (omega arith) (omega arith)))
all-from P (suc i) (x ∷ xs) within = all-from P i xs (λ k d low high. within (suc k) d (omega arith) (omega arith))

-- those that pass a test
pub all-passing : {X : Type 0} (p : X → Bool) (xs : List X) → AllByRecursion (λ x. p x ≡ true) (filter p xs)
all-passing p [] = tt
all-passing p (x ∷ xs) = by_test (p x) refl (all-passing p xs)
  where
    by_test : (t : Bool) → p x ≡ t → AllByRecursion (λ x. p x ≡ true) (filter p xs) → AllByRecursion (λ x. p x ≡ true) (cond t (x ∷ filter p xs) (filter p xs))
    by_test true is rest = (is, rest)
    by_test false is rest = rest

pub all-filtered : {X : Type 0} (P : X → Type 0) (p : X → Bool) (xs : List X) → AllByRecursion P xs → AllByRecursion P (filter p xs)
all-filtered P p [] all = tt
all-filtered P p (x ∷ xs) all = by_test (p x) (all-filtered P p xs all.1)
  where
    by_test : (t : Bool) → AllByRecursion P (filter p xs) → AllByRecursion P (cond t (x ∷ filter p xs) (filter p xs))
    by_test true rest = (all.0, rest)
    by_test false rest = rest

pub all-mapped : {X Y : Type 0} (P : Y → Type 0) (f : X → Y) (xs : List X) → AllByRecursion (λ x. P (f x)) xs → AllByRecursion P (map f xs)
all-mapped P f [] all = tt
all-mapped P f (x ∷ xs) all = (all.0, all-mapped P f xs all.1)

-- a filter keeps all where all pass
pub filter-all : {X : Type 0} (p : X → Bool) (xs : List X) → AllByRecursion (λ x. p x ≡ true) xs → filter p xs ≡ xs
filter-all p [] all = refl
filter-all p (x ∷ xs) all = rw (all.0) (ap (λ ys. x ∷ ys) (filter-all p xs all.1))

-- functions that agree on each element, and one that changes none
pub map-same : {X Y : Type 0} (f g : X → Y) (xs : List X) → AllByRecursion (λ x. f x ≡ g x) xs → map f xs ≡ map g xs
map-same f g [] all = refl
map-same f g (x ∷ xs) all = ap (λ y. y ∷ map f xs) all.0 ∙ ap (λ ys. g x ∷ ys) (map-same f g xs all.1)

pub map-none : {X : Type 0} (f : X → X) (xs : List X) → AllByRecursion (λ x. f x ≡ x) xs → map f xs ≡ xs
map-none f [] all = refl
map-none f (x ∷ xs) all = ap (λ y. y ∷ map f xs) all.0 ∙ ap (λ ys. x ∷ ys) (map-none f xs all.1)

-- A loop changes each element: those before a place so far, those from it on not yet.
mapped-step : {X : Type 0} (f : X → X) (d : X) (zs : List X) (j : ℕ) → j < length zs → set (map f (take j zs) ++ drop j zs) j (f (get_or (map f (take j zs) ++ drop j zs) j d)) ≡ map f (take (suc j) zs) ++ drop (suc j) zs
mapped-step f d [] j less = absurd (omega arith)
mapped-step f d (z ∷ zs) zero less = refl
mapped-step f d (z ∷ zs) (suc j) less = ap (λ l. f z ∷ l) (mapped-step f d zs j (omega arith))

pub mapped-next : {X : Type 0} (f : X → X) (xs ys : List X) (i n : ℕ) (d : X) → n ≡ suc i → i < length xs → ys ≡ map f (take i xs) ++ drop i xs
    → set ys i (f (get_or ys i d)) ≡ map f (take n xs) ++ drop n xs
mapped-next f xs ys i n d next inside so_far = rw (so_far, next) (mapped-step f d xs i inside)

-- a part is changed, and the change of all changes nothing else
pub mapped-part : {X : Type 0} (f g : X → X) (xs : List X) (a k : ℕ) → AllByRecursion (λ x. g x ≡ x) (take a xs)
    → AllByRecursion (λ x. f x ≡ g x) (take k (drop a xs)) → AllByRecursion (λ x. g x ≡ x) (drop k (drop a xs))
    → take a xs ++ (map f (take k (drop a xs)) ++ drop k (drop a xs)) ≡ map g xs
mapped-part f g xs a k before inside behind =
    let first : take a xs ≡ map g (take a xs) = sym (map-none g (take a xs) before) in
    let mid : map f (take k (drop a xs)) ≡ map g (take k (drop a xs)) = map-same f g (take k (drop a xs)) inside in
    let last : drop k (drop a xs) ≡ map g (drop k (drop a xs)) = sym (map-none g (drop k (drop a xs)) behind) in
    let rest : map f (take k (drop a xs)) ++ drop k (drop a xs) ≡ map g (drop a xs) =
    ap (λ l. l ++ drop k (drop a xs)) mid
    ∙ ap (λ l. map g (take k (drop a xs)) ++ l) last
    ∙ sym (map-append g (take k (drop a xs)) (drop k (drop a xs)))
    ∙ ap (map g) (take-append-drop k (drop a xs)) in
    ap (λ l. l ++ (map f (take k (drop a xs)) ++ drop k (drop a xs))) first
    ∙ ap (λ l. map g (take a xs) ++ l) rest
    ∙ sym (map-append g (take a xs) (drop a xs))
    ∙ ap (map g) (take-append-drop a xs)

-- within a place, what is put in goes before it, and what is taken out
insert-step : {X : Type 0} (x : X) (i j : ℕ) (ys : List X) → i ≤ j → j ≤ length ys → (take (suc j) (insert ys i x) ≡ insert (take j ys) i x) × (drop (suc j) (insert ys i x) ≡ drop j ys)
insert-step x zero j ys less bound = (refl, refl)
insert-step x (suc i) zero ys less bound = absurd (omega arith)
insert-step x (suc i) (suc j) [] less bound = absurd (omega arith)
insert-step x (suc i) (suc j) (y ∷ ys) less bound =
    let rest = insert-step x i j ys (omega arith) (omega arith) in
    (ap (λ l. y ∷ l) rest.0, rest.1)

pub insert-within : {X : Type 0} (at n m : ℕ) (x : X) (xs : List X) → m ≡ suc n → at ≤ n → n ≤ length xs
    → (take m (insert xs at x) ≡ insert (take n xs) at x) × (drop m (insert xs at x) ≡ drop n xs)
insert-within at n m x xs next le inside = rw next (insert-step x at n xs le inside)

remove-step : {X : Type 0} (i j : ℕ) (ys : List X) → i ≤ j → suc j ≤ length ys → (take j (remove ys i) ≡ remove (take (suc j) ys) i) × (drop j (remove ys i) ≡ drop (suc j) ys)
remove-step i j [] less bound = absurd (omega arith)
remove-step zero j (y ∷ ys) less bound = (refl, refl)
remove-step (suc i) zero (y ∷ ys) less bound = absurd (omega arith)
remove-step (suc i) (suc j) (y ∷ ys) less bound =
    let rest = remove-step i j ys (omega arith) (omega arith) in
    (ap (λ l. y ∷ l) rest.0, rest.1)

pub remove-within : {X : Type 0} (at n m : ℕ) (xs : List X) → n ≡ suc m → at < n → n ≤ length xs
    → (take m (remove xs at) ≡ remove (take n xs) at) × (drop m (remove xs at) ≡ drop n xs)
remove-within at n m xs next less inside = rw next (remove-step at m xs (omega arith) (omega arith))

pub remove-behind : {X : Type 0} (P : X → Type 0) (at n : ℕ) (xs : List X) → n ≤ at → at < length xs → AllByRecursion P (drop n xs)
    → (take n (remove xs at) ≡ take n xs) × AllByRecursion P (drop n (remove xs at))
remove-behind P at n [] le inside all = absurd (omega arith)
remove-behind P at zero (x ∷ xs) le inside all =
    (refl, all-join P (take at (x ∷ xs)) (drop (suc at) (x ∷ xs)) (all-take P at (x ∷ xs) all) (all-drop P (suc at) (x ∷ xs) all))
remove-behind P zero (suc n) (x ∷ xs) le inside all = absurd (omega arith)
remove-behind P (suc at) (suc n) (x ∷ xs) le inside all =
    let rest = remove-behind P at n xs (omega arith) (omega arith) all in
    (ap (λ l. x ∷ l) rest.0, rest.1)

-- what holds from a place up to another, and from there on
pub all-since : {X : Type 0} (P : X → Type 0) (low high : ℕ) (xs : List X) → AllWithin P xs low high → AllByRecursion P (drop high xs)
    → AllByRecursion P (drop low xs)
all-since P low high xs within rest =
    all-from P low xs (λ k d le inside.
    elim (cases_lt k high) [
      | inl less ↦ within k d le less
      | inr more ↦ let there : high + (k - high) ≡ k = omega arith in
          subst (λ n. P (get_or xs n d)) there
          (subst P (get_or-drop high xs (k - high) d) (all-at P (drop high xs) (k - high) d rest (omega (arith, length-drop high xs))))
    ])

-- what is exchanged with the first of some elements stands before them
pub swapped-behind : {X : Type 0} (P : X → Type 0) (ys zs : List X) (k i : ℕ) → SwappedAt ys zs k i → AllWithin P ys k i → AllWithin P zs (k + 1) (i + 1)
swapped-behind P ys zs k i swapped behind = λ j d low high.
    elim (cases_lt j i) [
      | inl less ↦ let apart : j ≢ k = omega arith in let other : j ≢ i = omega arith in
          subst P (sym (swapped.2 j d apart other)) (behind j d (omega arith) less)
      | inr more ↦ let there : i ≡ j = omega arith in
          subst (λ n. P (get_or zs n d)) there (subst P (sym (swapped.1 d)) (behind k d (omega arith) (omega arith)))
    ]

-- one more
pub within-more : {X : Type 0} (P : X → Type 0) (xs : List X) (low i : ℕ) (d : X) → i < length xs → AllWithin P xs low i → P (get_or xs i d) → AllWithin P xs low (i + 1)
within-more P xs low i d inside within here = λ k e le less.
    elim (cases_lt k i) [
      | inl below ↦ within k e le below
      | inr more ↦ let there : i ≡ k = omega arith in
          subst (λ n. P (get_or xs n e)) there (subst P (get_or_default xs i d e inside) here)
    ]
