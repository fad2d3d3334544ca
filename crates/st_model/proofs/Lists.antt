-- Facts of each element of a list.
use Rattle.std.proofs.Common.{◌≡◌, ℕ, suc, zero, Bool, true, false, ◌||◌, cond, Some, None, refl, List, [], ◌∷◌, ◌++◌, All, map, take, drop, sym, subst, arith}
use Rattle.std.proofs.lemmas.List.{take-append-drop}
use Rattle.std.specs.List.{AllByRecursion, find, list_any}
use Rattle.st_fold.specs.declared.request.Request.{Request}
use Rattle.st_model.specs.Report.{count_before, merged}

pub all_map : {A : Type 0} (P Q : A → Type 0) → ((x : A) → P x → Q x) → (xs : List A) → AllByRecursion P xs → AllByRecursion Q xs
all_map P Q f [] h = tt
all_map P Q f (x ∷ xs) h = (f x h.0, all_map P Q f xs h.1)

pub all_append : {A : Type 0} (P : A → Type 0) → (xs ys : List A) → AllByRecursion P xs → AllByRecursion P ys → AllByRecursion P (xs ++ ys)
all_append P [] ys h k = k
all_append P (x ∷ xs) ys h k = (h.0, all_append P xs ys h.1 k)

-- what holds of each element holds of each of the last ones
pub all_right : {A : Type 0} (P : A → Type 0) → (xs ys : List A) → AllByRecursion P (xs ++ ys) → AllByRecursion P ys
all_right P [] ys h = h
all_right P (x ∷ xs) ys h = all_right P xs ys h.1

-- and of each of the first ones
pub all_left : {A : Type 0} (P : A → Type 0) → (xs ys : List A) → AllByRecursion P (xs ++ ys) → AllByRecursion P xs
all_left P [] ys h = tt
all_left P (x ∷ xs) ys h = (h.0, all_left P xs ys h.1)

pub all_take : {A : Type 0} (P : A → Type 0) (n : ℕ) (xs : List A) → AllByRecursion P xs → AllByRecursion P (take n xs)
all_take P n xs h = all_left P (take n xs) (drop n xs) (subst (AllByRecursion P) (sym (take-append-drop n xs)) h)

pub all_drop : {A : Type 0} (P : A → Type 0) (n : ℕ) (xs : List A) → AllByRecursion P xs → AllByRecursion P (drop n xs)
all_drop P n xs h = all_right P (take n xs) (drop n xs) (subst (AllByRecursion P) (sym (take-append-drop n xs)) h)

pub all_of_map : {A B : Type 0} (P : B → Type 0) (f : A → B) (xs : List A) → AllByRecursion P (map f xs) → AllByRecursion (λ x. P (f x)) xs
all_of_map P f [] h = tt
all_of_map P f (x ∷ xs) h = (h.0, all_of_map P f xs h.1)

-- the same fact, place by place
pub all_at : {A : Type 0} (P : A → Type 0) → (xs : List A) → AllByRecursion P xs → All P xs
all_at P [] h k d in_xs = absurd (omega arith)
all_at P (x ∷ xs) h zero d in_xs = h.0
all_at P (x ∷ xs) h (suc k) d in_xs = all_at P xs h.1 k d (omega arith)

-- what holds of each request of two lists holds of each of both, as one
pub all_merged : (P : Request → Type 0) (requests others : List Request) → AllByRecursion P requests → AllByRecursion P others
    → AllByRecursion P (merged requests others)
all_merged P [] others all more = more
all_merged P (request ∷ requests) others all more =
    let count = count_before request.number others in
    all_append P (take count others) (request ∷ merged requests (drop count others)) (all_take P count others more)
    (all.0, all_merged P requests (drop count others) all.1 (all_drop P count others more))

-- ---- what is found in a list

pub found_passes : {A : Type 0} (test : A → Bool) (xs : List A) (x : A) → find test xs ≡ Some x → test x ≡ true
found_passes test [] x e = cc
found_passes test (y ∷ xs) x e =
    elim (test y) as (λ v. test y ≡ v → cond v (Some y) (find test xs) ≡ Some x → test x ≡ true) [
      | true ↦ λ passes first. let same : y ≡ x = cc in subst (λ z. test z ≡ true) same passes
      | false ↦ λ _ later. found_passes test xs x later
    ]
    refl e

pub found_has : {A : Type 0} (test : A → Bool) (P : A → Type 0) (xs : List A) (x : A) → find test xs ≡ Some x → AllByRecursion P xs → P x
found_has test P [] x e all = cc
found_has test P (y ∷ xs) x e all =
    elim (test y) as (λ v. cond v (Some y) (find test xs) ≡ Some x → P x) [
      | true ↦ λ first. let same : y ≡ x = cc in subst P same all.0
      | false ↦ λ later. found_has test P xs x later all.1
    ]
    e

pub some_found : {A : Type 0} (test : A → Bool) (xs : List A) → list_any test xs ≡ true → (x : A) × (find test xs ≡ Some x)
some_found test [] e = cc
some_found {A = A} test (y ∷ xs) e =
    elim (test y) as (λ v. (v || list_any test xs) ≡ true → (x : A) × (cond v (Some y) (find test xs) ≡ Some x))
    [ true ↦ λ _. (y, refl) | false ↦ λ later. some_found test xs later ]
    e

pub found_any : {A : Type 0} (test : A → Bool) (xs : List A) (x : A) → find test xs ≡ Some x → list_any test xs ≡ true
found_any test [] x e = cc
found_any test (y ∷ xs) x e =
    elim (test y) as (λ v. cond v (Some y) (find test xs) ≡ Some x → (v || list_any test xs) ≡ true)
    [ true ↦ λ _. refl | false ↦ λ later. found_any test xs x later ]
    e

pub none_found : {A : Type 0} (test : A → Bool) (xs : List A) → find test xs ≡ None → list_any test xs ≡ false
none_found test [] e = refl
none_found test (y ∷ xs) e =
    elim (test y) as (λ v. cond v (Some y) (find test xs) ≡ None → (v || list_any test xs) ≡ false)
    [ true ↦ λ first. cc | false ↦ λ later. none_found test xs later ]
    e
