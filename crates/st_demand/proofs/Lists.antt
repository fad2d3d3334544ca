-- Facts of each element of a list.
use Rattle.std.proofs.Common.{◌≡◌, ℕ, suc, zero, Bool, true, false, cond, Some, None, refl, List, [], ◌∷◌, ◌++◌, All, map, filter, take, drop, sym, ap, ◌∙◌, subst, arith}
use Rattle.std.proofs.lemmas.Bool.{cond_both}
use Rattle.std.proofs.lemmas.List.{take-append-drop}
use Rattle.std.specs.List.{AllByRecursion, find, flat_map}
use Rattle.st_fold.specs.declared.request.Request.{Request}
use Rattle.st_model.specs.Report.{count_before, merged}

pub all_map : {A : Type 0} (P Q : A → Type 0) → ((x : A) → P x → Q x) → (xs : List A) → AllByRecursion P xs → AllByRecursion Q xs
all_map P Q f [] h = tt
all_map P Q f (x ∷ xs) h = (f x h.0, all_map P Q f xs h.1)

pub all_append : {A : Type 0} (P : A → Type 0) → (xs ys : List A) → AllByRecursion P xs → AllByRecursion P ys → AllByRecursion P (xs ++ ys)
all_append P [] ys h k = k
all_append P (x ∷ xs) ys h k = (h.0, all_append P xs ys h.1 k)

-- what holds of each element holds of each of the last ones
pub all_right : {A : Type 0} (P : A → Type 0) → (xs ys : List A) → AllByRecursion P (xs ++ ys) → AllByRecursion P ys
all_right P [] ys h = h
all_right P (x ∷ xs) ys h = all_right P xs ys h.1

-- and of each of the first ones
pub all_left : {A : Type 0} (P : A → Type 0) → (xs ys : List A) → AllByRecursion P (xs ++ ys) → AllByRecursion P xs
all_left P [] ys h = tt
all_left P (x ∷ xs) ys h = (h.0, all_left P xs ys h.1)

all_take : {A : Type 0} (P : A → Type 0) (n : ℕ) (xs : List A) → AllByRecursion P xs → AllByRecursion P (take n xs)
all_take P n xs h = all_left P (take n xs) (drop n xs) (subst (AllByRecursion P) (sym (take-append-drop n xs)) h)

all_drop : {A : Type 0} (P : A → Type 0) (n : ℕ) (xs : List A) → AllByRecursion P xs → AllByRecursion P (drop n xs)
all_drop P n xs h = all_right P (take n xs) (drop n xs) (subst (AllByRecursion P) (sym (take-append-drop n xs)) h)

-- and of each that passes a test
pub all_filter : {A : Type 0} (P : A → Type 0) (test : A → Bool) (xs : List A) → AllByRecursion P xs → AllByRecursion P (filter test xs)
all_filter P test [] h = tt
all_filter P test (x ∷ xs) h =
    cond_both (test x) (x ∷ filter test xs) (filter test xs) (AllByRecursion P) (λ _. (h.0, all_filter P test xs h.1))
    (λ _. all_filter P test xs h.1)

pub all_of_map : {A B : Type 0} (P : B → Type 0) (f : A → B) (xs : List A) → AllByRecursion P (map f xs) → AllByRecursion (λ x. P (f x)) xs
all_of_map P f [] h = tt
all_of_map P f (x ∷ xs) h = (h.0, all_of_map P f xs h.1)

-- the same fact, place by place
pub all_at : {A : Type 0} (P : A → Type 0) → (xs : List A) → AllByRecursion P xs → All P xs
all_at P [] h k d in_xs = absurd (omega arith)
all_at P (x ∷ xs) h zero d in_xs = h.0
all_at P (x ∷ xs) h (suc k) d in_xs = all_at P xs h.1 k d (omega arith)

-- what holds of each request of two lists holds of each of both, as one
pub all_merged : (P : Request → Type 0) (requests others : List Request) → AllByRecursion P requests → AllByRecursion P others
    → AllByRecursion P (merged requests others)
all_merged P [] others all more = more
all_merged P (request ∷ requests) others all more =
    let count = count_before request.number others in
    all_append P (take count others) (request ∷ merged requests (drop count others)) (all_take P count others more)
    (all.0, all_merged P requests (drop count others) all.1 (all_drop P count others more))

-- where each element gives nothing, all give nothing
pub none_of_all : {A B : Type 0} (f : A → List B) (xs : List A) → AllByRecursion (λ x. f x ≡ []) xs → flat_map f xs ≡ []
none_of_all f [] h = refl
none_of_all f (x ∷ xs) h = ap (λ first. first ++ flat_map f xs) h.0 ∙ none_of_all f xs h.1

-- what is found in a list is as all of it is
pub found_has : {A : Type 0} (test : A → Bool) (P : A → Type 0) (xs : List A) (x : A) → find test xs ≡ Some x → AllByRecursion P xs → P x
found_has test P [] x e all = cc
found_has test P (y ∷ xs) x e all =
    elim (test y) as (λ v. cond v (Some y) (find test xs) ≡ Some x → P x) [
      | true ↦ λ first. let same : y ≡ x = cc in subst P same all.0
      | false ↦ λ later. found_has test P xs x later all.1
    ]
    e

-- where nothing is found, no element passes
pub none_passes : {A : Type 0} (test : A → Bool) (xs : List A) → find test xs ≡ None → AllByRecursion (λ x. test x ≡ false) xs
none_passes test [] none = tt
none_passes {A = A} test (x ∷ xs) none =
    elim (test x) as (λ v. test x ≡ v → cond v (Some x) (find test xs) ≡ None → AllByRecursion (λ (y : A). test y ≡ false) (x ∷ xs))
    [ true ↦ λ _ e. cc | false ↦ λ fails e. (fails, none_passes test xs e) ]
    refl none
