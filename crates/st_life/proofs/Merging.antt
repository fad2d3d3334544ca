-- What holds of each request of two lists that are taken as one.
use Rattle.std.proofs.Common.{ℕ, zero, suc, List, [], ◌∷◌, ◌++◌, take, drop}
use Rattle.std.specs.List.{AllByRecursion}
use Rattle.st_fold.specs.declared.request.Request.{Request}
use Rattle.st_model.specs.Report.{count_before, merged}

all_append : {A : Type 0} (P : A → Type 0) (xs ys : List A) → AllByRecursion P xs → AllByRecursion P ys → AllByRecursion P (xs ++ ys)
all_append P [] ys all more = more
all_append P (x ∷ xs) ys all more = (all.0, all_append P xs ys all.1 more)

all_take : {A : Type 0} (P : A → Type 0) (n : ℕ) (xs : List A) → AllByRecursion P xs → AllByRecursion P (take n xs)
all_take P zero xs all = tt
all_take P (suc n) [] all = tt
all_take P (suc n) (x ∷ xs) all = (all.0, all_take P n xs all.1)

all_drop : {A : Type 0} (P : A → Type 0) (n : ℕ) (xs : List A) → AllByRecursion P xs → AllByRecursion P (drop n xs)
all_drop P zero xs all = all
all_drop P (suc n) [] all = tt
all_drop P (suc n) (x ∷ xs) all = all_drop P n xs all.1

pub all_merged : (P : Request → Type 0) (requests others : List Request) → AllByRecursion P requests → AllByRecursion P others → AllByRecursion P (merged requests others)
all_merged P [] others all more = more
all_merged P (request ∷ requests) others all more =
    let n = count_before request.number others in
    all_append P (take n others) (request ∷ merged requests (drop n others)) (all_take P n others more)
    (all.0, all_merged P requests (drop n others) all.1 (all_drop P n others more))
