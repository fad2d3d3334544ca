-- The rows that are taken are the first of those that there are.
use Rattle.std.proofs.Common.{◌≡◌, ◌∙◌, ℕ, true, false, ◌-◌, ◌&&◌, cond, nat_lt, [], ◌∷◌, length, take, refl, ap}
use Rattle.st_fold.specs.declared.request.Answer.TheVariants.{Rows}
use Rattle.st_fold.specs.Map.{Map}
use Rattle.st_fold.specs.Reading.{taken, rows_of, size_of}

pub taken_first : (rows bytes : ℕ) (pairs : Map) → take (length (taken rows bytes pairs)) pairs ≡ taken rows bytes pairs
taken_first rows bytes [] = refl
taken_first rows bytes (pair ∷ pairs) =
    elim (nat_lt 0 rows && nat_lt 0 bytes) as (λ b. take (length (cond b (pair ∷ taken (rows - 1) (bytes - size_of pair) pairs) [])) (pair ∷ pairs) ≡ cond b (pair ∷ taken (rows - 1) (bytes - size_of pair) pairs) []) [
      | true ↦ ap (λ (t : Map). pair ∷ t) (taken_first (rows - 1) (bytes - size_of pair) pairs)
      | false ↦ refl
    ]

pub rows_are : (rows bytes count len : ℕ) (pairs kept : Map) → count ≡ length (taken rows bytes pairs) → len ≡ length pairs → kept ≡ take count pairs
    → Rows kept (nat_lt count len) ≡ rows_of rows bytes pairs
rows_are rows bytes count len pairs kept counted long cut =
    λ i. Rows ((cut ∙ ap (λ n. take n pairs) counted ∙ taken_first rows bytes pairs) i) (nat_lt (counted i) (long i))
