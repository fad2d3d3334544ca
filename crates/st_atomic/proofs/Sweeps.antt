-- Loops that go over two lists of bytes and write into the first.
use Rattle.std.proofs.Common.{◌≡◌, ◌<◌, ◌≤◌, ◌≢◌, ◌+◌, ℕ, zero, suc, List, [], ◌∷◌, ◌++◌, length, take, drop, get_or, inl, inr, sym, ap, ◌∙◌, arith, min, ◌-◌, replicate, nat_lt}
use Rattle.std.proofs.lemmas.List.{take_all, take-replicate, take-append-le, length-take, append-nil}
use Rattle.std.proofs.Math.Seq.{take-append-add}
use Rattle.std.proofs.lemmas.Bool.{cases_lt, lt-ltb, le-ltb}
use Rattle.st_atomic.specs.Atomic.{number_of, fit}

-- the highest byte that differs decides
below_by : (a b : List ℕ) (i : ℕ) → i < length a → i < length b → ((k : ℕ) → get_or a k 0 < 256) → ((k : ℕ) → get_or b k 0 < 256)
    → drop (suc i) a ≡ drop (suc i) b → get_or a i 0 < get_or b i 0 → number_of a < number_of b
below_by [] b i here there small small' same less = absurd (omega arith)
below_by (x ∷ a) [] i here there small small' same less = absurd (omega arith)
below_by (x ∷ a) (y ∷ b) zero here there small small' same less =
    let tails : a ≡ b = same in
    let numbers = ap number_of tails in
    omega (arith, numbers)
below_by (x ∷ a) (y ∷ b) (suc i) here there small small' same less =
    let below = below_by a b i (omega arith) (omega arith) (λ k. small (suc k)) (λ k. small' (suc k)) same less in
    omega (arith, small 0, small' 0, below)

-- so comparing it compares the numbers
pub compared_by : (a b : List ℕ) (i n : ℕ) → n ≡ suc i → length a ≡ length b → i < length a
    → ((k : ℕ) → get_or a k 0 < 256) → ((k : ℕ) → get_or b k 0 < 256)
    → drop n a ≡ drop n b → get_or a i 0 ≢ get_or b i 0
    → nat_lt (get_or a i 0) (get_or b i 0) ≡ nat_lt (number_of a) (number_of b)
compared_by a b i n next long here small small' same differ =
    let same' : drop (suc i) a ≡ drop (suc i) b = ap (λ (j : ℕ). drop j a) (sym next) ∙ same ∙ ap (λ (j : ℕ). drop j b) next in
    elim (cases_lt (get_or a i 0) (get_or b i 0)) [
      | inl less ↦
          let below = below_by a b i here (omega arith) small small' same' less in
          both_below _ _ _ _ less below
      | inr not_less ↦
          let above = below_by b a i (omega arith) here small' small (sym same') (omega arith) in
          both_above _ _ _ _ not_less (omega arith)
    ]
  where
    both_below : (m n p q : ℕ) → m < n → p < q → nat_lt m n ≡ nat_lt p q
    both_below m n p q less less' = lt-ltb m n less ∙ sym (lt-ltb p q less')

    both_above : (m n p q : ℕ) → n ≤ m → q ≤ p → nat_lt m n ≡ nat_lt p q
    both_above m n p q more more' = le-ltb m n more ∙ sym (le-ltb p q more')

-- bytes that are cut, and then filled up
pub fit_made : (bytes part : List ℕ) (len : ℕ) → part ≡ take (min (length bytes) len) bytes
    → take len part ++ replicate (len - length part) 0 ≡ fit bytes len
fit_made bytes part len cut = elim (cases_lt len (length bytes)) [
  | inl long ↦
      let size : length part ≡ len = omega (arith, ap length cut, length-take (min (length bytes) len) bytes) in
      let least : min (length bytes) len ≡ len = omega arith in
      let whole : part ≡ take len bytes = cut ∙ ap (λ (n : ℕ). take n bytes) least in
      let none : len - length part ≡ 0 = omega arith in
      ap (λ (n : ℕ). take len part ++ replicate n 0) none
      ∙ append-nil (take len part)
      ∙ take_all len part (omega arith)
      ∙ whole
      ∙ sym (take-append-le len bytes (replicate len 0) (omega arith))
  | inr short ↦
      let whole : part ≡ bytes = cut ∙ take_all _ bytes (omega arith) in
      let sum : length bytes + (len - length bytes) ≡ len = omega arith in
      ap (λ (l : List ℕ). take len l ++ replicate (len - length l) 0) whole
      ∙ ap (λ (l : List ℕ). l ++ replicate (len - length bytes) 0) (take_all len bytes short)
      ∙ ap (λ (l : List ℕ). bytes ++ l) (sym (take-replicate (len - length bytes) len 0 (omega arith)))
      ∙ sym (take-append-add bytes (replicate len 0) (len - length bytes))
      ∙ ap (λ (n : ℕ). take n (bytes ++ replicate len 0)) sum
]
