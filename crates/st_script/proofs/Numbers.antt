-- Reading a number digit by digit.
use Rattle.std.proofs.Common.{◌≡◌, ℕ, ◌+◌, ◌-◌, ◌*◌, ◌^◌, ◌<◌, ◌≤◌, ◌&&◌, Bool, true, false, cond, nat_lt, List, [], ◌∷◌, length, fold, Option, Some, None, refl, sym, arith, le_trans, ltb-true, ltb-false, lt-ltb, le-ltb, le-leb, lit<}
use Rattle.std.specs.Char.{is_ascii_digit}
use Rattle.std.specs.List.{list_all}
use Rattle.st_script.specs.Fields.{number_of}

abbrev pub push_digit : ℕ → ℕ → ℕ
push_digit number digit = 10 * number + (digit - 48)

-- the number that digits make after a number, where it fits
abbrev pub read_digits : ℕ → List ℕ → Option ℕ
read_digits number [] = Some number
read_digits number (digit ∷ digits) =
    cond (is_ascii_digit digit && nat_lt (push_digit number digit) (2 ^ 64)) (read_digits (push_digit number digit) digits) None

fold-ge : (number : ℕ) (digits : List ℕ) → number ≤ fold push_digit number digits
fold-ge number [] = omega arith
fold-ge number (digit ∷ digits) = let more = fold-ge (push_digit number digit) digits in omega arith

pub read_digits_is : (number : ℕ) (digits : List ℕ) → number < 2 ^ 64 → read_digits number digits ≡ cond (list_all is_ascii_digit digits && nat_lt (fold push_digit number digits) (2 ^ 64)) (Some (fold push_digit number digits)) None
read_digits_is number [] h = rw (lt-ltb number (2 ^ 64) h) refl
read_digits_is number (digit ∷ digits) h =
    let next = push_digit number digit in
    let total = fold push_digit next digits in
    let all = list_all is_ascii_digit digits in
    elim (is_ascii_digit digit) as (λ v. cond (v && nat_lt next (2 ^ 64)) (read_digits next digits) None ≡ cond (v && all && nat_lt total (2 ^ 64)) (Some total) None) [
      | true ↦ elim (nat_lt next (2 ^ 64)) as (λ w. nat_lt next (2 ^ 64) ≡ w → cond w (read_digits next digits) None ≡ cond (all && nat_lt total (2 ^ 64)) (Some total) None) [
        | true ↦ λ fits. read_digits_is next digits (ltb-true next (2 ^ 64) fits)
        | false ↦ λ big. let more = fold-ge next digits in let over : nat_lt total (2 ^ 64) ≡ false = le-ltb total (2 ^ 64) (le_trans (ltb-false next (2 ^ 64) big) more) in rw over (none all)
      ] refl
      | false ↦ refl
    ]
  where
    none : (b : Bool) → None ≡ cond (b && false) (Some (fold push_digit (push_digit number digit) digits)) None
    none true = refl
    none false = refl

pub number_of_is : (word : List ℕ) → 0 < length word → length word ≤ 20 → number_of word ≡ read_digits 0 word
number_of_is word some few = rw (lt-ltb 0 (length word) some, le-leb (length word) 20 few) (sym (read_digits_is 0 word (lit< tt)))
