-- The bytes of a number, and the number of bytes.
use Rattle.std.proofs.Common.{◌≡◌, ◌<◌, ◌≤◌, ◌+◌, ◌*◌, ◌/◌, ◌%◌, ◌^◌, ℕ, zero, suc, List, [], ◌∷◌, ◌++◌, length, take, drop, get_or, Some, None, inl, inr, refl, sym, ap, ◌∙◌, arith, All, append_assoc, length-append, length-drop}
use Rattle.std.proofs.Math.Nat.{div-div-eq-div-mul, pow-succ'}
use Rattle.std.specs.Int.{byte_at, bytes_low_first}
use Rattle.std.proofs.lemmas.Bool.{cases_lt}
use Rattle.std.proofs.lemmas.Bool.Decides.{nat_tests}
use Rattle.std.proofs.lemmas.List.{drop_at, get_or_past, get_or-drop}
use Rattle.byteorder.specs.Endian.{little_from}
use Rattle.byteorder.specs.Numbers.{little_from-cons, little_number-reads_back, length-bytes_low_first}
use Rattle.st_num.specs.Number.{number_at, little_bytes}

-- above the lowest byte stand the bytes of the number above it
byte_at-above : (place byte rest : ℕ) → byte < 256 → byte_at (suc place) (byte + 256 * rest) ≡ byte_at place rest
byte_at-above zero byte rest small = omega arith
byte_at-above (suc place) byte rest small =
    let n = byte + 256 * rest in
    let above : n / 256 ≡ rest = omega arith in
    let power : n / 256 ^ suc (suc place) ≡ n / (256 * 256 ^ suc place) = ap (λ (p : ℕ). n / p) (pow-succ' 256 (suc place)) in
    let split : n / (256 * 256 ^ suc place) ≡ n / 256 / 256 ^ suc place = sym (div-div-eq-div-mul n 256 (256 ^ suc place)) in
    ap (λ (q : ℕ). q % 256) (power ∙ split ∙ ap (λ (m : ℕ). m / 256 ^ suc place) above)

bytes-above : (count place byte rest : ℕ) → byte < 256 → bytes_low_first (suc place) count (byte + 256 * rest) ≡ bytes_low_first place count rest
bytes-above zero place byte rest small = refl
bytes-above (suc count) place byte rest small =
    rw (byte_at-above place byte rest small, bytes-above count (suc place) byte rest small) refl

-- the bytes of the number of some bytes are these
pub bytes-number : (count : ℕ) (bytes : List ℕ) → count ≤ length bytes → ((i : ℕ) → get_or bytes i 0 < 256)
    → bytes_low_first 0 count (little_from 0 count bytes) ≡ take count bytes
bytes-number zero bytes fits small = refl
bytes-number (suc count) [] fits small = absurd (omega arith)
bytes-number (suc count) (byte ∷ bytes) fits small =
    let lowest : byte < 256 = small 0 in
    let rest = little_from 0 count bytes in
    let moved : little_from 0 (suc count) (byte ∷ bytes) ≡ byte + 256 * rest = ap (λ (r : ℕ). byte + 256 * r) (little_from-cons 0 count byte bytes) in
    let first : (byte + 256 * rest) % 256 ≡ byte = omega arith in
    let above = bytes-above count 0 byte rest lowest in
    let ih = bytes-number count bytes (omega arith) (λ i. small (suc i)) in
    rw (moved, first, above, ih) refl

-- the number of the bytes from a place where enough stand
number_there : (count at : ℕ) (bytes : List ℕ) → at + count ≤ length bytes → number_at count bytes at ≡ Some (little_from 0 count (drop at bytes))
number_there count at bytes enough = grind (arith, nat_tests)

-- where there is a number, enough bytes stand
number_enough : (count number at : ℕ) (bytes : List ℕ) → number_at count bytes at ≡ Some number → at + count ≤ length bytes
number_enough count number at bytes is = elim (cases_lt (length bytes) (at + count)) [
  | inl short ↦ let none : number_at count bytes at ≡ None = grind (arith, nat_tests) in absurd (cc (none, is))
  | inr enough ↦ omega arith
]

pub put_is_taken : (count number : ℕ) (before behind : List ℕ) → number < 256 ^ count
    → number_at count (before ++ little_bytes count number ++ behind) (length before) ≡ Some number
put_is_taken count number before behind small =
    let all = before ++ little_bytes count number ++ behind in
    let size : length (little_bytes count number) ≡ count = length-bytes_low_first 0 count number in
    let enough : length before + count ≤ length all = omega (arith, size, length-append (before ++ little_bytes count number) behind, length-append before (little_bytes count number)) in
    let there : drop (length before) all ≡ little_bytes count number ++ behind =
    ap (λ (l : List ℕ). drop (length before) l) (append_assoc before (little_bytes count number) behind) ∙ drop_at before (little_bytes count number ++ behind) (length before) refl in
    number_there count (length before) all enough
    ∙ ap (λ (l : List ℕ). Some (little_from 0 count l)) there
    ∙ ap (λ (n : ℕ). Some n) (little_number-reads_back count number behind small)

small_anywhere : (bytes : List ℕ) → All (λ byte. byte < 256) bytes → (i : ℕ) → get_or bytes i 0 < 256
small_anywhere bytes small i = elim (cases_lt i (length bytes)) [
  | inl inside ↦ small i 0 inside
  | inr past ↦ omega (arith, get_or_past bytes i 0 past)
]

pub taken_is_put : (count number at : ℕ) (bytes : List ℕ) → All (λ byte. byte < 256) bytes
    → number_at count bytes at ≡ Some number → take count (drop at bytes) ≡ little_bytes count number
taken_is_put count number at bytes small is =
    let enough = number_enough count number at bytes is in
    let value : little_from 0 count (drop at bytes) ≡ number = cc (number_there count at bytes enough, is) in
    let small_there : (i : ℕ) → get_or (drop at bytes) i 0 < 256 = λ i. rw (get_or-drop at bytes i 0) (small_anywhere bytes small (at + i)) in
    sym (bytes-number count (drop at bytes) (omega (arith, length-drop at bytes)) small_there) ∙ ap (λ (n : ℕ). little_bytes count n) value
