-- Bytes of numbers and numbers of bytes.
use Rattle.std.proofs.Common.{◌≡◌, ◌<◌, ◌+◌, ◌*◌, ◌/◌, ◌%◌, ◌^◌, ℕ, zero, suc, List, [], ◌∷◌, length, All, lit<, refl, ap, arith}
use Rattle.std.proofs.Math.Nat.{pow-succ'}
use Rattle.std.proofs.Math.Arith.{mod-mul}
use Rattle.st_atomic.specs.Atomic.{number_of, bytes_of}

pub length-bytes_of : (count number : ℕ) → length (bytes_of count number) ≡ count
length-bytes_of zero number = refl
length-bytes_of (suc count) number = ap suc (length-bytes_of count (number / 256))

some_numbers : (count : ℕ) → 0 < 256 ^ count
some_numbers zero = omega arith
some_numbers (suc count) = let more = pow-succ' 256 count in let ih = some_numbers count in omega arith

pub number_of-bytes_of : (count number : ℕ) → number_of (bytes_of count number) ≡ number % 256 ^ count
number_of-bytes_of zero number = omega arith
number_of-bytes_of (suc count) number =
    let ih = number_of-bytes_of count (number / 256) in
    let power : 256 ^ suc count ≡ 256 ^ count * 256 = omega (arith, pow-succ' 256 count) in
    let split = mod-mul number (some_numbers count) (lit< {m = 0} {n = 256} tt) in
    let whole = ap (λ (p : ℕ). number % p) power in
    omega arith

pub bytes_of-number_of : (bytes : List ℕ) → All (λ byte. byte < 256) bytes → bytes_of (length bytes) (number_of bytes) ≡ bytes
bytes_of-number_of [] small = refl
bytes_of-number_of (byte ∷ above) small =
    let first : byte < 256 = small 0 0 (omega arith) in
    let ih = bytes_of-number_of above (λ i d here. small (suc i) d (omega arith)) in
    let lowest : (byte + 256 * number_of above) % 256 ≡ byte = omega arith in
    let higher : (byte + 256 * number_of above) / 256 ≡ number_of above = omega arith in
    rw (lowest, higher, ih) refl
