-- What an atomic operation makes of the value of a key. A value is the list of its bytes.
use Rattle.std.specs.Prelude.{ℕ, zero, suc, ◌+◌, ◌*◌, ◌/◌, ◌%◌, Bool, List, [], ◌∷◌, ◌++◌, length, take, replicate, map, bit_and, bit_or, bit_xor, bytes_eq, nat_lt, nat_le, if◌then◌else◌, Option, Some, None}
use Rattle.std.specs.Option.{unwrap_or}
use Rattle.std.specs.Ordering.{nat_cmp, is_lt}
use Rattle.std.specs.Cmp.Lexicographic.{slice_cmp}
use Rattle.std.specs.List.{zip}
use Rattle.st_atomic.specs.declared.AtomicOp.{AtomicOp}
use Rattle.st_atomic.specs.declared.AtomicOp.TheVariants.{Add, And, Or, Xor, Max, Min, ByteMin, ByteMax, AppendIfFits, CompareAndClear}

-- the number that bytes stand for, the lowest byte first
abbrev pub number_of : List ℕ → ℕ
number_of [] = 0
number_of (byte ∷ above) = byte + 256 * number_of above

-- the lowest bytes of a number, so many of them, the lowest first: the number modulo 256 ^ count
abbrev pub bytes_of : ℕ → ℕ → List ℕ
bytes_of zero number = []
bytes_of (suc count) number = number % 256 ∷ bytes_of count (number / 256)

-- so many bytes: cut to them, or extended with bytes 00
abbrev pub fit : List ℕ → ℕ → List ℕ
fit bytes count = take count (bytes ++ replicate count 0)

-- the sum as numbers, which wraps at the second one's length
abbrev pub added : List ℕ → List ℕ → List ℕ
added old operand = bytes_of (length operand) (number_of old + number_of operand)

-- byte by byte
abbrev pub bytewise : (ℕ → ℕ → ℕ) → List ℕ → List ℕ → List ℕ
bytewise combine old operand = map (λ pair. combine pair.0 pair.1) (zip old operand)

-- the larger as numbers
abbrev pub larger : List ℕ → List ℕ → List ℕ
larger old operand = if nat_lt (number_of old) (number_of operand) then operand else old

-- the smaller as numbers
abbrev pub smaller : List ℕ → List ℕ → List ℕ
smaller old operand = if nat_lt (number_of operand) (number_of old) then operand else old

-- the first comes before the second in the lexicographic order of bytes
abbrev pub text_less : List ℕ → List ℕ → Bool
text_less a b = is_lt (slice_cmp nat_cmp a b)

-- the first in the lexicographic order
abbrev pub first_text : List ℕ → List ℕ → List ℕ
first_text old operand = if text_less operand old then operand else old

-- the last in the lexicographic order
abbrev pub last_text : List ℕ → List ℕ → List ℕ
last_text old operand = if text_less old operand then operand else old

-- one behind the other, where that has at most so many bytes
abbrev pub appended : ℕ → List ℕ → List ℕ → List ℕ
appended limit old operand = if nat_le (length (old ++ operand)) limit then old ++ operand else old

-- the value after an operation, where there is one: by the value before it, where there was one, and the operand
abbrev pub changed : AtomicOp → Option (List ℕ) → List ℕ → Option (List ℕ)
changed Add old operand = Some (added (fit (unwrap_or old []) (length operand)) operand)
changed And None operand = Some operand
changed And (Some old) operand = Some (bytewise bit_and (fit old (length operand)) operand)
changed Or old operand = Some (bytewise bit_or (fit (unwrap_or old []) (length operand)) operand)
changed Xor old operand = Some (bytewise bit_xor (fit (unwrap_or old []) (length operand)) operand)
changed Max old operand = Some (larger (fit (unwrap_or old []) (length operand)) operand)
changed Min None operand = Some operand
changed Min (Some old) operand = Some (smaller (fit old (length operand)) operand)
changed ByteMin None operand = Some operand
changed ByteMin (Some old) operand = Some (first_text old operand)
changed ByteMax None operand = Some operand
changed ByteMax (Some old) operand = Some (last_text old operand)
changed AppendIfFits old operand = Some (appended 100000 (unwrap_or old []) operand)
changed CompareAndClear None operand = None
changed CompareAndClear (Some old) operand = if bytes_eq old operand then None else Some old
