-- What single words stand for.
use Rattle.std.specs.Prelude.{ℕ, ◌+◌, ◌-◌, ◌*◌, ◌^◌, ℤ, pos, neg_ℤ, Bool, false, not, ◌&&◌, ◌||◌, ◌==◌, bytes_eq, nat_lt, nat_le, List, [], ◌∷◌, length, drop, fold, Option, Some, None, Result, Ok, Err, if◌then◌else◌}
use Rattle.std.specs.Char.{is_ascii_digit}
use Rattle.std.specs.List.{list_all}
use Rattle.std.specs.Result.{result_ok}
use Rattle.hex.specs.Hex.{decode_of}
use Rattle.st_fold.specs.declared.plan.Kind.{Kind}
use Rattle.st_fold.specs.declared.plan.Kind.TheVariants as kind
use Rattle.st_key.specs.Spans.{Span, key_less}

infixl 10 ◌>>=◌
abbrev pub ◌>>=◌ : {A B : Type 0} → Result A Kind → (A → Result B Kind) → Result B Kind
Ok x >>= f = f x
Err e >>= f = Err e

-- two words are the same
abbrev pub is_word : List ℕ → List ℕ → Bool
is_word = bytes_eq

-- the word begins with this byte
abbrev pub begins_with : ℕ → List ℕ → Bool
begins_with byte [] = false
begins_with byte (first ∷ word) = first == byte

abbrev pub after_first : List ℕ → List ℕ
after_first word = drop 1 word

-- the number of decimal digits
abbrev pub decimal_value : List ℕ → ℕ
decimal_value digits = fold (λ n digit. 10 * n + (digit - 48)) 0 digits

-- a number: 1 to 20 digits, below 2^64
abbrev pub number_of : List ℕ → Option ℕ
number_of word =
    if nat_lt 0 (length word) && nat_le (length word) 20 && list_all is_ascii_digit word && nat_lt (decimal_value word) (2 ^ 64)
    then Some (decimal_value word) else None

-- a number from low to high
abbrev pub number_in : ℕ → ℕ → Option ℕ → Result ℕ Kind
number_in low high None = Err kind.Number
number_in low high (Some n) = if nat_le low n && nat_le n high then Ok n else Err kind.Number

abbrev pub number_field : ℕ → ℕ → List ℕ → Result ℕ Kind
number_field low high word = number_in low high (number_of word)

-- a whole number from -1,000 to 1,000: its digits, after `-` (45) where it isn't above 0
abbrev pub offset_field : List ℕ → Result ℤ Kind
offset_field word =
    if begins_with 45 word then (number_field 0 1000 (after_first word) >>= λ n. Ok (neg_ℤ (pos n)))
    else (number_field 0 1000 word >>= λ n. Ok (pos n))

-- the greatest version
abbrev pub max_version : ℕ
max_version = 9223372036854775807

-- the greatest number
abbrev pub max_number : ℕ
max_number = 18446744073709551615

-- how many calls of a life's disk may pass before a kill
abbrev pub max_calls : ℕ
max_calls = 9223372036854775807

-- a version after `@`
abbrev pub version_field : List ℕ → Result ℕ Kind
version_field word = number_field 0 max_version (after_first word)

-- bytes: `-` for none, else hex of either case
abbrev pub bytes_of : List ℕ → Option (List ℕ)
bytes_of word = if is_word word (45 ∷ []) then Some [] else result_ok (decode_of word)

abbrev pub bytes_in : Option (List ℕ) → Result (List ℕ) Kind
bytes_in None = Err kind.Hex
bytes_in (Some bytes) = Ok bytes

abbrev pub bytes_field : List ℕ → Result (List ℕ) Kind
bytes_field word = bytes_in (bytes_of word)

-- a key: at most 10,000 bytes, and below ff
abbrev pub key_in : Option (List ℕ) → Result (List ℕ) Kind
key_in None = Err kind.Hex
key_in (Some bytes) = if nat_le (length bytes) 10000 && key_less bytes (255 ∷ []) then Ok bytes else Err kind.Key

abbrev pub key_field : List ℕ → Result (List ℕ) Kind
key_field word = key_in (bytes_of word)

-- a value: at most 100,000 bytes
abbrev pub value_in : Option (List ℕ) → Result (List ℕ) Kind
value_in None = Err kind.Hex
value_in (Some bytes) = if nat_le (length bytes) 100000 then Ok bytes else Err kind.Value

abbrev pub value_field : List ℕ → Result (List ℕ) Kind
value_field word = value_in (bytes_of word)

-- a range: its begin is below its end, each has at most 10,001 bytes, and its end is at most ff
abbrev pub range_of : (begin end : List ℕ) → Result Span Kind
range_of begin end =
    if key_less begin end && not (key_less (255 ∷ []) end) && nat_le (length begin) 10001 && nat_le (length end) 10001
    then Ok (record { begin = begin; end = end }) else Err kind.Range

-- a range whose begin isn't above a key, and whose end isn't below it
abbrev pub range_about : (key begin end : List ℕ) → Result Span Kind
range_about key begin end = if key_less key begin || key_less end key then Err kind.Range else range_of begin end
