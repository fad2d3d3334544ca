-- Numbers as bytes, the lowest byte first.
use Rattle.std.specs.Prelude.{ℕ, ◌+◌, List, length, drop, nat_lt, if◌then◌else◌, Option, Some, None}
use Rattle.byteorder.specs.Endian as endian

-- the bytes of a number, so many of them
abbrev pub little_bytes : ℕ → ℕ → List ℕ
little_bytes count number = endian.little_bytes count number

-- the number of so many first bytes
abbrev pub little_number : ℕ → List ℕ → ℕ
little_number count bytes = endian.little_number count bytes

-- the number of so many bytes from a place on, where so many stand there
abbrev pub number_at : ℕ → List ℕ → ℕ → Option ℕ
number_at count bytes at =
    if nat_lt (length bytes) (at + count) then None else Some (little_number count (drop at bytes))
