-- Worked rows, computed from the definitions alone.
use Rattle.std.specs.Prelude.{codes}
use Rattle.std.proofs.Common.{◌≡◌, [], ◌∷◌, Some, None, refl}
use Rattle.st_atomic.specs.declared.AtomicOp.TheVariants.{Add, And, Or, Xor, Max, Min, ByteMin, ByteMax, AppendIfFits, CompareAndClear}
use Rattle.st_atomic.specs.Atomic.{changed, appended}

-- ff and 01 wrap to 00
add_wraps : changed Add (Some (0xff ∷ [])) (1 ∷ []) ≡ Some (0 ∷ [])
add_wraps = refl

add_to_absent : changed Add None (1 ∷ 0 ∷ []) ≡ Some (1 ∷ 0 ∷ [])
add_to_absent = refl

-- the old value is cut to the operand's length
add_cuts : changed Add (Some (1 ∷ 2 ∷ [])) (1 ∷ []) ≡ Some (2 ∷ [])
add_cuts = refl

add_of_nothing : changed Add (Some (5 ∷ [])) [] ≡ Some []
add_of_nothing = refl

add_carries : changed Add (Some (0xff ∷ 0xff ∷ [])) (1 ∷ 0 ∷ 7 ∷ []) ≡ Some (0 ∷ 0 ∷ 8 ∷ [])
add_carries = refl

or_extends : changed Or (Some (1 ∷ [])) (2 ∷ 0 ∷ []) ≡ Some (3 ∷ 0 ∷ [])
or_extends = refl

xor_cuts : changed Xor (Some (0xff ∷ 0x0f ∷ [])) (0x0f ∷ []) ≡ Some (0xf0 ∷ [])
xor_cuts = refl

max_cuts : changed Max (Some (1 ∷ 2 ∷ [])) (1 ∷ []) ≡ Some (1 ∷ [])
max_cuts = refl

-- 0201 is above 02ff as text and below it as a number
max_by_number : changed Max (Some (0xff ∷ 2 ∷ [])) (1 ∷ 3 ∷ []) ≡ Some (1 ∷ 3 ∷ [])
max_by_number = refl

min_of_absent : changed Min None (7 ∷ []) ≡ Some (7 ∷ [])
min_of_absent = refl

min_by_number : changed Min (Some (5 ∷ 2 ∷ [])) (6 ∷ 0 ∷ []) ≡ Some (6 ∷ 0 ∷ [])
min_by_number = refl

and_of_absent : changed And None (7 ∷ []) ≡ Some (7 ∷ [])
and_of_absent = refl

and_extends : changed And (Some (0xff ∷ [])) (0x0f ∷ 0x0f ∷ []) ≡ Some (0x0f ∷ 0 ∷ [])
and_extends = refl

byte_min_by_text : changed ByteMin (Some (2 ∷ [])) (1 ∷ 2 ∷ []) ≡ Some (1 ∷ 2 ∷ [])
byte_min_by_text = refl

byte_max_of_absent : changed ByteMax None (0 ∷ []) ≡ Some (0 ∷ [])
byte_max_of_absent = refl

-- up to the limit, and not past it
append_fits : appended 3 (codes "ab") (codes "c") ≡ codes "abc"
append_fits = refl

append_past : appended 3 (codes "ab") (codes "cd") ≡ codes "ab"
append_past = refl

append_short : changed AppendIfFits (Some (codes "ab")) (codes "cd") ≡ Some (codes "abcd")
append_short = refl

append_to_absent : changed AppendIfFits None (codes "cd") ≡ Some (codes "cd")
append_to_absent = refl

compare_equal : changed CompareAndClear (Some (codes "1")) (codes "1") ≡ None
compare_equal = refl

compare_unequal : changed CompareAndClear (Some (codes "1")) (codes "2") ≡ Some (codes "1")
compare_unequal = refl

compare_absent : changed CompareAndClear None (codes "1") ≡ None
compare_absent = refl
