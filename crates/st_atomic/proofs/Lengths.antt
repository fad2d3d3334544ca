-- How long the values are that operations make.
use Rattle.std.proofs.Common.{◌≡◌, ◌≤◌, ◌+◌, ℕ, Bool, true, false, List, [], ◌++◌, length, replicate, Option, Some, None, if◌then◌else◌, nat_lt, bytes_eq, bit_and, bit_or, bit_xor, Result, Ok, Err, IfOk, refl, sym, ap, arith, length-append}
use Rattle.std.specs.Option.{ForSome, option_map, unwrap_or}
use Rattle.std.specs.List.{zip}
use Rattle.std.proofs.lemmas.List.{length-take, length-map, length-replicate}
use Rattle.std.proofs.lemmas.Slice.Zip.{length-zip}
use Rattle.std.proofs.lemmas.Bool.Decides.{nat_tests}
use Rattle.st_atomic.specs.declared.AtomicOp.{AtomicOp}
use Rattle.st_atomic.specs.declared.AtomicOp.TheVariants.{Add, And, Or, Xor, Max, Min, ByteMin, ByteMax, AppendIfFits, CompareAndClear}
use Rattle.st_atomic.specs.Atomic.{number_of, bytes_of, fit, bytewise, larger, smaller, text_less, first_text, last_text, appended, changed}
use Rattle.st_atomic.proofs.Bytes.{length-bytes_of}

pub length-fit : (bytes : List ℕ) (count : ℕ) → length (fit bytes count) ≡ count
length-fit bytes count = omega (arith, length-take count (bytes ++ replicate count 0), length-append bytes (replicate count 0), length-replicate {A = ℕ} count 0)

length-bytewise : (combine : ℕ → ℕ → ℕ) (old operand : List ℕ) → length (bytewise combine old operand) ≤ length operand
length-bytewise combine old operand =
    omega (arith, length-map (zip old operand) (λ (pair : ℕ × ℕ). combine pair.0 pair.1), length-zip old operand)

either : (test : Bool) (xs ys : List ℕ) → length xs ≤ 100000 → length ys ≤ 100000 → length (if test then xs else ys) ≤ 100000
either true xs ys first second = first
either false xs ys first second = second

length-appended : (old operand : List ℕ) → length old ≤ 100000 → length (appended 100000 old operand) ≤ 100000
length-appended old operand short = grind (arith, nat_tests)

carried : (value : List ℕ) → length value ≤ 100000 → ForSome (Some value) (λ bytes. length bytes ≤ 100000)
carried value short other is = let same : value ≡ other = cc in omega (arith, ap length same)

kept : (test : Bool) (value : List ℕ) → length value ≤ 100000 → ForSome (if test then None else Some value) (λ bytes. length bytes ≤ 100000)
kept true value short other is = cc
kept false value short other is = carried value short other is

-- the length of what was fitted to an operand that isn't too long
fitted : (old operand : List ℕ) → length operand ≤ 100000 → length (fit old (length operand)) ≤ 100000
fitted old operand short = omega (arith, length-fit old (length operand))

combined : (combine : ℕ → ℕ → ℕ) (old operand : List ℕ) → length operand ≤ 100000
    → ForSome (Some (bytewise combine old operand)) (λ bytes. length bytes ≤ 100000)
combined combine old operand short = carried (bytewise combine old operand) (omega (arith, length-bytewise combine old operand))

pub short_value : (op : AtomicOp) (old : Option (List ℕ)) (operand : List ℕ) → ForSome old (λ bytes. length bytes ≤ 100000)
    → length operand ≤ 100000 → ForSome (changed op old operand) (λ bytes. length bytes ≤ 100000)
short_value Add old operand short_old short =
    let sum = number_of (fit (unwrap_or old []) (length operand)) + number_of operand in
    carried (bytes_of (length operand) sum) (omega (arith, length-bytes_of (length operand) sum))
short_value And None operand short_old short = carried operand short
short_value And (Some old) operand short_old short = combined bit_and (fit old (length operand)) operand short
short_value Or old operand short_old short = combined bit_or (fit (unwrap_or old []) (length operand)) operand short
short_value Xor old operand short_old short = combined bit_xor (fit (unwrap_or old []) (length operand)) operand short
short_value Max old operand short_old short =
    let value = fit (unwrap_or old []) (length operand) in
    carried (larger value operand) (either (nat_lt (number_of value) (number_of operand)) operand value short (fitted (unwrap_or old []) operand short))
short_value Min None operand short_old short = carried operand short
short_value Min (Some old) operand short_old short =
    let value = fit old (length operand) in
    carried (smaller value operand) (either (nat_lt (number_of operand) (number_of value)) operand value short (fitted old operand short))
short_value ByteMin None operand short_old short = carried operand short
short_value ByteMin (Some old) operand short_old short =
    carried (first_text old operand) (either (text_less operand old) operand old short (short_old old refl))
short_value ByteMax None operand short_old short = carried operand short
short_value ByteMax (Some old) operand short_old short =
    carried (last_text old operand) (either (text_less old operand) operand old short (short_old old refl))
short_value AppendIfFits None operand short_old short = carried (appended 100000 [] operand) (length-appended [] operand (omega arith))
short_value AppendIfFits (Some old) operand short_old short =
    carried (appended 100000 old operand) (length-appended old operand (short_old old refl))
short_value CompareAndClear None operand short_old short = λ other is. cc
short_value CompareAndClear (Some old) operand short_old short = kept (bytes_eq old operand) old (short_old old refl)

-- so is what a call hands out that makes it
pub short_result : {V E : Type 0} (result : Result (Option V) E) (items : V → List ℕ) (op : AtomicOp) (old : Option (List ℕ)) (operand : List ℕ)
    → IfOk result (λ after. option_map items after ≡ changed op old operand)
    → ForSome old (λ bytes. length bytes ≤ 100000) → length operand ≤ 100000
    → IfOk result (λ after. ForSome after (λ bytes. length (items bytes) ≤ 100000))
short_result (Err why) items op old operand is short_old short = tt
short_result (Ok None) items op old operand is short_old short = λ other same. cc
short_result (Ok (Some value)) items op old operand is short_old short = λ other same.
    let bound = short_value op old operand short_old short (items value) (sym is) in
    let one : value ≡ other = cc in
    omega (arith, bound, ap (λ v. length (items v)) one)
