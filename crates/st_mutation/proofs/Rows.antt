-- Worked clips and effects, computed from the definitions alone.
use Rattle.std.specs.Prelude.{codes}
use Rattle.std.proofs.Common.{◌≡◌, [], ◌∷◌, Some, None, refl}
use Rattle.st_atomic.specs.declared.AtomicOp.TheVariants.{Add, CompareAndClear}
use Rattle.st_key.specs.Spans.{Span, all_keys}
use Rattle.st_mutation.specs.declared.batch.Mutation.TheVariants.{Set, Clear, Atomic}
use Rattle.st_mutation.specs.Clip.{clipped}
use Rattle.st_mutation.specs.Effect.{value_by}

abbrev b_to_d : Span
b_to_d = record { begin = codes "b"; end = codes "d" }

abbrev a_to_c : Span
a_to_c = record { begin = codes "a"; end = codes "c" }

-- a key is inside from the begin on, and up to the end
set_at_the_begin : clipped (Set (codes "b") (codes "1")) b_to_d ≡ Some (Set (codes "b") (codes "1"))
set_at_the_begin = refl

set_at_the_end : clipped (Set (codes "d") (codes "1")) b_to_d ≡ None
set_at_the_end = refl

add_inside : clipped (Atomic Add (codes "cc") (1 ∷ [])) b_to_d ≡ Some (Atomic Add (codes "cc") (1 ∷ []))
add_inside = refl

add_outside : clipped (Atomic Add (codes "a") (1 ∷ [])) b_to_d ≡ None
add_outside = refl

clear_over_the_begin : clipped (Clear a_to_c) b_to_d ≡ Some (Clear (record { begin = codes "b"; end = codes "c" }))
clear_over_the_begin = refl

clear_over_the_end : clipped (Clear b_to_d) a_to_c ≡ Some (Clear (record { begin = codes "b"; end = codes "c" }))
clear_over_the_end = refl

clear_around : clipped (Clear all_keys) b_to_d ≡ Some (Clear b_to_d)
clear_around = refl

-- ranges that only touch have no key in common
clear_up_to_the_begin : clipped (Clear (record { begin = codes "a"; end = codes "b" })) b_to_d ≡ None
clear_up_to_the_begin = refl

set_of_the_key : value_by (codes "a") None (Set (codes "a") (codes "1")) ≡ Some (codes "1")
set_of_the_key = refl

set_of_another_key : value_by (codes "a") (Some (codes "0")) (Set (codes "aa") (codes "1")) ≡ Some (codes "0")
set_of_another_key = refl

cleared_key : value_by (codes "b") (Some (codes "0")) (Clear b_to_d) ≡ None
cleared_key = refl

key_at_the_end : value_by (codes "d") (Some (codes "0")) (Clear b_to_d) ≡ Some (codes "0")
key_at_the_end = refl

added_to : value_by (codes "a") (Some (0xff ∷ [])) (Atomic Add (codes "a") (1 ∷ [])) ≡ Some (0 ∷ [])
added_to = refl

compared : value_by (codes "a") (Some (codes "1")) (Atomic CompareAndClear (codes "a") (codes "1")) ≡ None
compared = refl
