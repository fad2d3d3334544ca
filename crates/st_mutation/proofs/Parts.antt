-- What the part of a mutation does to a key.
use Rattle.std.proofs.Common.{◌≡◌, ℕ, Bool, true, false, not, ◌&&◌, List, Option, Some, None, if◌then◌else◌, bytes_eq, refl, sym, ap, subst, ◌∙◌}
use Rattle.std.specs.Option.{option_map}
use Rattle.std.proofs.lemmas.Slice.Eq.{bytes_eq-Decides}
use Rattle.st_key.specs.KeyOrder.{less_trans, less_le_trans, le_less_trans}
use Rattle.st_key.specs.Parts.{greatest, least}
use Rattle.st_key.specs.Spans.{Span, key_less, within}
use Rattle.st_atomic.specs.Atomic.{changed}
use Rattle.st_mutation.specs.declared.batch.Mutation.{Mutation}
use Rattle.st_mutation.specs.declared.batch.Mutation.TheVariants.{Set, Clear, Atomic}
use Rattle.st_mutation.specs.Clip.{not_empty, clipped, value_by_part}
use Rattle.st_mutation.specs.Effect.{value_by}

-- comparing with one of two keys is one of two comparisons
less_chosen : (test : Bool) (key a b : List ℕ) → key_less key (if test then a else b) ≡ (if test then key_less key a else key_less key b)
less_chosen true key a b = refl
less_chosen false key a b = refl

not_both : (test x y : Bool) → (test ≡ true → x ≡ true → y ≡ true) → (test ≡ false → y ≡ true → x ≡ true)
    → not (if test then y else x) ≡ (not x && not y)
not_both true true true up down = refl
not_both true true false up down = let no : false ≡ true = up refl refl in cc
not_both true false y up down = refl
not_both false true y up down = refl
not_both false false true up down = let no : false ≡ true = down refl refl in cc
not_both false false false up down = refl

both : (test x y : Bool) → (test ≡ true → y ≡ true → x ≡ true) → (test ≡ false → x ≡ true → y ≡ true)
    → (if test then y else x) ≡ (x && y)
both true true y up down = refl
both true false true up down = let no : false ≡ true = up refl refl in cc
both true false false up down = refl
both false true true up down = refl
both false true false up down = let no : false ≡ true = down refl refl in cc
both false false y up down = refl

-- a key isn't below the greater of two exactly where it is below neither
from_greatest : (a b key : List ℕ) → not (key_less key (greatest a b)) ≡ (not (key_less key a) && not (key_less key b))
from_greatest a b key =
    ap not (less_chosen (key_less a b) key b a)
    ∙ not_both (key_less a b) (key_less key a) (key_less key b) (λ ab ka. less_trans key a b ka ab) (λ ab kb. less_le_trans key b a kb ab)

-- a key is below the lesser of two exactly where it is below both
below_least : (a b key : List ℕ) → key_less key (least a b) ≡ (key_less key a && key_less key b)
below_least a b key =
    less_chosen (key_less b a) key b a
    ∙ both (key_less b a) (key_less key a) (key_less key b) (λ ba kb. less_trans key b a kb ba) (λ ba ka. less_le_trans key a b ka ba)

regrouped : (a b c d : Bool) → ((a && b) && (c && d)) ≡ ((a && c) && (b && d))
regrouped true true c d = refl
regrouped true false true d = refl
regrouped true false false d = refl
regrouped false b c d = refl

-- the keys that two spans have in common
abbrev meet : Span → Span → Span
meet a b = record { begin = greatest a.begin b.begin; end = least a.end b.end }

within-meet : (a b : Span) (key : List ℕ) → within (meet a b) key ≡ (within a key && within b key)
within-meet a b key =
    ap (λ (t : Bool). t && key_less key (least a.end b.end)) (from_greatest a.begin b.begin key)
    ∙ ap (λ (t : Bool). (not (key_less key a.begin) && not (key_less key b.begin)) && t) (below_least a.end b.end key)
    ∙ regrouped (not (key_less key a.begin)) (not (key_less key b.begin)) (key_less key a.end) (key_less key b.end)

none_within : (ordered below inside : Bool) → ordered ≡ false → (below ≡ false → inside ≡ true → ordered ≡ true) → (not below && inside) ≡ false
none_within ordered true inside empty forced = refl
none_within ordered false true empty forced = let no : ordered ≡ true = forced refl refl in cc
none_within ordered false false empty forced = refl

-- clearing what is left of a span is clearing its keys
cleared : (span : Span) (key : List ℕ) (before : Option (List ℕ))
    → value_by_part key before (option_map Clear (not_empty span)) ≡ (if within span key then None else before)
cleared span key before =
    elim (key_less span.begin span.end)
    as (λ t. key_less span.begin span.end ≡ t
    → value_by_part key before (option_map Clear (if t then Some span else None)) ≡ (if within span key then None else before)) [
      | true ↦ λ ordered. refl
      | false ↦ λ empty.
          let out : within span key ≡ false =
          none_within (key_less span.begin span.end) (key_less key span.begin) (key_less key span.end) empty
          (λ above below. le_less_trans span.begin key span.end above below) in
          ap (λ (t : Bool). if t then None else before) (sym out)
    ]
    refl

cleared_common : (span to : Span) (key : List ℕ) (before : Option (List ℕ)) (inside : Bool) → within to key ≡ inside
    → value_by_part key before (clipped (Clear span) to) ≡ (if within span key && inside then None else before)
cleared_common span to key before inside is =
    cleared (meet span to) key before
    ∙ ap (λ (t : Bool). if t then None else before) (within-meet span to key)
    ∙ ap (λ (t : Bool). if within span key && t then None else before) is

and-true : (b : Bool) → (b && true) ≡ b
and-true true = refl
and-true false = refl

and-false : (b : Bool) → (b && false) ≡ false
and-false true = refl
and-false false = refl

cleared_inside : (span to : Span) (key : List ℕ) (before : Option (List ℕ)) → within to key ≡ true
    → value_by_part key before (clipped (Clear span) to) ≡ value_by key before (Clear span)
cleared_inside span to key before inside =
    cleared_common span to key before true inside ∙ ap (λ (t : Bool). if t then None else before) (and-true (within span key))

cleared_outside : (span to : Span) (key : List ℕ) (before : Option (List ℕ)) → within to key ≡ false
    → value_by_part key before (clipped (Clear span) to) ≡ before
cleared_outside span to key before outside =
    cleared_common span to key before false outside ∙ ap (λ (t : Bool). if t then None else before) (and-false (within span key))

-- a mutation of one key, whether that is inside and whether it is the key in question
kept_inside : (inside same : Bool) (after before : Option (List ℕ)) → (same ≡ true → inside ≡ true)
    → (if inside then (if same then after else before) else before) ≡ (if same then after else before)
kept_inside true same after before at = refl
kept_inside false true after before at = let no : false ≡ true = at refl in cc
kept_inside false false after before at = refl

kept_outside : (inside same : Bool) (after before : Option (List ℕ)) → (same ≡ true → inside ≡ false)
    → (if inside then (if same then after else before) else before) ≡ before
kept_outside true true after before at = let no : true ≡ false = at refl in cc
kept_outside true false after before at = refl
kept_outside false same after before at = refl

-- what a mutation does is done where it is kept
part_kept : (inside : Bool) (key : List ℕ) (before : Option (List ℕ)) (mutation : Mutation)
    → value_by_part key before (if inside then Some mutation else None) ≡ (if inside then value_by key before mutation else before)
part_kept true key before mutation = refl
part_kept false key before mutation = refl

-- equal keys are inside the same spans
same_within : (to : Span) (key other : List ℕ) (inside : Bool) → within to key ≡ inside → bytes_eq key other ≡ true → within to other ≡ inside
same_within to key other inside is equal =
    subst (λ (k : List ℕ). within to k ≡ inside) ((bytes_eq-Decides key other).0 equal) is

pub inside_part : (mutation : Mutation) (to : Span) (key : List ℕ) (before : Option (List ℕ)) → within to key ≡ true
    → value_by_part key before (clipped mutation to) ≡ value_by key before mutation
inside_part (Set other value) to key before inside =
    part_kept (within to other) key before (Set other value)
    ∙ kept_inside (within to other) (bytes_eq key other) (Some value) before (same_within to key other true inside)
inside_part (Clear span) to key before inside = cleared_inside span to key before inside
inside_part (Atomic op other operand) to key before inside =
    part_kept (within to other) key before (Atomic op other operand)
    ∙ kept_inside (within to other) (bytes_eq key other) (changed op before operand) before (same_within to key other true inside)

pub outside_part : (mutation : Mutation) (to : Span) (key : List ℕ) (before : Option (List ℕ)) → within to key ≡ false
    → value_by_part key before (clipped mutation to) ≡ before
outside_part (Set other value) to key before outside =
    part_kept (within to other) key before (Set other value)
    ∙ kept_outside (within to other) (bytes_eq key other) (Some value) before (same_within to key other false outside)
outside_part (Clear span) to key before outside = cleared_outside span to key before outside
outside_part (Atomic op other operand) to key before outside =
    part_kept (within to other) key before (Atomic op other operand)
    ∙ kept_outside (within to other) (bytes_eq key other) (changed op before operand) before (same_within to key other false outside)
