-- Worked versions, computed from the definitions alone.
use Rattle.std.proofs.Common.{◌≡◌, ℕ, List, [], ◌∷◌, Option, Some, None, map, refl}
use Rattle.st_key.specs.Spans.{Span}
use Rattle.st_versioned.specs.Root.{Pairs, Row, over}
use Rattle.st_versioned.specs.Writing.{made_above, written}
use Rattle.st_versioned.specs.declared.change.Change.TheVariants.{Set, Clear, Erase}
use Rattle.st_versioned.specs.declared.entry.Entry.{Entry}
use Rattle.st_versioned.specs.declared.entry.Entry.TheVariants.{Value, ClearTo}

abbrev span : ℕ → ℕ → Span
span begin end = record { begin = begin ∷ []; end = end ∷ [] }

abbrev row : ℕ → ℕ → Entry → Row
row key version entry = (key ∷ [], record { version = version; entry = entry })

-- version 1 sets 61, 62 and 63, version 2 clears 61 to 63, version 3 sets 62
abbrev one : List Row
one = written 1 (Set (0x63 ∷ []) (0x33 ∷ [])) (written 1 (Set (0x62 ∷ []) (0x32 ∷ [])) (written 1 (Set (0x61 ∷ []) (0x31 ∷ [])) []))

abbrev two : List Row
two = written 2 (Clear (span 0x61 0x63)) one

abbrev three : List Row
three = written 3 (Set (0x62 ∷ []) (0x39 ∷ [])) two

abbrev gets : List Row → Pairs → List (Option (List ℕ))
gets root base = map (λ key. over root base (key ∷ [])) (0x61 ∷ 0x62 ∷ 0x63 ∷ [])

first : gets one [] ≡ Some (0x31 ∷ []) ∷ Some (0x32 ∷ []) ∷ Some (0x33 ∷ []) ∷ []
first = refl

second : gets two [] ≡ None ∷ None ∷ Some (0x33 ∷ []) ∷ []
second = refl

second-rows : two ≡ row 0x61 2 (ClearTo (0x63 ∷ [])) ∷ row 0x63 1 (Value (0x33 ∷ [])) ∷ []
second-rows = refl

-- the clear is parted around the set
third-rows : three
    ≡ row 0x61 2 (ClearTo (0x62 ∷ [])) ∷ row 0x62 3 (Value (0x39 ∷ [])) ∷ (0x62 ∷ 0 ∷ [], record { version = 2; entry = ClearTo (0x63 ∷ []) }) ∷ row 0x63 1 (Value (0x33 ∷ [])) ∷ []
third-rows = refl

third : gets three [] ≡ None ∷ Some (0x39 ∷ []) ∷ Some (0x33 ∷ []) ∷ []
third = refl

-- a base at version 1, which has 62 = 32: the clear of version 2 hides it
abbrev base : Pairs
base = (0x61 ∷ [], 0x31 ∷ []) ∷ (0x62 ∷ [], 0x32 ∷ []) ∷ (0x63 ∷ [], 0x33 ∷ []) ∷ []

clear-over-base : gets (made_above 1 two) base ≡ None ∷ None ∷ Some (0x33 ∷ []) ∷ []
clear-over-base = refl

erased : gets (written 4 (Erase (span 0x62 0x63)) (made_above 1 three)) base ≡ None ∷ Some (0x32 ∷ []) ∷ Some (0x33 ∷ []) ∷ []
erased = refl
