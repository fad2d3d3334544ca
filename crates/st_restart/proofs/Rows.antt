-- Openings worked out by hand.
use Rattle.std.proofs.Common.{◌≡◌, ℕ, List, [], ◌∷◌, ◌++◌, Option, Some, None, Ok, Err, true, false, refl}
use Rattle.st_fold.specs.declared.report.Damage.TheVariants.{File, Meta}
use Rattle.st_key.specs.Spans.{Span, all_keys}
use Rattle.st_key.specs.declared.part.MetaPart.TheVariants as part
use Rattle.st_restart.specs.Agreement.{first_difference}
use Rattle.st_restart.specs.Opened.{Opened, opened}

abbrev all : List Span
all = all_keys ∷ []

-- the header of a first file behind its gate
abbrev header : List ℕ
header = 0x53 ∷ 0x54 ∷ 0x4f ∷ 0x52 ∷ 0x51 ∷ 0x55 ∷ 0x45 ∷ 1 ∷ 0 ∷ 0 ∷ 0 ∷ 1 ∷ 0 ∷ 0 ∷ 0 ∷ 0 ∷ 0 ∷ 0 ∷ 0 ∷ 0 ∷ 0 ∷ 0 ∷ 0 ∷ 0 ∷ 0 ∷ 0 ∷ 0 ∷ []

-- the frame of a commit that sets 61 to 31 in an empty store, at version 1: its sets, the same pairs as a snapshot, and its end
abbrev sets : ℕ → List ℕ
sets tag =
    tag ∷ 1 ∷ 0 ∷ 0 ∷ 0 ∷ 1 ∷ 0 ∷ 0 ∷ 0 ∷ 0x61 ∷ 0x31
    ∷ tag ∷ 0x0b ∷ 0 ∷ 0 ∷ 0 ∷ 0x0d ∷ 0 ∷ 0 ∷ 0 ∷ 0xff ∷ 0xff ∷ 0x2f ∷ 0x61 ∷ 0x73 ∷ 0x73 ∷ 0x69 ∷ 0x67 ∷ 0x6e ∷ 0x65 ∷ 0x64 ∷ 1 ∷ 0 ∷ 0 ∷ 0 ∷ 0 ∷ 0 ∷ 0 ∷ 0 ∷ 1 ∷ 0 ∷ 0 ∷ 0 ∷ 0xff
    ∷ tag ∷ 0x0c ∷ 0 ∷ 0 ∷ 0 ∷ 0x0d ∷ 0 ∷ 0 ∷ 0 ∷ 0xff ∷ 0xff ∷ 0x2f ∷ 0x61 ∷ 0x76 ∷ 0x61 ∷ 0x69 ∷ 0x6c ∷ 0x61 ∷ 0x62 ∷ 0x6c ∷ 0x65 ∷ 1 ∷ 0 ∷ 0 ∷ 0 ∷ 0 ∷ 0 ∷ 0 ∷ 0 ∷ 1 ∷ 0 ∷ 0 ∷ 0 ∷ 0xff
    ∷ tag ∷ 0x0a ∷ 0 ∷ 0 ∷ 0 ∷ 8 ∷ 0 ∷ 0 ∷ 0 ∷ 0xff ∷ 0xff ∷ 0x2f ∷ 0x76 ∷ 0x65 ∷ 0x72 ∷ 0x73 ∷ 0x69 ∷ 0x6f ∷ 0x6e ∷ 1 ∷ 0 ∷ 0 ∷ 0 ∷ 0 ∷ 0 ∷ 0 ∷ 0 ∷ []

abbrev frame : List ℕ
frame = 1 ∷ 0xd4 ∷ 0 ∷ 0 ∷ 0 ∷ 0 ∷ 0 ∷ 0 ∷ 0 ∷ 0 ∷ 0 ∷ 0 ∷ 0 ∷ (sets 1 ++ sets 3) ++ 4 ∷ 5 ∷ 0 ∷ []

-- a store without a byte is fresh
empty-store : opened all ([], []) ≡ Ok (record { fresh = true; version = 0; assigned = all; available = all; base = [] })
empty-store = refl

-- a server that owns nothing opens with nothing
owns-nothing : opened [] ([], []) ≡ Ok (record { fresh = true; version = 0; assigned = []; available = []; base = [] })
owns-nothing = refl

-- a file that is shut has no frame
shut-file : opened all (0 ∷ header ++ frame, []) ≡ Ok (record { fresh = true; version = 0; assigned = all; available = all; base = [] })
shut-file = refl

-- one commit: its version, all keys, and its pair
first-commit : opened all (1 ∷ header ++ frame, []) ≡ Ok (record { fresh = false; version = 1; assigned = all; available = all; base = (0x61 ∷ [], 0x31 ∷ []) ∷ [] })
first-commit = refl

-- the state that is stored counts, not what the server owns
others-own : opened [] (1 ∷ header ++ frame, []) ≡ Ok (record { fresh = false; version = 1; assigned = all; available = all; base = (0x61 ∷ [], 0x31 ∷ []) ∷ [] })
others-own = refl

-- a mark that is another one is damage at place 1
other-mark : opened all (1 ∷ 0x54 ∷ 0x54 ∷ 0x4f ∷ 0x52 ∷ 0x51 ∷ 0x55 ∷ 0x45 ∷ 1 ∷ 0 ∷ 0 ∷ 0 ∷ 1 ∷ 0 ∷ 0 ∷ 0 ∷ 0 ∷ 0 ∷ 0 ∷ 0 ∷ 0 ∷ 0 ∷ 0 ∷ 0 ∷ 0 ∷ 0 ∷ 0 ∷ 0 ∷ [] ++ frame, []) ≡ Err (File 0 1)
other-mark = refl

-- a frame that isn't whole is damage at its gate
cut-frame : opened all (1 ∷ header ++ 1 ∷ 0xd4 ∷ 0 ∷ 0 ∷ 0 ∷ [], []) ≡ Err (File 0 28)
cut-frame = refl

-- a frame of an empty commit stores no state
no-state : opened all (1 ∷ header ++ 1 ∷ 1 ∷ 0 ∷ 0 ∷ 0 ∷ 0 ∷ 0 ∷ 0 ∷ 0 ∷ 0 ∷ 0 ∷ 0 ∷ 0 ∷ 5 ∷ 0 ∷ [], []) ≡ Err (Meta part.Version)
no-state = refl

-- maps differ first at the least key that one of them has otherwise
same-maps : first_difference ((1 ∷ [], 2 ∷ []) ∷ []) ((1 ∷ [], 2 ∷ []) ∷ []) ≡ None
same-maps = refl

other-value : first_difference ((1 ∷ [], 2 ∷ []) ∷ (3 ∷ [], 4 ∷ []) ∷ []) ((1 ∷ [], 2 ∷ []) ∷ (3 ∷ [], 5 ∷ []) ∷ []) ≡ Some (3 ∷ [])
other-value = refl

key-more : first_difference ((1 ∷ [], 2 ∷ []) ∷ (3 ∷ [], 4 ∷ []) ∷ []) ((3 ∷ [], 4 ∷ []) ∷ []) ≡ Some (1 ∷ [])
key-more = refl

key-less-there : first_difference ((3 ∷ [], 4 ∷ []) ∷ []) ((1 ∷ [], 2 ∷ []) ∷ (3 ∷ [], 4 ∷ []) ∷ []) ≡ Some (1 ∷ [])
key-less-there = refl

last-more : first_difference ((1 ∷ [], 2 ∷ []) ∷ []) ((1 ∷ [], 2 ∷ []) ∷ (3 ∷ [], []) ∷ []) ≡ Some (3 ∷ [])
last-more = refl
