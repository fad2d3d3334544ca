-- Worked states, computed from the definitions alone.
use Rattle.std.specs.Prelude.{codes}
use Rattle.std.proofs.Common.{◌≡◌, ℕ, List, [], ◌∷◌, ◌++◌, Ok, Err, refl}
use Rattle.st_key.specs.Spans.{all_keys}
use Rattle.st_key.specs.declared.part.MetaPart.TheVariants.{Version, Assigned, Available, Other}
use Rattle.st_meta.specs.Reading.{meta_of}
use Rattle.st_meta.specs.Stored.{Pairs, assigned_key, available_key, stored, version_key}
use Rattle.st_meta.specs.declared.state.Meta.{Meta}

-- version 1, all keys of users
abbrev whole : Meta
whole = record { version = 1; assigned = all_keys ∷ []; available = all_keys ∷ [] }

-- one range: an empty begin, and the end ff
abbrev all_bytes : List ℕ
all_bytes = 1 ∷ 0 ∷ 0 ∷ 0 ∷ 0 ∷ 0 ∷ 0 ∷ 0 ∷ 1 ∷ 0 ∷ 0 ∷ 0 ∷ 255 ∷ []

abbrev none_bytes : List ℕ
none_bytes = 0 ∷ 0 ∷ 0 ∷ 0 ∷ []

abbrev one_bytes : List ℕ
one_bytes = 1 ∷ 0 ∷ 0 ∷ 0 ∷ 0 ∷ 0 ∷ 0 ∷ 0 ∷ []

-- the names are ff ff 2f 61 73 .. and so on
the_names : assigned_key ∷ available_key ∷ version_key ∷ []
    ≡ (0xff ∷ 0xff ∷ 0x2f ∷ 0x61 ∷ 0x73 ∷ 0x73 ∷ 0x69 ∷ 0x67 ∷ 0x6e ∷ 0x65 ∷ 0x64 ∷ [])
    ∷ (0xff ∷ 0xff ∷ 0x2f ∷ 0x61 ∷ 0x76 ∷ 0x61 ∷ 0x69 ∷ 0x6c ∷ 0x61 ∷ 0x62 ∷ 0x6c ∷ 0x65 ∷ [])
    ∷ (0xff ∷ 0xff ∷ 0x2f ∷ 0x76 ∷ 0x65 ∷ 0x72 ∷ 0x73 ∷ 0x69 ∷ 0x6f ∷ 0x6e ∷ []) ∷ []
the_names = refl

the_pairs : stored whole ≡ (assigned_key, all_bytes) ∷ (available_key, all_bytes) ∷ (version_key, one_bytes) ∷ []
the_pairs = refl

-- a user's pair before them is none of the state
abbrev with : List ℕ → List ℕ → List ℕ → Pairs
with assigned available version = (codes "a", codes "1") ∷ (assigned_key, assigned) ∷ (available_key, available) ∷ (version_key, version) ∷ []

read : meta_of (with all_bytes all_bytes one_bytes) ≡ Ok whole
read = refl

nothing_available : meta_of (with all_bytes none_bytes one_bytes) ≡ Ok (record { version = 1; assigned = all_keys ∷ []; available = [] })
nothing_available = refl

nothing_stored : meta_of [] ≡ Err Version
nothing_stored = refl

short_version : meta_of (with all_bytes all_bytes (1 ∷ 0 ∷ 0 ∷ 0 ∷ 0 ∷ 0 ∷ 0 ∷ [])) ≡ Err Version
short_version = refl

-- the version is judged first
all_wrong : meta_of (with [] [] []) ≡ Err Version
all_wrong = refl

bytes_behind : meta_of (with (all_bytes ++ 0 ∷ []) all_bytes one_bytes) ≡ Err Assigned
bytes_behind = refl

cut_short : meta_of (with (1 ∷ 0 ∷ 0 ∷ 0 ∷ 0 ∷ 0 ∷ 0 ∷ 0 ∷ 1 ∷ 0 ∷ 0 ∷ 0 ∷ []) all_bytes one_bytes) ≡ Err Assigned
cut_short = refl

-- from a to b, and from b to c
touching : meta_of (with (2 ∷ 0 ∷ 0 ∷ 0 ∷ 1 ∷ 0 ∷ 0 ∷ 0 ∷ 97 ∷ 1 ∷ 0 ∷ 0 ∷ 0 ∷ 98 ∷ 1 ∷ 0 ∷ 0 ∷ 0 ∷ 98 ∷ 1 ∷ 0 ∷ 0 ∷ 0 ∷ 99 ∷ []) none_bytes one_bytes) ≡ Err Assigned
touching = refl

-- from a to ff 00
past_ff : meta_of (with (1 ∷ 0 ∷ 0 ∷ 0 ∷ 1 ∷ 0 ∷ 0 ∷ 0 ∷ 97 ∷ 2 ∷ 0 ∷ 0 ∷ 0 ∷ 255 ∷ 0 ∷ []) none_bytes one_bytes) ≡ Err Assigned
past_ff = refl

-- available, and not assigned
outside : meta_of (with none_bytes all_bytes one_bytes) ≡ Err Available
outside = refl

-- a further pair at ff
further : meta_of ((255 ∷ [], []) ∷ stored whole) ≡ Err Other
further = refl
