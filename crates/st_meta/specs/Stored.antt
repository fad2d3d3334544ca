-- The state that a server stores beside its users' pairs: three pairs whose keys are above ff. Numbers are little-endian.
use Rattle.std.specs.Prelude.{◌≡◌, ◌<◌, ◌^◌, ℕ, not, ◌&&◌, nat_le, Bool, List, [], ◌∷◌, ◌++◌, length, map, fold, codes, Option, Some, IsTrue, false}
use Rattle.std.specs.Cmp.Lexicographic.{slice_cmp}
use Rattle.std.specs.FinMap.Entries.{find, put}
use Rattle.std.specs.List.{flat_map, list_all, list_any}
use Rattle.std.specs.Ordering.{nat_cmp, is_eq}
use Rattle.st_key.specs.Parts.{lies_in}
use Rattle.st_key.specs.Spans.{Span, is_canonical, key_less}
use Rattle.st_meta.specs.declared.state.Meta.{Meta}
use Rattle.st_num.specs.Number.{little_bytes}
use Rattle.st_ops.specs.declared.op.Op.{Op}
use Rattle.st_ops.specs.declared.op.Op.TheVariants.{Set}

-- a map of byte strings, as its pairs in the order of their keys
abbrev pub Pairs : Type 0
Pairs = List (List ℕ × List ℕ)

-- the least key that is no user's
abbrev pub ff : List ℕ
ff = 255 ∷ []

-- ff ff, and the name
abbrev pub assigned_key : List ℕ
assigned_key = 255 ∷ 255 ∷ codes "/assigned"

abbrev pub available_key : List ℕ
available_key = 255 ∷ 255 ∷ codes "/available"

abbrev pub version_key : List ℕ
version_key = 255 ∷ 255 ∷ codes "/version"

-- bytes behind their length
abbrev pub sized : List ℕ → List ℕ
sized bytes = little_bytes 4 (length bytes) ++ bytes

abbrev pub range_bytes : Span → List ℕ
range_bytes span = sized span.begin ++ sized span.end

-- ranges behind their number
abbrev pub ranges_bytes : List Span → List ℕ
ranges_bytes spans = little_bytes 4 (length spans) ++ flat_map range_bytes spans

-- the three pairs
abbrev pub stored : Meta → Pairs
stored meta =
    (assigned_key, ranges_bytes meta.assigned) ∷ (available_key, ranges_bytes meta.available) ∷ (version_key, little_bytes 8 meta.version) ∷ []

-- the map in which they are set
abbrev pub with_stored : Meta → Pairs → Pairs
with_stored meta pairs = fold (λ all pair. put (slice_cmp nat_cmp) pair.0 pair.1 all) pairs (stored meta)

-- what sets them
abbrev pub sets_of : Pairs → List Op
sets_of pairs = map (λ pair. Set pair.0 pair.1) pairs

abbrev pub value_at : Pairs → List ℕ → Option (List ℕ)
value_at pairs key = find (slice_cmp nat_cmp) key pairs

abbrev pub is_key : List ℕ → List ℕ → Bool
is_key stored key = is_eq (slice_cmp nat_cmp stored key)

-- a key that is no user's, and none of the three
abbrev pub is_other : List ℕ → Bool
is_other key = not (key_less key ff) && not (is_key assigned_key key) && not (is_key available_key key) && not (is_key version_key key)

-- a range of keys that a state may have: its ends are bounded, and it ends at ff or below it
abbrev pub is_range : Span → Bool
is_range span =
    key_less span.begin span.end && nat_le (length span.begin) 10001 && nat_le (length span.end) 10001 && not (key_less ff span.end)

-- a value that spells ranges that a state may have: they rise and don't touch
pub record SpellsRanges (value : List ℕ) (spans : List Span) : Type 0 where
  pub spelled : value ≡ ranges_bytes spans
  pub canonical : IsTrue (is_canonical spans)
  pub ranges : IsTrue (list_all is_range spans)
  pub fits : length spans < 2 ^ 32

pub record StoresRanges (pairs : Pairs) (key : List ℕ) (spans : List Span) : Type 0 where
  pub value : List ℕ
  pub there : value_at pairs key ≡ Some value
  pub spells : SpellsRanges value spans

-- a state that can be stored: its ranges are ones that it may have, and what is available is assigned
pub record IsState (meta : Meta) : Type 0 where
  pub small : meta.version < 2 ^ 64
  pub assigned : SpellsRanges (ranges_bytes meta.assigned) meta.assigned
  pub available : SpellsRanges (ranges_bytes meta.available) meta.available
  pub inside : IsTrue (list_all (lies_in meta.assigned) meta.available)

-- The pairs store a state: its three pairs are there, and no other that is no user's. What is available is assigned.
pub record Stores (pairs : Pairs) (meta : Meta) : Type 0 where
  pub version : value_at pairs version_key ≡ Some (little_bytes 8 meta.version)
  pub small : meta.version < 2 ^ 64
  pub assigned : StoresRanges pairs assigned_key meta.assigned
  pub available : StoresRanges pairs available_key meta.available
  pub inside : IsTrue (list_all (lies_in meta.assigned) meta.available)
  pub alone : list_any (λ pair. is_other pair.0) pairs ≡ false
