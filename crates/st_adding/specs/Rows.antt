-- The rows that were fetched and aren't in the base yet, as a map.
use Rattle.std.specs.Prelude.{◌≡◌, ℕ, Bool, not, List, Option, Some, IsTrue, filter, fold}
use Rattle.std.specs.List.{AllByRecursion, filter_map}
use Rattle.std.specs.Option.{option_map, IsSome}
use Rattle.std.specs.Ordering.{nat_cmp}
use Rattle.std.specs.Cmp.Lexicographic.{slice_cmp}
use Rattle.std.specs.FinMap.Entries.{find, is_sorted}
use Rattle.st_fold.specs.Map.{Map, value_at, with_value}
use Rattle.st_key.specs.Spans.{Span, within}

-- a map with rows put into it, one after another: at one key the later row wins
abbrev pub handed : Map → Map → Map
handed rows pairs = fold (λ before row. with_value row.0 (Some row.1) before) pairs rows

-- a map without the keys of a span
abbrev pub forgotten : Span → Map → Map
forgotten span pairs = filter (λ pair. not (within span pair.0)) pairs

-- the keys of a map rise strictly
abbrev pub rises : Map → Bool
rises pairs = is_sorted (slice_cmp nat_cmp) pairs

-- two maps tell the same of each key of a span
abbrev pub AgreeOn : Span → Map → Map → Type 0
AgreeOn span a b = (key : List ℕ) → IsTrue (within span key) → value_at a key ≡ value_at b key

-- Slots of keys: one with a value is a row, and one without is room for a row.
abbrev pub Slots : Type 0
Slots = List (List ℕ × Option (List ℕ))

-- the rows of slots
abbrev pub rows_of : Slots → Map
rows_of slots = filter_map (λ slot. option_map (λ value. (slot.0, value)) slot.1) slots

-- each row has a slot
abbrev pub HaveSlots : Slots → Map → Type 0
HaveSlots slots rows = AllByRecursion (λ row. IsSome (find (slice_cmp nat_cmp) row.0 slots)) rows
