-- Rows of which none reaches the next.
use Rattle.std.specs.Prelude.{◌≡◌, ℕ, ◌≤◌, true, false, List, [], ◌∷◌}
use Rattle.std.specs.List.{AllByRecursion}
use Rattle.st_key.specs.Spans.{key_less}
use Rattle.st_versioned.specs.Root.{Row}
use Rattle.st_versioned.specs.declared.change.Change.{Change}
use Rattle.st_versioned.specs.declared.change.Change.TheVariants.{Set, Clear, Erase}
use Rattle.st_versioned.specs.declared.entry.Entry.{Entry}
use Rattle.st_versioned.specs.declared.entry.Entry.TheVariants.{Value, ClearTo}

-- what is written below a key ends at it or before it
abbrev pub EndsBy : List ℕ → Entry → Type 0
EndsBy key (Value value) = Unit {0}
EndsBy key (ClearTo end) = key_less key end ≡ false

-- one row is below another, and doesn't reach it
abbrev pub IsBelow : Row → Row → Type 0
IsBelow row other = (key_less row.0 other.0 ≡ true) × EndsBy other.0 row.1.entry

abbrev pub AreApart : List Row → Type 0
AreApart [] = Unit {0}
AreApart (row ∷ rows) = AllByRecursion (IsBelow row) rows × AreApart rows

-- no row is of a version below this one
abbrev pub AreFrom : ℕ → List Row → Type 0
AreFrom version rows = AllByRecursion (λ row. version ≤ row.1.version) rows

-- the range of a change has a key
abbrev pub HasKey : Change → Type 0
HasKey (Set key value) = Unit {0}
HasKey (Clear span) = key_less span.begin span.end ≡ true
HasKey (Erase span) = key_less span.begin span.end ≡ true
