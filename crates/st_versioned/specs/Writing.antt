-- How a version writes. A clear that reaches over the first key of what is written, or over the first key behind that, is
-- parted in two there.
use Rattle.std.specs.Prelude.{ℕ, not, if◌then◌else◌, List, [], ◌∷◌, ◌++◌, filter, nat_le, nat_lt, Option, Some, None}
use Rattle.std.specs.Cmp.Lexicographic.{slice_cmp}
use Rattle.std.specs.FinMap.Entries.{put, where_key}
use Rattle.std.specs.Option.{option_map_or}
use Rattle.std.specs.Ordering.{nat_cmp}
use Rattle.st_key.specs.Spans.{Span, key_less, within}
use Rattle.st_ptree.specs.Entries.{last_of}
use Rattle.st_versioned.specs.Root.{Row}
use Rattle.st_versioned.specs.declared.change.Change.{Change}
use Rattle.st_versioned.specs.declared.change.Change.TheVariants.{Set, Clear, Erase}
use Rattle.st_versioned.specs.declared.cut.Reach.{Reach}
use Rattle.st_versioned.specs.declared.entry.Dated.{Dated}
use Rattle.st_versioned.specs.declared.entry.Entry.{Entry}
use Rattle.st_versioned.specs.declared.entry.Entry.TheVariants.{Value, ClearTo}

-- the row with the greatest key below a key
abbrev pub last_below : List ℕ → List Row → Option Row
last_below key rows = last_of (where_key (slice_cmp nat_cmp) (λ at. key_less at key) rows)

-- where it is a clear that reaches over the key: where that begins, its version, and its end
abbrev pub reach_by : List ℕ → List ℕ → ℕ → Entry → Option Reach
reach_by key at version (Value value) = None
reach_by key at version (ClearTo end) = if key_less key end then Some (record { begin = at; version = version; end = end }) else None

abbrev pub reach_of : List ℕ → Option Row → Option Reach
reach_of key None = None
reach_of key (Some row) = reach_by key row.0 row.1.version row.1.entry

-- with a row at a key
abbrev pub with_row : List ℕ → ℕ → Entry → List Row → List Row
with_row key version entry rows = put (slice_cmp nat_cmp) key (record { version = version; entry = entry }) rows

-- the clear ends at the key, and begins anew there
abbrev pub parted : List ℕ → List Row → Reach → List Row
parted key rows reach = with_row key reach.version (ClearTo reach.end) (with_row reach.begin reach.version (ClearTo key) rows)

abbrev pub cut_at : List ℕ → List Row → List Row
cut_at key rows = option_map_or (parted key rows) (reach_of key (last_below key rows)) rows

abbrev pub without_span : Span → List Row → List Row
without_span span rows = where_key (slice_cmp nat_cmp) (λ key. not (within span key)) (cut_at span.end (cut_at span.begin rows))

abbrev pub written : ℕ → Change → List Row → List Row
written version (Set key value) rows = with_row key version (Value value) (cut_at (key ++ 0 ∷ []) (cut_at key rows))
written version (Clear span) rows = with_row span.begin version (ClearTo span.end) (without_span span rows)
written version (Erase span) rows = without_span span rows

-- what was written above a version, and what was up to it
abbrev pub made_above : ℕ → List Row → List Row
made_above version rows = filter (λ row. nat_lt version row.1.version) rows

abbrev pub made_to : ℕ → List Row → List Row
made_to version rows = filter (λ row. nat_le row.1.version version) rows
