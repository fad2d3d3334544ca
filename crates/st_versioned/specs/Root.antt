-- What the entries of a root decide of each key.
use Rattle.std.specs.Prelude.{ℕ, nat_lt, Bool, not, List, if◌then◌else◌, Option, Some, None}
use Rattle.std.specs.Cmp.Lexicographic.{slice_cmp}
use Rattle.std.specs.FinMap.Entries.{find, where_key}
use Rattle.std.specs.Option.{option_map, unwrap_or}
use Rattle.std.specs.Ordering.{is_eq, nat_cmp}
use Rattle.st_key.specs.Spans.{key_less, within}
use Rattle.st_ptree.specs.Entries.{last_of}
use Rattle.st_versioned.specs.declared.change.Change.{Change}
use Rattle.st_versioned.specs.declared.change.Change.TheVariants.{Set, Clear, Erase}
use Rattle.st_versioned.specs.declared.entry.Dated.{Dated}
use Rattle.st_versioned.specs.declared.entry.Entry.{Entry}
use Rattle.st_versioned.specs.declared.entry.Entry.TheVariants.{Value, ClearTo}

-- a map of byte strings, as its pairs in the order of their keys
abbrev pub Pairs : Type 0
Pairs = List (List ℕ × List ℕ)

abbrev pub value_at : Pairs → List ℕ → Option (List ℕ)
value_at pairs key = find (slice_cmp nat_cmp) key pairs

abbrev pub same : List ℕ → List ℕ → Bool
same a b = is_eq (slice_cmp nat_cmp a b)

-- the version that decided a key, and its value then; nothing where a base is to tell
abbrev pub Decision : Type 0
Decision = Option (ℕ × Option (List ℕ))

-- a key, and what is written at it
abbrev pub Row : Type 0
Row = List ℕ × Dated

-- what is written at a key reaches one at it or above it: a value that key alone, and a clear those below its end
abbrev pub reaches : List ℕ → List ℕ → Entry → Bool
reaches key at (Value value) = same key at
reaches key at (ClearTo end) = key_less key end

abbrev pub value_in : Entry → Option (List ℕ)
value_in (Value value) = Some value
value_in (ClearTo end) = None

-- what this decides, written at one key, of a key at it or above it
abbrev pub decided_by : List ℕ → Option Row → Decision
decided_by key None = None
decided_by key (Some written) = if reaches key written.0 written.1.entry then Some (written.1.version, value_in written.1.entry) else None

-- of each key the last row at it or below it decides, as far as that reaches
abbrev pub decided : List Row → List ℕ → Decision
decided rows key = decided_by key (last_of (where_key (slice_cmp nat_cmp) (λ at. not (key_less key at)) rows))

-- what is decided of a key behind a change, where this was before
abbrev pub behind : Decision → ℕ → Change → List ℕ → Decision
behind before version (Set set value) key = if same key set then Some (version, Some value) else before
behind before version (Clear span) key = if within span key then Some (version, None) else before
behind before version (Erase span) key = if within span key then None else before

-- what was decided above a version
abbrev pub decision_above : ℕ → Decision → Decision
decision_above version None = None
decision_above version (Some found) = if nat_lt version found.0 then Some found else None

-- the value that is decided, where one is: a value, or that there is none
abbrev pub told : Decision → Option (Option (List ℕ))
told decision = option_map (λ found. found.1) decision

-- the value of a key that a root has over a base
abbrev pub over : List Row → Pairs → List ℕ → Option (List ℕ)
over root base key = unwrap_or (told (decided root key)) (value_at base key)
