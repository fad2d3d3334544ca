-- The part of a mutation inside a span of keys.
use Rattle.std.specs.Prelude.{ℕ, List, Option, Some, None, if◌then◌else◌}
use Rattle.std.specs.Option.{option_map, option_map_or}
use Rattle.st_key.specs.Parts.{greatest, least}
use Rattle.st_key.specs.Spans.{Span, key_less, within}
use Rattle.st_mutation.specs.declared.batch.Mutation.{Mutation}
use Rattle.st_mutation.specs.declared.batch.Mutation.TheVariants.{Set, Clear, Atomic}
use Rattle.st_mutation.specs.Effect.{value_by}

-- the span, where it has a key
abbrev pub not_empty : Span → Option Span
not_empty span = if key_less span.begin span.end then Some span else None

-- the keys of both spans, where there are any
abbrev pub common : Span → Span → Option Span
common a b = not_empty (record { begin = greatest a.begin b.begin; end = least a.end b.end })

-- the part of a mutation inside a span, where there is one
abbrev pub clipped : Mutation → Span → Option Mutation
clipped (Set key value) to = if within to key then Some (Set key value) else None
clipped (Clear span) to = option_map Clear (common span to)
clipped (Atomic op key operand) to = if within to key then Some (Atomic op key operand) else None

-- the value of a key after a part of a mutation, where it had this one before: without a part it stays
abbrev pub value_by_part : List ℕ → Option (List ℕ) → Option Mutation → Option (List ℕ)
value_by_part key before part = option_map_or (value_by key before) part before
