-- What the pairs of a map are read as.
use Rattle.std.specs.Prelude.{◌≡◌, ℕ, zero, suc, ◌==◌, if◌then◌else◌, List, [], ◌∷◌, length, drop, Option, Some, None, Result, Ok, Err}
use Rattle.std.specs.List.{list_all, list_any}
use Rattle.std.specs.Option.{option_map_or}
use Rattle.st_key.specs.Parts.{lies_in}
use Rattle.st_key.specs.Spans.{Span, is_canonical}
use Rattle.st_key.specs.declared.part.MetaPart.{MetaPart}
use Rattle.st_key.specs.declared.part.MetaPart.TheVariants.{Version, Assigned, Available, Other}
use Rattle.st_meta.specs.Stored.{Pairs, assigned_key, available_key, is_other, is_range, value_at, version_key}
use Rattle.st_meta.specs.declared.state.Meta.{Meta}
use Rattle.st_meta.specs.declared.state.MetaRefusal.{MetaRefusal}
use Rattle.st_meta.specs.declared.state.MetaRefusal.TheVariants as why
use Rattle.st_num.specs.Number.{number_at, little_number}
use Rattle.st_ops.specs.Reading.{◌>>=◌, cut}

-- the sized bytes at the front, and those behind them, where they are whole
abbrev pub sized_at : List ℕ → Option (List ℕ × List ℕ)
sized_at bytes = do
  len ← number_at 4 bytes 0
  cut len (drop 4 bytes)

-- a range with the bytes behind it, where it is one that a state may have
abbrev pub checked : Span → List ℕ → Option (Span × List ℕ)
checked span rest = if is_range span then Some (span, rest) else None

-- the range at the front, where it is one that a state may have, and the bytes behind it
abbrev pub range_at : List ℕ → Option (Span × List ℕ)
range_at bytes = do
  begin ← sized_at bytes
  end ← sized_at begin.1
  checked (record { begin = begin.0; end = end.0 }) end.1

-- so many ranges, and nothing behind them
abbrev pub spans_at : ℕ → List ℕ → Option (List Span)
spans_at zero [] = Some []
spans_at zero (byte ∷ bytes) = None
spans_at (suc count) bytes = do
  first ← range_at bytes
  later ← spans_at count first.1
  Some (first.0 ∷ later)

abbrev pub risen : List Span → Option (List Span)
risen spans = if is_canonical spans then Some spans else None

-- the ranges that a value spells: they rise and don't touch
abbrev pub ranges_of : List ℕ → Option (List Span)
ranges_of bytes = do
  count ← number_at 4 bytes 0
  spans ← spans_at count (drop 4 bytes)
  risen spans

-- the number that a value of eight bytes spells
abbrev pub number_of : List ℕ → Option ℕ
number_of bytes = if length bytes == 8 then Some (little_number 8 bytes) else None

-- the version that the pairs tell, and the ranges of a key
abbrev pub version_in : Pairs → Option ℕ
version_in pairs = value_at pairs version_key >>= number_of

abbrev pub ranges_in : Pairs → List ℕ → Option (List Span)
ranges_in pairs key = value_at pairs key >>= ranges_of

-- the state of these parts, where what is available is assigned and no other pair is there
abbrev pub whole_of : Pairs → ℕ → List Span → List Span → Result Meta MetaPart
whole_of pairs version assigned available =
    if list_all (lies_in assigned) available
    then (if list_any (λ pair. is_other pair.0) pairs then Err Other else Ok (record { version = version; assigned = assigned; available = available }))
    else Err Available

-- The state that the pairs are, or the first of its parts that they aren't: the version, what is assigned, what is available,
-- and nothing else that is no user's.
abbrev pub meta_of : Pairs → Result Meta MetaPart
meta_of pairs =
    option_map_or
    (λ version. option_map_or
    (λ assigned. option_map_or (whole_of pairs version assigned) (ranges_in pairs available_key) (Err Available))
    (ranges_in pairs assigned_key) (Err Assigned))
    (version_in pairs) (Err Version)

-- the answer of a call that gives this reading, but for want of memory
abbrev pub Answers : Result Meta MetaRefusal → Result Meta MetaPart → Type 0
Answers (Ok meta) read = read ≡ Ok meta
Answers (Err (why.BadMeta which)) read = read ≡ Err which
Answers (Err why.NoMemory) read = Unit {0}
