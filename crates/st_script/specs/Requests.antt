-- What the words of a request ask.
use Rattle.std.specs.Prelude.{ℕ, Bool, false, ◌&&◌, ◌||◌, List, [], ◌∷◌, Result, Ok, Err, codes, if◌then◌else◌}
use Rattle.st_fold.specs.declared.plan.Kind.{Kind}
use Rattle.st_fold.specs.declared.plan.Kind.TheVariants as kind
use Rattle.st_fold.specs.declared.request.Ask.{Ask}
use Rattle.st_fold.specs.declared.request.Ask.TheVariants as ask
use Rattle.st_script.specs.Fields.{is_word, begins_with, number_field, offset_field, version_field, bytes_field, key_field, range_of, range_about, ◌>>=◌}

-- a word in the place of a version begins with `@` (64)
abbrev pub is_at : List ℕ → Bool
is_at word = begins_with 64 word

abbrev pub is_direction : List ℕ → Bool
is_direction word = is_word word (codes "fwd") || is_word word (codes "rev")

abbrev pub is_relation : List ℕ → Bool
is_relation word = is_word word (codes "eq") || is_word word (codes "ne")

-- what the words `range` and `key` have behind them: a direction at the fifth place, a relation at the second
abbrev pub is_ranged : (request relation direction : List ℕ) → Bool
is_ranged request relation direction =
    is_word request (codes "range") && is_direction direction || is_word request (codes "key") && is_relation relation

-- The words of a request, as far as they are known words: `get K @V`, `range B E ROWS BYTES fwd @V` or with `rev`, and
-- `key K eq OFFSET B E @V` or with `ne`
abbrev pub is_request : List (List ℕ) → Bool
is_request (request ∷ key ∷ at ∷ []) = is_word request (codes "get") && is_at at
is_request (request ∷ first ∷ second ∷ third ∷ fourth ∷ fifth ∷ at ∷ []) =
    is_at at && is_ranged request second fifth
is_request words = false

abbrev pub get_of : (key at : List ℕ) → Result Ask Kind
get_of key at = do
  key ← key_field key
  version ← version_field at
  Ok (ask.Get key version)

abbrev pub rows_of : (begin end rows bytes direction at : List ℕ) → Result Ask Kind
rows_of begin end rows bytes direction at = do
  begin ← bytes_field begin
  end ← bytes_field end
  rows ← number_field 1 10000 rows
  bytes ← number_field 1 100000 bytes
  version ← version_field at
  range ← range_of begin end
  Ok (ask.Rows range rows bytes (is_word direction (codes "rev")) version)

abbrev pub select_of : (key relation offset begin end at : List ℕ) → Result Ask Kind
select_of key relation offset begin end at = do
  key ← key_field key
  offset ← offset_field offset
  begin ← bytes_field begin
  end ← bytes_field end
  version ← version_field at
  range ← range_about key begin end
  Ok (ask.Select key (is_word relation (codes "eq")) offset range version)

-- what the words of a request ask
abbrev pub request_of : List (List ℕ) → Result Ask Kind
request_of (request ∷ key ∷ at ∷ []) = get_of key at
request_of (request ∷ first ∷ second ∷ third ∷ fourth ∷ fifth ∷ at ∷ []) =
    if is_word request (codes "range") then rows_of first second third fourth fifth at
    else select_of first second third fourth fifth at
request_of words = Err kind.Word
