-- The lines of a script and their words.
use Rattle.std.specs.Prelude.{ℕ, Bool, true, false, not, ◌==◌, List, [], ◌∷◌, filter, if◌then◌else◌}
use Rattle.std.specs.List.{slice_split, onto_first}

-- the lines of a text: each ends with LF (10), but for the last one, where LF may be missing
abbrev pub lines : List ℕ → List (List ℕ)
lines [] = []
lines (byte ∷ bytes) = if byte == 10 then [] ∷ lines bytes else onto_first byte (lines bytes)

abbrev pub is_empty : {A : Type 0} → List A → Bool
is_empty [] = true
is_empty (x ∷ xs) = false

-- the words of a line: what one or more spaces (32) part. Any other byte is a part of its word
abbrev pub words : List ℕ → List (List ℕ)
words line = filter (λ piece. not (is_empty piece)) (slice_split (λ byte. byte == 32) line)

-- a line is skipped where it has no word, or its first word begins with # (35)
abbrev pub is_skipped : List (List ℕ) → Bool
is_skipped [] = true
is_skipped ([] ∷ others) = false
is_skipped ((byte ∷ bytes) ∷ others) = byte == 35
