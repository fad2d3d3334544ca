-- Where lines and words are cut.
use Rattle.std.proofs.Common.{◌≡◌, ℕ, ◌+◌, ◌==◌, Bool, true, false, not, cond, List, [], ◌∷◌, take, drop, filter, find, Some, refl, ap, ◌∙◌, one-add, add-one}
use Rattle.std.specs.List.{position_or_len, slice_split, onto_first}
use Rattle.std.specs.Option.{option_map_or}
use Rattle.st_script.specs.Words.{lines, words, is_empty, is_skipped}

abbrev pub is_lf : ℕ → Bool
is_lf byte = byte == 10

-- the first line ends at the first LF
pub lines-cut : (byte : ℕ) (bytes : List ℕ) → lines (byte ∷ bytes) ≡ take (position_or_len is_lf (byte ∷ bytes)) (byte ∷ bytes) ∷ lines (drop (position_or_len is_lf (byte ∷ bytes) + 1) (byte ∷ bytes))
lines-cut byte [] = elim (byte == 10) as (λ v.
    cond v ([] ∷ lines []) (onto_first byte (lines [])) ≡ take (cond (not v) (1 + 0) 0) (byte ∷ []) ∷ lines (drop (cond (not v) (1 + 0) 0 + 1) (byte ∷ [])))
    [ true ↦ refl | false ↦ refl ]
lines-cut byte (next ∷ bytes) =
    let at = position_or_len is_lf (next ∷ bytes) in
    elim (byte == 10) as (λ v.
    cond v ([] ∷ lines (next ∷ bytes)) (onto_first byte (lines (next ∷ bytes)))
    ≡ take (cond (not v) (1 + at) 0) (byte ∷ next ∷ bytes) ∷ lines (drop (cond (not v) (1 + at) 0 + 1) (byte ∷ next ∷ bytes))) [
      | true ↦ refl
      | false ↦ rw (one-add at, add-one) (ap (onto_first byte) (lines-cut next bytes) ∙ rw add-one refl)
    ]

skips_from_onto_first : (byte : ℕ) (pieces : List (List ℕ)) → (byte == 35) ≡ is_skipped (filter (λ piece. not (is_empty piece)) (onto_first byte pieces))
skips_from_onto_first byte [] = refl
skips_from_onto_first byte (piece ∷ pieces) = refl

-- the first byte that is no space tells whether a line is skipped
pub is_skipped-words : (line : List ℕ) → option_map_or (λ byte. byte == 35) (find (λ byte. not (byte == 32)) line) true ≡ is_skipped (words line)
is_skipped-words [] = refl
is_skipped-words (byte ∷ line) = elim (byte == 32) as (λ v.
    option_map_or (λ b. b == 35) (cond (not v) (Some byte) (find (λ b. not (b == 32)) line)) true
    ≡ is_skipped (filter (λ piece. not (is_empty piece)) (cond v ([] ∷ slice_split (λ b. b == 32) line) (onto_first byte (slice_split (λ b. b == 32) line)))))
    [ true ↦ is_skipped-words line | false ↦ skips_from_onto_first byte (slice_split (λ b. b == 32) line) ]
