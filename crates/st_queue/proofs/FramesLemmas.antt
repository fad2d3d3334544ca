-- How the frames of a file are read one after another.
use Rattle.std.proofs.Common.{◌&&◌, ◌-◌, ◌^◌, nat_eq, nat_lt, nat_le, get_or, Some, None, inl, inr, ◌≡◌, ◌<◌, ◌≤◌, ◌+◌, ◌*◌, if◌then◌else◌, ℕ, zero, suc, Bool, true, false, List, [], ◌∷◌, ◌++◌, length, take, drop, Result, Ok, Err, refl, sym, ◌∙◌, ap, arith, append_assoc, length-drop}
use Rattle.std.specs.List.{starts_with}
use Rattle.std.proofs.lemmas.Bool.{cases_lt, false≢true}
use Rattle.std.proofs.lemmas.Bool.Decides.{nat_tests}
use Rattle.std.proofs.lemmas.Option.{same_Some}
use Rattle.std.proofs.lemmas.List.{append-nil, take_all, take_rest, drop-drop}
use borrow.Author.Tests.{ltb-true}
use Rattle.st_num.specs.Number.{number_at, little_number}
use Rattle.st_queue.specs.Frames.{Damage, mark, generation, first_number, has_header, is_open, is_payload, is_whole, is_frame, payload_of, payload_length, frame_at, behind, frames_from}
use Rattle.st_queue.specs.declared.frame.Frame.{Frame}

-- these frames, and those behind them where they can be read
abbrev pub prefixed : List Frame → Result (List Frame) Damage → Result (List Frame) Damage
prefixed front (Ok frames) = Ok (front ++ frames)
prefixed front (Err damage) = Err damage

prefixed-nil : (reading : Result (List Frame) Damage) → prefixed [] reading ≡ reading
prefixed-nil (Ok frames) = refl
prefixed-nil (Err damage) = refl

pub prefixed-behind : (front : List Frame) (frame : Frame) (reading : Result (List Frame) Damage) → prefixed front (behind frame reading) ≡ prefixed (front ++ frame ∷ []) reading
prefixed-behind front frame (Ok frames) = ap (λ (l : List Frame). Ok l) (sym (append_assoc front (frame ∷ []) frames))
prefixed-behind front frame (Err damage) = refl

pub skipped : (file number place skip : ℕ) (bytes : List ℕ) → frames_from file number place skip bytes ≡ frames_from file number (place + skip) 0 (drop skip bytes)
skipped file number place zero bytes = let same : place + 0 ≡ place = omega arith in ap (λ (p : ℕ). frames_from file number p 0 bytes) (sym same)
skipped file number place (suc skip) [] = refl
skipped file number place (suc skip) (byte ∷ bytes) =
    let next : place + 1 + skip ≡ place + suc skip = omega arith in
    skipped file number (place + 1) skip bytes ∙ ap (λ (p : ℕ). frames_from file number p 0 (drop skip bytes)) next

and-left : (a b : Bool) → (a && b) ≡ true → a ≡ true
and-left true b both = refl
and-left false b both = absurd (false≢true both)

leb-from : (m n : ℕ) → m ≤ n → nat_le m n ≡ true
leb-from m n le = grind (arith, nat_tests)

-- the first byte and the others
split_first : (bytes : List ℕ) → 1 ≤ length bytes → bytes ≡ get_or bytes 0 0 ∷ take (length bytes - 1) (drop 1 bytes)
split_first [] some = absurd (omega arith)
split_first (byte ∷ bytes) some = ap (λ (l : List ℕ). byte ∷ l) (sym (take_all (length (byte ∷ bytes) - 1) bytes (omega arith)))

-- behind a closed gate, or at the end
pub next-closed : (file number place : ℕ) (bytes : List ℕ) (gate : ℕ) → gate ≡ get_or bytes 0 0 → 1 ≤ length bytes → (gate ≡ 1 → ⊥) → frames_from file number place 0 bytes ≡ Ok []
next-closed file number place [] gate gate_is some shut = absurd (omega arith)
next-closed file number place (byte ∷ bytes) gate gate_is some shut =
    let closed : is_open byte ≡ false = grind (arith, nat_tests) in
    ap (λ (b : Bool). if b then (if is_frame number bytes then behind (frame_at file place number bytes) (frames_from file (number + 1) (place + 1) (12 + payload_length bytes) bytes) else Err (record { file = file; at = place })) else Ok []) closed

pub next-none : (file number place : ℕ) (bytes : List ℕ) → length bytes < 1 → frames_from file number place 0 bytes ≡ Ok []
next-none file number place [] none = refl
next-none file number place (byte ∷ bytes) none = absurd (omega arith)

module _ (file number place : ℕ) (bytes : List ℕ) (gate : ℕ) (gate_is : gate ≡ get_or bytes 0 0) (some : 1 ≤ length bytes) (open_is : gate ≡ 1) where
  abbrev rest : List ℕ
  rest = take (length bytes - 1) (drop 1 bytes)

  open_gate : (fits : Bool) → is_frame number rest ≡ fits → frames_from file number place 0 bytes
      ≡ (if fits then behind (frame_at file place number rest) (frames_from file (number + 1) (place + 1) (12 + payload_length rest) rest) else Err (record { file = file; at = place }))
  open_gate fits is =
      let whole : bytes ≡ 1 ∷ rest = split_first bytes some ∙ ap (λ (g : ℕ). g ∷ rest) (sym gate_is ∙ open_is) in
      ap (λ (l : List ℕ). frames_from file number place 0 l) whole
      ∙ ap (λ (b : Bool). if b then behind (frame_at file place number rest) (frames_from file (number + 1) (place + 1) (12 + payload_length rest) rest) else Err (record { file = file; at = place })) is

  is_whole-some : (count : ℕ) → Some count ≡ (if is_whole number rest then Some (payload_length rest) else None) → (is_whole number rest ≡ true) × (count ≡ payload_length rest)
  is_whole-some count is = elim (is_whole number rest) as (λ b. Some count ≡ (if b then Some (payload_length rest) else None) → (b ≡ true) × (count ≡ payload_length rest)) [
    | true ↦ λ e. (refl, same_Some count (payload_length rest) e)
    | false ↦ λ e. absurd (cc (e))
  ] is

  -- whether the payload, of the length that was found, is a list of operations
  listed : (count : ℕ) (b : Bool) → Some count ≡ (if is_whole number rest then Some (payload_length rest) else None) → is_payload (take count (drop 12 rest)) ≡ b → is_frame number rest ≡ b
  listed count b is payload_is =
      let both = is_whole-some count is in
      ap (λ (w : Bool). w && is_payload (payload_of rest)) both.0 ∙ ap (λ (n : ℕ). is_payload (take n (drop 12 rest))) (sym both.1) ∙ payload_is

  pub next-inside : (count : ℕ) → Some count ≡ (if is_whole number rest then Some (payload_length rest) else None) → 12 + count < length rest
  next-inside count is =
      let both = is_whole-some count is in
      let is_in : nat_lt (12 + payload_length rest) (length rest) ≡ true = and-left (nat_lt (12 + payload_length rest) (length rest)) _ both.0 in
      omega (arith, ltb-true (12 + payload_length rest) (length rest) is_in, both.1)

  pub next-some : (count : ℕ) → Some count ≡ (if is_whole number rest then Some (payload_length rest) else None) → is_payload (take count (drop 12 rest)) ≡ true → (frame : Frame) → frame ≡ record { seq = number; file = file; at = place; payload = take count (drop 12 rest) }
      → frames_from file number place 0 bytes ≡ behind frame (frames_from file (number + 1) (place + (13 + count)) 0 (drop (13 + count) bytes))
  next-some count is payload_is frame frame_is =
      let both = is_whole-some count is in
      let place_is : place + 1 + (12 + count) ≡ place + (13 + count) = omega arith in
      let whole : bytes ≡ gate ∷ rest = split_first bytes some ∙ ap (λ (g : ℕ). g ∷ rest) (sym gate_is) in
      let rest_is : drop (12 + count) rest ≡ drop (13 + count) bytes = sym (ap (λ (l : List ℕ). drop (13 + count) l) whole ∙ ap (λ (n : ℕ). drop n (gate ∷ rest)) (let e : 13 + count ≡ suc (12 + count) = omega arith in e)) in
      open_gate true (listed count true is payload_is)
      ∙ ap (λ (n : ℕ). behind (record { seq = number; file = file; at = place; payload = take n (drop 12 rest) }) (frames_from file (number + 1) (place + 1) (12 + n) rest)) (sym both.1)
      ∙ ap (λ (f : Frame). behind f (frames_from file (number + 1) (place + 1) (12 + count) rest)) (sym frame_is)
      ∙ ap (λ (r : Result (List Frame) Damage). behind frame r) (skipped file (number + 1) (place + 1) (12 + count) rest
      ∙ ap (λ (p : ℕ). frames_from file (number + 1) p 0 (drop (12 + count) rest)) place_is
      ∙ ap (λ (l : List ℕ). frames_from file (number + 1) (place + (13 + count)) 0 l) rest_is)

-- What is known between two frames, so many bytes on: the frames so far and those of the rest are all.
pub record IsBetween (file first : ℕ) (all : List ℕ) (front : List Frame) (number read : ℕ) : Type 0 where
  pub whole : prefixed front (frames_from file number (28 + read) 0 (drop read all)) ≡ frames_from file first 28 0 all
  pub inside : read ≤ length all
  pub numbers : 13 * number ≤ 13 * first + read

pub between-first : (file first : ℕ) (all : List ℕ) (front : List Frame) → front ≡ [] → IsBetween file first all front first 0
between-first file first all front none = record {
  whole = ap (λ (l : List Frame). prefixed l (frames_from file first 28 0 all)) none ∙ prefixed-nil (frames_from file first 28 0 all);
  inside = omega arith;
  numbers = omega arith;
}

module _ (file first : ℕ) (all : List ℕ) (front : List Frame) (number read : ℕ) (between : IsBetween file first all front number read) where
  pub between-next : (frame : Frame) (len : ℕ) (front' : List Frame) → front' ≡ front ++ frame ∷ [] → 13 ≤ len → len < length (drop read all)
      → frames_from file number (28 + read) 0 (drop read all) ≡ behind frame (frames_from file (number + 1) (28 + read + len) 0 (drop len (drop read all)))
      → IsBetween file first all front' (number + 1) (read + len)
  between-next frame len front' front_is least inside is =
      let place_is : 28 + (read + len) ≡ 28 + read + len = omega arith in
      record {
        whole = ap (λ (l : List Frame). prefixed l (frames_from file (number + 1) (28 + (read + len)) 0 (drop (read + len) all))) front_is
            ∙ sym (prefixed-behind front frame (frames_from file (number + 1) (28 + (read + len)) 0 (drop (read + len) all)))
            ∙ ap (λ (p : ℕ). prefixed front (behind frame (frames_from file (number + 1) p 0 (drop (read + len) all)))) place_is
            ∙ ap (λ (l : List ℕ). prefixed front (behind frame (frames_from file (number + 1) (28 + read + len) 0 l))) (sym (drop-drop len read all))
            ∙ ap (λ (r : Result (List Frame) Damage). prefixed front r) (sym is)
            ∙ between.whole;
        inside = omega (arith, length-drop read all);
        numbers = omega (arith, between.numbers);
      }

  pub between-damaged : (damage : Damage) → frames_from file number (28 + read) 0 (drop read all) ≡ Err damage → frames_from file first 28 0 all ≡ Err damage
  between-damaged damage is = sym between.whole ∙ ap (λ (r : Result (List Frame) Damage). prefixed front r) is

  pub between-end : frames_from file number (28 + read) 0 (drop read all) ≡ Ok [] → frames_from file first 28 0 all ≡ Ok front
  between-end is = sym between.whole ∙ ap (λ (r : Result (List Frame) Damage). prefixed front r) is ∙ ap (λ (l : List Frame). Ok l) (append-nil front)

-- the header's numbers
number_at-some : (count at number : ℕ) (bytes : List ℕ) → number_at count bytes at ≡ Some number → number ≡ little_number count (drop at bytes)
number_at-some count at number bytes is = elim (cases_lt (length bytes) (at + count)) [
  | inl short ↦ let none : number_at count bytes at ≡ None = grind (arith, nat_tests) in absurd (cc (none, is))
  | inr enough ↦ let there : number_at count bytes at ≡ Some (little_number count (drop at bytes)) = grind (arith, nat_tests) in same_Some number (little_number count (drop at bytes)) (sym is ∙ there)
]

pub header_is : (bytes : List ℕ) (made first : ℕ) → true ≡ starts_with nat_eq (take (length bytes - 1) (drop 1 bytes)) mark → number_at 8 bytes 12 ≡ Some made → made ≤ 2 ^ 62 → number_at 8 bytes 20 ≡ Some first → first ≤ 2 ^ 62
    → Some first ≡ (if has_header bytes then Some (first_number bytes) else None)
header_is bytes made first marked made_is made_small first_is first_small =
    let made_at : made ≡ generation bytes = number_at-some 8 12 made bytes made_is in
    let first_at : first ≡ first_number bytes = number_at-some 8 20 first bytes first_is in
    let begins : starts_with nat_eq (drop 1 bytes) mark ≡ true = ap (λ (l : List ℕ). starts_with nat_eq l mark) (sym (take_rest bytes 1)) ∙ sym marked in
    let small : nat_le (generation bytes) (2 ^ 62) ≡ true = leb-from (generation bytes) (2 ^ 62) (omega arith) in
    let small' : nat_le (first_number bytes) (2 ^ 62) ≡ true = leb-from (first_number bytes) (2 ^ 62) (omega arith) in
    let has : has_header bytes ≡ true = λ i. begins i && (small i && small' i) in
    ap (λ (n : ℕ). Some n) first_at ∙ sym (ap (λ (b : Bool). if b then Some (first_number bytes) else None) has)
