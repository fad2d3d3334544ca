-- Where the frames of a file end, and what stands behind them.
use Rattle.std.proofs.Common.{◌&&◌, ◌==◌, ◌-◌, ◌^◌, nat_eq, nat_lt, nat_le, get_or, ◌≡◌, ◌<◌, ◌≤◌, ◌+◌, if◌then◌else◌, ℕ, zero, suc, Bool, true, false, List, [], ◌∷◌, ◌++◌, length, take, drop, Result, Ok, Err, refl, sym, ◌∙◌, ap, subst, arith, length-append, length-drop, take-append-drop}
use Rattle.std.specs.Cmp.Lexicographic.{pointwise}
use Rattle.std.specs.List.{starts_with}
use Rattle.std.proofs.lemmas.Bool.{false≢true}
use Rattle.std.proofs.lemmas.Bool.Decides.{nat_tests}
use Rattle.std.proofs.lemmas.List.{take-take, take-append-le, drop-append-le, drop-take, length-take-le, get_or-take, get_or-drop}
use Rattle.std.proofs.lemmas.List.Sums.{sum_by-cons}
use borrow.Author.Tests.{ltb-true}
use Rattle.st_num.specs.Numbers.{little_from-take}
use Rattle.st_num.specs.Number.{little_number}
use Rattle.st_queue.specs.Frames.{Damage, mark, generation, first_number, has_header, is_open, is_payload, is_whole, is_frame, payload_of, payload_length, frame_at, behind, frames_from, file_frames}
use Rattle.st_queue.specs.Place.{frames_size}
use Rattle.st_queue.proofs.FramesLemmas.{prefixed}
use Rattle.st_queue.specs.declared.frame.Frame.{Frame}

and-left : (a b : Bool) → (a && b) ≡ true → a ≡ true
and-left true b both = refl
and-left false b both = absurd (false≢true both)

-- two lists that begin with the same items
module _ (m : ℕ) (xs ys : List ℕ) (same : take m xs ≡ take m ys) where
  pub same-take : (n : ℕ) → n ≤ m → take n xs ≡ take n ys
  same-take n le = sym (take-take n m xs le) ∙ ap (λ (l : List ℕ). take n l) same ∙ take-take n m ys le

  pub same-slice : (n k : ℕ) → k + n ≤ m → take n (drop k xs) ≡ take n (drop k ys)
  same-slice n k le = sym (drop-take k n xs) ∙ ap (λ (l : List ℕ). drop k l) (same-take (k + n) le) ∙ drop-take k n ys

  pub same-item : (k : ℕ) → k < m → get_or xs k 0 ≡ get_or ys k 0
  same-item k lt = sym (get_or-take m xs k 0 lt) ∙ ap (λ (l : List ℕ). get_or l k 0) same ∙ get_or-take m ys k 0 lt

  pub same-number : (n k : ℕ) → k + n ≤ m → little_number n (drop k xs) ≡ little_number n (drop k ys)
  same-number n k le =
      sym (little_from-take 0 n n (drop k xs) (omega arith)) ∙ ap (λ (l : List ℕ). little_number n l) (same-slice n k le) ∙ little_from-take 0 n n (drop k ys) (omega arith)

  pub same-header : 28 ≤ m → has_header xs ≡ has_header ys
  same-header le =
      let marks : starts_with nat_eq (drop 1 xs) mark ≡ starts_with nat_eq (drop 1 ys) mark = ap (λ (l : List ℕ). pointwise nat_eq mark l) (same-slice 11 1 (omega arith)) in
      let generations : generation xs ≡ generation ys = same-number 8 12 (omega arith) in
      let firsts : first_number xs ≡ first_number ys = same-number 8 20 (omega arith) in
      λ i. marks i && (nat_le (generations i) (2 ^ 62) && nat_le (firsts i) (2 ^ 62))

  -- the same frame stands behind a gate
  pub same-frame : (number : ℕ) → m ≡ 12 + payload_length xs → m < length ys → is_frame number xs ≡ true
      → (is_frame number ys ≡ true) × (payload_length ys ≡ payload_length xs) × ((file place : ℕ) → frame_at file place number ys ≡ frame_at file place number xs)
  same-frame number is inside has =
      let count : payload_length ys ≡ payload_length xs = sym (same-number 4 0 (omega arith)) in
      let numbers : little_number 8 (drop 4 xs) ≡ little_number 8 (drop 4 ys) = same-number 8 4 (omega arith) in
      let room : nat_lt (12 + payload_length ys) (length ys) ≡ true = let lt : 12 + payload_length ys < length ys = omega arith in grind (arith, nat_tests) in
      let payloads : take (payload_length ys) (drop 12 ys) ≡ take (payload_length xs) (drop 12 xs) =
      ap (λ (n : ℕ). take n (drop 12 ys)) count ∙ sym (same-slice (payload_length xs) 12 (omega arith)) in
      let was_whole : is_whole number xs ≡ true = and-left (is_whole number xs) (is_payload (payload_of xs)) has in
      let whole : is_whole number ys ≡ true =
      ap (λ (b : Bool). b && (little_number 8 (drop 4 ys) == number)) room ∙ ap (λ (n : ℕ). n == number) (sym numbers) ∙ and-right (nat_lt (12 + payload_length xs) (length xs)) _ was_whole in (
        (λ i. whole i && is_payload (payloads i)) ∙ and-right (is_whole number xs) (is_payload (payload_of xs)) has,
        count,
        λ file place. ap (λ (p : List ℕ). record { seq = number; file = file; at = place; payload = p }) payloads,
      )
    where
      and-right : (a b : Bool) → (a && b) ≡ true → b ≡ true
      and-right true b both = both
      and-right false b both = absurd (false≢true both)

-- What is known of frames that were read from some bytes on: where they end, and how they go on with other bytes behind.
pub record Closes (file number place skip : ℕ) (bytes : List ℕ) (frames : List Frame) : Type 0 where
  pub inside : skip + frames_size frames < length bytes
  pub shut : get_or bytes (skip + frames_size frames) 0 ≡ 1 → ⊥
  pub goes_on : (tail : List ℕ) → 1 ≤ length tail → frames_from file number place skip (take (skip + frames_size frames) bytes ++ tail)
      ≡ prefixed frames (frames_from file (number + length frames) (place + (skip + frames_size frames)) 0 tail)

-- a reading is one list
pub one_list : (reading : Result (List Frame) Damage) (a b : List Frame) → reading ≡ Ok a → reading ≡ Ok b → a ≡ b
one_list reading a b first second = cc

-- no frame
closes-none : (file number place gate : ℕ) (bytes : List ℕ) → is_open gate ≡ false → Closes file number place 0 (gate ∷ bytes) []
closes-none file number place gate bytes closed = record {
  inside = omega arith;
  shut = λ open_is. let opened : is_open gate ≡ true = grind (arith, nat_tests) in false≢true (sym closed ∙ opened);
  goes_on = λ tail some.
      let number_is : number ≡ number + 0 = omega arith in
      let place_is : place ≡ place + 0 = omega arith in
      ap (λ (n : ℕ). frames_from file n place 0 tail) number_is
      ∙ ap (λ (p : ℕ). frames_from file (number + 0) p 0 tail) place_is
      ∙ nothing (frames_from file (number + 0) (place + 0) 0 tail);
}
  where
    nothing : (reading : Result (List Frame) Damage) → reading ≡ prefixed [] reading
    nothing (Ok frames) = refl
    nothing (Err damage) = refl

-- one frame more in front
closes-frame : (file number place gate : ℕ) (bytes : List ℕ) (frames : List Frame) → is_open gate ≡ true → is_frame number bytes ≡ true
    → Closes file (number + 1) (place + 1) (12 + payload_length bytes) bytes frames → Closes file number place 0 (gate ∷ bytes) (frame_at file place number bytes ∷ frames)
closes-frame file number place gate bytes frames opened has rest =
    let frame = frame_at file place number bytes in
    let count = payload_length bytes in
    let near = 12 + count in
    let far = near + frames_size frames in
    let fits : near ≤ length bytes = omega (arith, rest.inside) in
    let long : length frame.payload ≡ count = length-take-le count (drop 12 bytes) (omega (arith, length-drop 12 bytes)) in
    let size : 0 + frames_size (frame ∷ frames) ≡ suc far = omega (arith, sum_by-cons (λ (f : Frame). 13 + length f.payload) frame frames, long) in
    record {
      inside = omega (arith, size, rest.inside);
      shut = λ open_is. rest.shut (sym (ap (λ (n : ℕ). get_or (gate ∷ bytes) n 0) size) ∙ open_is);
      goes_on = λ tail some.
          let others = take far bytes ++ tail in
          let taken : length (take far bytes) ≡ far = length-take-le far bytes (omega (arith, rest.inside)) in
          let begins : take near bytes ≡ take near others = sym (take-take near far bytes (omega arith)) ∙ sym (take-append-le near (take far bytes) tail (omega arith)) in
          let same = same-frame near bytes others begins number refl (omega (arith, length-append (take far bytes) tail, taken)) has in
          let next_is : number + 1 + length frames ≡ number + length (frame ∷ frames) = omega arith in
          let place_is : place + 1 + far ≡ place + (0 + frames_size (frame ∷ frames)) = omega (arith, size) in
          let read : Bool → Bool → Result (List Frame) Damage = λ o f.
          if o then (if f then behind (frame_at file place number others) (frames_from file (number + 1) (place + 1) (12 + payload_length others) others) else Err (record { file = file; at = place })) else Ok [] in
          ap (λ (n : ℕ). frames_from file number place 0 (take n (gate ∷ bytes) ++ tail)) size
          ∙ (λ i. read (opened i) (same.0 i))
          ∙ (λ i. behind (same.2 file place i) (frames_from file (number + 1) (place + 1) (12 + same.1 i) others))
          ∙ ap (λ (r : Result (List Frame) Damage). behind frame r) (rest.goes_on tail some)
          ∙ joined frame (frames_from file (number + 1 + length frames) (place + 1 + far) 0 tail)
          ∙ (λ i. prefixed (frame ∷ frames) (frames_from file (next_is i) (place_is i) 0 tail));
    }
  where
    joined : (frame : Frame) (reading : Result (List Frame) Damage) → behind frame (prefixed frames reading) ≡ prefixed (frame ∷ frames) reading
    joined frame (Ok more) = refl
    joined frame (Err damage) = refl

-- a gate and the bytes behind it
module _ (file number place gate : ℕ) (bytes : List ℕ) (frames : List Frame) (ih : (rest : List Frame) → frames_from file (number + 1) (place + 1) (12 + payload_length bytes) bytes ≡ Ok rest → 12 + payload_length bytes < length bytes
    → Closes file (number + 1) (place + 1) (12 + payload_length bytes) bytes rest) where
  abbrev read : Bool → Bool → Result (List Frame) Damage → Result (List Frame) Damage
  read o f rest = if o then (if f then behind (frame_at file place number bytes) rest else Err (record { file = file; at = place })) else Ok []

  closes-shut : (reading : Result (List Frame) Damage) → is_open gate ≡ false → reading ≡ Ok [] → reading ≡ Ok frames → Closes file number place 0 (gate ∷ bytes) frames
  closes-shut reading shut none is = subst (λ (l : List Frame). Closes file number place 0 (gate ∷ bytes) l) (one_list reading [] frames none is) (closes-none file number place gate bytes shut)

  closes-some : (rest : Result (List Frame) Damage) → frames_from file (number + 1) (place + 1) (12 + payload_length bytes) bytes ≡ rest → is_open gate ≡ true → is_frame number bytes ≡ true
      → behind (frame_at file place number bytes) rest ≡ Ok frames → Closes file number place 0 (gate ∷ bytes) frames
  closes-some (Ok rest) rest_is opened has is =
      let room : nat_lt (12 + payload_length bytes) (length bytes) ≡ true =
      and-left (nat_lt (12 + payload_length bytes) (length bytes)) _ (and-left (is_whole number bytes) (is_payload (payload_of bytes)) has) in
      subst (λ (l : List Frame). Closes file number place 0 (gate ∷ bytes) l) (one_list (behind (frame_at file place number bytes) (Ok rest)) (frame_at file place number bytes ∷ rest) frames refl is)
      (closes-frame file number place gate bytes rest opened has (ih rest rest_is (omega (arith, ltb-true (12 + payload_length bytes) (length bytes) room))))
  closes-some (Err damage) rest_is opened has is = absurd (cc (is))

  damaged : (reading : Result (List Frame) Damage) (damage : Damage) → reading ≡ Err damage → reading ≡ Ok frames → ⊥
  damaged reading damage none e = cc (none, e)

  closes-gate : (o f : Bool) → is_open gate ≡ o → is_frame number bytes ≡ f → read o f (frames_from file (number + 1) (place + 1) (12 + payload_length bytes) bytes) ≡ Ok frames → Closes file number place 0 (gate ∷ bytes) frames
  closes-gate false f shut has is = closes-shut _ shut refl is
  closes-gate true false opened hasnt is = absurd (damaged _ _ refl is)
  closes-gate true true opened has is = closes-some (frames_from file (number + 1) (place + 1) (12 + payload_length bytes) bytes) refl opened has is

pub closes : (file number place skip : ℕ) (bytes : List ℕ) (frames : List Frame) → frames_from file number place skip bytes ≡ Ok frames → skip < length bytes → Closes file number place skip bytes frames
closes file number place skip [] frames is inside = absurd (omega arith)
closes file number place (suc skip) (byte ∷ bytes) frames is inside =
    let rest = closes file number (place + 1) skip bytes frames is (omega arith) in
    let n = skip + frames_size frames in
    let one_on : suc skip + frames_size frames ≡ suc n = omega arith in
    let place_is : place + 1 + n ≡ place + (suc skip + frames_size frames) = omega arith in
    record {
      inside = omega (arith, rest.inside);
      shut = λ open_is. rest.shut (sym (ap (λ (k : ℕ). get_or (byte ∷ bytes) k 0) one_on) ∙ open_is);
      goes_on = λ tail some.
          ap (λ (k : ℕ). frames_from file number place (suc skip) (take k (byte ∷ bytes) ++ tail)) one_on
          ∙ rest.goes_on tail some
          ∙ ap (λ (p : ℕ). prefixed frames (frames_from file (number + length frames) p 0 tail)) place_is;
    }
closes file number place zero (gate ∷ bytes) frames is inside =
    closes-gate file number place gate bytes frames (λ rest e lt. closes file (number + 1) (place + 1) (12 + payload_length bytes) bytes rest e lt) (is_open gate) (is_frame number bytes) refl refl is

-- Where a live file with these frames ends: the gate is closed, and the frames go on with what stands there in its place.
pub record IsEnd (file : ℕ) (bytes : List ℕ) (frames : List Frame) (gate next : ℕ) : Type 0 where
  pub behind_header : 28 ≤ gate
  pub inside : gate < length bytes
  pub shut : get_or bytes gate 0 ≡ 1 → ⊥
  pub goes_on : (others : List ℕ) → take gate others ≡ take gate bytes → gate < length others → file_frames file others ≡ prefixed frames (frames_from file next gate 0 (drop gate others))

pub ends : (file : ℕ) (bytes : List ℕ) (frames : List Frame) → 29 ≤ length bytes → file_frames file bytes ≡ Ok frames
    → IsEnd file bytes frames (28 + frames_size frames) (first_number bytes + length frames)
ends file bytes frames live is =
    let first = first_number bytes in
    let size = frames_size frames in
    let body = drop 28 bytes in
    let choose : Bool → Result (List Frame) Damage = λ b. if b then frames_from file first 28 0 body else Err (record { file = file; at = 1 }) in
    let sound = has_it file bytes frames (has_header bytes) refl is in
    let read : frames_from file first 28 0 body ≡ Ok frames = sym (ap choose sound) ∙ is in
    let long : length body ≡ length bytes - 28 = length-drop 28 bytes in
    let known = closes file first 28 0 body frames read (omega arith) in
    let from_zero : 0 + size ≡ size = omega arith in
    record {
      behind_header = omega arith;
      inside = omega (arith, known.inside);
      shut = λ open_is. known.shut (ap (λ (n : ℕ). get_or body n 0) from_zero ∙ get_or-drop 28 bytes size 0 ∙ open_is);
      goes_on = λ others same inside.
          let tail = drop (28 + size) others in
          let some : 1 ≤ length tail = omega (arith, length-drop (28 + size) others) in
          let fits : 28 + size ≤ length bytes = omega (arith, known.inside) in
          let begins : take 28 others ≡ take 28 bytes = same-take (28 + size) others bytes same 28 (omega arith) in
          let header : has_header others ≡ true = same-header 28 others bytes begins (omega arith) ∙ sound in
          let first_is : first_number others ≡ first = same-number 28 others bytes begins 8 20 (omega arith) in
          let whole : others ≡ take (28 + size) bytes ++ tail = sym (take-append-drop (28 + size) others) ∙ ap (λ (l : List ℕ). l ++ tail) same in
          let rest : drop 28 others ≡ take (0 + size) body ++ tail =
          ap (λ (l : List ℕ). drop 28 l) whole
          ∙ drop-append-le 28 (take (28 + size) bytes) tail (omega (arith, length-take-le (28 + size) bytes fits))
          ∙ ap (λ (l : List ℕ). l ++ tail) (drop-take 28 size bytes)
          ∙ ap (λ (n : ℕ). take n body ++ tail) (sym from_zero) in
          let place_is : 28 + (0 + size) ≡ 28 + size = omega arith in
          ap (λ (b : Bool). if b then frames_from file (first_number others) 28 0 (drop 28 others) else Err (record { file = file; at = 1 })) header
          ∙ (λ i. frames_from file (first_is i) 28 0 (rest i))
          ∙ known.goes_on tail some
          ∙ ap (λ (p : ℕ). prefixed frames (frames_from file (first + length frames) p 0 tail)) place_is;
    }
  where
    has_it : (file : ℕ) (bytes : List ℕ) (frames : List Frame) (b : Bool) → has_header bytes ≡ b → (if b then frames_from file (first_number bytes) 28 0 (drop 28 bytes) else Err (record { file = file; at = 1 })) ≡ Ok frames → has_header bytes ≡ true
    has_it file bytes frames true is whole = is
    has_it file bytes frames false is whole = absurd (cc (whole))
