-- What a crash leaves of the current file while a frame is appended to it.
use Rattle.std.proofs.Common.{◌&&◌, ◌==◌, ◌^◌, nat_lt, get_or, inl, inr, ◌⊎◌, ◌≡◌, ◌<◌, ◌+◌, if◌then◌else◌, ℕ, Bool, true, false, List, [], ◌∷◌, ◌++◌, length, take, drop, Result, Ok, Err, refl, sym, ◌∙◌, ap, arith, append_assoc, length-append, length-drop}
use Rattle.std.proofs.lemmas.Bool.{false≢true}
use Rattle.std.proofs.lemmas.Bool.Decides.{nat_tests}
use Rattle.std.proofs.lemmas.List.{append-nil, take_at, drop_at, drop_more, drop-drop, length-take-le, get_or-drop}
use Rattle.st_num.specs.Numbers.{little_number-reads_back, length-bytes_low_first}
use Rattle.st_num.specs.Number.{little_bytes, little_number}
use Rattle.st_disk.specs.FileState.{overwritten}
use Rattle.st_disk.specs.Images.{IsTorn}
use Rattle.st_queue.specs.Frames.{Damage, is_payload, is_frame, payload_of, payload_length, frame_at, behind, frames_from, file_frames}
use Rattle.st_queue.specs.Writing.{frame_bytes}
use Rattle.st_queue.proofs.FramesLemmas.{prefixed, next-closed, skipped}
use Rattle.st_queue.proofs.Ends.{IsEnd, same-take, same-item}
use Rattle.st_queue.specs.declared.frame.Frame.{Frame}

-- the frame behind an open gate
module _ (file number place : ℕ) (payload rest : List ℕ) (small : length payload < 2 ^ 32) (fits : number < 2 ^ 64) where
  abbrev all : List ℕ
  all = frame_bytes number payload ++ rest

  abbrev lens : List ℕ
  lens = little_bytes 4 (length payload)

  abbrev numbers : List ℕ
  numbers = little_bytes 8 number

  by_length : all ≡ lens ++ (numbers ++ payload ++ 0 ∷ [] ++ rest)
  unfolding frame_bytes
  by_length = simp append_assoc

  by_payload : all ≡ lens ++ numbers ++ (payload ++ (0 ∷ rest))
  unfolding frame_bytes
  by_payload = simp append_assoc

  by_gate : all ≡ lens ++ numbers ++ payload ++ (0 ∷ rest)
  unfolding frame_bytes
  by_gate = simp append_assoc

  length-lens : length lens ≡ 4
  length-lens = length-bytes_low_first 0 4 (length payload)

  length-numbers : length numbers ≡ 8
  length-numbers = length-bytes_low_first 0 8 number

  length-front : length (lens ++ numbers) ≡ 12
  length-front = omega (arith, length-append lens numbers, length-lens, length-numbers)

  pub length-frame_bytes : length (frame_bytes number payload) ≡ 13 + length payload
  unfolding frame_bytes
  length-frame_bytes = omega (arith, length-append (lens ++ numbers ++ payload) (0 ∷ []), length-append (lens ++ numbers) payload, length-front)

  count_is : payload_length all ≡ length payload
  count_is = ap (λ (l : List ℕ). little_number 4 l) by_length ∙ little_number-reads_back 4 (length payload) (numbers ++ payload ++ 0 ∷ [] ++ rest) small

  number_is : little_number 8 (drop 4 all) ≡ number
  number_is =
      ap (λ (l : List ℕ). little_number 8 (drop 4 l)) by_length
      ∙ ap (λ (l : List ℕ). little_number 8 l) (drop_at lens (numbers ++ payload ++ 0 ∷ [] ++ rest) 4 length-lens)
      ∙ ap (λ (l : List ℕ). little_number 8 l) (let e : numbers ++ payload ++ 0 ∷ [] ++ rest ≡ numbers ++ (payload ++ 0 ∷ [] ++ rest) = simp append_assoc in e)
      ∙ little_number-reads_back 8 number (payload ++ 0 ∷ [] ++ rest) fits

  payload_is : take (length payload) (drop 12 all) ≡ payload
  payload_is =
      ap (λ (l : List ℕ). take (length payload) (drop 12 l)) by_payload
      ∙ ap (λ (l : List ℕ). take (length payload) l) (drop_at (lens ++ numbers) (payload ++ (0 ∷ rest)) 12 length-front)
      ∙ take_at payload (0 ∷ rest) (length payload) refl

  rest_is : drop (12 + length payload) all ≡ 0 ∷ rest
  rest_is = ap (λ (l : List ℕ). drop (12 + length payload) l) by_gate ∙ drop_at (lens ++ numbers ++ payload) (0 ∷ rest) (12 + length payload) (omega (arith, length-append (lens ++ numbers) payload, length-front))

  is_there : is_payload payload ≡ true → is_frame number all ≡ true
  is_there listed =
      let room : nat_lt (12 + payload_length all) (length all) ≡ true = let lt : 12 + payload_length all < length all = omega (arith, count_is, length-append (frame_bytes number payload) rest, length-frame_bytes) in grind (arith, nat_tests) in
      let same : (little_number 8 (drop 4 all) == number) ≡ true = let e = number_is in grind (arith, nat_tests) in
      let payload_there : payload_of all ≡ payload = ap (λ (n : ℕ). take n (drop 12 all)) count_is ∙ payload_is in
      λ i. room i && same i && (ap is_payload payload_there ∙ listed) i

  pub frame-behind_gate : is_payload payload ≡ true → frames_from file number place 0 (1 ∷ all) ≡ Ok (record { seq = number; file = file; at = place; payload = payload } ∷ [])
  frame-behind_gate listed =
      let others : Result (List Frame) Damage = frames_from file (number + 1) (place + 1) (12 + payload_length all) all in
      let none : others ≡ Ok [] =
      skipped file (number + 1) (place + 1) (12 + payload_length all) all
      ∙ ap (λ (n : ℕ). frames_from file (number + 1) (place + 1 + (12 + n)) 0 (drop (12 + n) all)) count_is
      ∙ ap (λ (l : List ℕ). frames_from file (number + 1) (place + 1 + (12 + length payload)) 0 l) rest_is in
      ap (λ (b : Bool). if b then behind (frame_at file place number all) others else Err (record { file = file; at = place })) (is_there listed)
      ∙ ap (λ (r : Result (List Frame) Damage). behind (frame_at file place number all) r) none
      ∙ ap (λ (p : List ℕ). Ok (record { seq = number; file = file; at = place; payload = p } ∷ [])) (ap (λ (n : ℕ). take n (drop 12 all)) count_is ∙ payload_is)

module _ (file : ℕ) (bytes : List ℕ) (frames : List Frame) (gate next : ℕ) (at_end : IsEnd file bytes frames gate next) where
  -- the gate is closed
  pub closed_there : (others : List ℕ) → take gate others ≡ take gate bytes → gate < length others → (get_or others gate 0 ≡ 1 → ⊥) → file_frames file others ≡ Ok frames
  closed_there others same inside shut =
      let rest = drop gate others in
      let here : gate + 0 ≡ gate = omega arith in
      let first : get_or rest 0 0 ≡ get_or others gate 0 = get_or-drop gate others 0 0 ∙ ap (λ (n : ℕ). get_or others n 0) here in
      at_end.goes_on others same inside
      ∙ ap (λ (r : Result (List Frame) Damage). prefixed frames r) (next-closed file next gate rest (get_or rest 0 0) refl (omega (arith, length-drop gate others)) (λ open_is. shut (sym first ∙ open_is)))
      ∙ ap (λ (l : List Frame). Ok l) (append-nil frames)

  -- the gate is open, and a frame stands behind it
  pub open_there : (others payload rest : List ℕ) → take gate others ≡ take gate bytes → gate < length others → get_or others gate 0 ≡ 1 → drop (gate + 1) others ≡ frame_bytes next payload ++ rest
      → length payload < 2 ^ 32 → next < 2 ^ 64 → is_payload payload ≡ true → file_frames file others ≡ Ok (frames ++ record { seq = next; file = file; at = gate; payload = payload } ∷ [])
  open_there others payload rest same inside open_is behind_is small fits listed =
      let whole : drop gate others ≡ 1 ∷ (frame_bytes next payload ++ rest) = drop_more others gate 0 inside ∙ (λ i. open_is i ∷ behind_is i) in
      at_end.goes_on others same inside
      ∙ ap (λ (l : List ℕ). prefixed frames (frames_from file next gate 0 l)) whole
      ∙ ap (λ (r : Result (List Frame) Damage). prefixed frames r) (frame-behind_gate file next gate payload rest small fits listed)

  -- while the frame is written behind the closed gate
  pub torn_body : (count : ℕ) (image : List ℕ) → IsTorn (gate + 1) count bytes image → file_frames file image ≡ Ok frames
  torn_body count image torn =
      closed_there image (same-take (gate + 1) image bytes torn.before gate (omega arith)) (omega (arith, at_end.inside, torn.no_shorter))
      (λ open_is. at_end.shut (sym (same-item (gate + 1) image bytes torn.before gate (omega arith)) ∙ open_is))

  module _ (payload : List ℕ) (small : length payload < 2 ^ 32) (fits : next < 2 ^ 64) (listed : is_payload payload ≡ true) where
    abbrev body : List ℕ
    body = frame_bytes next payload

    abbrev rest : List ℕ
    rest = drop (gate + 1 + length body) bytes

    abbrev written : List ℕ
    written = overwritten (gate + 1) body bytes

    length-kept : length (take (gate + 1) bytes) ≡ gate + 1
    length-kept = length-take-le (gate + 1) bytes (omega (arith, at_end.inside))

    written_is : written ≡ take (gate + 1) bytes ++ (body ++ rest)
    written_is = append_assoc (take (gate + 1) bytes) body rest

    pub written-before : take (gate + 1) written ≡ take (gate + 1) bytes
    written-before = ap (λ (l : List ℕ). take (gate + 1) l) written_is ∙ take_at (take (gate + 1) bytes) (body ++ rest) (gate + 1) length-kept

    written-behind : drop (gate + 1) written ≡ body ++ rest
    written-behind = ap (λ (l : List ℕ). drop (gate + 1) l) written_is ∙ drop_at (take (gate + 1) bytes) (body ++ rest) (gate + 1) length-kept

    pub written-inside : gate + (13 + length payload) < length written
    written-inside = omega (arith, length-append (take (gate + 1) bytes ++ body) rest, length-append (take (gate + 1) bytes) body, length-kept, length-frame_bytes 0 next 0 payload [] small fits)

    abbrev frame : Frame
    frame = record { seq = next; file = file; at = gate; payload = payload }

    -- while its gate is opened
    pub torn_gate : (image : List ℕ) → IsTorn gate 1 written image → (file_frames file image ≡ Ok frames) ⊎ (file_frames file image ≡ Ok (frames ++ frame ∷ []))
    torn_gate image torn =
        let same : take gate image ≡ take gate bytes = torn.before ∙ same-take (gate + 1) written bytes written-before gate (omega arith) in
        let inside : gate < length image = omega (arith, torn.no_shorter, written-inside) in
        by_gate (get_or image gate 0 == 1) refl same inside
      where
        by_gate : (b : Bool) → (get_or image gate 0 == 1) ≡ b → take gate image ≡ take gate bytes → gate < length image → (file_frames file image ≡ Ok frames) ⊎ (file_frames file image ≡ Ok (frames ++ frame ∷ []))
        by_gate true is same inside = inr (open_there image payload rest same inside (let e : get_or image gate 0 ≡ 1 = grind (arith, nat_tests) in e) (torn.behind ∙ written-behind) small fits listed)
        by_gate false is same inside = inl (closed_there image same inside (λ open_is. let yes : (get_or image gate 0 == 1) ≡ true = grind (arith, nat_tests) in false≢true (sym is ∙ yes)))

    -- once its gate is open
    abbrev opened : List ℕ
    opened = overwritten gate (1 ∷ []) written

    length-start : length (take gate written) ≡ gate
    length-start = length-take-le gate written (omega (arith, written-inside))

    opened_is : opened ≡ take gate written ++ (1 ∷ drop (gate + 1) written)
    opened_is = append_assoc (take gate written) (1 ∷ []) (drop (gate + 1) written)

    pub opened-before : take gate opened ≡ take gate bytes
    opened-before =
        ap (λ (l : List ℕ). take gate l) opened_is ∙ take_at (take gate written) (1 ∷ drop (gate + 1) written) gate length-start ∙ same-take (gate + 1) written bytes written-before gate (omega arith)

    opened-from : drop gate opened ≡ 1 ∷ drop (gate + 1) written
    opened-from = ap (λ (l : List ℕ). drop gate l) opened_is ∙ drop_at (take gate written) (1 ∷ drop (gate + 1) written) gate length-start

    pub opened-long : length opened ≡ length written
    opened-long = omega (arith, ap length opened_is, length-append (take gate written) (1 ∷ drop (gate + 1) written), length-start, length-drop (gate + 1) written, written-inside)

    pub frames-opened : file_frames file opened ≡ Ok (frames ++ frame ∷ [])
    frames-opened =
        let here : gate + 0 ≡ gate = omega arith in
        let inside : gate < length opened = omega (arith, opened-long, written-inside) in
        let open_is : get_or opened gate 0 ≡ 1 = sym (ap (λ (n : ℕ). get_or opened n 0) here) ∙ sym (get_or-drop gate opened 0 0) ∙ ap (λ (l : List ℕ). get_or l 0 0) opened-from in
        let behind_is : drop (gate + 1) opened ≡ body ++ rest = sym (drop-drop 1 gate opened) ∙ ap (λ (l : List ℕ). drop 1 l) opened-from ∙ written-behind in
        open_there opened payload rest opened-before inside open_is behind_is small fits listed
