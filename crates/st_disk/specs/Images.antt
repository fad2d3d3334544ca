-- What a crash may leave of one file, after each thing that a disk does to it.
use Rattle.std.proofs.Common.{◌≡◌, ◌<◌, ◌≤◌, ◌+◌, ◌-◌, ℕ, Bool, true, false, List, ◌++◌, length, take, drop, map, get_or, ◌⊎◌, max, inl, inr, refl, sym, ◌∙◌, ap, subst, arith, length-append, length-drop}
use Rattle.std.proofs.lemmas.Bool.{false≢true, cases_lt}
use Rattle.std.proofs.lemmas.List.{length-take-le, length-map, get_or-map, get_or_append_left, get_or-append_right, get_or-take, get_or-drop, take_all, drop_all, same_lists, get_or_default}
use Rattle.std.proofs.lemmas.List.Folds.{list_any_at}
use Rattle.st_disk.specs.FileState.{FileState, IsImage, overwritten, settled, with_bytes, has_unsynced}

module _ {X : Type 0} (at : ℕ) (items old : List X) (inside : at ≤ length old) where
  front : List X
  front = take at old ++ items

  length-front : length (take at old ++ items) ≡ at + length items
  length-front = omega (arith, length-append (take at old) items, length-take-le at old inside)

  pub length-overwritten : length (overwritten at items old) ≡ at + length items + (length old - (at + length items))
  length-overwritten = omega (arith, length-append (take at old ++ items) (drop (at + length items) old), length-front, length-drop (at + length items) old)

  pub overwritten-before : (place : ℕ) (d : X) → place < at → get_or (overwritten at items old) place d ≡ get_or old place d
  overwritten-before place d before =
      get_or_append_left (take at old ++ items) (drop (at + length items) old) d place (omega (arith, length-front))
      ∙ get_or_append_left (take at old) items d place (omega (arith, length-take-le at old inside))
      ∙ get_or-take at old place d before

  pub overwritten-within : (place : ℕ) (d : X) → at ≤ place → place < at + length items → get_or (overwritten at items old) place d ≡ get_or items (place - at) d
  overwritten-within place d from upto =
      get_or_append_left (take at old ++ items) (drop (at + length items) old) d place (omega (arith, length-front))
      ∙ get_or-append_right (take at old) items at place d (length-take-le at old inside) from

  pub overwritten-behind : (place : ℕ) (d : X) → at + length items ≤ place → get_or (overwritten at items old) place d ≡ get_or old place d
  overwritten-behind place d behind =
      let same : at + length items + (place - (at + length items)) ≡ place = omega arith in
      get_or-append_right (take at old ++ items) (drop (at + length items) old) (at + length items) place d length-front behind
      ∙ get_or-drop (at + length items) old (place - (at + length items)) d
      ∙ ap (λ (p : ℕ). get_or old p d) same

-- a write past the end stands at the end
overwritten-past : {X : Type 0} → (at : ℕ) (items old : List X) → length old ≤ at → overwritten at items old ≡ overwritten (length old) items old
overwritten-past at items old past =
    ap (λ (l : _). l ++ items ++ drop (at + length items) old) (take_all at old past ∙ sym (take_all (length old) old (omega arith)))
    ∙ ap (λ (l : _). take (length old) old ++ items ++ l) (drop_all (at + length items) old (omega arith) ∙ sym (drop_all (length old + length items) old (omega arith)))

-- What the calls of a disk keep of a file: a place that wasn't written since the last sync reads as it was synced.
pub record IsSound (file : FileState) : Type 0 where
  pub marks : length file.written ≡ length file.seen
  pub grown : length file.synced ≤ length file.seen
  pub kept : (place : ℕ) → place < length file.seen → get_or file.written place false ≡ false → (place < length file.synced) × (get_or file.seen place 0 ≡ get_or file.synced place 0)

pub sound-settled : (bytes : List ℕ) → IsSound (settled bytes)
sound-settled bytes = record { marks = length-map bytes (λ _. false); grown = omega arith; kept = λ place inside unwritten. (inside, refl) }

sound-inside : (at : ℕ) (bytes : List ℕ) (file : FileState) → at ≤ length file.seen → IsSound file → IsSound (with_bytes at bytes file)
sound-inside at bytes file inside sound =
    let marks = map (λ (_ : ℕ). true) bytes in
    let count : length marks ≡ length bytes = length-map bytes (λ _. true) in
    let in_marks : at ≤ length file.written = omega (arith, sound.marks) in
    let seen_length = length-overwritten at bytes file.seen inside in
    let written_length = length-overwritten at marks file.written in_marks in
    record {
      marks = omega (arith, seen_length, written_length, count, sound.marks);
      grown = omega (arith, seen_length, sound.grown);
      kept = λ place within unwritten. elim (cases_lt place at) [
        | inl before ↦
            let old = sound.kept place (omega arith) (sym (overwritten-before at marks file.written in_marks place false before) ∙ unwritten) in
            (old.0, overwritten-before at bytes file.seen inside place 0 before ∙ old.1)
        | inr from ↦ elim (cases_lt place (at + length bytes)) [
          | inl upto ↦
              let in_bytes : place - at < length bytes = omega arith in
              let mark : get_or marks (place - at) false ≡ true = get_or-map (λ (_ : ℕ). true) bytes (place - at) 0 false in_bytes in
              let is : get_or (overwritten at marks file.written) place false ≡ true = overwritten-within at marks file.written in_marks place false from (omega (arith, count)) ∙ mark in
              absurd (false≢true (sym unwritten ∙ is))
          | inr behind ↦
              let old = sound.kept place (omega (arith, seen_length)) (sym (overwritten-behind at marks file.written in_marks place false (omega (arith, count))) ∙ unwritten) in
              (old.0, overwritten-behind at bytes file.seen inside place 0 behind ∙ old.1)
        ]
      ];
    }

pub sound-with_bytes : (at : ℕ) (bytes : List ℕ) (file : FileState) → IsSound file → IsSound (with_bytes at bytes file)
sound-with_bytes at bytes file sound = elim (cases_lt at (length file.seen)) [
  | inl inside ↦ sound-inside at bytes file (omega arith) sound
  | inr past ↦
      let marks = map (λ (_ : ℕ). true) bytes in
      let seen_same : overwritten (length file.seen) bytes file.seen ≡ overwritten at bytes file.seen = sym (overwritten-past at bytes file.seen past) in
      let count : length file.written ≡ length file.seen = sound.marks in
      let written_same : overwritten (length file.seen) marks file.written ≡ overwritten at marks file.written =
      ap (λ (n : ℕ). overwritten n marks file.written) (sym count) ∙ sym (overwritten-past at marks file.written (omega arith)) in
      let of : (List ℕ) → List Bool → FileState = λ seen written. record { synced = file.synced; seen = seen; written = written } in
      subst (λ (f : FileState). IsSound f) ((λ i. of (seen_same i) (written_same i))) (sound-inside (length file.seen) bytes file (omega arith) sound)
]

-- what a file reads as is one of its images
pub image-seen : (file : FileState) → IsSound file → IsImage file file.seen
image-seen file sound = record { no_shorter = sound.grown; no_longer = omega arith; elsewhere = λ place within unwritten. (sound.kept place within unwritten).1 }

-- and so is what was synced
pub image-synced : (file : FileState) → IsSound file → IsImage file file.synced
image-synced file sound = record { no_shorter = omega arith; no_longer = sound.grown; elsewhere = λ place within unwritten. refl }

-- a file that is synced has one image
pub image-settled : (bytes image : List ℕ) → IsImage (settled bytes) image → image ≡ bytes
image-settled bytes image is =
    let long : length image ≡ length bytes = omega (arith, is.no_shorter, is.no_longer) in
    same_lists image bytes long (λ k d inside.
    let in_bytes : k < length bytes = omega arith in
    let mark : get_or (map (λ (_ : ℕ). false) bytes) k false ≡ false = get_or-map (λ (_ : ℕ). false) bytes k 0 false in_bytes in
    get_or_default image k d 0 inside ∙ is.elsewhere k inside mark ∙ get_or_default bytes k 0 d in_bytes)

-- where nothing is unsynced the file is as a sync leaves it
pub settled-clean : (file : FileState) → IsSound file → has_unsynced file ≡ false → settled file.seen ≡ file
settled-clean file sound clean =
    let unwritten : (place : ℕ) → place < length file.seen → get_or file.written place false ≡ false = λ place within. elim (get_or file.written place false) as (λ b. get_or file.written place false ≡ b → b ≡ false) [
      | true ↦ λ is. absurd (false≢true (sym clean ∙ list_any_at (λ (mark : Bool). mark) file.written place false (omega (arith, sound.marks)) is))
      | false ↦ λ is. refl
    ] refl in
    let length_same : length file.synced ≡ length file.seen = elim (cases_lt (length file.synced) (length file.seen)) [
      | inl short ↦ absurd (omega (arith, (sound.kept (length file.synced) short (unwritten (length file.synced) short)).0))
      | inr enough ↦ omega (arith, sound.grown)
    ] in
    let synced_same : file.seen ≡ file.synced = same_lists file.seen file.synced (sym length_same) (λ k d inside.
    get_or_default file.seen k d 0 inside ∙ (sound.kept k inside (unwritten k inside)).1 ∙ get_or_default file.synced k 0 d (omega arith)) in
    let written_same : map (λ (_ : ℕ). false) file.seen ≡ file.written = same_lists (map (λ (_ : ℕ). false) file.seen) file.written (length-map file.seen (λ _. false) ∙ sym sound.marks) (λ k d inside.
    let within : k < length file.seen = omega (arith, length-map file.seen (λ (_ : ℕ). false)) in
    get_or-map (λ (_ : ℕ). false) file.seen k 0 d within ∙ sym (get_or_default file.written k d false (omega (arith, sound.marks)) ∙ unwritten k within)) in
    (λ i. record { synced = synced_same i; seen = file.seen; written = written_same i })

-- A write that a crash cut short: any bytes in its range and past the old end, the same elsewhere.
pub record IsTorn (at count : ℕ) (old image : List ℕ) : Type 0 where
  pub before : take at image ≡ take at old
  pub behind : drop (at + count) image ≡ drop (at + count) old
  pub no_shorter : length old ≤ length image
  pub no_longer : length image ≤ max (length old) (at + count)

-- what a crash may leave of a file that was synced before one write
pub image-with_bytes : (at : ℕ) (bytes old image : List ℕ) → at ≤ length old → IsImage (with_bytes at bytes (settled old)) image → IsTorn at (length bytes) old image
image-with_bytes at bytes old image inside is =
    let marks = map (λ (_ : ℕ). true) bytes in
    let count : length marks ≡ length bytes = length-map bytes (λ _. true) in
    let clean = map (λ (_ : ℕ). false) old in
    let clean_count : length clean ≡ length old = length-map old (λ _. false) in
    let grown = length-overwritten at bytes old inside in
    let in_clean : at ≤ length clean = omega arith in
    let outside : (place : ℕ) → place < length image → place < length old → (place < at) ⊎ (at + length bytes ≤ place) → get_or image place 0 ≡ get_or old place 0 =
    λ place within in_old where_is.
    let unwritten : get_or clean place false ≡ false = get_or-map (λ (_ : ℕ). false) old place 0 false in_old in
    let mark : get_or (overwritten at marks clean) place false ≡ false = elim where_is [
      | inl before ↦ overwritten-before at marks clean in_clean place false before ∙ unwritten
      | inr behind ↦ overwritten-behind at marks clean in_clean place false (omega (arith, count)) ∙ unwritten
    ] in
    is.elsewhere place within mark in
    let longest : length image ≤ max (length old) (at + length bytes) = omega (arith, is.no_longer, grown) in
    record {
      before = same_lists (take at image) (take at old) (length-take-le at image (omega (arith, is.no_shorter)) ∙ sym (length-take-le at old inside)) (λ k d k_in.
          let upto : k < at = omega (arith, length-take-le at image (omega (arith, is.no_shorter))) in
          let in_image : k < length image = omega (arith, is.no_shorter) in
          get_or-take at image k d upto ∙ get_or_default image k d 0 in_image ∙ outside k in_image (omega arith) (inl upto) ∙ get_or_default old k 0 d (omega arith) ∙ sym (get_or-take at old k d upto));
      behind = same_lists (drop (at + length bytes) image) (drop (at + length bytes) old) (omega (arith, length-drop (at + length bytes) image, length-drop (at + length bytes) old, longest, is.no_shorter)) (λ k d k_in.
          let in_image : at + length bytes + k < length image = omega (arith, length-drop (at + length bytes) image) in
          let in_old : at + length bytes + k < length old = omega (arith, longest) in
          get_or-drop (at + length bytes) image k d ∙ get_or_default image (at + length bytes + k) d 0 in_image ∙ outside (at + length bytes + k) in_image in_old (inr (omega arith)) ∙ get_or_default old (at + length bytes + k) 0 d in_old ∙ sym (get_or-drop (at + length bytes) old k d));
      no_shorter = is.no_shorter;
      no_longer = longest;
    }
