-- What a disk reads as while a frame is appended, and afterwards.
use Rattle.std.proofs.Common.{◌≡◌, ◌≤◌, ◌<◌, ◌+◌, ◌^◌, ℕ, zero, suc, true, List, [], ◌∷◌, ◌++◌, length, take, Option, Some, None, Result, Ok, Err, IsOk, OnOk, IsErrOf, inl, inr, ◌⊎◌, ⊎_elim, refl, sym, ◌∙◌, ap, subst, arith, length-append}
use Rattle.std.specs.Option.{option_map, ForSome}
use Rattle.std.proofs.lemmas.List.{append-nil}
use Rattle.std.proofs.lemmas.List.Sums.{sum_by_push}
use Rattle.std.proofs.lemmas.Option.{same_Some}
use Rattle.st_disk.specs.FileState.{overwritten}
use Rattle.st_disk.specs.Images.{IsTorn}
use Rattle.st_disk.specs.History.{History, Files, of_file, with_file, seen}
use Rattle.st_disk.specs.Moments.{LeavesOnly, ToldLeavesOnly, joined, started, weaker}
use Rattle.st_queue.specs.Frames.{file_frames, is_payload, generation, first_number}
use Rattle.st_queue.specs.Place.{current, current_file, end_in, end_of, frames_size}
use Rattle.st_queue.specs.Writing.{frame_bytes, after_put, appended, IsSynced, frames_now, frames_of, with_frame, frame_of, behind_frame, IsSettled, ToldSettled, told_frames, IsTornAt, LeavesTorn, HasFramesOrMore, Appends}
use Rattle.st_queue.proofs.Ends.{IsEnd, same-take, same-number}
use Rattle.st_queue.proofs.Crash.{torn_body, torn_gate, frames-opened, opened-before, opened-long}
use Rattle.st_queue.proofs.Current.{Reading, HasEnd, has_end}
use Rattle.st_queue.proofs.Puts.{image-synced, synced-put, seen-put, torn-whole}
use Rattle.st_queue.specs.declared.frame.Frame.{Frame}
use Rattle.st_queue.specs.declared.frame.QueueRefusal.{QueueRefusal}
use Rattle.st_queue.specs.declared.frame.QueueRefusal.TheVariants.{NoMemory}
use Rattle.st_queue.specs.declared.place.Place.{Place}

pub ok-of : (reading : Reading) → IsOk reading → (l : List Frame) × (reading ≡ Ok l)
ok-of (Ok l) ok = (l, refl)
ok-of (Err damage) ok = absurd (cc (ok))

of-with : {X : Type 0} (file : ℕ) (x : X) (both : X × X) → of_file file (with_file file x both) ≡ x
of-with zero x both = refl
of-with (suc file) x both = refl

with-with : {X : Type 0} (file : ℕ) (x y : X) (both : X × X) → with_file file x (with_file file y both) ≡ with_file file x both
with-with zero x y both = refl
with-with (suc file) x y both = refl

pub settled-synced : (place : Option Place) (told : Option History) → ForSome told (λ h. IsSettled h place) → ForSome told IsSynced
settled-synced place told settled h is = (settled h is).synced

pub told-settled : (place : Option Place) (told : Option History) → ForSome told (λ h. IsSettled h place) → ToldSettled told place
told-settled place None settled = tt
told-settled place (Some h) settled = settled h refl

pub settled-told : (place : Option Place) (told : Option History) → ToldSettled told place → ForSome told (λ h. IsSettled h place)
settled-told place None settled h is = absurd (cc (is))
settled-told place (Some h) settled h' is = subst (λ (h : History). IsSettled h place) (same_Some h h' is) settled

-- The current file with other bytes, that begin as it does up to its gate and have more frames.
module _ (files : Files) (all : List Frame) (place : Place) (known : HasEnd files all place) where
  abbrev old : List ℕ
  old = of_file place.file files

  module _ (more : List Frame) (new : List ℕ) (same : take place.gate new ≡ take place.gate old) (inside : place.gate < length new) (read : file_frames place.file new ≡ Ok (known.older ++ more)) where
    header : take 28 new ≡ take 28 old
    header = same-take place.gate new old same 28 known.at_end.behind_header

    grown : (frames_of (with_file place.file new files) ≡ Ok (all ++ more)) × (current_file (with_file place.file new files) ≡ Some place.file)
    grown = known.grows known.older more new known.older_is header (omega (arith, known.at_end.behind_header)) read

    pub frames-grown : frames_of (with_file place.file new files) ≡ Ok (all ++ more)
    frames-grown = grown.0

    pub current-grown : (place' : Place) → place' ≡ record { file = place.file; generation = place.generation; gate = 28 + frames_size (known.older ++ more); next = first_number old + length (known.older ++ more) } → Some place' ≡ current (with_file place.file new files)
    current-grown place' is =
        let files' = with_file place.file new files in
        let end_is : Place = record { file = place.file; generation = generation old; gate = 28 + frames_size known.older; next = first_number old + length known.older } in
        let place_is : end_is ≡ place = same_Some end_is place known.place_is in
        let made : generation new ≡ place.generation = same-number 28 new old header 8 12 (omega arith) ∙ (λ i. (place_is i).generation) in
        let first : first_number new ≡ first_number old = same-number 28 new old header 8 20 (omega arith) in
        sym (ap (λ (o : Option ℕ). end_in files' o) grown.1
        ∙ ap (λ (b : List ℕ). end_of place.file b (file_frames place.file b)) (of-with place.file new files)
        ∙ ap (λ (r : Reading). end_of place.file new r) read
        ∙ (λ i. Some (record { file = place.file; generation = made i; gate = 28 + frames_size (known.older ++ more); next = first i + length (known.older ++ more) }))
        ∙ ap (λ (p : Place). Some p) (sym is))

module _ (h : History) (place : Place) (settled : IsSettled h (Some place)) (payload : List ℕ) (small : length payload < 2 ^ 32) (fits : place.next < 2 ^ 64) (listed : is_payload payload ≡ true) where
  abbrev files : Files
  files = seen h

  abbrev bytes : List ℕ
  bytes = of_file place.file files

  abbrev body : List ℕ
  body = frame_bytes place.next payload

  abbrev frame : Frame
  frame = frame_of place payload

  all : (l : List Frame) × (frames_now h ≡ Ok l)
  all = ok-of (frames_now h) settled.readable

  known : HasEnd files all.0 place
  known = has_end files all.0 place all.1 settled.ends

  at_end : IsEnd place.file bytes known.older place.gate place.next
  at_end = known.at_end

  -- other bytes of the file with these frames more
  module _ (more : List Frame) (images : Files) (new : List ℕ) (is : images ≡ with_file place.file new files) (same : take place.gate new ≡ take place.gate bytes) (inside : place.gate < length new) (read : file_frames place.file new ≡ Ok (known.older ++ more)) where
    reads-grown : frames_of images ≡ Ok (all.0 ++ more)
    reads-grown = ap frames_of is ∙ frames-grown files all.0 place known more new same inside read

  reads-same : (images : Files) (new : List ℕ) → images ≡ with_file place.file new files → take place.gate new ≡ take place.gate bytes → place.gate < length new → file_frames place.file new ≡ Ok known.older → frames_of images ≡ frames_now h
  reads-same images new is same inside read =
      reads-grown [] images new is same inside (read ∙ ap (λ (l : List Frame). Ok l) (sym (append-nil known.older))) ∙ ap (λ (l : List Frame). Ok l) (append-nil all.0) ∙ sym all.1

  reads-more : (images : Files) (new : List ℕ) → images ≡ with_file place.file new files → take place.gate new ≡ take place.gate bytes → place.gate < length new → file_frames place.file new ≡ Ok (known.older ++ frame ∷ []) → frames_of images ≡ with_frame frame (frames_now h)
  reads-more images new is same inside read = reads-grown (frame ∷ []) images new is same inside read ∙ sym (ap (with_frame frame) all.1)

  pub gate-inside : place.gate + 1 ≤ length bytes
  gate-inside = omega (arith, at_end.inside)

  -- while the frame is written
  pub body-reads : (count : ℕ) (images : Files) → IsTornAt place.file (place.gate + 1) count files images → frames_of images ≡ frames_now h
  body-reads count images torn =
      let new = of_file place.file images in
      reads-same images new torn.other (same-take (place.gate + 1) new bytes torn.torn.before place.gate (omega arith)) (omega (arith, at_end.inside, torn.torn.no_shorter))
      (torn_body place.file bytes known.older place.gate place.next at_end count new torn.torn)

  abbrev written : List ℕ
  written = overwritten (place.gate + 1) body bytes

  abbrev middle : History
  middle = after_put place.file (place.gate + 1) body h

  middle-seen : seen middle ≡ with_file place.file written files
  middle-seen = seen-put place.file (place.gate + 1) body h

  middle-bytes : of_file place.file (seen middle) ≡ written
  middle-bytes = ap (of_file place.file) middle-seen ∙ of-with place.file written files

  body-torn : IsTorn (place.gate + 1) (length body) bytes written
  body-torn = torn-whole (place.gate + 1) body bytes gate-inside

  written-same : take place.gate written ≡ take place.gate bytes
  written-same = same-take (place.gate + 1) written bytes body-torn.before place.gate (omega arith)

  written-frames : file_frames place.file written ≡ Ok (known.older ++ [])
  written-frames = torn_body place.file bytes known.older place.gate place.next at_end (length body) written body-torn ∙ ap (λ (l : List Frame). Ok l) (sym (append-nil known.older))

  written-long : place.gate < length written
  written-long = omega (arith, at_end.inside, body-torn.no_shorter)

  pub middle-frames : frames_now middle ≡ frames_now h
  middle-frames = ap frames_of middle-seen ∙ reads-same (with_file place.file written files) written refl written-same written-long (torn_body place.file bytes known.older place.gate place.next at_end (length body) written body-torn)

  place-now : place ≡ record { file = place.file; generation = place.generation; gate = 28 + frames_size known.older; next = first_number bytes + length known.older }
  place-now = let e = same_Some (record { file = place.file; generation = generation bytes; gate = 28 + frames_size known.older; next = first_number bytes + length known.older }) place known.place_is in
      λ i. record { file = place.file; generation = place.generation; gate = (sym e i).gate; next = (sym e i).next }

  pub middle-settled : IsSettled middle (Some place)
  middle-settled = record {
    synced = synced-put place.file (place.gate + 1) body h settled.synced;
    readable = subst IsOk (sym middle-frames) settled.readable;
    ends = current-grown files all.0 place known [] written written-same written-long written-frames place
        (place-now ∙ (λ i. record { file = place.file; generation = place.generation; gate = 28 + frames_size (sym (append-nil known.older) i); next = first_number bytes + length (sym (append-nil known.older) i) }))
        ∙ sym (ap current middle-seen);
  }

  -- while its gate is opened
  pub gate-reads : (images : Files) → IsTornAt place.file place.gate 1 (seen middle) images → (frames_of images ≡ frames_now h) ⊎ (frames_of images ≡ with_frame frame (frames_now h))
  gate-reads images torn =
      let new = of_file place.file images in
      let opening : IsTorn place.gate 1 written new = subst (λ (b : List ℕ). IsTorn place.gate 1 b new) middle-bytes torn.torn in
      let is : images ≡ with_file place.file new files = torn.other ∙ ap (with_file place.file new) middle-seen ∙ with-with place.file new written files in
      let same : take place.gate new ≡ take place.gate bytes = opening.before ∙ written-same in
      let inside : place.gate < length new = omega (arith, opening.no_shorter, written-long) in
      ⊎_elim (λ closed. inl (reads-same images new is same inside closed)) (λ open_is. inr (reads-more images new is same inside open_is))
      (torn_gate place.file bytes known.older place.gate place.next at_end payload small fits listed new opening)

  abbrev opened : List ℕ
  opened = overwritten place.gate (1 ∷ []) written

  abbrev last : History
  last = appended place payload h

  last-seen : seen last ≡ with_file place.file opened files
  unfolding appended after_put
  last-seen =
      seen-put place.file place.gate (1 ∷ []) middle
      ∙ (λ i. with_file place.file (overwritten place.gate (1 ∷ []) (middle-bytes i)) (middle-seen i))
      ∙ with-with place.file opened written files

  opened-same : take place.gate opened ≡ take place.gate bytes
  opened-same = opened-before place.file bytes known.older place.gate place.next at_end payload small fits listed

  opened-inside : place.gate < length opened
  opened-inside = omega (arith, opened-long place.file bytes known.older place.gate place.next at_end payload small fits listed, written-long)

  opened-frames : file_frames place.file opened ≡ Ok (known.older ++ frame ∷ [])
  opened-frames = frames-opened place.file bytes known.older place.gate place.next at_end payload small fits listed

  pub last-frames : frames_now last ≡ with_frame frame (frames_now h)
  last-frames = ap frames_of last-seen ∙ reads-more (with_file place.file opened files) opened refl opened-same opened-inside opened-frames

  pub last-settled : IsSettled last (Some (behind_frame place payload))
  unfolding appended after_put
  last-settled =
      let gate_now : place.gate ≡ 28 + frames_size known.older = λ i. (place-now i).gate in
      let next_now : place.next ≡ first_number bytes + length known.older = λ i. (place-now i).next in
      let gate_is : place.gate + (13 + length payload) ≡ 28 + frames_size (known.older ++ frame ∷ []) =
      omega (arith, sum_by_push (λ (f : Frame). 13 + length f.payload) known.older frame) in
      let next_is : place.next + 1 ≡ first_number bytes + length (known.older ++ frame ∷ []) = omega (arith, length-append known.older (frame ∷ [])) in
      record {
        synced = synced-put place.file place.gate (1 ∷ []) middle middle-settled.synced;
        readable = subst IsOk (sym (last-frames ∙ ap (with_frame frame) all.1)) refl;
        ends = current-grown files all.0 place known (frame ∷ []) opened opened-same opened-inside opened-frames (behind_frame place payload)
            (λ i. record { file = place.file; generation = place.generation; gate = gate_is i; next = next_is i })
            ∙ sym (ap current last-seen);
      }

module _ (place : Place) (payload : List ℕ) (small : length payload < 2 ^ 32) (fits : place.next < 2 ^ 64) (listed : is_payload payload ≡ true) where
  abbrev Settled : Option History → Type 0
  Settled told = ForSome told (λ h. IsSettled h (Some place))

  abbrev size : ℕ
  size = length (frame_bytes place.next payload)

  abbrev first_put : Option History → Option History
  first_put told = option_map (after_put place.file (place.gate + 1) (frame_bytes place.next payload)) told

  pub append-none : (told new : Option History) → new ≡ told → Settled told → ToldLeavesOnly told new (HasFramesOrMore (frame_of place payload) told)
  append-none None new same settled = same
  append-none (Some h) new same settled =
      subst (λ (n : Option History). ToldLeavesOnly (Some h) n (HasFramesOrMore (frame_of place payload) (Some h))) (sym same)
      (started h (HasFramesOrMore (frame_of place payload) (Some h)) (λ images may. inl (ap frames_of (image-synced h (settled h refl).synced images may))))

  first : (h new : History) → IsSettled h (Some place) → LeavesOnly h new (LeavesTorn place.file (place.gate + 1) size (Some h)) → LeavesOnly h new (HasFramesOrMore (frame_of place payload) (Some h))
  first h new settled leaves =
      weaker h new (LeavesTorn place.file (place.gate + 1) size (Some h)) (HasFramesOrMore (frame_of place payload) (Some h)) leaves (λ images torn. inl (body-reads h place settled payload small fits listed size images torn))

  pub append-first : (told new : Option History) → ToldLeavesOnly told new (LeavesTorn place.file (place.gate + 1) size told) → Settled told → ToldLeavesOnly told new (HasFramesOrMore (frame_of place payload) told)
  append-first None new leaves settled = leaves
  append-first (Some h) None leaves settled = leaves
  append-first (Some h) (Some new) leaves settled = first h new (settled h refl) leaves

  pub append-both : (told mid new : Option History) → mid ≡ first_put told → ToldLeavesOnly told mid (LeavesTorn place.file (place.gate + 1) size told) → ToldLeavesOnly mid new (LeavesTorn place.file place.gate 1 mid) → Settled told
      → ToldLeavesOnly told new (HasFramesOrMore (frame_of place payload) told)
  append-both None mid new is leaves then settled = subst (λ (m : Option History). ToldLeavesOnly m new (LeavesTorn place.file place.gate 1 m)) is then
  append-both (Some h) mid new is leaves then settled =
      both new (subst (λ (m : Option History). ToldLeavesOnly (Some h) m (LeavesTorn place.file (place.gate + 1) size (Some h))) is leaves) (subst (λ (m : Option History). ToldLeavesOnly m new (LeavesTorn place.file place.gate 1 m)) is then)
    where
      both : (new : Option History) → LeavesOnly h (after_put place.file (place.gate + 1) (frame_bytes place.next payload) h) (LeavesTorn place.file (place.gate + 1) size (Some h))
          → ToldLeavesOnly (Some (after_put place.file (place.gate + 1) (frame_bytes place.next payload) h)) new (LeavesTorn place.file place.gate 1 (Some (after_put place.file (place.gate + 1) (frame_bytes place.next payload) h))) → ToldLeavesOnly (Some h) new (HasFramesOrMore (frame_of place payload) (Some h))
      both None leaves then = then
      both (Some new) leaves then =
          joined h (after_put place.file (place.gate + 1) (frame_bytes place.next payload) h) new (HasFramesOrMore (frame_of place payload) (Some h)) (first h (after_put place.file (place.gate + 1) (frame_bytes place.next payload) h) (settled h refl) leaves)
          (weaker (after_put place.file (place.gate + 1) (frame_bytes place.next payload) h) new (LeavesTorn place.file place.gate 1 (Some (after_put place.file (place.gate + 1) (frame_bytes place.next payload) h))) (HasFramesOrMore (frame_of place payload) (Some h)) then
          (λ images torn. gate-reads h place (settled h refl) payload small fits listed images torn))

  -- between the two
  pub append-middle : (told mid : Option History) → mid ≡ first_put told → Settled told → Settled mid × ToldSettled mid (Some place) × (told_frames mid ≡ told_frames told)
  append-middle None mid is settled = (λ h e. absurd (cc (is, e)), subst (λ (m : Option History). ToldSettled m (Some place)) (sym is) tt, ap told_frames is)
  append-middle (Some h) mid is settled =
      let now = middle-settled h place (settled h refl) payload small fits listed in (
        λ m e. subst (λ (h : History). IsSettled h (Some place)) (same_Some _ m (sym is ∙ e)) now,
        subst (λ (m : Option History). ToldSettled m (Some place)) (sym is) now,
        ap told_frames is ∙ ap (λ (r : Reading). Some r) (middle-frames h place (settled h refl) payload small fits listed),
      )

  pub append-ok : (told new : Option History) → new ≡ option_map (appended place payload) told → Settled told
      → ToldSettled new (Some (behind_frame place payload)) × (told_frames new ≡ option_map (with_frame (frame_of place payload)) (told_frames told))
  append-ok None new is settled = (subst (λ (n : Option History). ToldSettled n (Some (behind_frame place payload))) (sym is) tt, ap told_frames is)
  append-ok (Some h) new is settled = (
    subst (λ (n : Option History). ToldSettled n (Some (behind_frame place payload))) (sym is) (last-settled h place (settled h refl) payload small fits listed),
    ap told_frames is ∙ ap (λ (r : Reading). Some r) (last-frames h place (settled h refl) payload small fits listed),
  )

  -- the three ends of an append
  pub ends-at_once : (told new : Option History) (result : Result (Unit {0}) QueueRefusal) → new ≡ told → result ≡ Err NoMemory → Settled told → Appends told new place payload result
  ends-at_once told new result same is settled = subst (λ (r : Result (Unit {0}) QueueRefusal). Appends told new place payload r) (sym is) (record {
    calls = tt;
    frames = tt;
    settled = tt;
    stays = λ _. subst (λ (n : Option History). ToldSettled n (Some place)) (sym same) (told-settled (Some place) told settled);
    same = λ _. ap told_frames same;
    any_moment = append-none told new same settled;
  })

  pub ends-first : (told new : Option History) (result : Result (Unit {0}) QueueRefusal) (refusal : QueueRefusal) → result ≡ Err refusal → (refusal ≡ NoMemory → new ≡ told)
      → ToldLeavesOnly told new (LeavesTorn place.file (place.gate + 1) size told) → Settled told → Appends told new place payload result
  ends-first told new result refusal is same leaves settled = subst (λ (r : Result (Unit {0}) QueueRefusal). Appends told new place payload r) (sym is) (record {
    calls = tt;
    frames = tt;
    settled = tt;
    stays = λ e. subst (λ (n : Option History). ToldSettled n (Some place)) (sym (same (cc (e)))) (told-settled (Some place) told settled);
    same = λ e. ap told_frames (same (cc (e)));
    any_moment = append-first told new leaves settled;
  })

  pub ends-both : (told mid new : Option History) (result : Result (Unit {0}) QueueRefusal) → mid ≡ first_put told → ToldLeavesOnly told mid (LeavesTorn place.file (place.gate + 1) size told)
      → OnOk result (new ≡ option_map (after_put place.file place.gate (1 ∷ [])) mid) → (IsErrOf result NoMemory → new ≡ mid) → ToldLeavesOnly mid new (LeavesTorn place.file place.gate 1 mid) → Settled told
      → Appends told new place payload result
  unfolding appended after_put
  ends-both told mid new (Ok done) is leaves ok no_memory then settled =
      let whole : new ≡ option_map (appended place payload) told = ok ∙ ap (λ (m : Option History). option_map (after_put place.file place.gate (1 ∷ [])) m) is ∙ twice told in
      let now = append-ok told new whole settled in
      record {
        calls = whole;
        frames = now.1;
        settled = now.0;
        stays = λ e. absurd (cc (e));
        same = λ e. absurd (cc (e));
        any_moment = append-both told mid new is leaves then settled;
      }
    where
      twice : (told : Option History) → option_map (after_put place.file place.gate (1 ∷ [])) (first_put told) ≡ option_map (appended place payload) told
      twice None = refl
      twice (Some h) = refl
  ends-both told mid new (Err refusal) is leaves ok no_memory then settled =
      let middle = append-middle told mid is settled in
      record {
        calls = tt;
        frames = tt;
        settled = tt;
        stays = λ e. subst (λ (n : Option History). ToldSettled n (Some place)) (sym (no_memory e)) middle.1;
        same = λ e. ap told_frames (no_memory e) ∙ middle.2;
        any_moment = append-both told mid new is leaves then settled;
      }

  -- what the two writes ask of the disk
  pub first-begins : (told : Option History) → Settled told → ForSome told (λ h. place.gate + 1 ≤ length (of_file place.file (seen h)))
  first-begins told settled h is = gate-inside h place (settled h is) payload small fits listed

  pub gate-begins : (told : Option History) → Settled told → ForSome told (λ h. place.gate ≤ length (of_file place.file (seen h)))
  gate-begins told settled h is = omega (arith, gate-inside h place (settled h is) payload small fits listed)
