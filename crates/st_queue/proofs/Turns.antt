-- What a settled disk reads as while its next file is shut, gets its header and becomes current.
use Rattle.std.proofs.Common.{◌≡◌, ◌<◌, ◌≤◌, ◌+◌, ◌^◌, ◌⊎◌, inl, inr, if◌then◌else◌, nat_lt, get_or, ℕ, zero, suc, Bool, true, false, List, [], ◌∷◌, ◌++◌, length, drop, All, Option, Some, None, Ok, Err, IsOk, refl, sym, ◌∙◌, ap, subst, arith, length-drop}
use Rattle.std.proofs.lemmas.Bool.{false≢true}
use Rattle.std.proofs.lemmas.List.{take_at, drop_at}
use Rattle.std.proofs.lemmas.List.Sums.{AllPass-from_list_all}
use borrow.Author.Tests.{ltb-true}
use Rattle.st_disk.specs.FileState.{overwritten}
use Rattle.st_disk.specs.Images.{IsTorn}
use Rattle.st_disk.specs.History.{History, Files, of_file, with_file, seen}
use Rattle.st_disk.specs.Calls.{made}
use Rattle.st_queue.specs.Due.{Knows, are_discarded, is_released, last_behind, older_frames}
use Rattle.st_queue.specs.Frames.{generation, first_number, is_live, is_open, file_frames}
use Rattle.st_queue.specs.Place.{current, end_of, frames_size, is_unshut, next_file, next_generation, next_number, next_place, other_file}
use Rattle.st_queue.specs.Prepared.{IsPrepared}
use Rattle.st_queue.specs.Writing.{put_calls, after_put, entered, header_bytes, shut_first, frames_now, frames_of, HasLess, IsSettled}
use Rattle.st_queue.proofs.Alone.{alone-frames, alone-current, alone-older, idle, is-current, kept-current, kept-frames, of-with, shut-current, shut-frames, shut-older}
use Rattle.st_queue.proofs.Appends.{ok-of}
use Rattle.st_queue.proofs.Current.{Reading}
use Rattle.st_queue.proofs.Numbers.{file-numbered, released-behind}
use Rattle.st_queue.proofs.Pair.{IsBehind, IsOlder, alone-behind, is-older, pair-behind}
use Rattle.st_queue.proofs.Puts.{beside-with, seen-put, synced-put, torn-whole}
use Rattle.st_queue.proofs.Shut.{closed-shut, first-opened, frames-none, header-done, header-torn, live-opened, live-unshut, made-opened, open-same, prepared-shut, shut-done, shut-parts, shut-torn}
use Rattle.st_queue.specs.declared.frame.Frame.{Frame}
use Rattle.st_queue.specs.declared.place.Place.{Place}

-- the same frames are none less
pub less-all : (from : ℕ) (reading : Reading) → HasLess from reading reading
less-all from (Ok frames) = record { gone = 0; others = refl; discarded = λ k d inside. absurd (omega arith) }
less-all from (Err damage) = refl

pub less-same : (from : ℕ) (reading left : Reading) → left ≡ reading → HasLess from reading left
less-same from reading left same = subst (λ (r : Reading). HasLess from reading r) (sym same) (less-all from reading)

below-all : (from : ℕ) (frames : List Frame) → are_discarded from frames ≡ true → All (λ frame. frame.seq < from) frames
below-all from frames discarded k d inside =
    ltb-true (get_or frames k d).seq from (AllPass-from_list_all (λ (frame : Frame). nat_lt frame.seq from) frames discarded k d inside)

-- the frames behind discarded ones
less-behind : (from : ℕ) (older newer all : List Frame) → older ++ newer ≡ all → are_discarded from older ≡ true → HasLess from (Ok all) (Ok newer)
less-behind from older newer all whole discarded = subst (λ (l : List Frame). HasLess from (Ok l) (Ok newer)) whole (record {
  gone = length older;
  others = sym (drop_at older newer (length older) refl);
  discarded = subst (λ (l : List Frame). All (λ frame. frame.seq < from) l) (sym (take_at older newer (length older) refl)) (below-all from older discarded);
})

pub next-small : (end : Option Place) → next_file end < 2
next-small None = omega arith
next-small (Some place) = small place.file
  where
    small : (file : ℕ) → other_file file < 2
    small zero = omega arith
    small (suc file) = omega arith

with-same : (file : ℕ) (files : Files) → with_file file (of_file file files) files ≡ files
with-same zero files = refl
with-same (suc file) files = refl

-- of each file, whether it is to be shut
abbrev pub flags : Files → Bool × Bool
flags files = (is_unshut files.0, is_unshut files.1)

flags-with : (file : ℕ) (files : Files) (new : List ℕ) (flag : Bool) (unshut : Bool × Bool) → flag ≡ is_unshut new → unshut ≡ flags files → with_file file flag unshut ≡ flags (with_file file new files)
flags-with zero files new flag unshut is known = λ i. (is i, (known i).1)
flags-with (suc file) files new flag unshut is known = λ i. ((known i).0, is i)

unshut-live : (bytes : List ℕ) → is_unshut bytes ≡ false → is_live bytes ≡ false
unshut-live bytes shut = closed-shut bytes (shut-parts bytes shut).1

module _ (h : History) (current_end : Option Place) (settled : IsSettled h current_end) where
  abbrev file : ℕ
  file = next_file current_end

  abbrev files : Files
  files = seen h

  abbrev bytes : List ℕ
  bytes = of_file file files

  abbrev rest : List ℕ
  rest = of_file (other_file file) files

  pub some : (l : List Frame) × (frames_now h ≡ Ok l)
  some = ok-of (frames_now h) settled.readable

  -- where the next file is live, it is the older one
  pub older-known : is_live bytes ≡ true → IsOlder files file some.0
  older-known live = by_end current_end settled.ends live
    where
      by_end : (o : Option Place) → o ≡ current files → is_live (of_file (next_file o) files) ≡ true → IsOlder files (next_file o) some.0
      by_end None is live = absurd (false≢true (sym (idle files some.0 some.1 (sym is)).0 ∙ live))
      by_end (Some place) is live = is-older files some.0 place.file some.1 (is-current files place is).file_is live

  -- Once the next file isn't live, the current file tells all.
  module _ (new : List ℕ) (shut : is_live new ≡ false) where
    pub new-current : current (with_file file new files) ≡ current files
    new-current = by_live (is_live bytes) refl
      where
        by_live : (b : Bool) → is_live bytes ≡ b → current (with_file file new files) ≡ current files
        by_live false was = kept-current file files new shut was
        by_live true was =
            let known = older-known was in
            shut-current file files new shut ∙ (λ i. if known.newer_live i then end_of (other_file file) rest (known.newer_is i) else None) ∙ sym known.current_is

    pub new-less : (from : ℕ) → are_discarded from (older_frames files) ≡ true → HasLess from (frames_now h) (frames_of (with_file file new files))
    new-less from discarded = by_live (is_live bytes) refl
      where
        by_live : (b : Bool) → is_live bytes ≡ b → HasLess from (frames_now h) (frames_of (with_file file new files))
        by_live false was = less-same from (frames_now h) (frames_of (with_file file new files)) (kept-frames file files new shut was)
        by_live true was =
            let known = older-known was in
            let left : frames_of (with_file file new files) ≡ Ok known.newer = shut-frames file files new shut ∙ (λ i. if known.newer_live i then known.newer_is i else Ok []) in
            let gone : are_discarded from known.older ≡ true = ap (are_discarded from) (sym known.older_is) ∙ discarded in
            subst (λ (r : Reading). HasLess from r (frames_of (with_file file new files))) (sym some.1)
            (subst (λ (r : Reading). HasLess from (Ok some.0) r) (sym left) (less-behind from known.older known.newer some.0 known.whole gone))

    pub new-readable : IsOk (frames_of (with_file file new files))
    new-readable = by_live (is_live bytes) refl
      where
        by_live : (b : Bool) → is_live bytes ≡ b → IsOk (frames_of (with_file file new files))
        by_live false was = subst IsOk (sym (kept-frames file files new shut was)) settled.readable
        by_live true was =
            let known = older-known was in
            subst IsOk (sym (shut-frames file files new shut ∙ (λ i. if known.newer_live i then known.newer_is i else Ok []))) refl

  put-settled : (at : ℕ) (items : List ℕ) → is_live (overwritten at items bytes) ≡ false → IsSettled (after_put file at items h) current_end
  put-settled at items shut =
      let now : seen (after_put file at items h) ≡ with_file file (overwritten at items bytes) files = seen-put file at items h in
      record {
        synced = synced-put file at items h settled.synced;
        readable = subst (λ (f : Files). IsOk (frames_of f)) (sym now) (new-readable (overwritten at items bytes) shut);
        ends = settled.ends ∙ sym (ap current now ∙ new-current (overwritten at items bytes) shut);
      }

  put-known : (at : ℕ) (items : List ℕ) (unshut : Bool × Bool) (older : Option ℕ) → is_live (overwritten at items bytes) ≡ false → is_unshut (overwritten at items bytes) ≡ false → Knows files unshut older
      → Knows (seen (after_put file at items h)) (with_file file false unshut) None
  put-known at items unshut older shut closed knows =
      let new = overwritten at items bytes in
      subst (λ (f : Files). Knows f (with_file file false unshut) None) (sym (seen-put file at items h)) (record {
        unshut_is = flags-with file files new false unshut (sym closed) knows.unshut_is;
        older_is = λ discarded. sym (ap (are_discarded discarded) (shut-older file files new shut));
      })

  -- while the next file is shut
  pub shut-leaves : (image : List ℕ) → is_unshut bytes ≡ true → IsTorn 0 1 bytes image → (from : ℕ) → are_discarded from (older_frames files) ≡ true → HasLess from (frames_now h) (frames_of (with_file file image files))
  shut-leaves image unshut torn from discarded = by_live (is_live bytes) refl
    where
      by_gate : (b : Bool) → is_open (get_or image 0 0) ≡ b → is_live bytes ≡ true → HasLess from (frames_now h) (frames_of (with_file file image files))
      by_gate true opened was =
          less-same from (frames_now h) (frames_of (with_file file image files)) (ap (λ (l : List ℕ). frames_of (with_file file l files)) (open-same bytes image was torn opened) ∙ ap frames_of (with-same file files))
      by_gate false closed was = new-less image (closed-shut image closed) from discarded

      by_live : (b : Bool) → is_live bytes ≡ b → HasLess from (frames_now h) (frames_of (with_file file image files))
      by_live false was = new-less image (shut-torn bytes image was unshut torn) from discarded
      by_live true was = by_gate (is_open (get_or image 0 0)) refl was

  -- Once it is shut.
  pub record IsShut (now : History) (unshut : Bool × Bool) (older : Option ℕ) : Type 0 where
    pub settled_now : IsSettled now current_end
    pub shut_now : is_unshut (of_file file (seen now)) ≡ false
    pub less : (from : ℕ) → are_discarded from (older_frames files) ≡ true → HasLess from (frames_now h) (frames_now now)
    pub knows : Knows files unshut older → Knows (seen now) (with_file file false unshut) None

  pub shut-whole : (unshut : Bool × Bool) (older : Option ℕ) → IsShut (shut_first file h) unshut older
  unfolding shut_first after_put
  shut-whole unshut older = by_flag (is_unshut bytes) refl
    where
      by_flag : (b : Bool) → is_unshut bytes ≡ b → IsShut (made (if b then put_calls file 0 (0 ∷ []) else []) h) unshut older
      by_flag true was =
          let done = shut-done bytes in
          let now = seen-put file 0 (0 ∷ []) h in
          record {
            settled_now = put-settled 0 (0 ∷ []) done.0;
            shut_now = ap (λ (f : Files). is_unshut (of_file file f)) now ∙ ap is_unshut (of-with file (overwritten 0 (0 ∷ []) bytes) files) ∙ done.1;
            less = λ from discarded. subst (λ (f : Files). HasLess from (frames_now h) (frames_of f)) (sym now) (new-less (overwritten 0 (0 ∷ []) bytes) done.0 from discarded);
            knows = λ known. put-known 0 (0 ∷ []) unshut older done.0 done.1 known;
          }
      by_flag false was = record {
        settled_now = settled;
        shut_now = was;
        less = λ from discarded. less-all from (frames_now h);
        knows = λ known. record {
          unshut_is = flags-with file files bytes false unshut (sym was) known.unshut_is ∙ ap flags (with-same file files);
          older_is = λ discarded. sym (ap (are_discarded discarded) (alone-older file files (unshut-live bytes was)));
        };
      }

  -- while the header is written, and once it is
  module _ (shut : is_unshut bytes ≡ false) where
    was-shut : is_live bytes ≡ false
    was-shut = unshut-live bytes shut

    pub header-leaves : (count : ℕ) (image : List ℕ) → IsTorn 1 count bytes image → frames_of (with_file file image files) ≡ frames_now h
    header-leaves count image torn = kept-frames file files image (header-torn count bytes image shut torn) was-shut

    pub header-begins : 1 ≤ length bytes
    header-begins = (shut-parts bytes shut).0

    module _ (made first : ℕ) (made_small : made ≤ 2 ^ 62) (first_small : first ≤ 2 ^ 62) where
      abbrev header : List ℕ
      header = header_bytes made first

      abbrev headed : List ℕ
      headed = overwritten 1 header bytes

      headed-shut : is_live headed ≡ false
      headed-shut = header-torn (length header) bytes headed shut (torn-whole 1 header bytes header-begins)

      headed-prepared : IsPrepared headed made first
      headed-prepared = header-done bytes made first made_small first_small shut

      pub header-settled : IsSettled (after_put file 1 header h) current_end
      header-settled = put-settled 1 header headed-shut

      pub header-prepared : IsPrepared (of_file file (seen (after_put file 1 header h))) made first
      header-prepared = subst (λ (l : List ℕ). IsPrepared l made first) (sym (ap (of_file file) (seen-put file 1 header h) ∙ of-with file headed files)) headed-prepared

      pub header-frames : frames_now (after_put file 1 header h) ≡ frames_now h
      header-frames = ap frames_of (seen-put file 1 header h) ∙ kept-frames file files headed headed-shut was-shut

      pub header-known : (unshut : Bool × Bool) (older : Option ℕ) → Knows files unshut older → Knows (seen (after_put file 1 header h)) unshut older
      header-known unshut older known =
          let closed = prepared-shut headed made first headed-prepared in
          subst (λ (f : Files). Knows f unshut older) (sym (seen-put file 1 header h)) (record {
            unshut_is = same_flags file unshut known.unshut_is shut ∙ flags-with file files headed false unshut (sym closed) known.unshut_is;
            older_is = λ discarded. known.older_is discarded ∙ ap (are_discarded discarded) (alone-older file files was-shut ∙ sym (shut-older file files headed headed-shut));
          })
        where
          same_flags : (number : ℕ) (unshut : Bool × Bool) → unshut ≡ flags files → is_unshut (of_file number files) ≡ false → unshut ≡ with_file number false unshut
          same_flags zero unshut is closed = let e : unshut.0 ≡ false = (λ i. (is i).0) ∙ closed in λ i. (e i, unshut.1)
          same_flags (suc number) unshut is closed = let e : unshut.1 ≡ false = (λ i. (is i).1) ∙ closed in λ i. (unshut.0, e i)

  -- While the gate of the next file is opened, and once it is.
  module _ (ready : IsPrepared bytes (next_generation current_end) (next_number current_end)) where
    abbrev place : Place
    place = next_place current_end

    closed-before : is_live bytes ≡ false
    closed-before = closed-shut bytes ready.closed

    -- what the file beside it tells
    abbrev Rest : Type 0
    Rest = ((is_live rest ≡ false) × (current_end ≡ None) × (some.0 ≡ []))
        ⊎ ((is_live rest ≡ true) × (file_frames (other_file file) rest ≡ Ok some.0)
        × (current_end ≡ Some (record { file = other_file file; generation = generation rest; gate = 28 + frames_size some.0; next = first_number rest + length some.0 })))

    rest-known : Rest
    rest-known = by_live (is_live rest) refl (sym (alone-frames file files closed-before) ∙ some.1) (settled.ends ∙ alone-current file files closed-before)
      where
        by_live : (b : Bool) → is_live rest ≡ b → (if b then file_frames (other_file file) rest else Ok []) ≡ Ok some.0 → current_end ≡ (if b then end_of (other_file file) rest (file_frames (other_file file) rest) else None) → Rest
        by_live false was frames_are ends = inl (was, ends, let e : [] ≡ some.0 = cc in sym e)
        by_live true was frames_are ends = inr (was, frames_are, ends ∙ ap (λ (r : Reading). end_of (other_file file) rest r) frames_are)

    module _ (image : List ℕ) (same : drop 1 image ≡ drop 1 bytes) (long : 29 ≤ length image) (opened : is_open (get_or image 0 0) ≡ true) where
      abbrev files' : Files
      files' = with_file file image files

      here : of_file file files' ≡ image
      here = of-with file image files

      beside-is : of_file (other_file file) files' ≡ rest
      beside-is = beside-with file image files

      live-here : is_live (of_file file files') ≡ true
      live-here = ap is_live here ∙ live-opened bytes (next_generation current_end) (next_number current_end) ready image same long opened

      none-here : file_frames file (of_file file files') ≡ Ok []
      none-here = ap (file_frames file) here ∙ frames-none bytes (next_generation current_end) (next_number current_end) ready image same long file

      made-here : generation (of_file file files') ≡ next_generation current_end
      made-here = ap generation here ∙ made-opened bytes (next_generation current_end) (next_number current_end) ready image same long

      first-here : first_number (of_file file files') ≡ next_number current_end
      first-here = ap first_number here ∙ first-opened bytes (next_generation current_end) (next_number current_end) ready image same long

      opened-behind : IsBehind files' file some.0
      opened-behind = elim rest-known [
        | inl none ↦ subst (λ (l : List Frame). IsBehind files' file l) (sym none.2) (alone-behind file (next-small current_end) files' live-here (ap is_live beside-is ∙ none.0) none-here)
        | inr known ↦ pair-behind file (next-small current_end) files' some.0 live-here (ap is_live beside-is ∙ known.0) (ap (file_frames (other_file file)) beside-is ∙ known.1) none-here
            (made-here ∙ ap next_generation known.2 ∙ ap (λ (l : List ℕ). generation l + 1) (sym beside-is))
            (first-here ∙ ap next_number known.2 ∙ ap (λ (l : List ℕ). first_number l + length some.0) (sym beside-is))
      ]

      opened-current : current files' ≡ Some place
      opened-current =
          let next_is : first_number (of_file file files') + 0 ≡ next_number current_end = omega (arith, first-here) in
          opened-behind.current_is ∙ (λ i. Some (record { file = file; generation = made-here i; gate = 28; next = next_is i }))

    -- which frames of the older file are discarded
    released-here : (discarded : ℕ) → is_released (last_behind current_end) discarded ≡ are_discarded discarded some.0
    released-here discarded = elim rest-known [
      | inl none ↦ ap (λ (o : Option Place). is_released (last_behind o) discarded) none.1 ∙ sym (ap (are_discarded discarded) none.2)
      | inr known ↦
          let ended : Place = record { file = other_file file; generation = generation rest; gate = 28 + frames_size some.0; next = first_number rest + length some.0 } in
          ap (λ (o : Option Place). is_released (last_behind o) discarded) known.2
          ∙ released-behind ended (first_number rest) some.0 (file-numbered (other_file file) rest some.0 known.1) refl refl discarded
    ]

    pub enter-leaves : (image : List ℕ) → IsTorn 0 1 bytes image → frames_of (with_file file image files) ≡ frames_now h
    enter-leaves image torn = by_gate (is_open (get_or image 0 0)) refl
      where
        by_gate : (b : Bool) → is_open (get_or image 0 0) ≡ b → frames_of (with_file file image files) ≡ frames_now h
        by_gate true opened = (opened-behind image torn.behind (omega (arith, ready.long, torn.no_shorter)) opened).frames_are ∙ sym some.1
        by_gate false closed = kept-frames file files image (closed-shut image closed) closed-before

    abbrev open_now : List ℕ
    open_now = overwritten 0 (1 ∷ []) bytes

    long-now : 29 ≤ length open_now
    long-now = omega (arith, length-drop 1 bytes, ready.long)

    now-seen : seen (entered file h) ≡ with_file file open_now files
    unfolding entered after_put
    now-seen = seen-put file 0 (1 ∷ []) h

    pub enter-frames : frames_now (entered file h) ≡ frames_now h
    enter-frames = ap frames_of now-seen ∙ (opened-behind open_now refl long-now refl).frames_are ∙ sym some.1

    pub enter-settled : IsSettled (entered file h) (Some place)
    unfolding entered after_put
    enter-settled = record {
      synced = synced-put file 0 (1 ∷ []) h settled.synced;
      readable = subst IsOk (sym enter-frames) settled.readable;
      ends = sym (ap current now-seen ∙ opened-current open_now refl long-now refl);
    }

    pub enter-known : (unshut : Bool × Bool) (older : Option ℕ) → Knows files unshut older → Knows (seen (entered file h)) (with_file file true unshut) (last_behind current_end)
    enter-known unshut older known = subst (λ (f : Files). Knows f (with_file file true unshut) (last_behind current_end)) (sym now-seen) (record {
      unshut_is = flags-with file files open_now true unshut (sym (live-unshut open_now (live-opened bytes (next_generation current_end) (next_number current_end) ready open_now refl long-now refl))) known.unshut_is;
      older_is = λ discarded. released-here discarded ∙ sym (ap (are_discarded discarded) (opened-behind open_now refl long-now refl).older_is);
    })
