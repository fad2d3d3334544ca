-- What a queue reads as where one of its files isn't live: the other file alone tells it.
use Rattle.std.proofs.Common.{◌≡◌, ◌<◌, if◌then◌else◌, nat_lt, ◌+◌, length, ℕ, zero, suc, Bool, true, false, List, [], Option, Some, None, Ok, Err, refl, sym, ◌∙◌, ap, subst, arith}
use Rattle.std.proofs.lemmas.Option.{same_Some}
use Rattle.st_disk.specs.History.{Files, of_file, with_file}
use Rattle.st_queue.specs.Due.{frames_or_none, live_frames, older_beside, older_frames}
use Rattle.st_queue.specs.Frames.{generation, first_number, is_live, file_frames, joined}
use Rattle.st_queue.specs.Place.{current, current_file, end_in, end_of, frames_size, other_file}
use Rattle.st_queue.specs.Writing.{frames_of}
use Rattle.st_queue.proofs.Current.{Reading}
use Rattle.st_queue.proofs.Puts.{beside-with}
use Rattle.st_queue.specs.declared.frame.Frame.{Frame}
use Rattle.st_queue.specs.declared.place.Place.{Place}

pub of-with : {X : Type 0} (file : ℕ) (x : X) (both : X × X) → of_file file (with_file file x both) ≡ x
of-with zero x both = refl
of-with (suc file) x both = refl

-- the choices that `frames` and `current_file` make
abbrev pub choice : Bool → Bool → Reading → Reading → Reading → Reading
choice a b first second both = if a then (if b then both else first) else if b then second else Ok []

abbrev pub file_choice : Bool → Bool → Bool → Option ℕ
file_choice a b c = if a then (if b then (if c then Some 1 else Some 0) else Some 0) else if b then Some 1 else None

-- what a queue reads as, where this is its one live file, or none is
abbrev pub rest_frames : ℕ → List ℕ → Reading
rest_frames file bytes = if is_live bytes then file_frames file bytes else Ok []

abbrev pub rest_file : ℕ → List ℕ → Option ℕ
rest_file file bytes = if is_live bytes then Some file else None

abbrev pub rest_end : ℕ → List ℕ → Option Place
rest_end file bytes = if is_live bytes then end_of file bytes (file_frames file bytes) else None

pub alone-frames : (file : ℕ) (files : Files) → is_live (of_file file files) ≡ false → frames_of files ≡ rest_frames (other_file file) (of_file (other_file file) files)
alone-frames zero files shut = λ i. choice (shut i) (is_live files.1) (file_frames 0 files.0) (file_frames 1 files.1) (joined files.0 files.1 (file_frames 0 files.0) (file_frames 1 files.1))
alone-frames (suc file) files shut = λ i. choice (is_live files.0) (shut i) (file_frames 0 files.0) (file_frames 1 files.1) (joined files.0 files.1 (file_frames 0 files.0) (file_frames 1 files.1))

pub alone-file : (file : ℕ) (files : Files) → is_live (of_file file files) ≡ false → current_file files ≡ rest_file (other_file file) (of_file (other_file file) files)
alone-file zero files shut = λ i. file_choice (shut i) (is_live files.1) (nat_lt (generation files.0) (generation files.1))
alone-file (suc file) files shut = λ i. file_choice (is_live files.0) (shut i) (nat_lt (generation files.0) (generation files.1))

-- the end of the one live file
end-chosen : (file : ℕ) (files : Files) (live : Bool)
    → end_in files (if live then Some file else None) ≡ (if live then end_of file (of_file file files) (file_frames file (of_file file files)) else None)
end-chosen file files true = refl
end-chosen file files false = refl

pub alone-current : (file : ℕ) (files : Files) → is_live (of_file file files) ≡ false → current files ≡ rest_end (other_file file) (of_file (other_file file) files)
alone-current file files shut =
    ap (λ (o : Option ℕ). end_in files o) (alone-file file files shut) ∙ end-chosen (other_file file) files (is_live (of_file (other_file file) files))

-- no frame stands in the file that isn't live
older-chosen : (file : ℕ) (files : Files) (live : Bool) → live_frames (other_file file) (of_file (other_file file) files) ≡ [] → older_beside files (if live then Some file else None) ≡ []
older-chosen file files true none = none
older-chosen file files false none = refl

pub alone-older : (file : ℕ) (files : Files) → is_live (of_file file files) ≡ false → older_frames files ≡ []
alone-older zero files shut =
    ap (λ (o : Option ℕ). older_beside files o) (alone-file zero files shut)
    ∙ older-chosen 1 files (is_live files.1) (λ i. if shut i then frames_or_none (file_frames 0 files.0) else [])
alone-older (suc file) files shut =
    ap (λ (o : Option ℕ). older_beside files o) (alone-file (suc file) files shut)
    ∙ older-chosen 0 files (is_live files.0) (λ i. if shut i then frames_or_none (file_frames 1 files.1) else [])

-- where no file is current, none is live
end-none : (file : ℕ) (bytes : List ℕ) (reading : Reading) (all : List Frame) → end_of file bytes reading ≡ None → reading ≡ Ok all → ⊥
end-none file bytes (Ok l) all none e = cc (none)
end-none file bytes (Err damage) all none e = cc (e)

joined-first : (z o : List ℕ) (first second : Reading) (all : List Frame) → end_of 0 z first ≡ None → joined z o first second ≡ Ok all → ⊥
joined-first z o (Ok l) second all none e = cc (none)
joined-first z o (Err damage) second all none e = cc (e)

joined-second : (z o : List ℕ) (first second : Reading) (all : List Frame) → end_of 1 o second ≡ None → joined z o first second ≡ Ok all → ⊥
joined-second z o first (Ok l) all none e = cc (none)
joined-second z o (Ok l) (Err damage) all none e = cc (e)
joined-second z o (Err damage') (Err damage) all none e = cc (e)

idle-by : (z o : List ℕ) (all : List Frame) (a b c : Bool) → is_live z ≡ a → is_live o ≡ b → choice a b (file_frames 0 z) (file_frames 1 o) (joined z o (file_frames 0 z) (file_frames 1 o)) ≡ Ok all → end_in (z, o) (file_choice a b c) ≡ None
    → (is_live z ≡ false) × (is_live o ≡ false)
idle-by z o all true true true la lb e none = absurd (joined-second z o (file_frames 0 z) (file_frames 1 o) all none e)
idle-by z o all true true false la lb e none = absurd (joined-first z o (file_frames 0 z) (file_frames 1 o) all none e)
idle-by z o all true false c la lb e none = absurd (end-none 0 z (file_frames 0 z) all none e)
idle-by z o all false true c la lb e none = absurd (end-none 1 o (file_frames 1 o) all none e)
idle-by z o all false false c la lb e none = (la, lb)

pub idle : (files : Files) (all : List Frame) → frames_of files ≡ Ok all → current files ≡ None → (is_live files.0 ≡ false) × (is_live files.1 ≡ false)
idle files all is none = idle-by files.0 files.1 all (is_live files.0) (is_live files.1) (nat_lt (generation files.0) (generation files.1)) refl refl is none

-- the current file, where one is live
pub record IsCurrent (files : Files) (file : ℕ) : Type 0 where
  pub file_is : current_file files ≡ Some file
  pub small : file < 2
  pub live : is_live (of_file file files) ≡ true

current-by : (z o : List ℕ) (a b c : Bool) → is_live z ≡ a → is_live o ≡ b → (file : ℕ) → file_choice a b c ≡ Some file → (file < 2) × (is_live (of_file file (z, o)) ≡ true)
current-by z o true true true la lb file is = subst (λ (f : ℕ). (f < 2) × (is_live (of_file f (z, o)) ≡ true)) (same_Some 1 file is) (omega arith, lb)
current-by z o true true false la lb file is = subst (λ (f : ℕ). (f < 2) × (is_live (of_file f (z, o)) ≡ true)) (same_Some 0 file is) (omega arith, la)
current-by z o true false c la lb file is = subst (λ (f : ℕ). (f < 2) × (is_live (of_file f (z, o)) ≡ true)) (same_Some 0 file is) (omega arith, la)
current-by z o false true c la lb file is = subst (λ (f : ℕ). (f < 2) × (is_live (of_file f (z, o)) ≡ true)) (same_Some 1 file is) (omega arith, lb)
current-by z o false false c la lb file is = absurd (cc (is))

file-of : (files : Files) (place : Place) (found : Option ℕ) → end_in files found ≡ Some place → found ≡ Some place.file
file-of files place None is = absurd (cc (is))
file-of files place (Some file) is = read (file_frames file (of_file file files)) is
  where
    read : (reading : Reading) → end_of file (of_file file files) reading ≡ Some place → Some file ≡ Some place.file
    read (Ok frames) e = ap (λ (p : Place). Some p.file) (same_Some (record { file = file; generation = generation (of_file file files); gate = 28 + frames_size frames; next = first_number (of_file file files) + length frames }) place e)
    read (Err damage) e = absurd (cc (e))

pub is-current : (files : Files) (place : Place) → Some place ≡ current files → IsCurrent files place.file
is-current files place is =
    let found = file-of files place (current_file files) (sym is) in
    let known = current-by files.0 files.1 (is_live files.0) (is_live files.1) (nat_lt (generation files.0) (generation files.1)) refl refl place.file found in
    record { file_is = found; small = known.0; live = known.1 }

-- A file that isn't live, with other bytes that aren't live either: the queue reads as before.
module _ (file : ℕ) (files : Files) (new : List ℕ) (shut : is_live new ≡ false) where
  shut-now : is_live (of_file file (with_file file new files)) ≡ false
  shut-now = ap is_live (of-with file new files) ∙ shut

  pub shut-frames : frames_of (with_file file new files) ≡ rest_frames (other_file file) (of_file (other_file file) files)
  shut-frames = alone-frames file (with_file file new files) shut-now ∙ ap (rest_frames (other_file file)) (beside-with file new files)

  pub shut-current : current (with_file file new files) ≡ rest_end (other_file file) (of_file (other_file file) files)
  shut-current = alone-current file (with_file file new files) shut-now ∙ ap (rest_end (other_file file)) (beside-with file new files)

  pub shut-older : older_frames (with_file file new files) ≡ []
  shut-older = alone-older file (with_file file new files) shut-now

  module _ (before : is_live (of_file file files) ≡ false) where
    pub kept-frames : frames_of (with_file file new files) ≡ frames_of files
    kept-frames = shut-frames ∙ sym (alone-frames file files before)

    pub kept-current : current (with_file file new files) ≡ current files
    kept-current = shut-current ∙ sym (alone-current file files before)
