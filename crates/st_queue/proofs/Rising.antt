-- The numbers of a queue's frames rise, and the next number is above them.
use Rattle.std.proofs.Common.{◌≡◌, ◌<◌, ◌≤◌, ◌+◌, ⊎_elim, if◌then◌else◌, ℕ, Bool, true, false, List, [], ◌∷◌, ◌++◌, length, Option, None, Result, Ok, Err, IfOk, refl, sym, ◌∙◌, ap, subst, arith, length-append}
use Rattle.std.specs.List.{AllByRecursion}
use Rattle.st_disk.specs.History.{Files}
use Rattle.st_queue.specs.Frames.{first_number, goes_on, is_live, file_frames, joined}
use Rattle.st_queue.specs.Place.{current, end_of, next_number}
use Rattle.st_queue.specs.Reading.{IsReading, Rises}
use Rattle.st_queue.specs.Writing.{frames_of}
use Rattle.st_queue.proofs.Alone.{alone-current, choice}
use Rattle.st_queue.proofs.Current.{current-one, current-zero}
use Rattle.st_queue.proofs.Numbers.{AreNumbered, file-numbered}
use Rattle.st_queue.proofs.Pair.{goes-newer, joined-parts}
use Rattle.st_queue.specs.declared.frame.Frame.{Frame}
use Rattle.st_queue.specs.declared.frame.QueueRefusal.{QueueRefusal}
use Rattle.st_queue.specs.declared.place.Place.{Place}
use Rattle.st_queue.specs.declared.reading.Reading.{Reading}

numbered-rise : (from number : ℕ) (frames : List Frame) → from ≤ number → AreNumbered number frames → Rises from frames
numbered-rise from number [] above numbered = tt
numbered-rise from number (frame ∷ frames) above numbered = (omega (arith, numbered.0), numbered-rise (frame.seq + 1) (number + 1) frames (omega (arith, numbered.0)) numbered.1)

numbered-below : (next number : ℕ) (frames : List Frame) → number + length frames ≤ next → AreNumbered number frames → AllByRecursion (λ frame. frame.seq < next) frames
numbered-below next number [] fits numbered = tt
numbered-below next number (frame ∷ frames) fits numbered = (omega (arith, numbered.0), numbered-below next (number + 1) frames (omega arith) numbered.1)

numbered-append : (number : ℕ) (first second : List Frame) → AreNumbered number first → AreNumbered (number + length first) second → AreNumbered number (first ++ second)
numbered-append number [] second one two = let same : number + 0 ≡ number = omega arith in subst (λ (n : ℕ). AreNumbered n second) same two
numbered-append number (frame ∷ frames) second one two =
    let same : number + length (frame ∷ frames) ≡ number + 1 + length frames = omega arith in
    (one.0, numbered-append (number + 1) frames second one.1 (subst (λ (n : ℕ). AreNumbered n second) same two))

-- the frames have numbers one after another, all below this one
pub record AreBelow (next : ℕ) (frames : List Frame) : Type 0 where
  pub first : ℕ
  pub numbered : AreNumbered first frames
  pub ends : first + length frames ≤ next

below-rise : (next : ℕ) (frames : List Frame) → AreBelow next frames → Rises 0 frames
below-rise next frames known = numbered-rise 0 known.first frames (omega arith) known.numbered

below-all : (next : ℕ) (frames : List Frame) → AreBelow next frames → AllByRecursion (λ frame. frame.seq < next) frames
below-all next frames known = numbered-below next known.first frames known.ends known.numbered

-- of a live file
file-below : (file : ℕ) (bytes : List ℕ) (frames : List Frame) → file_frames file bytes ≡ Ok frames → AreBelow (next_number (end_of file bytes (file_frames file bytes))) frames
file-below file bytes frames read =
    let ends : next_number (end_of file bytes (file_frames file bytes)) ≡ first_number bytes + length frames = ap (λ (r : Result (List Frame) _). next_number (end_of file bytes r)) read in
    record { first = first_number bytes; numbered = file-numbered file bytes frames read; ends = omega (arith, ends) }

-- of two, the newer of which goes on where the older one ends
pair-below : (file other : ℕ) (older newer : List ℕ) (first second : List Frame) → file_frames file older ≡ Ok first → file_frames other newer ≡ Ok second → goes_on older (length first) newer ≡ true
    → AreBelow (next_number (end_of other newer (file_frames other newer))) (first ++ second)
pair-below file other older newer first second first_is second_is goes =
    let begins = (goes-newer older (length first) newer goes).1 in
    let after = file-below other newer second second_is in
    let ends : next_number (end_of other newer (file_frames other newer)) ≡ first_number newer + length second = ap (λ (r : Result (List Frame) _). next_number (end_of other newer r)) second_is in
    record {
      first = first_number older;
      numbered = numbered-append (first_number older) first second (file-numbered file older first first_is) (subst (λ (n : ℕ). AreNumbered n second) begins (file-numbered other newer second second_is));
      ends = omega (arith, ends, begins, length-append first second);
    }

both-below : (z o : List ℕ) (all : List Frame) → is_live z ≡ true → is_live o ≡ true → joined z o (file_frames 0 z) (file_frames 1 o) ≡ Ok all → AreBelow (next_number (current (z, o))) all
both-below z o all live live_one is =
    let known = joined-parts z o (file_frames 0 z) (file_frames 1 o) all is in
    ⊎_elim
    (λ here. let made = (goes-newer z (length known.first) o here.0).0 in
    subst (λ (l : List Frame). AreBelow (next_number (current (z, o))) l) here.1
    (subst (λ (p : Option Place). AreBelow (next_number p) (known.first ++ known.second)) (sym (current-one z o live live_one (omega (arith, made))))
    (pair-below 0 1 z o known.first known.second known.first_is known.second_is here.0)))
    (λ there. let made = (goes-newer o (length known.second) z there.0).0 in
    subst (λ (l : List Frame). AreBelow (next_number (current (z, o))) l) there.1
    (subst (λ (p : Option Place). AreBelow (next_number p) (known.second ++ known.first)) (sym (current-zero z o live live_one (omega (arith, made))))
    (pair-below 1 0 o z known.second known.first known.second_is known.first_is there.0)))
    known.order

-- of a queue
files-below : (files : Files) (all : List Frame) → frames_of files ≡ Ok all → AreBelow (next_number (current files)) all
files-below files all is = by_live (is_live files.0) (is_live files.1) refl refl is
  where
    by_live : (a b : Bool) → is_live files.0 ≡ a → is_live files.1 ≡ b → choice a b (file_frames 0 files.0) (file_frames 1 files.1) (joined files.0 files.1 (file_frames 0 files.0) (file_frames 1 files.1)) ≡ Ok all
        → AreBelow (next_number (current files)) all
    by_live true true la lb e = both-below files.0 files.1 all la lb e
    by_live true false la lb e =
        let alone : current files ≡ end_of 0 files.0 (file_frames 0 files.0) = alone-current 1 files lb ∙ (λ i. if la i then end_of 0 files.0 (file_frames 0 files.0) else None) in
        subst (λ (p : Option Place). AreBelow (next_number p) all) (sym alone) (file-below 0 files.0 all e)
    by_live false true la lb e =
        let alone : current files ≡ end_of 1 files.1 (file_frames 1 files.1) = alone-current 0 files la ∙ (λ i. if lb i then end_of 1 files.1 (file_frames 1 files.1) else None) in
        subst (λ (p : Option Place). AreBelow (next_number p) all) (sym alone) (file-below 1 files.1 all e)
    by_live false false la lb e = subst (λ (l : List Frame). AreBelow (next_number (current files)) l) (let same : [] ≡ all = cc in same) (record { first = 0; numbered = tt; ends = omega arith })

-- of what a reading answers
abbrev pub ReadsBelow : Result Reading QueueRefusal → Type 0
ReadsBelow result = IfOk result (λ reading. AreBelow (next_number reading.current) reading.frames.items)

pub reading-below : (files : Files) (result : Result Reading QueueRefusal) → IsReading files result → ReadsBelow result
reading-below files (Ok reading) reads =
    subst (λ (p : Option Place). AreBelow (next_number p) reading.frames.items) (sym reads.1) (files-below files reading.frames.items reads.0)
reading-below files (Err refusal) reads = tt

pub alone-below : (file : ℕ) (bytes : List ℕ) (result : Result Reading QueueRefusal) → IfOk result (λ reading. file_frames file bytes ≡ Ok reading.frames.items) → IfOk result (λ reading. reading.current ≡ end_of file bytes (file_frames file bytes)) → ReadsBelow result
alone-below file bytes (Ok reading) frames_are ends_are =
    subst (λ (p : Option Place). AreBelow (next_number p) reading.frames.items) (sym ends_are) (file-below file bytes reading.frames.items frames_are)
alone-below file bytes (Err refusal) frames_are ends_are = tt

pub reading-rises : (result : Result Reading QueueRefusal) → ReadsBelow result → IfOk result (λ reading. Rises 0 reading.frames.items)
reading-rises (Ok reading) known = below-rise (next_number reading.current) reading.frames.items known
reading-rises (Err refusal) known = tt

pub reading-next : (result : Result Reading QueueRefusal) → ReadsBelow result → IfOk result (λ reading. AllByRecursion (λ frame. frame.seq < next_number reading.current) reading.frames.items)
reading-next (Ok reading) known = below-all (next_number reading.current) reading.frames.items known
reading-next (Err refusal) known = tt
