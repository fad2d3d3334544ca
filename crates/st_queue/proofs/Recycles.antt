-- What each step of a turn to the next file does to a disk, as it is told.
use Rattle.std.proofs.Common.{◌≡◌, ◌≤◌, ◌^◌, if◌then◌else◌, nat_lt, ℕ, Bool, true, false, List, [], ◌∷◌, length, Option, Some, None, Result, Ok, Err, OnOk, IsErrOf, IfSome, refl, sym, ◌∙◌, ap, subst, arith}
use Rattle.std.specs.Option.{option_map, ForSome}
use Rattle.std.proofs.lemmas.Bool.Decides.{nat_tests}
use Rattle.std.proofs.lemmas.Option.{same_Some}
use Rattle.st_disk.specs.Images.{IsTorn}
use Rattle.st_disk.specs.History.{History, Files, of_file, with_file, seen}
use Rattle.st_disk.specs.Calls.{made}
use Rattle.st_disk.specs.Moments.{ToldLeavesOnly, started, weaker}
use Rattle.st_queue.specs.Place.{is_unshut, next_file, next_generation, next_number, next_place, spent}
use Rattle.st_queue.specs.Prepared.{IsPrepared, ToldPrepared, ToldUnshut, ToldReleased, Shuts, Heads, Enters}
use Rattle.st_queue.specs.Reading.{Fits}
use Rattle.st_queue.specs.Writing.{put_calls, after_put, entered, header_bytes, shut_first, frames_now, frames_of, told_frames, IsSettled, ToldSettled, ToldLess, LeavesTorn, HasFrames, HasFramesLess, HasLess}
use Rattle.st_queue.proofs.Appends.{told-settled}
use Rattle.st_queue.proofs.Current.{Reading}
use Rattle.st_queue.proofs.Puts.{image-synced}
use Rattle.st_queue.proofs.Turns.{next-small, less-all, shut-leaves, shut-whole, header-leaves, header-begins, header-settled, header-prepared, header-frames, enter-leaves, enter-frames, enter-settled}
use Rattle.st_queue.specs.declared.frame.QueueRefusal.{QueueRefusal}
use Rattle.st_queue.specs.declared.frame.QueueRefusal.TheVariants.{NoMemory}
use Rattle.st_queue.specs.declared.place.Place.{Place}

abbrev pub Settled : Option History → Option Place → Type 0
Settled told place = ForSome told (λ h. IsSettled h place)

-- each torn write leaves files with a property
pub torn-weaker : (file at count : ℕ) (told new : Option History) (P : History → Files → Type 0) → ToldLeavesOnly told new (LeavesTorn file at count told)
    → ForSome told (λ h. (image : List ℕ) → IsTorn at count (of_file file (seen h)) image → P h (with_file file image (seen h))) → ToldLeavesOnly told new (λ images. IfSome told (λ h. P h images))
torn-weaker file at count None new P leaves keeps = leaves
torn-weaker file at count (Some h) None P leaves keeps = leaves
torn-weaker file at count (Some h) (Some new) P leaves keeps =
    weaker h new (LeavesTorn file at count (Some h)) (P h) leaves (λ images torn. subst (λ (f : Files). P h f) (sym torn.other) (keeps h refl (of_file file images) torn.torn))

-- nothing was done
pub leaves-all : (place : Option Place) (told new : Option History) → new ≡ told → Settled told place → ToldLeavesOnly told new (HasFrames told)
leaves-all place None new same settled = same
leaves-all place (Some h) new same settled =
    subst (λ (n : Option History). ToldLeavesOnly (Some h) n (HasFrames (Some h))) (sym same) (started h (HasFrames (Some h)) (λ images may. ap frames_of (image-synced h (settled h refl).synced images may)))

-- the frames, less none
pub less-none : (from : ℕ) (told new : Option History) → ToldLeavesOnly told new (HasFrames told) → ToldLeavesOnly told new (HasFramesLess from told)
less-none from None new leaves = leaves
less-none from (Some h) None leaves = leaves
less-none from (Some h) (Some new) leaves =
    weaker h new (HasFrames (Some h)) (HasFramesLess from (Some h)) leaves (λ images same. subst (λ (r : Reading). HasLess from (frames_now h) r) (sym same) (less-all from (frames_now h)))

-- what is known of a history that another one goes on to
pub known-of : (P : History → Type 0) (step : History → History) (told new : Option History) → new ≡ option_map step told → ForSome told (λ h. P (step h)) → ForSome new P
known-of P step None new is known h e = absurd (cc (is, e))
known-of P step (Some old) new is known h e = subst P (same_Some (step old) h (sym is ∙ e)) (known old refl)

-- the next file was shut before, or is shut now
shut-now : (file : ℕ) (flag : Bool) (told : Option History) → flag ≡ true → ToldUnshut file flag told → option_map (after_put file 0 (0 ∷ [])) told ≡ option_map (shut_first file) told
unfolding shut_first after_put
shut-now file flag None flag_is unshut = refl
shut-now file flag (Some h) flag_is unshut = ap (λ (b : Bool). Some (made (if b then put_calls file 0 (0 ∷ []) else []) h)) (sym (sym (unshut h refl) ∙ flag_is))

shut-before : (file : ℕ) (flag : Bool) (told : Option History) → flag ≡ false → ToldUnshut file flag told → told ≡ option_map (shut_first file) told
unfolding shut_first
shut-before file flag None flag_is unshut = refl
shut-before file flag (Some h) flag_is unshut = ap (λ (b : Bool). Some (made (if b then put_calls file 0 (0 ∷ []) else []) h)) (sym (sym (unshut h refl) ∙ flag_is))

-- a file may have both numbers where none is spent
pub unspent : (end : Option Place) → spent end ≡ None → (next_generation end ≤ 2 ^ 62) × (next_number end ≤ 2 ^ 62)
unspent end none = by_tests (nat_lt (2 ^ 62) (next_generation end)) (nat_lt (2 ^ 62) (next_number end)) refl refl none
  where
    by_tests : (a b : Bool) → nat_lt (2 ^ 62) (next_generation end) ≡ a → nat_lt (2 ^ 62) (next_number end) ≡ b → (if a then Some (next_generation end) else if b then Some (next_number end) else None) ≡ None
        → (next_generation end ≤ 2 ^ 62) × (next_number end ≤ 2 ^ 62)
    by_tests true b one two e = absurd (cc (e))
    by_tests false true one two e = absurd (cc (e))
    by_tests false false one two e = (grind (arith, nat_tests), grind (arith, nat_tests))

-- so there is room for a frame
pub next-fits : (end : Option Place) → spent end ≡ None → Fits (next_place end)
next-fits end none = let small = unspent end none in (next-small end, omega arith, omega (arith, small.1), small.0)

module _ (end : Option Place) (told : Option History) (settled : Settled told end) where
  abbrev file : ℕ
  file = next_file end

  shut-done : (new : Option History) → new ≡ option_map (shut_first file) told → ToldSettled new end × ToldUnshut file false new
  shut-done new is = (
    told-settled end new (known-of (λ h. IsSettled h end) (shut_first file) told new is (λ h e. (shut-whole h end (settled h e) (false, false) None).settled_now)),
    known-of (λ h. false ≡ is_unshut (of_file file (seen h))) (shut_first file) told new is (λ h e. sym (shut-whole h end (settled h e) (false, false) None).shut_now),
  )

  shut-less : (new : Option History) → new ≡ option_map (shut_first file) told → (from : ℕ) → ToldReleased from told → ToldLess from told new
  shut-less new is from released = subst (λ (n : Option History). ToldLess from told n) (sym is) (by_told told settled released)
    where
      by_told : (told : Option History) → Settled told end → ToldReleased from told → ToldLess from told (option_map (shut_first file) told)
      by_told None settled released = tt
      by_told (Some h) settled released = (shut-whole h end (settled h refl) (false, false) None).less from (released h refl)

  shut-ends : (new : Option History) (result : Result (Unit {0}) QueueRefusal) → OnOk result (new ≡ option_map (shut_first file) told) → (IsErrOf result NoMemory → new ≡ told)
      → ((from : ℕ) → ToldReleased from told → ToldLeavesOnly told new (HasFramesLess from told)) → Shuts told new end result
  shut-ends new (Ok u) calls same leaves = record {
    calls = calls;
    settled = shut-done new calls;
    same = same;
    less = λ from released. shut-less new calls from released;
    any_moment = leaves;
  }
  shut-ends new (Err refusal) calls same leaves = record {
    calls = tt;
    settled = tt;
    same = same;
    less = λ from released. tt;
    any_moment = leaves;
  }

  pub shuts : (new : Option History) (result : Result (Unit {0}) QueueRefusal) (flag : Bool) → flag ≡ true → ToldUnshut file flag told → OnOk result (new ≡ option_map (after_put file 0 (0 ∷ [])) told) → (IsErrOf result NoMemory → new ≡ told)
      → ToldLeavesOnly told new (LeavesTorn file 0 1 told) → Shuts told new end result
  shuts new result flag flag_is unshut ok same leaves =
      shut-ends new result (whole result ok) same
      (λ from released. torn-weaker file 0 1 told new (λ h images. HasLess from (frames_now h) (frames_of images)) leaves (λ h e image torn. shut-leaves h end (settled h e) image (sym (unshut h e) ∙ flag_is) torn from (released h e)))
    where
      whole : (result : Result (Unit {0}) QueueRefusal) → OnOk result (new ≡ option_map (after_put file 0 (0 ∷ [])) told) → OnOk result (new ≡ option_map (shut_first file) told)
      whole (Ok u) ok = ok ∙ shut-now file flag told flag_is unshut
      whole (Err refusal) ok = tt

  pub shuts-none : (flag : Bool) → flag ≡ false → ToldUnshut file flag told → Shuts told told end (Ok tt)
  shuts-none flag flag_is unshut = shut-ends told (Ok tt) (shut-before file flag told flag_is unshut) (λ e. refl) (λ from released. less-none from told told (leaves-all end told told refl settled))

  module _ (shut : ToldUnshut file false told) (none : spent end ≡ None) where
    abbrev header : List ℕ
    header = header_bytes (next_generation end) (next_number end)

    head-done : (new : Option History) → new ≡ option_map (after_put file 1 header) told → (ToldSettled new end × ToldPrepared new (next_place end)) × (told_frames new ≡ told_frames told)
    head-done new is =
        let small = unspent end none in (
          (
            told-settled end new (known-of (λ h. IsSettled h end) (after_put file 1 header) told new is (λ h e. header-settled h end (settled h e) (sym (shut h e)) (next_generation end) (next_number end) small.0 small.1)),
            known-of (λ h. IsPrepared (of_file file (seen h)) (next_generation end) (next_number end)) (after_put file 1 header) told new is (λ h e. header-prepared h end (settled h e) (sym (shut h e)) (next_generation end) (next_number end) small.0 small.1),
          ),
          ap told_frames is ∙ frames told settled shut,
        )
      where
        frames : (told : Option History) → Settled told end → ToldUnshut file false told → told_frames (option_map (after_put file 1 header) told) ≡ told_frames told
        frames None settled shut = refl
        frames (Some h) settled shut = let small = unspent end none in ap (λ (r : Reading). Some r) (header-frames h end (settled h refl) (sym (shut h refl)) (next_generation end) (next_number end) small.0 small.1)

    head-leaves : (new : Option History) → ToldLeavesOnly told new (LeavesTorn file 1 (length header) told) → ToldLeavesOnly told new (HasFrames told)
    head-leaves new leaves =
        torn-weaker file 1 (length header) told new (λ h images. frames_of images ≡ frames_now h) leaves (λ h e image torn. header-leaves h end (settled h e) (sym (shut h e)) (length header) image torn)

    pub heads : (new : Option History) (result : Result (Unit {0}) QueueRefusal) → OnOk result (new ≡ option_map (after_put file 1 header) told) → (IsErrOf result NoMemory → new ≡ told)
        → ToldLeavesOnly told new (LeavesTorn file 1 (length header) told) → Heads told new end result
    heads new (Ok u) ok same leaves = let done = head-done new ok in record {
      calls = ok;
      settled = done.0;
      frames = done.1;
      same = same;
      any_moment = head-leaves new leaves;
    }
    heads new (Err refusal) ok same leaves = record {
      calls = tt;
      settled = tt;
      frames = tt;
      same = same;
      any_moment = head-leaves new leaves;
    }

    pub head-begins : ForSome told (λ h. 1 ≤ length (of_file file (seen h)))
    head-begins h e = header-begins h end (settled h e) (sym (shut h e))

  pub heads-none : (new : Option History) (result : Result (Unit {0}) QueueRefusal) → result ≡ Err NoMemory → new ≡ told → Heads told new end result
  heads-none new result is same = subst (λ (r : Result (Unit {0}) QueueRefusal). Heads told new end r) (sym is) (record {
    calls = tt;
    settled = tt;
    frames = tt;
    same = λ _. same;
    any_moment = leaves-all end told new same settled;
  })

  module _ (ready : ToldPrepared told (next_place end)) where
    enter-done : (new : Option History) → new ≡ option_map (entered file) told → ToldSettled new (Some (next_place end)) × (told_frames new ≡ told_frames told)
    enter-done new is = (
      told-settled (Some (next_place end)) new (known-of (λ h. IsSettled h (Some (next_place end))) (entered file) told new is (λ h e. enter-settled h end (settled h e) (ready h e))),
      ap told_frames is ∙ frames told settled ready,
    )
      where
        frames : (told : Option History) → Settled told end → ToldPrepared told (next_place end) → told_frames (option_map (entered file) told) ≡ told_frames told
        frames None settled ready = refl
        frames (Some h) settled ready = ap (λ (r : Reading). Some r) (enter-frames h end (settled h refl) (ready h refl))

    enter-moment : (new : Option History) → ToldLeavesOnly told new (LeavesTorn file 0 1 told) → ToldLeavesOnly told new (HasFrames told)
    enter-moment new leaves =
        torn-weaker file 0 1 told new (λ h images. frames_of images ≡ frames_now h) leaves (λ h e image torn. enter-leaves h end (settled h e) (ready h e) image torn)

    pub enters : (new : Option History) (result : Result (Unit {0}) QueueRefusal) → OnOk result (new ≡ option_map (after_put file 0 (1 ∷ [])) told) → (IsErrOf result NoMemory → new ≡ told)
        → ToldLeavesOnly told new (LeavesTorn file 0 1 told) → Enters told new (next_place end) result
    unfolding entered after_put
    enters new (Ok u) ok same leaves = record {
      calls = ok;
      settled = enter-done new ok;
      same = same;
      any_moment = enter-moment new leaves;
    }
    enters new (Err refusal) ok same leaves = record {
      calls = tt;
      settled = tt;
      same = same;
      any_moment = enter-moment new leaves;
    }

-- what the writes ask of the disk
pub begins : (file : ℕ) (told : Option History) → ForSome told (λ h. 0 ≤ length (of_file file (seen h)))
begins file told h is = omega arith
