-- What a crash may leave while both files are synced.
use Rattle.std.proofs.Common.{◌≡◌, ℕ, zero, suc, List, Option, Some, None, Result, IfSome, IsOk, refl, sym, ◌∙◌, subst}
use Rattle.std.specs.Option.{option_map, ForSome}
use Rattle.std.proofs.lemmas.Option.{same_Some}
use Rattle.st_disk.specs.History.{History, Files, MayLeave, after_sync, counted, seen}
use Rattle.st_disk.specs.Images.{image-settled}
use Rattle.st_disk.specs.FileState.{IsImage}
use Rattle.st_disk.specs.Moments.{LeavesOnly, ToldLeavesOnly, started, goes_on, goes_on-sync_counted}
use Rattle.st_queue.specs.Mounting.{IsImageOf, after_both}
use Rattle.st_queue.specs.Place.{current}
use Rattle.st_queue.specs.Reading.{IsReading}
use Rattle.st_queue.specs.Writing.{frames_now, IsSettled}
use Rattle.st_queue.specs.declared.place.Place.{Place}
use Rattle.st_queue.specs.declared.reading.Reading.{Reading}
use Rattle.st_queue.specs.declared.frame.QueueRefusal.{QueueRefusal}

-- a sync adds no image
synced_image : (file : ℕ) (h : History) → MayLeave h (seen h) → (images : Files) → MayLeave (counted (after_sync file h)) images → MayLeave h images
synced_image zero h reads images may = (subst (λ (l : _). IsImage h.now.0 l) (sym (image-settled h.now.0.seen images.0 may.0)) reads.0, may.1)
synced_image (suc file) h reads images may = (may.0, subst (λ (l : _). IsImage h.now.1 l) (sym (image-settled h.now.1.seen images.1 may.1)) reads.1)

abbrev Law : Option History → Type 0
Law told = (h : History) → told ≡ Some h → MayLeave h (seen h)

-- nothing was done
pub leaves-none : (told new : Option History) → new ≡ told → ToldLeavesOnly told new (IsImageOf told)
leaves-none None new same = same
leaves-none (Some h) new same = subst (λ (n : Option History). ToldLeavesOnly (Some h) n (IsImageOf (Some h))) (sym same) (started h (MayLeave h) (λ images may. may))

-- one sync
pub leaves-one : (told new : Option History) → new ≡ option_map (λ h. counted (after_sync 0 h)) told → Law told → ToldLeavesOnly told new (IsImageOf told)
leaves-one None new is law = is
leaves-one (Some h) new is law =
    subst (λ (n : Option History). ToldLeavesOnly (Some h) n (IsImageOf (Some h))) (sym is)
    (goes_on h h (counted (after_sync 0 h)) (MayLeave h) (started h (MayLeave h) (λ images may. may)) (goes_on-sync_counted 0 h) (synced_image 0 h (law h refl)))

-- both
pub leaves-both : (told mid new : Option History) → mid ≡ option_map (λ h. counted (after_sync 0 h)) told → new ≡ option_map (λ h. counted (after_sync 1 h)) mid → Law told → Law mid
    → (new ≡ option_map after_both told) × ToldLeavesOnly told new (IsImageOf told)
leaves-both None mid new is is' law law' = let none : new ≡ None = is' ∙ (λ i. option_map (λ h. counted (after_sync 1 h)) (is i)) in (none, none)
leaves-both (Some h) mid new is is' law law' =
    let middle = counted (after_sync 0 h) in
    let whole : new ≡ Some (after_both h) = is' ∙ (λ i. option_map (λ h. counted (after_sync 1 h)) (is i)) in
    let once : LeavesOnly h middle (MayLeave h) = goes_on h h middle (MayLeave h) (started h (MayLeave h) (λ images may. may)) (goes_on-sync_counted 0 h) (synced_image 0 h (law h refl)) in (
      whole,
      subst (λ (n : Option History). ToldLeavesOnly (Some h) n (IsImageOf (Some h))) (sym whole)
          (goes_on h middle (after_both h) (MayLeave h) once (goes_on-sync_counted 1 middle) (λ images may. synced_image 0 h (law h refl) images (synced_image 1 middle (law' middle is) images may))),
    )

-- what was read of the synced files is what they read as before
pub mount-answers : (told synced again : Option History) → synced ≡ option_map after_both told → again ≡ synced → (zero_bytes one_bytes : List ℕ)
    → IfSome synced (λ h. zero_bytes ≡ (seen h).0) → IfSome again (λ h. one_bytes ≡ (seen h).1)
    → (result : Result Reading QueueRefusal) → IsReading (zero_bytes, one_bytes) result → IfSome told (λ h. IsReading (seen h) result)
mount-answers told synced again is same zero_bytes one_bytes zero_is one_is result answers =
    answer told (subst (λ (t : Option History). IfSome t (λ h. zero_bytes ≡ (seen h).0)) is zero_is) (subst (λ (t : Option History). IfSome t (λ h. one_bytes ≡ (seen h).1)) (same ∙ is) one_is)
  where
    answer : (told : Option History) → IfSome (option_map after_both told) (λ h. zero_bytes ≡ (seen h).0) → IfSome (option_map after_both told) (λ h. one_bytes ≡ (seen h).1) → IfSome told (λ h. IsReading (seen h) result)
    answer None z o = tt
    answer (Some h) z o = let both : (zero_bytes, one_bytes) ≡ seen h = λ i. (z i, o i) in subst (λ (files : Files). IsReading files result) both answers

-- after both syncs
pub both-synced : (told new : Option History) → new ≡ option_map after_both told → (place : Option Place) → IfSome told (λ h. IsOk (frames_now h) × (place ≡ current (seen h))) → ForSome new (λ h. IsSettled h place)
both-synced None new is place known h e = absurd (cc (is, e))
both-synced (Some old) new is place known h e =
    subst (λ (h : History). IsSettled h place) (same_Some (after_both old) h (sym is ∙ e)) (record { synced = refl; readable = known.0; ends = known.1 })
