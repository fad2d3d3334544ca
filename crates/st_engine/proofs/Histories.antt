-- What a disk that tells its history reads as while a commit is written, and afterwards.
use Rattle.std.proofs.Common.{◌≡◌, ⊎_elim, inl, inr, ℕ, List, Option, Some, None, Result, Ok, Err, IsOk, refl, sym, subst, arith}
use Rattle.std.proofs.lemmas.Option.{same_Some}
use Rattle.std.specs.Option.{option_map}
use Rattle.st_disk.specs.FileState.{settled}
use Rattle.st_disk.specs.History.{History, Files, FileStates, CanLeave, MayLeave, seen}
use Rattle.st_disk.specs.Images.{image-seen, image-settled, sound-settled}
use Rattle.st_disk.specs.Moments.{ToldLeavesOnly, joined, started, weaker}
use Rattle.st_queue.specs.Frames.{Damage}
use Rattle.st_queue.specs.Writing.{HasFrames, HasFramesLess, HasFramesOrMore, HasLess, IsSynced, ToldSettled, frames_now, frames_of, told_frames, with_frame}
use Rattle.st_queue.specs.declared.frame.Frame.{Frame}
use Rattle.st_queue.specs.declared.place.Place.{Place}
use Rattle.st_engine.specs.Answers.{HasLessOrMore, HasOneMore, ToldFewer, ToldOneMore}

abbrev Reading : Type 0
Reading = Result (List Frame) Damage

-- what a synced disk reads as is what a crash leaves
pub seen-image : (h : History) → IsSynced h → MayLeave h (seen h)
seen-image h synced =
    let zero = (seen h).0 in
    let one = (seen h).1 in
    subst (λ (now : FileStates). CanLeave now (zero, one)) (sym synced) (image-seen (settled zero) (sound-settled zero), image-seen (settled one) (sound-settled one))

-- and nothing else
pub image-synced : (h : History) → IsSynced h → (images : Files) → MayLeave h images → images ≡ seen h
image-synced h synced images may =
    let now : CanLeave (settled (seen h).0, settled (seen h).1) images = subst (λ (now : FileStates). CanLeave now images) synced may in
    let zero = image-settled (seen h).0 images.0 now.0 in
    let one = image-settled (seen h).1 images.1 now.1 in
    λ i. (zero i, one i)

-- what a crash left at each moment holds of a settled disk
pub less-now : (from : ℕ) (told new : Option History) (place : Option Place) → ToldLeavesOnly told new (HasFramesLess from told) → ToldSettled new place → ToldFewer from told new
less-now from None new place leaves is = tt
less-now from (Some h) None place leaves is = tt
less-now from (Some h) (Some n) place leaves is = leaves.each (seen n) (inl (seen-image n is.synced))

-- fewer frames, and then the same
pub joined-frames : (from : ℕ) (told mid new : Option History) → ToldLeavesOnly told mid (HasFramesLess from told) → ToldFewer from told mid → ToldLeavesOnly mid new (HasFrames mid) → ToldLeavesOnly told new (HasFramesLess from told)
joined-frames from None mid new first less second = subst (λ (m : Option History). ToldLeavesOnly m new (HasFrames mid)) first second
joined-frames from (Some h) None new first less second = absurd first
joined-frames from (Some h) (Some m) None first less second = absurd second
joined-frames from (Some h) (Some m) (Some n) first less second =
    joined h m n (HasFramesLess from (Some h)) first
    (weaker m n (HasFrames (Some m)) (HasFramesLess from (Some h)) second (λ images same. subst (λ (r : Reading). HasLess from (frames_now h) r) (sym same) less))

-- one frame behind fewer
more : (from : ℕ) (frame : Frame) (older left reading : Reading) → HasLess from older left → IsOk left → reading ≡ with_frame frame left → HasOneMore from frame older reading
more from frame older (Err damage) reading less ok is = absurd (cc (ok))
more from frame older (Ok left) reading less ok is = record { left = left; less = less; others = is }

-- fewer frames, and then the same or one more
pub joined-more : (from : ℕ) (frame : Frame) (told mid new : Option History) (place : Option Place) → ToldLeavesOnly told mid (HasFramesLess from told) → ToldFewer from told mid → ToldSettled mid place
    → ToldLeavesOnly mid new (HasFramesOrMore frame mid) → ToldLeavesOnly told new (HasLessOrMore from frame told)
joined-more from frame None mid new place first less settled second = subst (λ (m : Option History). ToldLeavesOnly m new (HasFramesOrMore frame mid)) first second
joined-more from frame (Some h) None new place first less settled second = absurd first
joined-more from frame (Some h) (Some m) None place first less settled second = absurd second
joined-more from frame (Some h) (Some m) (Some n) place first less settled second =
    joined h m n (HasLessOrMore from frame (Some h))
    (weaker h m (HasFramesLess from (Some h)) (HasLessOrMore from frame (Some h)) first (λ images fewer. inl fewer))
    (weaker m n (HasFramesOrMore frame (Some m)) (HasLessOrMore from frame (Some h)) second (λ images either. ⊎_elim
    (λ same. inl (subst (λ (r : Reading). HasLess from (frames_now h) r) (sym same) less))
    (λ is. inr (more from frame (frames_now h) (frames_now m) (frames_of images) less settled.readable is))
    either))

pub fewer-or-more : (from : ℕ) (frame : Frame) (told new : Option History) → ToldLeavesOnly told new (HasFramesLess from told) → ToldLeavesOnly told new (HasLessOrMore from frame told)
fewer-or-more from frame None new leaves = leaves
fewer-or-more from frame (Some h) None leaves = leaves
fewer-or-more from frame (Some h) (Some n) leaves = weaker h n (HasFramesLess from (Some h)) (HasLessOrMore from frame (Some h)) leaves (λ images fewer. inl fewer)

pub one-more : (from : ℕ) (frame : Frame) (told mid new : Option History) (place : Option Place) → ToldFewer from told mid → ToldSettled mid place
    → told_frames new ≡ option_map (with_frame frame) (told_frames mid) → ToldOneMore from frame told new
one-more from frame None mid new place less settled is = tt
one-more from frame (Some h) mid None place less settled is = tt
one-more from frame (Some h) None (Some n) place less settled is = absurd (cc (is))
one-more from frame (Some h) (Some m) (Some n) place less settled is =
    more from frame (frames_now h) (frames_now m) (frames_now n) less settled.readable (same_Some (frames_now n) (with_frame frame (frames_now m)) is)

pub still-less : (from : ℕ) (told mid new : Option History) → ToldFewer from told mid → told_frames new ≡ told_frames mid → ToldFewer from told new
still-less from None mid new less is = tt
still-less from (Some h) mid None less is = tt
still-less from (Some h) None (Some n) less is = absurd (cc (is))
still-less from (Some h) (Some m) (Some n) less is = subst (λ (r : Reading). HasLess from (frames_now h) r) (sym (same_Some (frames_now n) (frames_now m) is)) less

-- nothing was done
pub all-less : (from : ℕ) (told : Option History) → ToldFewer from told told
all-less from None = tt
all-less from (Some h) = all (frames_now h)
  where
    all : (reading : Reading) → HasLess from reading reading
    all (Ok frames) = record { gone = 0; others = refl; discarded = λ k d inside. absurd (omega arith) }
    all (Err damage) = refl

pub leaves-less : (from : ℕ) (told : Option History) (place : Option Place) → ToldSettled told place → ToldLeavesOnly told told (HasFramesLess from told)
leaves-less from None place settled = refl
leaves-less from (Some h) place settled =
    started h (HasFramesLess from (Some h)) (λ images may. subst (λ (f : Files). HasLess from (frames_now h) (frames_of f)) (sym (image-synced h settled.synced images may)) (all-less from (Some h)))
