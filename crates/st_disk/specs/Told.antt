-- The laws of a disk in memory.
use Rattle.std.proofs.Common.{◌≡◌, ◌≤◌, ℕ, List, [], ◌∷◌, Some, refl, subst}
use Rattle.std.proofs.lemmas.Option.{same_Some}
use Rattle.std.specs.Option.{ForSome}
use Rattle.st_disk.specs.History.{History, MayLeave, after_sync, after_write, fresh, seen}
use Rattle.st_disk.specs.Left.{left}
use Rattle.st_disk.specs.Recorded.{Call, Recorded, after_calls, history_of, sync, write}
use Rattle.st_disk.specs.Recordings.{reads_as_image, leaves_an_image}

pub told_image : (m : Recorded) (h : History) → Some (history_of m) ≡ Some h → MayLeave h (seen h)
told_image m h is = subst (λ (h : History). MayLeave h (seen h)) (same_Some (history_of m) h is) (reads_as_image m)

-- calls leave how many of them may pass
passes-after : (calls : List Call) (h : History) → (after_calls calls h).passes ≡ h.passes
passes-after [] h = refl
passes-after (write file at bytes ∷ calls) h = passes-after calls (after_write file at bytes h)
passes-after (sync file ∷ calls) h = passes-after calls (after_sync file h)

pub told_within : (m : Recorded) (h : History) → Some (history_of m) ≡ Some h → ForSome h.passes (λ n. h.made ≤ n)
told_within m h is = subst (λ (h : History). ForSome h.passes (λ n. h.made ≤ n)) (same_Some (history_of m) h is)
    (λ n some. absurd (cc (passes-after m.calls (fresh m.start), some)))

pub told_left : (m : Recorded) (h : History) (choice : ℕ) → Some (history_of m) ≡ Some h → MayLeave h (left choice h.now)
told_left m h choice is = subst (λ (h : History). MayLeave h (left choice h.now)) (same_Some (history_of m) h is) (leaves_an_image m choice)
