-- What a queue asks of its disk when it is mounted.
use Rattle.std.specs.Prelude.{◌≡◌, ◌≤◌, ◌⊎◌, ℕ, List, [], ◌∷◌, Option, Result, IfSome, IsErrOf}
use Rattle.std.specs.Option.{option_map}
use Rattle.st_disk.specs.History.{History, Files, MayLeave, risen}
use Rattle.st_disk.specs.Recorded.{Call, sync}
use Rattle.st_disk.specs.Calls.{made, ToldStoppedIn}
use Rattle.st_queue.specs.declared.frame.QueueRefusal.{QueueRefusal}
use Rattle.st_queue.specs.declared.frame.QueueRefusal.TheVariants.{Damaged, NoMemory, DiskFault, Broken, Full}

-- A crash may leave this of the disk, where it tells its history.
abbrev pub IsImageOf : Option History → Files → Type 0
IsImageOf told images = IfSome told (λ h. MayLeave h images)

-- a sync of file 0 and one of file 1
abbrev pub mount_calls : List Call
mount_calls = sync 0 ∷ sync 1 ∷ []

-- the history after both
abbrev pub after_both : History → History
after_both h = made mount_calls h

-- Both syncs were carried out, or they were cut short.
abbrev pub IsSyncedOrStopped : Option History → Option History → Type 0
IsSyncedOrStopped told new = (new ≡ option_map after_both told) ⊎ ToldStoppedIn (λ _. mount_calls) told new

-- A fault carries the disk's count, which rose in the call, or stands at its end.
pub record HasFault {T : Type 0} (before now : ℕ) (result : Result T QueueRefusal) : Type 0 where
  pub never_falls : before ≤ now
  pub fault : (faults : ℕ) → IsErrOf result (DiskFault faults) → (faults ≡ now) × (risen before ≤ now)

-- the disk failed, or memory is wanting
abbrev pub IsOutside : QueueRefusal → Type 0
IsOutside (DiskFault faults) = Unit {0}
IsOutside NoMemory = Unit {0}
IsOutside (Damaged file at) = ⊥
IsOutside (Broken faults) = ⊥
IsOutside (Full length limit) = ⊥

-- the disk failed, memory is wanting, or the files have no reading
abbrev pub IsOfMount : QueueRefusal → Type 0
IsOfMount (DiskFault faults) = Unit {0}
IsOfMount NoMemory = Unit {0}
IsOfMount (Damaged file at) = Unit {0}
IsOfMount (Broken faults) = ⊥
IsOfMount (Full length limit) = ⊥

-- memory is wanting, or the files have no reading
abbrev pub IsOfReading : QueueRefusal → Type 0
IsOfReading NoMemory = Unit {0}
IsOfReading (Damaged file at) = Unit {0}
IsOfReading (DiskFault faults) = ⊥
IsOfReading (Broken faults) = ⊥
IsOfReading (Full length limit) = ⊥

-- the disk failed, now or before, or memory is wanting
abbrev pub IsOfEntering : QueueRefusal → Type 0
IsOfEntering (DiskFault faults) = Unit {0}
IsOfEntering (Broken faults) = Unit {0}
IsOfEntering NoMemory = Unit {0}
IsOfEntering (Damaged file at) = ⊥
IsOfEntering (Full length limit) = ⊥

-- or a frame is past the limit, or a file's number past its bound
abbrev pub IsOfWriting : QueueRefusal → Type 0
IsOfWriting (DiskFault faults) = Unit {0}
IsOfWriting (Broken faults) = Unit {0}
IsOfWriting NoMemory = Unit {0}
IsOfWriting (Full length limit) = Unit {0}
IsOfWriting (Damaged file at) = ⊥
