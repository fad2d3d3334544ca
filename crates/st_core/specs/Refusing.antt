-- Why an act is refused, and what that leaves.
use Rattle.std.specs.Prelude.{◌≡◌, ◌≤◌, ◌⊎◌, ℕ, Option, Some, None}
use Rattle.st_core.specs.declared.refusal.DriveRefusal.{DriveRefusal}
use Rattle.st_core.specs.declared.refusal.DriveRefusal.TheVariants.{Device, NoMemory}
use Rattle.st_course.specs.declared.job.CommitJob.{CommitJob}
use Rattle.st_disk.specs.History.{History, risen}
use Rattle.st_engine.specs.Answers.{Refuses, past_for}
use Rattle.st_engine.specs.Engine.{Mounted}
use Rattle.st_fold.specs.declared.plan.Act.{Act}
use Rattle.st_fold.specs.declared.plan.Act.TheVariants.{Durable}
use Rattle.st_queue.specs.declared.frame.QueueRefusal.{QueueRefusal}
use Rattle.st_queue.specs.declared.frame.QueueRefusal.TheVariants as queue

-- want of memory is told as such, and what else an engine refuses is told of its device
abbrev pub refused : QueueRefusal → DriveRefusal
refused queue.NoMemory = NoMemory
refused refusal = Device refusal

-- No call of the device failed. A broken engine did nothing.
pub record IsWell {D : Type 0} (count : D → ℕ) (old new : Mounted D) : Type 0 where
  pub faults : count new.disk ≡ count old.disk
  pub broken : new.broken ≡ old.broken
  pub bounds : new.bounds ≡ old.bounds
  pub idle : (faults : ℕ) → old.broken ≡ Some faults → new ≡ old

-- The commit of the job in flight was refused, with what the engine tells of it. The device failed in it, or before it, or its
-- frame is past the limit of a file.
pub record IsOfCommit {D : Type 0} (told : D → Option History) (count : D → ℕ) (old new : Mounted D) (flight : Option CommitJob)
    (refusal : QueueRefusal) : Type 0 where
  pub job : CommitJob
  pub flies : flight ≡ Some job
  pub refuses : Refuses told job.ops old new refusal
  pub bounds : new.bounds ≡ old.bounds
  pub fault : (faults : ℕ) → refusal ≡ queue.DiskFault faults → (faults ≡ count new.disk) × (risen (count old.disk) ≤ count new.disk)
  pub broken : (faults : ℕ) → refusal ≡ queue.Broken faults → old.broken ≡ Some faults
  -- a commit reads no file
  pub whole : (file at : ℕ) → refusal ≡ queue.Damaged file at → ⊥
  pub full : (length limit : ℕ) → refusal ≡ queue.Full length limit
      → (old.broken ≡ None) × (past_for job.ops old ≡ Some (record { length = length; limit = limit }))

-- what is told of a device: that it failed now or before, or that a file is full
abbrev pub IsOfDevice : QueueRefusal → Type 0
IsOfDevice (queue.DiskFault faults) = Unit {0}
IsOfDevice (queue.Broken faults) = Unit {0}
IsOfDevice (queue.Full length limit) = Unit {0}
IsOfDevice (queue.Damaged file at) = ⊥
IsOfDevice queue.NoMemory = ⊥

-- Want of memory may refuse any act, and leaves the engine as it was, or ends no commit. The device refuses the end of a
-- commit alone.
abbrev pub IsRefused : {D : Type 0} → (D → Option History) → (D → ℕ) → Mounted D → Mounted D → Option CommitJob → Act → DriveRefusal → Type 0
IsRefused told count old new flight act NoMemory = (new ≡ old) ⊎ (act ≡ Durable) × IsOfCommit told count old new flight queue.NoMemory
IsRefused told count old new flight act (Device refusal) = (act ≡ Durable) × IsOfDevice refusal × IsOfCommit told count old new flight refusal
