-- How the steps of a life end, and what that leaves of its disk.
use Rattle.std.specs.Prelude.{◌≡◌, ◌⊎◌, ℕ, true, Option, Some, None, Result, Ok, Err}
use Rattle.std.specs.Option.{ForSome, option_map}
use Rattle.st_core.specs.declared.refusal.DriveRefusal.{DriveRefusal}
use Rattle.st_core.specs.declared.refusal.DriveRefusal.TheVariants.{Device, NoMemory}
use Rattle.st_disk.specs.Fuse.{fused_faults, fused_history, inner_of}
use Rattle.st_disk.specs.History.{History, fresh}
use Rattle.st_disk.specs.Left.{left}
use Rattle.st_disk.specs.declared.fused.Fused.{Fused}
use Rattle.st_fold.specs.declared.plan.LifePlan.{LifePlan}
use Rattle.st_fold.specs.declared.report.Ending.TheVariants as ending
use Rattle.st_fold.specs.declared.report.Fault.{Fault}
use Rattle.st_fold.specs.declared.report.Fault.TheVariants as fault
use Rattle.st_queue.specs.declared.frame.QueueRefusal.TheVariants as queue
use Rattle.st_life.specs.declared.ended.Stopped.{Stopped}
use Rattle.st_life.specs.Ended.{IsFaultOf, is_failure}

-- A disk behind the end of a life that nothing failed: as it was, or restarted with the choice of the kill, unless that failed.
abbrev pub IsLeftBy : {D : Type 0} → (D → Option History) → (count : D → ℕ) → (kill : Option (ℕ × ℕ)) → (disk : D) → Stopped D → Type 0
IsLeftBy told count None disk stopped = (stopped.ending ≡ ending.Closed) × (stopped.fault ≡ None) × (stopped.disk ≡ disk)
IsLeftBy told count (Some kill) disk stopped =
    ((stopped.ending ≡ ending.Killed) × (stopped.fault ≡ None)
    × (told stopped.disk ≡ option_map (λ h. fresh (left kill.1 h.now)) (told disk)))
    ⊎ ((stopped.ending ≡ ending.Faulted) × (is_failure stopped.fault ≡ true) × (told stopped.disk ≡ told disk)
    × IsFaultOf (count disk) count stopped.disk stopped.fault)

-- the disk was left as it is, with this fault
abbrev pub IsFaulted : {D : Type 0} → Option Fault → D → Stopped D → Type 0
IsFaulted why disk stopped = (stopped.ending ≡ ending.Faulted) × (stopped.fault ≡ why) × (stopped.disk ≡ disk)

-- what steps over a whole engine are refused with: want of memory, a fault of the disk, or the limit of a file
abbrev pub IsOfSteps : DriveRefusal → Type 0
IsOfSteps NoMemory = Unit {0}
IsOfSteps (Device (queue.DiskFault faults)) = Unit {0}
IsOfSteps (Device (queue.Full long limit)) = Unit {0}
IsOfSteps (Device why) = ⊥

-- The end of a life whose steps came to this. A fault of the disk is a kill where its fuse is blown: as many calls were carried
-- out then as may.
abbrev pub IsStopped : {D : Type 0} → (D → Option History) → (count : D → ℕ) → LifePlan → Fused D → Result Unit DriveRefusal → Stopped D → Type 0
IsStopped told count plan fused (Ok done) stopped = IsLeftBy told count plan.kill (inner_of fused) stopped
IsStopped told count plan fused (Err (Device (queue.DiskFault faults))) stopped =
    (ForSome (fused_history told fused) (λ h. h.passes ≡ Some h.made) × IsLeftBy told count plan.kill (inner_of fused) stopped)
    ⊎ ((fused_faults count fused ≡ count (inner_of fused)) × IsFaulted (Some (fault.Device (count (inner_of fused)))) (inner_of fused) stopped)
IsStopped told count plan fused (Err (Device (queue.Full long limit))) stopped = IsFaulted (Some (fault.Full long limit)) (inner_of fused) stopped
IsStopped told count plan fused (Err (Device why)) stopped = ⊥
IsStopped told count plan fused (Err NoMemory) stopped = IsFaulted (Some fault.Memory) (inner_of fused) stopped
