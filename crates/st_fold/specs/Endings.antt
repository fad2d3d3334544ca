-- How lives and runs end.
use Rattle.std.specs.Prelude.{ℕ, List, [], ◌∷◌, Option, Some, None}
use Rattle.st_fold.specs.declared.report.Ending.{Ending}
use Rattle.st_fold.specs.declared.report.Ending.TheVariants as ending
use Rattle.st_fold.specs.declared.report.Event.{Event}
use Rattle.st_fold.specs.declared.report.Event.TheVariants.{Closed, Killed}
use Rattle.st_fold.specs.declared.report.Fault.{Fault}
use Rattle.st_fold.specs.declared.report.Fault.TheVariants as fault

-- the last event of a life that ended so. A life that faulted has none
abbrev pub last_event : Ending → List Event
last_event ending.Closed = Closed ∷ []
last_event ending.Killed = Killed ∷ []
last_event ending.Faulted = []

-- the status of a run: that of its fault, and 0 where it has none
abbrev pub status_of : Option Fault → ℕ
status_of None = 0
status_of (Some fault.Words) = 2
status_of (Some (fault.Script line kind)) = 3
status_of (Some (fault.Read faults)) = 4
status_of (Some (fault.Device faults)) = 6
status_of (Some (fault.Peer faults)) = 7
status_of (Some (fault.Damaged damage)) = 8
status_of (Some fault.Memory) = 9
status_of (Some (fault.Full size limit)) = 10
status_of (Some (fault.Foreign part)) = 11
