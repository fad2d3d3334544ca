use Rattle.std.proofs.Common.{◌≡◌, ◌++◌, map, length}
use Rattle.std.specs.List.{AllByRecursion}
use Rattle.st_model.specs.Report.{merged}
use Rattle.st_model.specs.Schedule.{unpolled}
use Rattle.st_life.specs.Readers.{IsAskable}
use Rattle.st_life.specs.Waiting.{IsWaiting, session_of}
use Rattle.st_life.proofs.readers.all_asked.Given as goal

-- with the requests that are left, the sessions are those of all
abbrev pub invariant-loop-request : goal.invariant-loop-request
invariant-loop-request l =
    (map session_of l.asked.items ++ map unpolled (merged l.requests l.others) ≡ map unpolled (merged l.fn.asks l.fn.lasts))
    × AllByRecursion (IsWaiting l.patience) l.asked.items
    × AllByRecursion IsAskable (merged l.requests l.others)

abbrev pub decreases-loop-request : goal.decreases-loop-request
decreases-loop-request l = length (merged l.requests l.others)
