use Rattle.std.proofs.Common.{◌≡◌, false, map, take}
use Rattle.st_model.specs.Schedule.{has_open}
use Rattle.st_life.specs.Waiting.{session_of}
use Rattle.st_life.proofs.readers.first_open.Given as goal

-- no session so far is open
abbrev pub invariant-loop-place : goal.invariant-loop-place
invariant-loop-place l = has_open l.reader (take l.place (map session_of l.asked)) ≡ false
