use Rattle.std.proofs.Common.{◌≡◌, length}
use Rattle.std.specs.List.{AllByRecursion}
use Rattle.st_run.specs.Lived.{IsLivable}
use Rattle.st_run.proofs.Running.{Continues}
use Rattle.st_run.proofs.lives.run_lives.Given as goal

abbrev pub invariant-loop-plan : goal.invariant-loop-plan
invariant-loop-plan g l =
    Continues g.D.Disk.history g.D.Disk.fault_count l.fn.script l.fn.script.lives l.fn.disk l.left l.disk l.lives.items
    × (l.log ≡ l.fn.script.log) × AllByRecursion IsLivable l.left

abbrev pub decreases-loop-plan : goal.decreases-loop-plan
decreases-loop-plan g l = length l.left
