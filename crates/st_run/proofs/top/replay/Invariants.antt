use Rattle.std.proofs.Common.{is_some}
use Rattle.st_run.proofs.top.replay.Given as goal

-- the disk as it was handed in
abbrev pub ghosts-run : goal.ghosts-run
ghosts-run g a = record { least = g.D.Disk.fault_count a.disk; told = is_some (g.D.Disk.history a.disk) }
