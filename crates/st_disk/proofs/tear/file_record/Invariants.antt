use Rattle.std.proofs.Common.{◌≤◌, length, take}
use Rattle.st_disk.proofs.Undone.{IsUndone}
use Rattle.st_disk.proofs.tear.file_record.Given as goal

abbrev pub invariant-loop-rest : goal.invariant-loop-rest
invariant-loop-rest l = record {
  inside : l.rest ≤ length l.entries;
  undone : IsUndone l.second l.entries (take l.rest l.entries) l.stored l.synced.items l.written.items;
}

abbrev pub decreases-loop-rest : goal.decreases-loop-rest
decreases-loop-rest l = l.rest
