-- What a disk in memory is seen as, and what its fields keep.
use Rattle.std.specs.Prelude.{◌≤◌, ◌+◌, true, false, vec_len, vec_capacity}
use Rattle.st_disk.specs.Recorded.{Recorded}
use Rattle.st_disk.specs.Entries.{recorded, LeadTo, open_syncs}
use Rattle.st_disk.specs.declared.memory.Memory.TheInside.{Inside}

abbrev pub view_of : Inside → Recorded
view_of m = recorded m.entries.items m.zero.items m.one.items m.made

pub record IsKept (m : Inside) : Type 0 where
  pub zero : LeadTo false m.entries.items m.zero.items m.zero_unsynced
  pub one : LeadTo true m.entries.items m.one.items m.one_unsynced
  -- a sync of each file that needs one takes no memory
  pub room : vec_len m.entries + open_syncs m.zero_unsynced m.one_unsynced ≤ vec_capacity m.entries
