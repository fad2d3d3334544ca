-- What a disk in memory stands for: the files at its start and the calls that changed them.
use Rattle.std.specs.Prelude.{ℕ, List, [], ◌∷◌}
use Rattle.st_disk.specs.History.{Files, History, fresh, after_write, after_sync}

pub data Call : Type 0 where
  -- these bytes, written to a file at a place
  write : ℕ → ℕ → List ℕ → Call
  -- a sync of a file that had unsynced bytes
  sync : ℕ → Call

pub record Recorded : Type 0 where
  pub start : Files
  pub calls : List Call
  -- how many calls were carried out, those that changed nothing among them
  pub made : ℕ

abbrev pub after_call : Call → History → History
after_call (write file at bytes) h = after_write file at bytes h
after_call (sync file) h = after_sync file h

-- the history after these calls, the first of them first
abbrev pub after_calls : List Call → History → History
after_calls [] h = h
after_calls (call ∷ calls) h = after_calls calls (after_call call h)

abbrev pub history_of : Recorded → History
history_of m = record (after_calls m.calls (fresh m.start)) { made = m.made }
