-- What the list of calls of a disk in memory stands for.
use Rattle.std.specs.Prelude.{◌≡◌, ◌≤◌, ◌+◌, ◌==◌, ℕ, Bool, true, false, if◌then◌else◌, List, [], ◌∷◌, ◌++◌, length, take, drop, map}
use Rattle.st_disk.specs.FileState.{FileState, settled, with_bytes, has_unsynced}
use Rattle.st_disk.specs.Recorded.{Call, write, sync, Recorded}
use Rattle.st_disk.specs.declared.memory.Entry.{Entry}
use Rattle.st_disk.specs.declared.memory.Change.{Change}
use Rattle.st_disk.specs.declared.memory.Change.TheVariants.{Write, Sync}

abbrev pub file_number : Bool → ℕ
file_number false = 0
file_number true = 1

abbrev pub call_on : ℕ → Change → Call
call_on file (Write at bytes before) = write file at bytes
call_on file Sync = sync file

abbrev pub call_of : Entry → Call
call_of entry = call_on (file_number entry.second) entry.change

-- whether an entry is of the file, which is the second or the first
abbrev pub is_of : Bool → Entry → Bool
is_of false entry = if entry.second then false else true
is_of true entry = entry.second

-- the bytes of a file before a change: what stood in the range, or the old end
abbrev pub before_change : Change → List ℕ → List ℕ
before_change (Write at bytes before) now =
    if length before == length bytes then take at now ++ before ++ drop (at + length bytes) now else take at now ++ before
before_change Sync now = now

-- the bytes of a file before these entries
abbrev pub before_entries : Bool → List Entry → List ℕ → List ℕ
before_entries second [] now = now
before_entries second (entry ∷ entries) now =
    let after = before_entries second entries now in if is_of second entry then before_change entry.change after else after

-- a file after a change
abbrev pub after_change : Change → FileState → FileState
after_change (Write at bytes before) file = with_bytes at bytes file
after_change Sync file = settled file.seen

abbrev pub after_entry : Bool → Entry → FileState → FileState
after_entry second entry file = if is_of second entry then after_change entry.change file else file

-- a file after these entries, the first of them first
abbrev pub after_entries : Bool → List Entry → FileState → FileState
after_entries second [] file = file
after_entries second (entry ∷ entries) file = after_entries second entries (after_entry second entry file)

-- a write begins inside the file or at its end, and keeps what stood in its range
pub record KeepsBytes (at : ℕ) (bytes before old : List ℕ) : Type 0 where
  pub inside : at ≤ length old
  pub kept : before ≡ take (length bytes) (drop at old)

abbrev pub CanFollow : Change → List ℕ → Type 0
CanFollow (Write at bytes before) old = KeepsBytes at bytes before old
CanFollow Sync old = Unit {0}

-- each entry of the file could follow what the earlier ones left
abbrev pub AreInOrder : Bool → List Entry → FileState → Type 0
AreInOrder second [] file = Unit {0}
AreInOrder second (entry ∷ entries) file =
    (is_of second entry ≡ true → CanFollow entry.change file.seen) × AreInOrder second entries (after_entry second entry file)

-- the file as it was at the start
abbrev pub started : Bool → List Entry → List ℕ → FileState
started second entries now = settled (before_entries second entries now)

-- the file that reads as these bytes after these entries
abbrev pub file_of : Bool → List Entry → List ℕ → FileState
file_of second entries now = after_entries second entries (started second entries now)

-- The entries lead from the start to these bytes of the file, and the flag says whether some of them aren't synced.
pub record LeadTo (second : Bool) (entries : List Entry) (now : List ℕ) (unsynced : Bool) : Type 0 where
  pub in_order : AreInOrder second entries (started second entries now)
  pub seen : (file_of second entries now).seen ≡ now
  pub flag : has_unsynced (file_of second entries now) ≡ unsynced

-- what the entries stand for
abbrev pub recorded : List Entry → List ℕ → List ℕ → ℕ → Recorded
recorded entries zero one made = record {
  start = (before_entries false entries zero, before_entries true entries one);
  calls = map call_of entries;
  made = made;
}

-- how many syncs may follow
abbrev pub open_syncs : Bool → Bool → ℕ
open_syncs zero one = (if zero then 1 else 0) + (if one then 1 else 0)
