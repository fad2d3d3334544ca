-- The history that the entries of a disk in memory tell.
use Rattle.std.proofs.Common.{◌≡◌, ℕ, zero, suc, Bool, true, false, List, [], ◌∷◌, ◌++◌, map, refl, sym, ◌∙◌, ap}
use Rattle.std.proofs.lemmas.List.{map_push}
use Rattle.st_disk.specs.FileState.{FileState}
use Rattle.st_disk.specs.History.{Files, History, fresh, of_file, seen}
use Rattle.st_disk.specs.Recorded.{Call, write, sync, Recorded, after_call, after_calls, history_of}
use Rattle.st_disk.specs.Entries.{call_of, after_entry, after_entries, before_entries, recorded, started, LeadTo}
use Rattle.st_disk.specs.MemoryView.{view_of, IsKept}
use Rattle.st_disk.specs.declared.memory.Memory.TheInside.{Inside}
use Rattle.st_disk.specs.declared.memory.Entry.{Entry}
use Rattle.st_disk.specs.declared.memory.Change.{Change}
use Rattle.st_disk.specs.declared.memory.Change.TheVariants.{Write, Sync}

after_calls-push : (calls : List Call) (call : Call) (h : History) → after_calls (calls ++ call ∷ []) h ≡ after_call call (after_calls calls h)
after_calls-push [] call h = refl
after_calls-push (first ∷ calls) call h = after_calls-push calls call (after_call first h)

-- the history, with so many calls
abbrev numbered : ℕ → History → History
numbered made h = record h { made = made }

numbered-after_call : (call : Call) (h : History) (made made' : ℕ) → numbered made' (after_call call h) ≡ numbered made' (after_call call (numbered made h))
numbered-after_call (write file at bytes) h made made' = refl
numbered-after_call (sync file) h made made' = refl

-- one entry more is one call more
pub history-push : (entries : List Entry) (entry : Entry) (first second first' second' : List ℕ) (made made' : ℕ)
    → before_entries false (entries ++ entry ∷ []) first' ≡ before_entries false entries first
    → before_entries true (entries ++ entry ∷ []) second' ≡ before_entries true entries second
    → history_of (recorded (entries ++ entry ∷ []) first' second' made') ≡ (let h = after_call (call_of entry) (history_of (recorded entries first second made)) in record h { made = made' })
history-push entries entry first second first' second' made made' first_same second_same =
    let start : Files = (before_entries false entries first, before_entries true entries second) in
    let start_same : (let files : Files = (before_entries false (entries ++ entry ∷ []) first', before_entries true (entries ++ entry ∷ []) second') in files) ≡ start = λ i. (first_same i, second_same i) in
    let h = after_calls (map call_of entries) (fresh start) in
    let all : after_calls (map call_of (entries ++ entry ∷ [])) (fresh (before_entries false (entries ++ entry ∷ []) first', before_entries true (entries ++ entry ∷ []) second')) ≡ after_call (call_of entry) h =
    ap (λ (files : Files). after_calls (map call_of (entries ++ entry ∷ [])) (fresh files)) start_same
    ∙ ap (λ (calls : List Call). after_calls calls (fresh start)) (map_push call_of entries entry)
    ∙ after_calls-push (map call_of entries) (call_of entry) (fresh start) in
    ap (λ (h : History). numbered made' h) all ∙ numbered-after_call (call_of entry) h made made'

-- each file by itself
abbrev pick : {X : Type 0} → Bool → X × X → X
pick false both = both.0
pick true both = both.1

pick-after_call : (second file : Bool) (change : Change) (h : History)
    → pick second (after_call (call_of (record { second = file; change = change })) h).now ≡ after_entry second (record { second = file; change = change }) (pick second h.now)
pick-after_call false false (Write at bytes before) h = refl
pick-after_call false false Sync h = refl
pick-after_call false true (Write at bytes before) h = refl
pick-after_call false true Sync h = refl
pick-after_call true false (Write at bytes before) h = refl
pick-after_call true false Sync h = refl
pick-after_call true true (Write at bytes before) h = refl
pick-after_call true true Sync h = refl

file-after_calls : (second : Bool) (entries : List Entry) (h : History) → pick second (after_calls (map call_of entries) h).now ≡ after_entries second entries (pick second h.now)
file-after_calls second [] h = refl
file-after_calls second (entry ∷ entries) h =
    file-after_calls second entries (after_call (call_of entry) h)
    ∙ ap (λ (file : FileState). after_entries second entries file) (pick-after_call second entry.second entry.change h)

pub now-zero : (entries : List Entry) (first second : List ℕ) (made : ℕ) → (history_of (recorded entries first second made)).now.0 ≡ after_entries false entries (started false entries first)
now-zero entries first second made = file-after_calls false entries (fresh (recorded entries first second made).start)

pub now-one : (entries : List Entry) (first second : List ℕ) (made : ℕ) → (history_of (recorded entries first second made)).now.1 ≡ after_entries true entries (started true entries second)
now-one entries first second made = file-after_calls true entries (fresh (recorded entries first second made).start)

-- what a read gives
pub seen-zero : (entries : List Entry) (first second : List ℕ) (made : ℕ) (unsynced : Bool) → LeadTo false entries first unsynced → (seen (history_of (recorded entries first second made))).0 ≡ first
seen-zero entries first second made unsynced leads = ap (λ (file : FileState). file.seen) (now-zero entries first second made) ∙ leads.seen

pub seen-one : (entries : List Entry) (first second : List ℕ) (made : ℕ) (unsynced : Bool) → LeadTo true entries second unsynced → (seen (history_of (recorded entries first second made))).1 ≡ second
seen-one entries first second made unsynced leads = ap (λ (file : FileState). file.seen) (now-one entries first second made) ∙ leads.seen

pub first_file : {X : Type 0} (file : ℕ) (both : X × X) → file ≡ 0 → of_file file both ≡ both.0
first_file {X} file both is = ap (λ (n : ℕ). of_file {X = X} n both) is

pub second_file : {X : Type 0} (file : ℕ) (both : X × X) → (file ≡ 0 → ⊥) → of_file file both ≡ both.1
second_file zero both not = absurd (not refl)
second_file (suc file) both not = refl

-- what a disk in memory reads as
pub reads_zero : (m : Inside) → IsKept m → (now : Recorded) → view_of m ≡ now → (file : ℕ) → file ≡ 0 → of_file file (seen (history_of now)) ≡ m.zero.items
reads_zero m kept now is file first =
    first_file file (seen (history_of now)) first
    ∙ ap (λ (r : Recorded). (seen (history_of r)).0) (sym is)
    ∙ seen-zero m.entries.items m.zero.items m.one.items m.made m.zero_unsynced kept.zero

pub reads_one : (m : Inside) → IsKept m → (now : Recorded) → view_of m ≡ now → (file : ℕ) → (file ≡ 0 → ⊥) → of_file file (seen (history_of now)) ≡ m.one.items
reads_one m kept now is file second =
    second_file file (seen (history_of now)) second
    ∙ ap (λ (r : Recorded). (seen (history_of r)).1) (sym is)
    ∙ seen-one m.entries.items m.zero.items m.one.items m.made m.one_unsynced kept.one

in_part-after_calls : (calls : List Call) (h : History) → (after_calls calls h).in_part ≡ h.in_part
in_part-after_calls [] h = refl
in_part-after_calls (write file at bytes ∷ calls) h = in_part-after_calls calls (after_call (write file at bytes) h)
in_part-after_calls (sync file ∷ calls) h = in_part-after_calls calls (after_call (sync file) h)

-- a disk in memory does no write in part
pub memory-in_part : (m : Recorded) → (history_of m).in_part ≡ 0
memory-in_part m = in_part-after_calls m.calls (fresh m.start)
