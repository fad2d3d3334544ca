-- What a call does to a disk in memory.
use Rattle.std.proofs.Common.{◌≡◌, ◌<◌, ◌≤◌, ◌+◌, ◌==◌, ◌||◌, if◌then◌else◌, ℕ, zero, suc, Bool, true, false, not, List, [], ◌∷◌, ◌++◌, length, take, drop, vec_len, vec_capacity, refl, sym, ◌∙◌, ap, subst, arith}
use Rattle.st_disk.specs.FileState.{overwritten, settled, has_unsynced}
use Rattle.st_disk.specs.History.{History, of_file, with_file, risen, counted, after_write, after_sync}
use Rattle.st_disk.specs.Images.{settled-clean}
use Rattle.st_disk.specs.Recorded.{history_of}
use Rattle.st_disk.specs.Recordings.{AreSound, sound-recorded}
use Rattle.st_disk.specs.Entries.{recorded, KeepsBytes, LeadTo, open_syncs}
use Rattle.st_disk.specs.MemoryView.{view_of, IsKept}
use Rattle.st_disk.specs.declared.memory.Entry.{Entry}
use Rattle.st_disk.specs.declared.memory.Change.TheVariants.{Write, Sync}
use Rattle.st_disk.specs.declared.memory.Memory.TheInside.{Inside}
use Rattle.st_disk.proofs.Kept.{lead_to-other, start-other, lead_to-write, start-write, lead_to-sync, start-sync}
use Rattle.st_disk.proofs.Told.{history-push, now-zero, now-one}

-- the disk was kept, and its history went on
pub record Steps (m new : Inside) (change : History → History) : Type 0 where
  pub kept : IsKept new
  pub told : history_of (view_of new) ≡ counted (change (history_of (view_of m)))

abbrev pub wrote : Bool → ℕ → List ℕ → List ℕ → Entry
wrote second at bytes old = record { second = second; change = Write at bytes (take (length bytes) (drop at old)) }

abbrev pub synced : Bool → Entry
synced second = record { second = second; change = Sync }

-- a file that isn't 0 is 1
pub is_one : (file : ℕ) → file < 2 → (file ≡ 0 → ⊥) → 1 ≡ file
is_one file small not = omega arith

room : (entries : ℕ) (capacity : ℕ) (first second : Bool) → entries + 2 ≤ capacity → entries + open_syncs first second ≤ capacity
room entries capacity true true enough = enough
room entries capacity true false enough = omega arith
room entries capacity false true enough = omega arith
room entries capacity false false enough = omega arith

-- the view by its parts
same_view : (new : Inside) (entries : List Entry) (first second : List ℕ) (made : ℕ) → new.entries.items ≡ entries → new.zero.items ≡ first → new.one.items ≡ second → new.made ≡ made
    → history_of (view_of new) ≡ history_of (recorded entries first second made)
same_view new entries first second made is_entries is_first is_second is_made = λ i. history_of (recorded (is_entries i) (is_first i) (is_second i) (is_made i))

same_lead : (second : Bool) (entries entries' : List Entry) (now now' : List ℕ) (flag flag' : Bool) → entries' ≡ entries → now' ≡ now → flag' ≡ flag → LeadTo second entries now flag → LeadTo second entries' now' flag'
same_lead second entries entries' now now' flag flag' is_entries is_now is_flag leads =
    let at_flag = subst (λ (f : Bool). LeadTo second entries now f) (sym is_flag) leads in
    let at_now = subst (λ (l : List ℕ). LeadTo second entries l flag') (sym is_now) at_flag in
    subst (λ (es : List Entry). LeadTo second es now' flag') (sym is_entries) at_now

write_zero_at : (m new : Inside) (at : ℕ) (bytes : List ℕ) → IsKept m → at ≤ length m.zero.items
    → new.entries.items ≡ m.entries.items ++ wrote false at bytes m.zero.items ∷ []
    → new.zero.items ≡ overwritten at bytes m.zero.items → new.one.items ≡ m.one.items
    → new.zero_unsynced ≡ (m.zero_unsynced || not (length bytes == 0)) → new.one_unsynced ≡ m.one_unsynced
    → vec_len new.entries + 2 ≤ vec_capacity new.entries → new.made ≡ risen m.made
    → Steps m new (after_write 0 at bytes)
write_zero_at m new at bytes kept inside entries first second flag other enough made =
    let entry = wrote false at bytes m.zero.items in
    let keeps : KeepsBytes at bytes (take (length bytes) (drop at m.zero.items)) m.zero.items = record { inside = inside; kept = refl } in
    record {
      kept = record {
        zero = same_lead false (m.entries.items ++ entry ∷ []) new.entries.items (overwritten at bytes m.zero.items) new.zero.items (m.zero_unsynced || not (length bytes == 0)) new.zero_unsynced entries first flag
            (lead_to-write false m.entries.items at bytes (take (length bytes) (drop at m.zero.items)) m.zero.items m.zero_unsynced refl keeps kept.zero);
        one = same_lead true (m.entries.items ++ entry ∷ []) new.entries.items m.one.items new.one.items m.one_unsynced new.one_unsynced entries second other
            (lead_to-other true m.entries.items entry m.one.items m.one_unsynced refl kept.one);
        room = room (vec_len new.entries) (vec_capacity new.entries) new.zero_unsynced new.one_unsynced enough;
      };
      told = same_view new (m.entries.items ++ entry ∷ []) (overwritten at bytes m.zero.items) m.one.items (risen m.made) entries first second made
          ∙ history-push m.entries.items entry m.zero.items m.one.items (overwritten at bytes m.zero.items) m.one.items m.made (risen m.made)
          (start-write false m.entries.items at bytes (take (length bytes) (drop at m.zero.items)) m.zero.items refl keeps)
          (start-other true m.entries.items entry m.one.items refl);
    }

pub write_zero : (file : ℕ) → 0 ≡ file → (m new : Inside) (at : ℕ) (bytes : List ℕ) → IsKept m → at ≤ length m.zero.items
    → new.entries.items ≡ m.entries.items ++ wrote false at bytes m.zero.items ∷ []
    → new.zero.items ≡ overwritten at bytes m.zero.items → new.one.items ≡ m.one.items
    → new.zero_unsynced ≡ (m.zero_unsynced || not (length bytes == 0)) → new.one_unsynced ≡ m.one_unsynced
    → vec_len new.entries + 2 ≤ vec_capacity new.entries → new.made ≡ risen m.made
    → Steps m new (after_write file at bytes)
write_zero file is m new at bytes kept inside entries first second flag other enough made =
    subst (λ (f : ℕ). Steps m new (after_write f at bytes)) is (write_zero_at m new at bytes kept inside entries first second flag other enough made)

write_one_at : (m new : Inside) (at : ℕ) (bytes : List ℕ) → IsKept m → at ≤ length m.one.items
    → new.entries.items ≡ m.entries.items ++ wrote true at bytes m.one.items ∷ []
    → new.one.items ≡ overwritten at bytes m.one.items → new.zero.items ≡ m.zero.items
    → new.one_unsynced ≡ (m.one_unsynced || not (length bytes == 0)) → new.zero_unsynced ≡ m.zero_unsynced
    → vec_len new.entries + 2 ≤ vec_capacity new.entries → new.made ≡ risen m.made
    → Steps m new (after_write 1 at bytes)
write_one_at m new at bytes kept inside entries second first flag other enough made =
    let entry = wrote true at bytes m.one.items in
    let keeps : KeepsBytes at bytes (take (length bytes) (drop at m.one.items)) m.one.items = record { inside = inside; kept = refl } in
    record {
      kept = record {
        one = same_lead true (m.entries.items ++ entry ∷ []) new.entries.items (overwritten at bytes m.one.items) new.one.items (m.one_unsynced || not (length bytes == 0)) new.one_unsynced entries second flag
            (lead_to-write true m.entries.items at bytes (take (length bytes) (drop at m.one.items)) m.one.items m.one_unsynced refl keeps kept.one);
        zero = same_lead false (m.entries.items ++ entry ∷ []) new.entries.items m.zero.items new.zero.items m.zero_unsynced new.zero_unsynced entries first other
            (lead_to-other false m.entries.items entry m.zero.items m.zero_unsynced refl kept.zero);
        room = room (vec_len new.entries) (vec_capacity new.entries) new.zero_unsynced new.one_unsynced enough;
      };
      told = same_view new (m.entries.items ++ entry ∷ []) m.zero.items (overwritten at bytes m.one.items) (risen m.made) entries first second made
          ∙ history-push m.entries.items entry m.zero.items m.one.items m.zero.items (overwritten at bytes m.one.items) m.made (risen m.made)
          (start-other false m.entries.items entry m.zero.items refl)
          (start-write true m.entries.items at bytes (take (length bytes) (drop at m.one.items)) m.one.items refl keeps);
    }

pub write_one : (file : ℕ) → 1 ≡ file → (m new : Inside) (at : ℕ) (bytes : List ℕ) → IsKept m → at ≤ length m.one.items
    → new.entries.items ≡ m.entries.items ++ wrote true at bytes m.one.items ∷ []
    → new.one.items ≡ overwritten at bytes m.one.items → new.zero.items ≡ m.zero.items
    → new.one_unsynced ≡ (m.one_unsynced || not (length bytes == 0)) → new.zero_unsynced ≡ m.zero_unsynced
    → vec_len new.entries + 2 ≤ vec_capacity new.entries → new.made ≡ risen m.made
    → Steps m new (after_write file at bytes)
write_one file is m new at bytes kept inside entries second first flag other enough made =
    subst (λ (f : ℕ). Steps m new (after_write f at bytes)) is (write_one_at m new at bytes kept inside entries second first flag other enough made)

-- a sync of a file with nothing unsynced changes nothing
idle : (file : ℕ) (h : History) → AreSound h.now → has_unsynced (of_file file h.now) ≡ false → after_sync file h ≡ h
idle zero h sound clean =
    let now : with_file 0 (settled h.now.0.seen) h.now ≡ h.now = λ i. (settled-clean h.now.0 sound.0 clean i, h.now.1) in
    λ i. record h { now = now i; past = ap (λ (b : Bool). if b then h.past ++ h.now ∷ [] else h.past) clean i }
idle (suc file) h sound clean =
    let now : with_file 1 (settled h.now.1.seen) h.now ≡ h.now = λ i. (h.now.0, settled-clean h.now.1 sound.1 clean i) in
    λ i. record h { now = now i; past = ap (λ (b : Bool). if b then h.past ++ h.now ∷ [] else h.past) clean i }

pub clean_zero : (m : Inside) → IsKept m → m.zero_unsynced ≡ false → has_unsynced (of_file 0 (history_of (view_of m)).now) ≡ false
clean_zero m kept clean =
    ap has_unsynced (now-zero m.entries.items m.zero.items m.one.items m.made) ∙ kept.zero.flag ∙ clean

pub clean_one : (m : Inside) → IsKept m → m.one_unsynced ≡ false → has_unsynced (of_file 1 (history_of (view_of m)).now) ≡ false
clean_one m kept clean =
    ap has_unsynced (now-one m.entries.items m.zero.items m.one.items m.made) ∙ kept.one.flag ∙ clean

pub sync_idle : (number file : ℕ) → number ≡ file → (m new : Inside) → IsKept m → has_unsynced (of_file number (history_of (view_of m)).now) ≡ false
    → new.entries.items ≡ m.entries.items
    → new.zero.items ≡ m.zero.items → new.one.items ≡ m.one.items
    → new.zero_unsynced ≡ m.zero_unsynced → new.one_unsynced ≡ m.one_unsynced
    → vec_len new.entries ≡ vec_len m.entries → vec_capacity new.entries ≡ vec_capacity m.entries → new.made ≡ risen m.made
    → Steps m new (after_sync file)
sync_idle number file is m new kept clean entries first second flag other len capacity made = record {
  kept = record {
    zero = same_lead false m.entries.items new.entries.items m.zero.items new.zero.items m.zero_unsynced new.zero_unsynced entries first flag kept.zero;
    one = same_lead true m.entries.items new.entries.items m.one.items new.one.items m.one_unsynced new.one_unsynced entries second other kept.one;
    room = subst (λ (b : Bool). vec_len new.entries + open_syncs b new.one_unsynced ≤ vec_capacity new.entries) (sym flag) (subst (λ (b : Bool). vec_len new.entries + open_syncs m.zero_unsynced b ≤ vec_capacity new.entries) (sym other) (omega (arith, kept.room)));
  };
  told = same_view new m.entries.items m.zero.items m.one.items (risen m.made) entries first second made
      ∙ sym (ap (λ (f : ℕ). counted (after_sync f (history_of (view_of m)))) (sym is) ∙ ap counted (idle number (history_of (view_of m)) (sound-recorded (view_of m)) clean));
}

sync_zero_at : (m new : Inside) → IsKept m → m.zero_unsynced ≡ true
    → new.entries.items ≡ m.entries.items ++ synced false ∷ []
    → new.zero.items ≡ m.zero.items → new.one.items ≡ m.one.items
    → new.zero_unsynced ≡ false → new.one_unsynced ≡ m.one_unsynced
    → vec_len new.entries ≡ vec_len m.entries + 1 → vec_capacity new.entries ≡ vec_capacity m.entries → new.made ≡ risen m.made
    → Steps m new (after_sync 0)
sync_zero_at m new kept unsynced entries first second flag other len capacity made =
    let entry = synced false in
    let few : vec_len m.entries + 1 + open_syncs false m.one_unsynced ≤ vec_capacity m.entries =
    subst (λ (b : Bool). vec_len m.entries + open_syncs b m.one_unsynced ≤ vec_capacity m.entries → vec_len m.entries + 1 + open_syncs false m.one_unsynced ≤ vec_capacity m.entries) (sym unsynced) (λ h. omega arith) kept.room in
    record {
      kept = record {
        zero = same_lead false (m.entries.items ++ entry ∷ []) new.entries.items m.zero.items new.zero.items false new.zero_unsynced entries first flag
            (lead_to-sync false m.entries.items m.zero.items m.zero_unsynced refl kept.zero);
        one = same_lead true (m.entries.items ++ entry ∷ []) new.entries.items m.one.items new.one.items m.one_unsynced new.one_unsynced entries second other
            (lead_to-other true m.entries.items entry m.one.items m.one_unsynced refl kept.one);
        room = subst (λ (b : Bool). vec_len new.entries + open_syncs b new.one_unsynced ≤ vec_capacity new.entries) (sym flag) (subst (λ (b : Bool). vec_len new.entries + open_syncs false b ≤ vec_capacity new.entries) (sym other) (omega (arith, few)));
      };
      told = same_view new (m.entries.items ++ entry ∷ []) m.zero.items m.one.items (risen m.made) entries first second made
          ∙ history-push m.entries.items entry m.zero.items m.one.items m.zero.items m.one.items m.made (risen m.made)
          (start-sync false m.entries.items m.zero.items refl)
          (start-other true m.entries.items entry m.one.items refl);
    }

pub sync_zero : (file : ℕ) → 0 ≡ file → (m new : Inside) → IsKept m → m.zero_unsynced ≡ true
    → new.entries.items ≡ m.entries.items ++ synced false ∷ []
    → new.zero.items ≡ m.zero.items → new.one.items ≡ m.one.items
    → new.zero_unsynced ≡ false → new.one_unsynced ≡ m.one_unsynced
    → vec_len new.entries ≡ vec_len m.entries + 1 → vec_capacity new.entries ≡ vec_capacity m.entries → new.made ≡ risen m.made
    → Steps m new (after_sync file)
sync_zero file is m new kept unsynced entries first second flag other len capacity made =
    subst (λ (f : ℕ). Steps m new (after_sync f)) is (sync_zero_at m new kept unsynced entries first second flag other len capacity made)

sync_one_at : (m new : Inside) → IsKept m → m.one_unsynced ≡ true
    → new.entries.items ≡ m.entries.items ++ synced true ∷ []
    → new.zero.items ≡ m.zero.items → new.one.items ≡ m.one.items
    → new.one_unsynced ≡ false → new.zero_unsynced ≡ m.zero_unsynced
    → vec_len new.entries ≡ vec_len m.entries + 1 → vec_capacity new.entries ≡ vec_capacity m.entries → new.made ≡ risen m.made
    → Steps m new (after_sync 1)
sync_one_at m new kept unsynced entries first second flag other len capacity made =
    let entry = synced true in
    let few : vec_len m.entries + 1 + open_syncs m.zero_unsynced false ≤ vec_capacity m.entries =
    subst (λ (b : Bool). vec_len m.entries + open_syncs m.zero_unsynced b ≤ vec_capacity m.entries → vec_len m.entries + 1 + open_syncs m.zero_unsynced false ≤ vec_capacity m.entries) (sym unsynced) (λ h. omega arith) kept.room in
    record {
      kept = record {
        one = same_lead true (m.entries.items ++ entry ∷ []) new.entries.items m.one.items new.one.items false new.one_unsynced entries second flag
            (lead_to-sync true m.entries.items m.one.items m.one_unsynced refl kept.one);
        zero = same_lead false (m.entries.items ++ entry ∷ []) new.entries.items m.zero.items new.zero.items m.zero_unsynced new.zero_unsynced entries first other
            (lead_to-other false m.entries.items entry m.zero.items m.zero_unsynced refl kept.zero);
        room = subst (λ (b : Bool). vec_len new.entries + open_syncs new.zero_unsynced b ≤ vec_capacity new.entries) (sym flag) (subst (λ (b : Bool). vec_len new.entries + open_syncs b false ≤ vec_capacity new.entries) (sym other) (omega (arith, few)));
      };
      told = same_view new (m.entries.items ++ entry ∷ []) m.zero.items m.one.items (risen m.made) entries first second made
          ∙ history-push m.entries.items entry m.zero.items m.one.items m.zero.items m.one.items m.made (risen m.made)
          (start-other false m.entries.items entry m.zero.items refl)
          (start-sync true m.entries.items m.one.items refl);
    }

pub sync_one : (file : ℕ) → 1 ≡ file → (m new : Inside) → IsKept m → m.one_unsynced ≡ true
    → new.entries.items ≡ m.entries.items ++ synced true ∷ []
    → new.zero.items ≡ m.zero.items → new.one.items ≡ m.one.items
    → new.one_unsynced ≡ false → new.zero_unsynced ≡ m.zero_unsynced
    → vec_len new.entries ≡ vec_len m.entries + 1 → vec_capacity new.entries ≡ vec_capacity m.entries → new.made ≡ risen m.made
    → Steps m new (after_sync file)
sync_one file is m new kept unsynced entries first second flag other len capacity made =
    subst (λ (f : ℕ). Steps m new (after_sync f)) is (sync_one_at m new kept unsynced entries first second flag other len capacity made)
