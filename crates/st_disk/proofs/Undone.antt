-- How the entries of a file are undone back to its last sync.
use Rattle.std.proofs.Common.{◌≡◌, ◌<◌, ◌≤◌, ◌+◌, ◌-◌, ◌||◌, if◌then◌else◌, ℕ, zero, suc, Bool, true, false, List, [], ◌∷◌, ◌++◌, length, take, drop, map, replicate, get_or, min, inl, inr, refl, sym, ◌∙◌, ap, subst, arith}
use mathlib.Core.Bool.{beq}
use Rattle.std.proofs.lemmas.Bool.{cases_lt, false≢true}
use Rattle.std.proofs.lemmas.List.{take_more, take_all, length-map, length-replicate, get_or-replicate, get_or-map, get_or_past, length-take, length-drop, same_lists, get_or_default}
use Rattle.rand_pcg.specs.Lcg.{Lcg}
use Rattle.st_disk.specs.FileState.{FileState, overwritten, settled, with_bytes}
use Rattle.st_disk.specs.History.{FileStates}
use Rattle.st_disk.specs.Left.{left, torn, torn_from, generator_of}
use Rattle.st_disk.specs.Images.{IsSound, sound-settled, sound-with_bytes, length-overwritten, overwritten-before, overwritten-within, overwritten-behind}
use Rattle.st_disk.specs.Entries.{is_of, before_change, after_change, after_entry, after_entries, KeepsBytes, AreInOrder, started}
use Rattle.st_disk.specs.declared.memory.Entry.{Entry}
use Rattle.st_disk.specs.declared.memory.Change.{Change}
use Rattle.st_disk.specs.declared.memory.Change.TheVariants.{Write, Sync}
use Rattle.st_disk.proofs.Kept.{or-true, or-false, before_write, after_entries-push, in_order-front, in_order-last}

sound-after_entry : (second : Bool) (file : FileState) (s : Bool) (change : Change) → IsSound file → IsSound (after_entry second (record { second = s; change = change }) file)
sound-after_entry false file false (Write at bytes before) sound = sound-with_bytes at bytes file sound
sound-after_entry false file false Sync sound = sound-settled file.seen
sound-after_entry false file true change sound = sound
sound-after_entry true file true (Write at bytes before) sound = sound-with_bytes at bytes file sound
sound-after_entry true file true Sync sound = sound-settled file.seen
sound-after_entry true file false change sound = sound

sound-after_entries : (second : Bool) (entries : List Entry) (file : FileState) → IsSound file → IsSound (after_entries second entries file)
sound-after_entries second [] file sound = sound
sound-after_entries second (entry ∷ entries) file sound =
    sound-after_entries second entries (after_entry second entry file) (sound-after_entry second file entry.second entry.change sound)

is_of-same : (s second : Bool) (change : Change) → beq s second ≡ true → is_of second (record { second = s; change = change }) ≡ true
is_of-same false false change same = refl
is_of-same true true change same = refl
is_of-same false true change same = absurd (false≢true same)
is_of-same true false change same = absurd (false≢true same)

is_of-other : (s second : Bool) (change : Change) → beq s second ≡ false → is_of second (record { second = s; change = change }) ≡ false
is_of-other false false change other = absurd (false≢true (sym other))
is_of-other true true change other = absurd (false≢true (sym other))
is_of-other false true change other = refl
is_of-other true false change other = refl

-- The entries behind `rest` are undone: the file reads as it did before them, and the marks are those of their writes.
pub record IsUndone (second : Bool) (entries rest : List Entry) (stored now : List ℕ) (marks : List Bool) : Type 0 where
  pub order : AreInOrder second rest (started second entries stored)
  pub seen : (after_entries second rest (started second entries stored)).seen ≡ now
  pub synced : (after_entries second rest (started second entries stored)).synced ≡ (after_entries second entries (started second entries stored)).synced
  pub long : length now ≤ length marks
  pub count : length marks ≡ length (after_entries second entries (started second entries stored)).written
  pub marked : (place : ℕ) → get_or (after_entries second entries (started second entries stored)).written place false ≡ (get_or (after_entries second rest (started second entries stored)).written place false || get_or marks place false)

none_marked : (count place : ℕ) → get_or (replicate count false) place false ≡ false
none_marked count place = elim (cases_lt place count) [
  | inl inside ↦ get_or-replicate count place false false inside
  | inr past ↦ get_or_past (replicate count false) place false (omega (arith, length-replicate count false))
]

pub undone-none : (second : Bool) (entries : List Entry) (stored : List ℕ) → AreInOrder second entries (started second entries stored) → (after_entries second entries (started second entries stored)).seen ≡ stored
    → (now : List ℕ) (marks : List Bool) → now ≡ stored → marks ≡ replicate (length stored) false → IsUndone second entries entries stored now marks
undone-none second entries stored order seen now marks now_is marks_is =
    let file = after_entries second entries (started second entries stored) in
    let sound = sound-after_entries second entries (started second entries stored) (sound-settled (started second entries stored).seen) in
    record {
      order = order;
      seen = seen ∙ sym now_is;
      synced = refl;
      long = omega (arith, ap length now_is, ap length marks_is, length-replicate (length stored) false);
      count = omega (arith, ap length marks_is, length-replicate (length stored) false, sound.marks, ap length seen);
      marked = λ place. sym (ap (λ (l : List Bool). get_or file.written place false || get_or l place false) marks_is ∙ ap (λ (b : Bool). get_or file.written place false || b) (none_marked (length stored) place) ∙ or-false (get_or file.written place false));
    }

module _ (second : Bool) (entries : List Entry) (stored : List ℕ) (earlier : List Entry) (s : Bool) where
  abbrev start : FileState
  start = started second entries stored

  abbrev file : FileState
  file = after_entries second earlier start

  -- an entry of the other file
  pub undone-other : (change : Change) (rest : List Entry) (now : List ℕ) (marks : List Bool) → rest ≡ earlier ++ record { second = s; change = change } ∷ []
      → is_of second (record { second = s; change = change }) ≡ false → IsUndone second entries rest stored now marks → IsUndone second entries earlier stored now marks
  undone-other change rest now marks rest_is other undone =
      let entry : Entry = record { second = s; change = change } in
      let after : after_entries second rest start ≡ file =
      ap (λ (l : List Entry). after_entries second l start) rest_is ∙ after_entries-push second earlier entry start ∙ ap (λ (b : Bool). if b then after_change change file else file) other in
      record {
        order = in_order-front second earlier entry start (subst (λ (l : List Entry). AreInOrder second l start) rest_is undone.order);
        seen = sym (ap (λ (f : FileState). f.seen) after) ∙ undone.seen;
        synced = sym (ap (λ (f : FileState). f.synced) after) ∙ undone.synced;
        long = undone.long;
        count = undone.count;
        marked = λ place. undone.marked place ∙ ap (λ (f : FileState). get_or f.written place false || get_or marks place false) after;
      }

  -- a write of this file
  pub record Undoes (at : ℕ) (bytes before : List ℕ) (now : List ℕ) (marks : List Bool) : Type 0 where
    pub in_file : at + length before ≤ length now
    pub fewer : length before ≤ length bytes
    pub in_marks : at + length bytes ≤ length marks
    pub undone : (now' : List ℕ) (marks' : List Bool) → now' ≡ before_change (Write at bytes before) now → marks' ≡ overwritten at (replicate (length bytes) true) marks → IsUndone second entries earlier stored now' marks'

  pub undone-write : (at : ℕ) (bytes before : List ℕ) (rest : List Entry) (now : List ℕ) (marks : List Bool) → rest ≡ earlier ++ record { second = s; change = Write at bytes before } ∷ []
      → is_of second (record { second = s; change = Write at bytes before }) ≡ true → IsUndone second entries rest stored now marks → Undoes at bytes before now marks
  undone-write at bytes before rest now marks rest_is own undone =
      let entry : Entry = record { second = s; change = Write at bytes before } in
      let order = subst (λ (l : List Entry). AreInOrder second l start) rest_is undone.order in
      let keeps : KeepsBytes at bytes before file.seen = in_order-last second earlier entry start order own in
      let sound : IsSound file = sound-after_entries second earlier start (sound-settled start.seen) in
      let after : after_entries second rest start ≡ with_bytes at bytes file =
      ap (λ (l : List Entry). after_entries second l start) rest_is ∙ after_entries-push second earlier entry start ∙ ap (λ (b : Bool). if b then with_bytes at bytes file else file) own in
      let now_is : overwritten at bytes file.seen ≡ now = sym (ap (λ (f : FileState). f.seen) after) ∙ undone.seen in
      let now_length : length now ≡ at + length bytes + (length file.seen - (at + length bytes)) = sym (ap length now_is) ∙ length-overwritten at bytes file.seen keeps.inside in
      let back : before_change (Write at bytes before) now ≡ file.seen = ap (λ (l : List ℕ). before_change (Write at bytes before) l) (sym now_is) ∙ before_write at bytes before file.seen keeps in
      let size : length before ≡ min (length bytes) (length file.seen - at) = ap length keeps.kept ∙ length-take (length bytes) (drop at file.seen) ∙ ap (λ (n : ℕ). min (length bytes) n) (length-drop at file.seen) in
      let room : at + length bytes ≤ length marks = omega (arith, now_length, undone.long) in
      let trues = map (λ (_ : ℕ). true) bytes in
      let trues_length : length trues ≡ length bytes = length-map bytes (λ _. true) in
      let new_trues = replicate (length bytes) true in
      let new_length : length new_trues ≡ length bytes = length-replicate (length bytes) true in
      let in_old : at ≤ length file.written = omega (arith, sound.marks, keeps.inside) in
      let in_marks : at ≤ length marks = omega (arith, room) in
      let same : (place : ℕ) → (get_or (overwritten at trues file.written) place false || get_or marks place false) ≡ (get_or file.written place false || get_or (overwritten at new_trues marks) place false) =
      λ place. elim (cases_lt place at) [
        | inl ahead ↦ λ i. overwritten-before at trues file.written in_old place false ahead i || sym (overwritten-before at new_trues marks in_marks place false ahead) i
        | inr from ↦ elim (cases_lt place (at + length bytes)) [
          | inl upto ↦
              let first : get_or (overwritten at trues file.written) place false ≡ true = overwritten-within at trues file.written in_old place false from (omega (arith, trues_length)) ∙ get_or-map (λ (_ : ℕ). true) bytes (place - at) 0 false (omega arith) in
              let second : get_or (overwritten at new_trues marks) place false ≡ true = overwritten-within at new_trues marks in_marks place false from (omega (arith, new_length)) ∙ get_or-replicate (length bytes) (place - at) true false (omega arith) in
              ap (λ (b : Bool). b || get_or marks place false) first ∙ sym (ap (λ (b : Bool). get_or file.written place false || b) second ∙ or-true (get_or file.written place false))
          | inr behind ↦ λ i. overwritten-behind at trues file.written in_old place false (omega (arith, trues_length)) i || sym (overwritten-behind at new_trues marks in_marks place false (omega (arith, new_length))) i
        ]
      ] in
      let marks_length : length (overwritten at new_trues marks) ≡ length marks = omega (arith, length-overwritten at new_trues marks in_marks, new_length, room) in
      record {
        in_file = omega (arith, now_length, size);
        fewer = omega (arith, size);
        in_marks = room;
        undone = λ now' marks' now'_is marks'_is. record {
          order = in_order-front second earlier entry start order;
          seen = sym (now'_is ∙ back);
          synced = sym (ap (λ (f : FileState). f.synced) after) ∙ undone.synced;
          long = omega (arith, ap length (now'_is ∙ back), ap length marks'_is, marks_length, undone.long, now_length);
          count = ap length marks'_is ∙ marks_length ∙ undone.count;
          marked = λ place. undone.marked place ∙ ap (λ (f : FileState). get_or f.written place false || get_or marks place false) after ∙ same place ∙ sym (ap (λ (l : List Bool). get_or file.written place false || get_or l place false) marks'_is);
        };
      }

-- what was found once the file is as its last sync left it
found : (second : Bool) (entries rest : List Entry) (stored now : List ℕ) (marks : List Bool) (bytes : List ℕ) → after_entries second rest (started second entries stored) ≡ settled bytes → IsUndone second entries rest stored now marks
    → (now ≡ (after_entries second entries (started second entries stored)).synced) × (marks ≡ (after_entries second entries (started second entries stored)).written)
found second entries rest stored now marks bytes is undone =
    let final = after_entries second entries (started second entries stored) in
    let none : (place : ℕ) → get_or (settled bytes).written place false ≡ false = λ place. elim (cases_lt place (length bytes)) [
      | inl inside ↦ get_or-map (λ (_ : ℕ). false) bytes place 0 false inside
      | inr past ↦ get_or_past (settled bytes).written place false (omega (arith, length-map bytes (λ (_ : ℕ). false)))
    ] in
    let same : (place : ℕ) → get_or final.written place false ≡ get_or marks place false = λ place. undone.marked place ∙ ap (λ (f : FileState). get_or f.written place false || get_or marks place false) is ∙ ap (λ (b : Bool). b || get_or marks place false) (none place) in (
      sym undone.seen ∙ ap (λ (f : FileState). f.seen) is ∙ sym (ap (λ (f : FileState). f.synced) is) ∙ undone.synced,
      same_lists marks final.written undone.count (λ k d inside. get_or_default marks k d false inside ∙ sym (same k) ∙ get_or_default final.written k false d (omega (arith, undone.count))),
    )

pub found-start : (second : Bool) (entries rest : List Entry) (stored now : List ℕ) (marks : List Bool) → rest ≡ [] → IsUndone second entries rest stored now marks
    → (now ≡ (after_entries second entries (started second entries stored)).synced) × (marks ≡ (after_entries second entries (started second entries stored)).written)
found-start second entries rest stored now marks rest_is undone =
    found second entries rest stored now marks (started second entries stored).seen (ap (λ (l : List Entry). after_entries second l (started second entries stored)) rest_is) undone

pub found-sync : (second : Bool) (entries : List Entry) (stored : List ℕ) (earlier : List Entry) (s : Bool) (rest : List Entry) (now : List ℕ) (marks : List Bool) → rest ≡ earlier ++ record { second = s; change = Sync } ∷ []
    → is_of second (record { second = s; change = Sync }) ≡ true → IsUndone second entries rest stored now marks
    → (now ≡ (after_entries second entries (started second entries stored)).synced) × (marks ≡ (after_entries second entries (started second entries stored)).written)
found-sync second entries stored earlier s rest now marks rest_is own undone =
    let start = started second entries stored in
    let file = after_entries second earlier start in
    let after : after_entries second rest start ≡ settled file.seen =
    ap (λ (l : List Entry). after_entries second l start) rest_is ∙ after_entries-push second earlier (record { second = s; change = Sync }) start ∙ ap (λ (b : Bool). if b then settled file.seen else file) own in
    found second entries rest stored now marks file.seen after undone

take_last : (entries : List Entry) (n : ℕ) (entry : Entry) → 0 < n → n ≤ length entries → entry ≡ get_or entries (n - 1) entry → take n entries ≡ take (n - 1) entries ++ entry ∷ []
take_last entries n entry some inside is =
    let next : n ≡ n - 1 + 1 = omega arith in
    ap (λ (k : ℕ). take k entries) next ∙ take_more entries (n - 1) entry (omega arith) ∙ ap (λ (e : Entry). take (n - 1) entries ++ e ∷ []) (sym is)

-- the last entry before a place, by its change
last_is : (entries : List Entry) (n : ℕ) (entry : Entry) (change : Change) → 0 < n → n ≤ length entries → entry ≡ get_or entries (n - 1) entry → entry.change ≡ change
    → take n entries ≡ take (n - 1) entries ++ record { second = entry.second; change = change } ∷ []
last_is entries n entry change some inside is changes =
    take_last entries n entry some inside is ∙ ap (λ (ch : Change). take (n - 1) entries ++ record { second = entry.second; change = ch } ∷ []) changes

pub step-write : (second : Bool) (entries : List Entry) (stored : List ℕ) (n : ℕ) (entry : Entry) (at : ℕ) (bytes before now : List ℕ) (marks : List Bool) → 0 < n → n ≤ length entries → entry ≡ get_or entries (n - 1) entry
    → entry.change ≡ Write at bytes before → beq entry.second second ≡ true → IsUndone second entries (take n entries) stored now marks → Undoes second entries stored (take (n - 1) entries) entry.second at bytes before now marks
step-write second entries stored n entry at bytes before now marks some inside is changes own undone =
    undone-write second entries stored (take (n - 1) entries) entry.second at bytes before (take n entries) now marks (last_is entries n entry (Write at bytes before) some inside is changes) (is_of-same entry.second second (Write at bytes before) own) undone

pub step-other : (second : Bool) (entries : List Entry) (stored : List ℕ) (n : ℕ) (entry : Entry) (now : List ℕ) (marks : List Bool) → 0 < n → n ≤ length entries → entry ≡ get_or entries (n - 1) entry
    → beq entry.second second ≡ false → IsUndone second entries (take n entries) stored now marks → IsUndone second entries (take (n - 1) entries) stored now marks
step-other second entries stored n entry now marks some inside is other undone =
    undone-other second entries stored (take (n - 1) entries) entry.second entry.change (take n entries) now marks (take_last entries n entry some inside is) (is_of-other entry.second second entry.change other) undone

pub step-sync : (second : Bool) (entries : List Entry) (stored : List ℕ) (n : ℕ) (entry : Entry) (now : List ℕ) (marks : List Bool) → 0 < n → n ≤ length entries → entry ≡ get_or entries (n - 1) entry
    → entry.change ≡ Sync → beq entry.second second ≡ true → IsUndone second entries (take n entries) stored now marks
    → (now ≡ (after_entries second entries (started second entries stored)).synced) × (marks ≡ (after_entries second entries (started second entries stored)).written)
step-sync second entries stored n entry now marks some inside is changes own undone =
    found-sync second entries stored (take (n - 1) entries) entry.second (take n entries) now marks (last_is entries n entry Sync some inside is changes) (is_of-same entry.second second Sync own) undone

pub step-none : (second : Bool) (entries : List Entry) (stored : List ℕ) (n : ℕ) (now : List ℕ) (marks : List Bool) → n ≡ 0 → IsUndone second entries (take n entries) stored now marks
    → (now ≡ (after_entries second entries (started second entries stored)).synced) × (marks ≡ (after_entries second entries (started second entries stored)).written)
step-none second entries stored n now marks none undone =
    found-start second entries (take n entries) stored now marks (ap (λ (k : ℕ). take k entries) none) undone

pub step-first : (second : Bool) (entries : List Entry) (stored : List ℕ) → AreInOrder second entries (started second entries stored) → (after_entries second entries (started second entries stored)).seen ≡ stored
    → (now : List ℕ) (marks : List Bool) → now ≡ stored → marks ≡ replicate (length stored) false → IsUndone second entries (take (length entries) entries) stored now marks
step-first second entries stored order seen now marks now_is marks_is =
    subst (λ (l : List Entry). IsUndone second entries l stored now marks) (sym (take_all (length entries) entries (omega arith))) (undone-none second entries stored order seen now marks now_is marks_is)

-- a file has as many marks as bytes
pub length-written : (second : Bool) (entries : List Entry) (stored : List ℕ) → (after_entries second entries (started second entries stored)).seen ≡ stored
    → length (after_entries second entries (started second entries stored)).written ≡ length stored
length-written second entries stored seen =
    (sound-after_entries second entries (started second entries stored) (sound-settled (started second entries stored).seen)).marks ∙ ap length seen

-- a choice above 1 tears the files
left-torn : (choice : ℕ) (files : FileStates) → (choice ≡ 0 → ⊥) → (choice ≡ 1 → ⊥) → left choice files ≡ torn files (generator_of choice)
left-torn zero files not_zero not_one = absurd (not_zero refl)
left-torn (suc zero) files not_zero not_one = absurd (not_one refl)
left-torn (suc (suc n)) files not_zero not_one = refl

-- both files, torn one after the other
pub tears : (choice : ℕ) (files : FileStates) → (choice ≡ 0 → ⊥) → (choice ≡ 1 → ⊥) → (generator after end : Lcg) → generator ≡ generator_of choice
    → (synced seen : List ℕ) (written : List Bool) (synced' seen' : List ℕ) (written' : List Bool)
    → synced ≡ files.0.synced → files.0.seen ≡ seen → written ≡ files.0.written → synced' ≡ files.1.synced → files.1.seen ≡ seen' → written' ≡ files.1.written
    → (first second : List ℕ) → (first, after) ≡ torn_from (record { synced = synced; seen = seen; written = written }) 0 seen generator
    → (second, end) ≡ torn_from (record { synced = synced'; seen = seen'; written = written' }) 0 seen' after → (first, second) ≡ left choice files
tears choice files not_zero not_one generator after end seeded synced seen written synced' seen' written' s e w s' e' w' first second is is' =
    let of : List ℕ → List ℕ → List Bool → Lcg → List ℕ × Lcg = λ s e w g. torn_from (record { synced = s; seen = e; written = w }) 0 e g in
    let one : (let it : List ℕ × Lcg = (first, after) in it) ≡ torn_from files.0 0 files.0.seen (generator_of choice) = is ∙ (λ i. of (s i) (sym e i) (w i) (seeded i)) in
    let two : (let it : List ℕ × Lcg = (second, end) in it) ≡ torn_from files.1 0 files.1.seen (torn_from files.0 0 files.0.seen (generator_of choice)).1 =
    is' ∙ (λ i. of (s' i) (sym e' i) (w' i) (one i).1) in
    (λ i. ((one i).0, (two i).0)) ∙ sym (left-torn choice files not_zero not_one)
