-- An entry that joins those of a file.
use Rattle.std.proofs.Common.{◌≡◌, ◌+◌, ◌==◌, if◌then◌else◌, ◌||◌, ℕ, suc, Bool, true, false, List, [], ◌∷◌, ◌++◌, length, take, drop, map, inl, inr, refl, sym, ◌∙◌, ap, subst, arith, min, not, append_assoc, length-append, take-append-drop}
use Rattle.std.specs.List.{list_any}
use Rattle.std.proofs.lemmas.Bool.{cases_lt, false≢true}
use Rattle.std.proofs.lemmas.Bool.Decides.{nat_tests}
use Rattle.std.proofs.lemmas.List.{append-nil, take_at, drop_at, take_all, drop-drop, length-take, length-take-le, length-map}
use Rattle.std.proofs.lemmas.List.Folds.{list_any-append}
use Rattle.st_disk.specs.FileState.{FileState, overwritten, settled, with_bytes, has_unsynced}
use Rattle.st_disk.specs.Entries.{is_of, before_change, before_entries, after_change, after_entry, after_entries, KeepsBytes, CanFollow, AreInOrder, LeadTo}
use Rattle.st_disk.specs.declared.memory.Entry.{Entry}
use Rattle.st_disk.specs.declared.memory.Change.TheVariants.{Write, Sync}

-- what stood there comes back
pub before_write : (at : ℕ) (bytes before old : List ℕ) → KeepsBytes at bytes before old → before_change (Write at bytes before) (overwritten at bytes old) ≡ old
before_write at bytes before old keeps =
    let front : length (take at old) ≡ at = length-take-le at old keeps.inside in
    let rest : List ℕ = drop at old in
    let size : length before ≡ min (length bytes) (length rest) = ap length keeps.kept ∙ length-take (length bytes) rest in
    let taken : take at (overwritten at bytes old) ≡ take at old =
    ap (λ (l : List ℕ). take at l) (append_assoc (take at old) bytes (drop (at + length bytes) old)) ∙ take_at (take at old) (bytes ++ drop (at + length bytes) old) at front in
    elim (cases_lt (length rest) (length bytes)) [
      | inl past ↦
          let short : length before == length bytes ≡ false = grind (arith, nat_tests) in
          let all : before ≡ rest = keeps.kept ∙ take_all (length bytes) rest (omega arith) in
          let choose : Bool → List ℕ = λ b. if b then take at (overwritten at bytes old) ++ before ++ drop (at + length bytes) (overwritten at bytes old) else take at (overwritten at bytes old) ++ before in
          ap choose short ∙ ap (λ (l : List ℕ). l ++ before) taken ∙ ap (λ (l : List ℕ). take at old ++ l) all ∙ take-append-drop at old
      | inr within ↦
          let same : length before == length bytes ≡ true = grind (arith, nat_tests) in
          let choose : Bool → List ℕ = λ b. if b then take at (overwritten at bytes old) ++ before ++ drop (at + length bytes) (overwritten at bytes old) else take at (overwritten at bytes old) ++ before in
          let behind : drop (at + length bytes) (overwritten at bytes old) ≡ drop (length bytes) rest =
          drop_at (take at old ++ bytes) (drop (at + length bytes) old) (at + length bytes) (omega (arith, length-append (take at old) bytes, front)) ∙ sym (drop-drop (length bytes) at old) in
          ap choose same
          ∙ ap (λ (l : List ℕ). l ++ before ++ drop (at + length bytes) (overwritten at bytes old)) taken
          ∙ ap (λ (l : List ℕ). take at old ++ before ++ l) behind
          ∙ append_assoc (take at old) before (drop (length bytes) rest)
          ∙ ap (λ (l : List ℕ). take at old ++ (l ++ drop (length bytes) rest)) keeps.kept
          ∙ ap (λ (l : List ℕ). take at old ++ l) (take-append-drop (length bytes) rest)
          ∙ take-append-drop at old
    ]

-- the bytes before the last of some entries
pub before_entries-push : (second : Bool) (entries : List Entry) (entry : Entry) (now : List ℕ)
    → before_entries second (entries ++ entry ∷ []) now ≡ before_entries second entries (if is_of second entry then before_change entry.change now else now)
before_entries-push second [] entry now = refl
before_entries-push second (first ∷ entries) entry now =
    ap (λ (after : List ℕ). if is_of second first then before_change first.change after else after) (before_entries-push second entries entry now)

pub after_entries-push : (second : Bool) (entries : List Entry) (entry : Entry) (file : FileState)
    → after_entries second (entries ++ entry ∷ []) file ≡ after_entry second entry (after_entries second entries file)
after_entries-push second [] entry file = refl
after_entries-push second (first ∷ entries) entry file = after_entries-push second entries entry (after_entry second first file)

pub in_order-push : (second : Bool) (entries : List Entry) (entry : Entry) (file : FileState) → AreInOrder second entries file
    → (is_of second entry ≡ true → CanFollow entry.change (after_entries second entries file).seen) → AreInOrder second (entries ++ entry ∷ []) file
in_order-push second [] entry file order can = (can, tt)
in_order-push second (first ∷ entries) entry file order can = (order.0, in_order-push second entries entry (after_entry second first file) order.1 can)

pub in_order-front : (second : Bool) (entries : List Entry) (entry : Entry) (file : FileState) → AreInOrder second (entries ++ entry ∷ []) file → AreInOrder second entries file
in_order-front second [] entry file order = tt
in_order-front second (first ∷ entries) entry file order = (order.0, in_order-front second entries entry (after_entry second first file) order.1)

pub in_order-last : (second : Bool) (entries : List Entry) (entry : Entry) (file : FileState) → AreInOrder second (entries ++ entry ∷ []) file
    → is_of second entry ≡ true → CanFollow entry.change (after_entries second entries file).seen
in_order-last second [] entry file order = order.0
in_order-last second (first ∷ entries) entry file order = in_order-last second entries entry (after_entry second first file) order.1

-- from a start that is known
lead_to : (second : Bool) (entries : List Entry) (now : List ℕ) (unsynced : Bool) (start : List ℕ) → before_entries second entries now ≡ start
    → AreInOrder second entries (settled start) → (after_entries second entries (settled start)).seen ≡ now → has_unsynced (after_entries second entries (settled start)) ≡ unsynced
    → LeadTo second entries now unsynced
lead_to second entries now unsynced start is order seen flag = record {
  in_order = subst (λ (s : List ℕ). AreInOrder second entries (settled s)) (sym is) order;
  seen = ap (λ (s : List ℕ). (after_entries second entries (settled s)).seen) is ∙ seen;
  flag = ap (λ (s : List ℕ). has_unsynced (after_entries second entries (settled s))) is ∙ flag;
}

-- An entry of the other file changes nothing.
pub start-other : (second : Bool) (entries : List Entry) (entry : Entry) (now : List ℕ) → is_of second entry ≡ false
    → before_entries second (entries ++ entry ∷ []) now ≡ before_entries second entries now
start-other second entries entry now other =
    before_entries-push second entries entry now ∙ ap (λ (b : Bool). before_entries second entries (if b then before_change entry.change now else now)) other

pub lead_to-other : (second : Bool) (entries : List Entry) (entry : Entry) (now : List ℕ) (unsynced : Bool) → is_of second entry ≡ false
    → LeadTo second entries now unsynced → LeadTo second (entries ++ entry ∷ []) now unsynced
lead_to-other second entries entry now unsynced other leads =
    let start = before_entries second entries now in
    let file = after_entries second entries (settled start) in
    let after : after_entries second (entries ++ entry ∷ []) (settled start) ≡ file =
    after_entries-push second entries entry (settled start) ∙ ap (λ (b : Bool). if b then after_change entry.change file else file) other in
    lead_to second (entries ++ entry ∷ []) now unsynced start (start-other second entries entry now other)
    (in_order-push second entries entry (settled start) leads.in_order (λ is. absurd (false≢true (sym other ∙ is))))
    (ap (λ (f : FileState). f.seen) after ∙ leads.seen)
    (ap has_unsynced after ∙ leads.flag)

-- An entry of this file, which could follow.
start-own : (second : Bool) (entries : List Entry) (entry : Entry) (old now : List ℕ) → is_of second entry ≡ true → before_change entry.change now ≡ old
    → before_entries second (entries ++ entry ∷ []) now ≡ before_entries second entries old
start-own second entries entry old now own back =
    before_entries-push second entries entry now
    ∙ ap (λ (b : Bool). before_entries second entries (if b then before_change entry.change now else now)) own
    ∙ ap (λ (l : List ℕ). before_entries second entries l) back

lead_to-own : (second : Bool) (entries : List Entry) (entry : Entry) (old now : List ℕ) (unsynced flag : Bool) → is_of second entry ≡ true → before_change entry.change now ≡ old
    → CanFollow entry.change old
    → ((file : FileState) → file.seen ≡ old → has_unsynced file ≡ unsynced → ((after_change entry.change file).seen ≡ now) × (has_unsynced (after_change entry.change file) ≡ flag))
    → LeadTo second entries old unsynced → LeadTo second (entries ++ entry ∷ []) now flag
lead_to-own second entries entry old now unsynced flag own back can step leads =
    let start = before_entries second entries old in
    let file = after_entries second entries (settled start) in
    let after : after_entries second (entries ++ entry ∷ []) (settled start) ≡ after_change entry.change file =
    after_entries-push second entries entry (settled start) ∙ ap (λ (b : Bool). if b then after_change entry.change file else file) own in
    let stepped = step file leads.seen leads.flag in
    lead_to second (entries ++ entry ∷ []) now flag start (start-own second entries entry old now own back)
    (in_order-push second entries entry (settled start) leads.in_order (λ is. subst (λ (l : List ℕ). CanFollow entry.change l) (sym leads.seen) can))
    (ap (λ (f : FileState). f.seen) after ∙ stepped.0)
    (ap has_unsynced after ∙ stepped.1)

pub or-true : (a : Bool) → (a || true) ≡ true
or-true true = refl
or-true false = refl

pub or-false : (a : Bool) → (a || false) ≡ a
or-false true = refl
or-false false = refl

-- a write leaves something unsynced unless it has no bytes
unsynced-write : (at : ℕ) (bytes : List ℕ) (file : FileState) → has_unsynced (with_bytes at bytes file) ≡ (has_unsynced file || not (length bytes == 0))
unsynced-write at [] file =
    let same : at + 0 ≡ at = omega arith in
    ap (λ (l : List Bool). list_any (λ (mark : Bool). mark) l)
    (ap (λ (l : List Bool). l ++ drop (at + 0) file.written) (append-nil (take at file.written)) ∙ ap (λ (n : ℕ). take at file.written ++ drop n file.written) same ∙ take-append-drop at file.written)
    ∙ sym (or-false (has_unsynced file))
unsynced-write at (byte ∷ bytes) file =
    let marks = map (λ (_ : ℕ). true) bytes in
    let rest = drop (at + suc (length bytes)) file.written in
    let count : length marks ≡ length bytes = length-map bytes (λ _. true) in
    let same : drop (at + suc (length marks)) file.written ≡ rest = ap (λ (n : ℕ). drop (at + suc n) file.written) count in
    let nonempty : (suc (length bytes) == 0) ≡ false = grind (arith, nat_tests) in
    list_any-append (λ (mark : Bool). mark) (take at file.written ++ true ∷ marks) (drop (at + suc (length marks)) file.written)
    ∙ ap (λ (b : Bool). b || list_any (λ (mark : Bool). mark) (drop (at + suc (length marks)) file.written)) (list_any-append (λ (mark : Bool). mark) (take at file.written) (true ∷ marks) ∙ or-true (list_any (λ (mark : Bool). mark) (take at file.written)))
    ∙ sym (ap (λ (b : Bool). has_unsynced file || not b) nonempty ∙ or-true (has_unsynced file))

none-settled : (bytes : List ℕ) → has_unsynced (settled bytes) ≡ false
none-settled [] = refl
none-settled (byte ∷ bytes) = none-settled bytes

-- before the first call
pub lead_to-new : (second : Bool) (entries : List Entry) (now : List ℕ) → entries ≡ [] → LeadTo second entries now false
lead_to-new second entries now none =
    subst (λ (l : List Entry). LeadTo second l now false) (sym none) (record { in_order = tt; seen = refl; flag = none-settled now })

pub start-write : (second : Bool) (entries : List Entry) (at : ℕ) (bytes before old : List ℕ) → is_of second (record { second = second; change = Write at bytes before }) ≡ true
    → KeepsBytes at bytes before old
    → before_entries second (entries ++ record { second = second; change = Write at bytes before } ∷ []) (overwritten at bytes old) ≡ before_entries second entries old
start-write second entries at bytes before old own keeps =
    start-own second entries (record { second = second; change = Write at bytes before }) old (overwritten at bytes old) own (before_write at bytes before old keeps)

pub lead_to-write : (second : Bool) (entries : List Entry) (at : ℕ) (bytes before old : List ℕ) (unsynced : Bool) → is_of second (record { second = second; change = Write at bytes before }) ≡ true
    → KeepsBytes at bytes before old → LeadTo second entries old unsynced
    → LeadTo second (entries ++ record { second = second; change = Write at bytes before } ∷ []) (overwritten at bytes old) (unsynced || not (length bytes == 0))
lead_to-write second entries at bytes before old unsynced own keeps leads =
    lead_to-own second entries (record { second = second; change = Write at bytes before }) old (overwritten at bytes old) unsynced (unsynced || not (length bytes == 0)) own
    (before_write at bytes before old keeps) keeps
    (λ file seen flag. (ap (λ (l : List ℕ). overwritten at bytes l) seen, unsynced-write at bytes file ∙ ap (λ (b : Bool). b || not (length bytes == 0)) flag)) leads

pub start-sync : (second : Bool) (entries : List Entry) (now : List ℕ) → is_of second (record { second = second; change = Sync }) ≡ true
    → before_entries second (entries ++ record { second = second; change = Sync } ∷ []) now ≡ before_entries second entries now
start-sync second entries now own = start-own second entries (record { second = second; change = Sync }) now now own refl

pub lead_to-sync : (second : Bool) (entries : List Entry) (now : List ℕ) (unsynced : Bool) → is_of second (record { second = second; change = Sync }) ≡ true
    → LeadTo second entries now unsynced → LeadTo second (entries ++ record { second = second; change = Sync } ∷ []) now false
lead_to-sync second entries now unsynced own leads =
    lead_to-own second entries (record { second = second; change = Sync }) now now unsynced false own refl tt
    (λ file seen flag. (seen, none-settled file.seen)) leads
