-- How registered watches are kept: those that wait in the order of their keys, and the others behind them.
use Rattle.std.specs.Prelude.{◌≡◌, ℕ, ◌-◌, ◌≤◌, Bool, true, false, ◌==◌, List, [], ◌∷◌, length, take, drop, count_by, Option, if◌then◌else◌}
use Rattle.std.specs.List.{AllByRecursion}
use Rattle.st_key.specs.Spans.{key_less}
use Rattle.st_model.specs.declared.watch.WatchState.{WatchState}
use Rattle.st_model.specs.declared.watch.WatchState.TheVariants.{Fired}
use Rattle.st_model.specs.Watching.{same_value}
use Rattle.st_watch.specs.declared.entry.Standing.{Standing}
use Rattle.st_watch.specs.declared.entry.Entry.{Entry}
use Rattle.st_watch.specs.Watches.{is_waiting}

-- whether the watch of an entry waits
abbrev pub waits : Entry → Bool
waits entry = is_waiting entry.standing.state

-- no key is below that of an entry before it
abbrev pub IsRising : List Entry → Type 0
IsRising [] = Unit {0}
IsRising (entry ∷ later) =
    AllByRecursion (λ other. key_less other.standing.key entry.standing.key ≡ false) later × IsRising later

-- the first entries, this many, wait, in the order of their keys, and the others don't
pub record IsParted (entries : List Entry) (waiting : ℕ) : Type 0 where
  pub bound : waiting ≤ length entries
  pub first : AllByRecursion (λ entry. waits entry ≡ true) (take waiting entries)
  pub others : AllByRecursion (λ entry. waits entry ≡ false) (drop waiting entries)
  pub rising : IsRising (take waiting entries)

-- the entries from one place up to another are those that pass a test
pub record IsRun (test : Entry → Bool) (entries : List Entry) (from to : ℕ) : Type 0 where
  pub order : from ≤ to
  pub bound : to ≤ length entries
  pub before : AllByRecursion (λ entry. test entry ≡ false) (take from entries)
  pub inside : AllByRecursion (λ entry. test entry ≡ true) (take (to - from) (drop from entries))
  pub behind : AllByRecursion (λ entry. test entry ≡ false) (drop to entries)

-- no two entries have one number
abbrev pub IsDistinct : List Entry → Type 0
IsDistinct entries = (id : ℕ) → count_by (λ entry. entry.id == id) entries ≤ 1

-- an entry after a change of its watch
abbrev pub with_change : (Standing → Standing) → Entry → Entry
with_change change entry = record entry { standing = change entry.standing }

-- a watch in this state, and a watch that fires unless the value `now` is its own
abbrev pub in_state : WatchState → Standing → Standing
in_state state standing = record standing { state = state }

abbrev pub after_value : Option (List ℕ) → ℕ → Standing → Standing
after_value now version standing = if same_value now standing.value then standing else in_state (Fired version) standing
