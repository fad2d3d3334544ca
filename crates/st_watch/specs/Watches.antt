-- The watches that are registered, number by number, and what becomes of each.
use Rattle.std.specs.Prelude.{◌≡◌, ◌≢◌, ℕ, ◌≤◌, ◌<◌, suc, Bool, true, false, not, ◌&&◌, ◌==◌, bytes_eq, List, length, Option, Some, None, IsSomeAnd, Result, Ok, Err, if◌then◌else◌}
use Rattle.std.specs.List.{find}
use Rattle.std.specs.Option.{option_map}
use Rattle.st_key.specs.Spans.{Span, key_less, within}
use Rattle.st_model.specs.declared.watch.WatchState.{WatchState}
use Rattle.st_model.specs.declared.watch.WatchState.TheVariants.{Waiting, Fired, Lost}
use Rattle.st_model.specs.Watching.{same_value}
use Rattle.st_watch.specs.declared.entry.Standing.{Standing}
use Rattle.st_watch.specs.declared.entry.Entry.{Entry}
use Rattle.st_watch.specs.declared.refusal.WatchRefusal.{WatchRefusal}
use Rattle.st_watch.specs.declared.refusal.WatchRefusal.TheVariants as why

-- the registered watches, and how many there may be
pub record Watches : Type 0 where
  pub limit : ℕ
  pub entries : List Entry

-- the watch that is registered under a number
abbrev pub watch_of : Watches → ℕ → Option Standing
watch_of set id = option_map (λ entry. entry.standing) (find (λ entry. entry.id == id) set.entries)

-- how many are registered
abbrev pub count : Watches → ℕ
count set = length set.entries

-- whether a watch in this state waits
abbrev pub is_waiting : WatchState → Bool
is_waiting Waiting = true
is_waiting (Fired version) = false
is_waiting (Lost version) = false

-- a watch of a key and a value, where the key has the value `now` at a version
abbrev pub new_watch : List ℕ → (value now : Option (List ℕ)) → ℕ → Standing
new_watch key value now version =
    record { key = key; value = value; state = if same_value now value then Waiting else Fired version }

-- what becomes of a watch where a key has the value `now` at a version: it fires if it waits for this key to have another
abbrev pub after_touch : List ℕ → Option (List ℕ) → ℕ → Standing → Standing
after_touch key now version standing =
    if is_waiting standing.state && bytes_eq standing.key key && not (same_value now standing.value)
    then record standing { state = Fired version }
    else standing

-- what becomes of a watch where a span is taken away at a version: it is lost if it waits for a key of the span
abbrev pub after_loss : Span → ℕ → Standing → Standing
after_loss span version standing =
    if is_waiting standing.state && within span standing.key then record standing { state = Lost version } else standing

-- one watch more stands than before, under this number
pub record IsRegistered (id : ℕ) (standing : Standing) (old new : Watches) : Type 0 where
  pub there : watch_of new id ≡ Some standing
  pub others : (other : ℕ) → other ≢ id → watch_of new other ≡ watch_of old other
  pub count : count new ≡ suc (count old)
  pub limit : new.limit ≡ old.limit

-- the watch of this number stands no more, and each other one does
pub record IsReleased (id : ℕ) (old new : Watches) : Type 0 where
  pub gone : watch_of new id ≡ None
  pub others : (other : ℕ) → other ≢ id → watch_of new other ≡ watch_of old other
  pub count : suc (count new) ≡ count old
  pub limit : new.limit ≡ old.limit

-- the same watches stand, each after this change
pub record AreChanged (change : Standing → Standing) (old new : Watches) : Type 0 where
  pub each : (id : ℕ) → watch_of new id ≡ option_map change (watch_of old id)
  pub count : count new ≡ count old
  pub limit : new.limit ≡ old.limit

-- `TooMany`, with the limit, exactly where as many watches stand as may, and never `WrongShard`
abbrev pub RefusesTooMany : Watches → Result (Unit {0}) WatchRefusal → Type 0
RefusesTooMany set (Ok done) = count set < set.limit
RefusesTooMany set (Err (why.WrongShard at)) = ⊥
RefusesTooMany set (Err (why.TooMany limit)) = (set.limit ≤ count set) × (limit ≡ set.limit)
RefusesTooMany set (Err why.NoMemory) = count set < set.limit

-- some watch waits for this key
abbrev pub IsWatched : Watches → List ℕ → Type 0
IsWatched set key =
    (id : ℕ) × IsSomeAnd (watch_of set id) (λ standing. (is_waiting standing.state ≡ true) × (standing.key ≡ key))

-- the least key, at or above `from`, of a watch that waits
pub record IsNextKey (set : Watches) (from key : List ℕ) : Type 0 where
  pub watched : IsWatched set key
  pub not_below : key_less key from ≡ false
  pub least : (other : List ℕ) → IsWatched set other → key_less other from ≡ false → key_less other key ≡ false

-- no watch waits for a key at or above `from`
abbrev pub NoNextKey : Watches → List ℕ → Type 0
NoNextKey set from = (other : List ℕ) → IsWatched set other → key_less other from ≡ true
