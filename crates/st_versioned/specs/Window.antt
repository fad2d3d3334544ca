-- The versions that a window keeps.
use Rattle.std.specs.Prelude.{◌≤◌, ◌<◌, ◌||◌, ◌&&◌, ◌++◌, ◌-◌, ℕ, Bool, length, true, max, nat_le, nat_lt, if◌then◌else◌, List, [], ◌∷◌, filter, Option, Some, None, IsTrue}
use Rattle.std.specs.List.{AllByRecursion, list_all, list_any, slice_get}
use Rattle.std.specs.Option.{ForSome, option_map, option_map_or}
use Rattle.st_mutation.specs.declared.batch.Mutation.{Mutation}
use Rattle.st_ptree.specs.Entries.{last_of}
use Rattle.st_versioned.specs.declared.change.Change.{Change}
use Rattle.st_versioned.specs.Apart.{AreApart}
use Rattle.st_versioned.specs.Root.{Row}
use Rattle.st_versioned.specs.Writing.{made_above, written}

-- a version, and the rows that it and those before it wrote
pub record Kept : Type 0 where
  pub version : ℕ
  pub root : List Row

-- A window as its callers see it: its roots from the oldest on, the one in the making, and the mutations of its versions in
-- their order.
pub record Versions : Type 0 where
  pub forgotten : ℕ
  pub newest : ℕ
  pub roots : List Kept
  pub making : Option Kept
  pub mutations : List (ℕ × Mutation)

-- the last root whose version isn't above this one
abbrev pub last_to : ℕ → List Kept → Option Kept
last_to version roots = last_of (filter (λ kept. nat_le kept.version version) roots)

-- the root of a version: none below the forgotten version and above the newest
abbrev pub root_of : Versions → ℕ → Option (List Row)
root_of window version =
    if nat_lt version window.forgotten || nat_lt window.newest version then None
    else option_map (λ kept. kept.root) (last_to version window.roots)

-- the root of the newest version
abbrev pub newest_root : Versions → List Row
newest_root window = option_map_or (λ kept. kept.root) (slice_get window.roots (length window.roots - 1)) []

-- the window with a version in the making
abbrev pub begun : ℕ → Versions → Versions
begun version window = record window { making = Some (record { version = version; root = made_above window.forgotten (newest_root window) }) }

-- a version with one change more
abbrev pub changed : Change → Kept → Kept
changed change kept = record { version = kept.version; root = written kept.version change kept.root }

abbrev pub with_change : Change → Versions → Versions
with_change change window = record window { making = option_map (changed change) window.making }

-- and one mutation more
abbrev pub with_mutation : Mutation → Versions → Versions
with_mutation mutation window =
    record window { mutations = window.mutations ++ option_map_or (λ kept. (kept.version, mutation) ∷ []) window.making [] }

abbrev pub mutations_to : ℕ → Versions → List (ℕ × Mutation)
mutations_to version window = filter (λ made. nat_le made.0 version) window.mutations

-- the window that seals the version in the making, and the one that gives it up
abbrev pub sealed : Versions → Versions
sealed window = option_map_or (λ kept. record window { newest = kept.version; roots = window.roots ++ kept ∷ []; making = None }) window.making window

abbrev pub abandoned : Versions → Versions
abandoned window = record window { making = None; mutations = mutations_to window.newest window }

-- The window that has forgotten what is below a version. Of the roots at it or below the last one stays.
abbrev pub kept_from : ℕ → List Kept → ℕ
kept_from version roots = option_map_or (λ kept. kept.version) (last_to version roots) 0

abbrev pub forgot : ℕ → Versions → Versions
forgot version window = record {
  forgotten = max window.forgotten version;
  newest = window.newest;
  roots = filter (λ kept. nat_le (kept_from (max window.forgotten version) window.roots) kept.version) window.roots;
  making = window.making;
  mutations = filter (λ made. nat_lt (max window.forgotten version) made.0) window.mutations;
}

-- versions that rise
abbrev pub is_rising : List Kept → Bool
is_rising [] = true
is_rising (kept ∷ later) = list_all (λ other. nat_lt kept.version other.version) later && is_rising later

-- the version that mutations are made in, or were last
abbrev pub latest : Versions → ℕ
latest window = option_map_or (λ kept. kept.version) window.making window.newest

-- what a window keeps of itself
pub record Stands (window : Versions) : Type 0 where
  pub order : window.forgotten ≤ window.newest
  pub newer : ForSome window.making (λ kept. window.newest < kept.version)
  pub first : IsTrue (list_any (λ kept. nat_le kept.version window.forgotten) window.roots)
  pub rising : IsTrue (is_rising window.roots)
  pub within : AllByRecursion (λ kept. kept.version ≤ window.newest) window.roots
  pub apart : AllByRecursion (λ kept. AreApart kept.root) window.roots
  pub making_apart : ForSome window.making (λ kept. AreApart kept.root)
  pub made : AllByRecursion (λ made. made.0 ≤ latest window) window.mutations
