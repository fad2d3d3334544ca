-- Which entry of some is the nearest.
use Rattle.std.specs.Prelude.{◌≡◌, ℕ, Bool, false, List, IsTrue, Contains}
use Rattle.std.specs.List.{AllByRecursion}
use Rattle.st_ptree.specs.Entries.{less}

module _ {T : Type 0} (keeps : List ℕ → Bool) (es : List (List ℕ × (ℕ × T))) where
  -- no entry's key passes
  abbrev pub HaveNone : Type 0
  HaveNone = AllByRecursion (λ other. keeps other.0 ≡ false) es

  -- the entry is one whose key passes, and no other of these has a key below it
  pub record IsLeast (e : List ℕ × (ℕ × T)) : Type 0 where
    pub among : Contains es e
    pub passes : IsTrue (keeps e.0)
    pub least : AllByRecursion (λ other. IsTrue (keeps other.0) → less other.0 e.0 ≡ false) es

  -- the entry is one whose key passes, and no other of these has a key above it
  pub record IsGreatest (e : List ℕ × (ℕ × T)) : Type 0 where
    pub among : Contains es e
    pub passes : IsTrue (keeps e.0)
    pub greatest : AllByRecursion (λ other. IsTrue (keeps other.0) → less e.0 other.0 ≡ false) es
