-- Which tree stands for a list: each entry ranks above all below it, and keys rise from left to right.
use Rattle.std.specs.Prelude.{◌≡◌, ℕ, true, List}
use Rattle.std.specs.List.{AllByRecursion}
use Rattle.st_ptree.specs.Entries.{less}
use Rattle.st_ptree.specs.Depth.{outranks}
use Rattle.st_node.specs.Shapes.{Shape, Tip, Fork, entries}

module _ {T : Type 0} where
  abbrev pub IsBefore : List ℕ × (ℕ × T) → List ℕ × (ℕ × T) → Type 0
  IsBefore e f = (less f.0 e.0 ≡ true) × (outranks e f ≡ true)

  abbrev pub IsBehind : List ℕ × (ℕ × T) → List ℕ × (ℕ × T) → Type 0
  IsBehind e f = (less e.0 f.0 ≡ true) × (outranks e f ≡ true)

  abbrev pub IsTreap : Shape T → Type 0
  IsTreap Tip = Unit {0}
  IsTreap (Fork l e r) = (IsTreap l × IsTreap r) × (AllByRecursion (IsBefore e) (entries l) × AllByRecursion (IsBehind e) (entries r))
