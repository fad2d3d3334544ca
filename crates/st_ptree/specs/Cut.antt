-- A tree in two, at a place beside a key.
use Rattle.std.specs.Prelude.{◌≡◌, ℕ, Bool, true, false, not, List}
use Rattle.std.specs.FinMap.Entries.{where_key}
use Rattle.std.specs.List.{AllByRecursion}
use Rattle.st_node.specs.Shapes.{Shape, Tip, shape, entry_of, entries}
use Rattle.st_ptree.specs.Entries.{before, key_cmp}
use Rattle.st_ptree.specs.Treap.{IsTreap}
use Rattle.st_ptree.specs.Ways.{along, over}
use Rattle.st_ptree.specs.declared.cut.Halves.{Halves}
use Rattle.st_ptree.specs.declared.way.Side.{Side}
use Rattle.st_ptree.specs.declared.way.Side.TheVariants.{Left, Right}
use Rattle.st_ptree.specs.declared.way.Step.{Step}

-- a way goes to the left of nodes behind the place, and to the right of those before it
abbrev pub is_right : Side → Bool
is_right Left = false
is_right Right = true

module _ {T : Type 0} where
  abbrev pub IsPassed : List ℕ → Bool → Step T → Type 0
  IsPassed key or_equal step = before key or_equal (entry_of step.node.now).0 ≡ is_right step.side

  -- the way to the place
  pub record LeadsBeside (key : List ℕ) (or_equal : Bool) (tree : Shape T) (path : List (Step T)) : Type 0 where
    pub whole : along path Tip ≡ tree
    pub passed : AllByRecursion (IsPassed key or_equal) path

  -- the entries before the place, and those behind it
  pub record AreHalves (key : List ℕ) (or_equal : Bool) (old front back : Shape T) : Type 0 where
    pub front_treap : IsTreap front
    pub back_treap : IsTreap back
    pub front_is : entries front ≡ where_key key_cmp (before key or_equal) (entries old)
    pub back_is : entries back ≡ where_key key_cmp (λ k. not (before key or_equal k)) (entries old)

  -- the halves of a node's tree, from those of the side that the place is on
  abbrev pub Grows : Step T → Halves T → Halves T → Type 0
  Grows step halves out = (key : List ℕ) (or_equal : Bool) (old : Shape T) → IsPassed key or_equal step → IsTreap (over step old)
      → AreHalves key or_equal old (shape halves.front) (shape halves.back)
      → AreHalves key or_equal (over step old) (shape out.front) (shape out.back)
