-- Ways down a tree.
use Rattle.std.specs.Prelude.{◌≡◌, ℕ, true, List, [], ◌∷◌}
use Rattle.st_node.specs.declared.node.Node.{Node}
use Rattle.st_node.specs.Shapes.{Shape, Fork, shape, entry_of, left_of, right_of}
use Rattle.st_ptree.specs.Entries.{less}
use Rattle.st_ptree.specs.declared.way.Step.{Step}
use Rattle.st_ptree.specs.declared.way.Side.{Side}
use Rattle.st_ptree.specs.declared.way.Side.TheVariants.{Left, Right}

module _ {T : Type 0} where
  -- the tree of a node, where one of its sides is this
  abbrev pub over_node : Node T → Side → Shape T → Shape T
  over_node n Left s = Fork s (entry_of n) (shape (right_of n))
  over_node n Right s = Fork (shape (left_of n)) (entry_of n) s

  -- the key is on this side of the node
  abbrev pub IsOnSide : List ℕ → Node T → Side → Type 0
  IsOnSide key n Left = less key (entry_of n).0 ≡ true
  IsOnSide key n Right = less (entry_of n).0 key ≡ true

  abbrev pub over : Step T → Shape T → Shape T
  over step s = over_node step.node.now step.side s

  abbrev pub IsOn : List ℕ → Step T → Type 0
  IsOn key step = IsOnSide key step.node.now step.side

  -- the tree at the end of a path
  abbrev pub along : List (Step T) → Shape T → Shape T
  along [] s = s
  along (step ∷ path) s = over step (along path s)
