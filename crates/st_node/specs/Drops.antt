-- How much of a tree is left to drop.
use Rattle.std.specs.Prelude.{ℕ, ◌+◌, ◌*◌, Option, Some, None}
use Rattle.std.specs.declared.alloc.Global.{Global}
use Rattle.std.specs.declared.sync.Arc.{Arc}
use Rattle.st_node.specs.declared.node.Node.{Node}
use Rattle.st_node.specs.Shapes.{Shape, Tip, Fork, node_shape}

module _ {T : Type 0} where
  -- the shape of a tree by the node on top of it, if there is one
  abbrev pub shape_of_top : Option (Arc (Node T) Global) → Shape T
  shape_of_top None = Tip
  shape_of_top (Some top) = node_shape top.value

  -- how many nodes there are
  abbrev pub weight : Shape T → ℕ
  weight Tip = 0
  weight (Fork left entry right) = 1 + weight left + weight right

  -- nodes count twice until they are on the way that goes right alone
  abbrev pub lean : Shape T → ℕ
  lean Tip = 0
  lean (Fork left entry right) = 1 + 2 * weight left + lean right
