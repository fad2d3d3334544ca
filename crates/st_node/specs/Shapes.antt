-- Trees without their pointers, and the parts of nodes. An entry is a key with its priority and its item.
use Rattle.std.specs.Prelude.{ℕ, List, [], ◌∷◌, ◌++◌}
use Rattle.std.specs.declared.alloc.Global.{Global}
use Rattle.std.specs.declared.sync.Arc.{Arc}
use Rattle.st_node.specs.declared.node.Keyed.{Keyed}
use Rattle.st_node.specs.declared.node.Node.{Node}
use Rattle.st_node.specs.declared.node.Tree.{Tree, Empty, Full'}

-- no entry, or a shape before an entry, the entry, and a shape behind it
pub data Shape (T : Type 0) : Type 0 where
  Tip : Shape T
  Fork : Shape T → List ℕ × (ℕ × T) → Shape T → Shape T

module _ {T : Type 0} where
  -- the key and the item that nodes share
  abbrev pub key_in : Arc (Keyed T) Global → List ℕ
  key_in shared = shared.value.key

  abbrev pub item_in : Arc (Keyed T) Global → T
  item_in shared = shared.value.item

  -- the shape of a tree
  abbrev pub shape : Tree T → Shape T
  shape Empty = Tip
  shape (Full' prio left shared priority right) = Fork (shape left) (key_in shared, (priority, item_in shared)) (shape right)

  -- a node's sides, what it shares, and its entry
  abbrev pub left_of : Node T → Tree T
  left_of node = node.left

  abbrev pub right_of : Node T → Tree T
  right_of node = node.right

  abbrev pub shared_of : Node T → Arc (Keyed T) Global
  shared_of node = node.entry

  abbrev pub entry_of : Node T → List ℕ × (ℕ × T)
  entry_of node = (key_in node.entry, (node.prio, item_in node.entry))

  -- the shape of the tree that has the node on top
  abbrev pub node_shape : Node T → Shape T
  node_shape node = Fork (shape node.left) (entry_of node) (shape node.right)

  -- the entries of a shape from the left to the right
  abbrev pub entries : Shape T → List (List ℕ × (ℕ × T))
  entries Tip = []
  entries (Fork left entry right) = entries left ++ entry ∷ entries right
