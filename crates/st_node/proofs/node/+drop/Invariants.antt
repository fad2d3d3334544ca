use Rattle.std.proofs.Common.{◌+◌, ◌≤◌, ◌*◌}
use Rattle.st_node.specs.Drops.{weight, lean}
use Rattle.st_node.specs.Shapes.{shape}
use Rattle.st_node.proofs.node.+drop.Given as goal

-- four for each node, so that each call below the drop of a tree has a number of its own
abbrev pub decreases-Tree::drop : goal.decreases-Tree::drop
decreases-Tree::drop g l = 4 * weight (shape l.self)

abbrev pub decreases-unwound : goal.decreases-unwound
decreases-unwound g l = 4 * (weight (shape l.top.value.left) + weight (shape l.top.value.right)) + 3

abbrev pub decreases-behind : goal.decreases-behind
decreases-behind g l = 4 * weight (shape l.top.value.left) + 2

abbrev pub decreases-Node::into_right : goal.decreases-Node::into_right
decreases-Node::into_right g l = 4 * weight (shape l.self.left) + 1

-- what is left is no more than there was
abbrev pub invariant-Tree::drop-loop-self : goal.invariant-Tree::drop-loop-self
invariant-Tree::drop-loop-self g l = weight (shape l.self) ≤ weight (shape l.initial.self)

abbrev pub decreases-Tree::drop-loop-self : goal.decreases-Tree::drop-loop-self
decreases-Tree::drop-loop-self g l = lean (shape l.self)
