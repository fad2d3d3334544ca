use Rattle.std.proofs.Common.{rules, ◌≡◌, refl}
use Rattle.st_node.specs.Shapes.{Fork, shape, entry_of}
use Rattle.st_ptree.proofs.Cutting.{grows_left_of, grows_right_of}
use Rattle.st_ptree.proofs.cut.grow.Goals as goal

pub returns-in_ok-back-in-Left : goal.returns-in_ok-back-in-Left
returns-in_ok-back-in-Left g c key or_equal old passed treap halves =
    let n = c.args.step.node.now in
    let made : shape c.in_ok-back-in-Left.back ≡ Fork (shape c.args.halves.back) (entry_of n) (shape n.right) = search rules in
    grows_left_of key or_equal n old c.in-Left.is refl made passed treap halves

pub returns-in_ok-front-in-Right : goal.returns-in_ok-front-in-Right
returns-in_ok-front-in-Right g c key or_equal old passed treap halves =
    let n = c.args.step.node.now in
    let made : shape c.in_ok-front-in-Right.front ≡ Fork (shape n.left) (entry_of n) (shape c.args.halves.front) = search rules in
    grows_right_of key or_equal n old c.in-Right.is made refl passed treap halves
