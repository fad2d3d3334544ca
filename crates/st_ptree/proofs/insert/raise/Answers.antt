use Rattle.std.proofs.Common.{rules, ◌≡◌, ◌<◌, ◌≤◌}
use Rattle.st_node.specs.Shapes.{Fork, shape, entry_of, key_in, item_in}
use Rattle.st_ptree.proofs.Raised.{made_left_of, made_right_of, parts_left_of, parts_right_of, whole_left_of, whole_right_of}
use Rattle.st_ptree.proofs.insert.raise.Goals as goal

pub returns-in_ok-remake-in-Whole-Left-clause-raises :
    goal.returns-in_ok-remake-in-Whole-Left-clause-raises
returns-in_ok-remake-in-Whole-Left-clause-raises g c old on treap stands =
    let n = c.args.step.node.now in
    let out : shape c.in_ok-remake-in-Whole-Left.field-0 ≡ Fork (shape c.in-Whole-Left.tree) (entry_of n) (shape n.right) = search rules in
    whole_left_of (key_in c.args.entry.now, (c.args.prio, item_in c.args.entry.now)) n old c.in-Whole-Left.is-1 c.in-Whole-Left.is-0 out on treap stands

pub returns-in_ok-remake-in-Whole-Right-clause-raises :
    goal.returns-in_ok-remake-in-Whole-Right-clause-raises
returns-in_ok-remake-in-Whole-Right-clause-raises g c old on treap stands =
    let n = c.args.step.node.now in
    let out : shape c.in_ok-remake-in-Whole-Right.field-0 ≡ Fork (shape n.left) (entry_of n) (shape c.in-Whole-Right.tree) = search rules in
    whole_right_of (key_in c.args.entry.now, (c.args.prio, item_in c.args.entry.now)) n old c.in-Whole-Right.is-1 c.in-Whole-Right.is-0 out on treap stands

pub returns-in_ok-behind-in-Parts-Left-clause-raises :
    goal.returns-in_ok-behind-in-Parts-Left-clause-raises
returns-in_ok-behind-in-Parts-Left-clause-raises g c old on treap stands =
    let n = c.args.step.node.now in
    let out : shape c.in_ok-behind-in-Parts-Left.behind ≡ Fork (shape c.in-Parts-Left.behind) (entry_of n) (shape n.right) = search rules in
    let higher : n.prio ≤ c.args.prio = search rules in
    parts_left_of (key_in c.args.entry.now, (c.args.prio, item_in c.args.entry.now)) n old c.in-Parts-Left.is-1 c.in-Parts-Left.is-0 out higher on treap stands

pub returns-in_ok-remake-in-Parts-Left-clause-raises :
    goal.returns-in_ok-remake-in-Parts-Left-clause-raises
returns-in_ok-remake-in-Parts-Left-clause-raises g c old on treap stands =
    let n = c.args.step.node.now in
    let out : shape c.in_ok-remake-in-Parts-Left.field-0 ≡ Fork (Fork (shape c.in-Parts-Left.before) (key_in c.args.entry.now, (c.args.prio, item_in c.args.entry.now)) (shape c.in-Parts-Left.behind)) (entry_of n) (shape n.right) = search rules in
    let lower : c.args.prio < n.prio = search rules in
    made_left_of (key_in c.args.entry.now, (c.args.prio, item_in c.args.entry.now)) n old c.in-Parts-Left.is-1 c.in-Parts-Left.is-0 out lower on treap stands

pub returns-in_ok-before-in-Parts-Right-clause-raises :
    goal.returns-in_ok-before-in-Parts-Right-clause-raises
returns-in_ok-before-in-Parts-Right-clause-raises g c old on treap stands =
    let n = c.args.step.node.now in
    let out : shape c.in_ok-before-in-Parts-Right.before ≡ Fork (shape n.left) (entry_of n) (shape c.in-Parts-Right.before) = search rules in
    let higher : n.prio < c.args.prio = search rules in
    parts_right_of (key_in c.args.entry.now, (c.args.prio, item_in c.args.entry.now)) n old c.in-Parts-Right.is-1 c.in-Parts-Right.is-0 out higher on treap stands

pub returns-in_ok-remake-in-Parts-Right-clause-raises :
    goal.returns-in_ok-remake-in-Parts-Right-clause-raises
returns-in_ok-remake-in-Parts-Right-clause-raises g c old on treap stands =
    let n = c.args.step.node.now in
    let out : shape c.in_ok-remake-in-Parts-Right.field-0 ≡ Fork (shape n.left) (entry_of n) (Fork (shape c.in-Parts-Right.before) (key_in c.args.entry.now, (c.args.prio, item_in c.args.entry.now)) (shape c.in-Parts-Right.behind)) = search rules in
    let lower : c.args.prio ≤ n.prio = search rules in
    made_right_of (key_in c.args.entry.now, (c.args.prio, item_in c.args.entry.now)) n old c.in-Parts-Right.is-1 c.in-Parts-Right.is-0 out lower on treap stands
