use Rattle.std.proofs.Common.{rules, ◌≡◌}
use Rattle.st_node.specs.Shapes.{Fork, shape, entry_of, key_in, item_in}
use Rattle.st_ptree.proofs.Climbing.{starts_here}
use Rattle.st_ptree.proofs.insert.start.Goals as goal

pub returns-clause-starts : goal.returns-clause-starts
returns-clause-starts g c =
    let n = c.in-Some.node.now in
    let made : shape c.in_ok-make.field-0 ≡ Fork (shape n.left) (key_in c.args.entry.now, (c.args.prio, item_in c.args.entry.now)) (shape n.right) = search rules in
    rw (c.in-Some.is, made) (λ treap at ranks. starts_here (key_in c.args.entry.now, (c.args.prio, item_in c.args.entry.now)) (shape n.left) (entry_of n) (shape n.right) treap at ranks)
