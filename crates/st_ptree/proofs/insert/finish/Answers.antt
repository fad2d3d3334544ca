use Rattle.std.proofs.Common.{rules, ◌≡◌, subst}
use Rattle.st_node.specs.Shapes.{Fork, shape, key_in, item_in}
use Rattle.st_ptree.specs.Insert.{StandsFor}
use Rattle.st_ptree.proofs.Climbing.{finishes_parts}
use Rattle.st_ptree.proofs.insert.finish.Goals as goal

pub returns-in_ok-make-in-Parts-clause-finishes : goal.returns-in_ok-make-in-Parts-clause-finishes
returns-in_ok-make-in-Parts-clause-finishes g c old stands =
    let made : shape c.in_ok-make-in-Parts.field-0 ≡ Fork (shape c.in-Parts.left) (key_in c.args.entry.now, (c.args.prio, item_in c.args.entry.now)) (shape c.in-Parts.right) = search rules in
    rw made (finishes_parts (key_in c.args.entry.now, (c.args.prio, item_in c.args.entry.now)) old (shape c.in-Parts.left) (shape c.in-Parts.right)
    (subst (StandsFor (key_in c.args.entry.now, (c.args.prio, item_in c.args.entry.now)) old) c.in-Parts.is stands))
