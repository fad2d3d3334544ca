use Rattle.std.proofs.Common.{◌∙◌}
use Rattle.st_node.specs.Shapes.{shape}
use Rattle.st_ptree.proofs.Cutting.{halves_apart, halves_outside}
use Rattle.st_ptree.proofs.Ordered.{ordered}
use Rattle.st_ptree.proofs.cut.without.Goals as goal

pub join-requires-clause-apart : goal.join-requires-clause-apart
join-requires-clause-apart g c =
    halves_apart c.args.begin.now c.args.end.now c.args.or_equal c.in_ok-first.ensures c.in_ok-second.ensures

pub returns-clause-value : goal.returns-clause-value
returns-clause-value g c =
    c.in_ok-join.ensures.list ∙ halves_outside c.args.begin.now c.args.end.now c.args.or_equal c.in_ok-first.ensures c.in_ok-second.ensures (ordered (shape c.args.tree.now) c.requires)
