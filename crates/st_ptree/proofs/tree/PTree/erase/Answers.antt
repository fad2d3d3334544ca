use Rattle.std.proofs.Common.{◌∙◌, ap}
use Rattle.st_node.specs.Shapes.{shape, entries}
use Rattle.st_ptree.specs.Entries.{without_range}
use Rattle.st_ptree.proofs.Cutting.{outside-range}
use Rattle.st_ptree.proofs.tree.PTree.erase.Goals as goal

pub returns-clause-ok : goal.returns-clause-ok
returns-clause-ok g c =
    c.in_ok-self-inside.ensures.value
    ∙ outside-range c.args.begin.now c.args.end.now (entries (shape c.self.inside.tree))
    ∙ ap (λ es. without_range es c.args.begin.now c.args.end.now) c.self.view_is
