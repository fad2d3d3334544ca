use Rattle.std.proofs.Common.{◌∙◌, ap}
use Rattle.st_node.specs.Shapes.{shape, entries}
use Rattle.st_ptree.specs.Entries.{without_key}
use Rattle.st_ptree.proofs.Cutting.{outside-key}
use Rattle.st_ptree.proofs.tree.PTree.remove.Goals as goal

pub returns-clause-ok : goal.returns-clause-ok
returns-clause-ok g c =
    c.in_ok-self-inside.ensures.value
    ∙ outside-key c.args.key.now (entries (shape c.self.inside.tree))
    ∙ ap (λ es. without_key es c.args.key.now) c.self.view_is
