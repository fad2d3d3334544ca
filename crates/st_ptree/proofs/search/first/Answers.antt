use Rattle.std.proofs.Common.{rules, ◌≡◌, ◌∙◌, Option, ap}
use Rattle.std.specs.Option.{option_map, option_or}
use Rattle.st_node.specs.Shapes.{shape, entry_of, entries}
use Rattle.st_ptree.specs.Entries.{first_of}
use Rattle.st_ptree.proofs.Lists.{or_settled}
use Rattle.st_ptree.proofs.Neighbours.{first_goes_left}
use Rattle.st_ptree.proofs.search.first.Goals as goal

pub loop-rest-preserved : goal.loop-rest-preserved
loop-rest-preserved g c =
    let n = c.in-Full.node.value in
    let side : shape c.left-rest.result.now ≡ shape n.left = search rules in
    rw (side, c.deref.ensures) (c.loop-rest.invariant
    ∙ ap (λ (o : Option _). option_or o (option_map (λ node. entry_of node.now) c.loop-rest.first)) (first_goes_left (ap shape c.in-Full.is))
    ∙ or_settled (first_of (entries (shape n.left))) (option_map (λ node. entry_of node.now) c.loop-rest.first) (entry_of n))
