use Rattle.std.proofs.Common.{rules, ◌≡◌, ◌∙◌, true, false, Option, arith, ap}
use Rattle.std.specs.Option.{option_map, option_or}
use Rattle.st_ptree.specs.Entries.{less, first_of, above}
use Rattle.st_node.specs.Shapes.{shape, entry_of, entries}
use Rattle.st_ptree.proofs.Lists.{or_open, or_settled}
use Rattle.st_ptree.proofs.Neighbours.{goes_left, goes_right}
use Rattle.st_ptree.proofs.search.next_after.Goals as goal

pub loop-rest-preserved-then-is_lt : goal.loop-rest-preserved-then-is_lt
loop-rest-preserved-then-is_lt g c =
    let n = c.in-Full.node.value in
    let lt : less c.args.key.now (entry_of n).0 ≡ true = search rules in
    let side : shape c.left-rest.result.now ≡ shape n.left = search rules in
    let step = goes_left c.args.key.now (ap shape c.in-Full.is) c.loop-rest.invariant.treap lt in
    rw (side, c.deref-then-is_lt.ensures) (record {
      treap = step.treap;
      first = c.loop-rest.invariant.first
          ∙ ap (λ (o : Option _). option_or o (option_map (λ node. entry_of node.now) c.loop-rest.nearest)) step.first
          ∙ or_settled (first_of (above (entries (shape n.left)) c.args.key.now)) (option_map (λ node. entry_of node.now) c.loop-rest.nearest) (entry_of n);
      steps = omega (arith, step.depth, c.look.ensures.steps, c.loop-rest.invariant.steps);
    })

pub loop-rest-preserved : goal.loop-rest-preserved
loop-rest-preserved g c =
    let n = c.in-Full.node.value in
    let ge : less c.args.key.now (entry_of n).0 ≡ false = search rules in
    let side : shape c.right-rest.result.now ≡ shape n.right = search rules in
    let step = goes_right c.args.key.now (ap shape c.in-Full.is) c.loop-rest.invariant.treap ge in
    rw side (record {
      treap = step.treap;
      first = c.loop-rest.invariant.first
          ∙ ap (λ (o : Option _). option_or o (option_map (λ node. entry_of node.now) c.loop-rest.nearest)) step.first
          ∙ or_open (first_of (above (entries (shape n.right)) c.args.key.now)) (option_map (λ node. entry_of node.now) c.loop-rest.nearest);
      steps = omega (arith, step.depth, c.look.ensures.steps, c.loop-rest.invariant.steps);
    })
