use Rattle.std.proofs.Common.{rules, ◌≡◌, ◌∙◌, true, false, Option, arith, ap}
use Rattle.std.specs.FinMap.Entries.{where_key}
use Rattle.std.specs.Option.{option_map, option_or}
use Rattle.st_node.specs.Shapes.{shape, entry_of, entries}
use Rattle.st_ptree.specs.Entries.{before, key_cmp, last_of}
use Rattle.st_ptree.proofs.Lists.{or_open, or_settled}
use Rattle.st_ptree.proofs.Neighbours.{goes_on_left, goes_on_right}
use Rattle.st_ptree.proofs.search.last_before.Goals as goal

pub loop-rest-preserved-then-is_before : goal.loop-rest-preserved-then-is_before
loop-rest-preserved-then-is_before g c =
    let n = c.in-Full.node.value in
    let key = c.args.key.now in
    let first : before key c.args.or_equal (entry_of n).0 ≡ true = search rules in
    let side : shape c.right-rest.result.now ≡ shape n.right = search rules in
    let step = goes_on_right key c.args.or_equal (ap shape c.in-Full.is) c.loop-rest.invariant.treap first in
    rw (side, c.deref-then-is_before.ensures) (record {
      treap = step.treap;
      last = c.loop-rest.invariant.last
          ∙ ap (λ (o : Option _). option_or o (option_map (λ node. entry_of node.now) c.loop-rest.nearest)) step.last
          ∙ or_settled (last_of (where_key key_cmp (before key c.args.or_equal) (entries (shape n.right)))) (option_map (λ node. entry_of node.now) c.loop-rest.nearest) (entry_of n);
      steps = omega (arith, step.depth, c.is_before.ensures.steps, c.loop-rest.invariant.steps);
    })

pub loop-rest-preserved : goal.loop-rest-preserved
loop-rest-preserved g c =
    let n = c.in-Full.node.value in
    let key = c.args.key.now in
    let later : before key c.args.or_equal (entry_of n).0 ≡ false = search rules in
    let side : shape c.left-rest.result.now ≡ shape n.left = search rules in
    let step = goes_on_left key c.args.or_equal (ap shape c.in-Full.is) c.loop-rest.invariant.treap later in
    rw side (record {
      treap = step.treap;
      last = c.loop-rest.invariant.last
          ∙ ap (λ (o : Option _). option_or o (option_map (λ node. entry_of node.now) c.loop-rest.nearest)) step.last
          ∙ or_open (last_of (where_key key_cmp (before key c.args.or_equal) (entries (shape n.left)))) (option_map (λ node. entry_of node.now) c.loop-rest.nearest);
      steps = omega (arith, step.depth, c.is_before.ensures.steps, c.loop-rest.invariant.steps);
    })
