use Rattle.std.proofs.Common.{rules, ◌≡◌, ◌∙◌, arith, sym, ap}
use Rattle.std.specs.declared.cmp.Ordering.TheVariants.{Less, Equal, Greater}
use Rattle.st_ptree.specs.Entries.{key_cmp}
use Rattle.st_node.specs.Shapes.{shape, entry_of}
use Rattle.st_ptree.proofs.Places.{steps_left, steps_right, stops_here}
use Rattle.st_ptree.proofs.search.find.Goals as goal

pub loop-rest-preserved-in-Less : goal.loop-rest-preserved-in-Less
loop-rest-preserved-in-Less g c =
    let o : key_cmp c.args.key.now (entry_of c.in-Full.node.value).0 ≡ Less = search rules in
    let side : shape c.left-rest.result.now ≡ shape c.in-Full.node.value.left = search rules in
    let step = steps_left c.args.key.now (ap shape c.in-Full.is) c.loop-rest.invariant.treap o in
    rw side (record {
      treap = step.treap;
      same = step.same ∙ c.loop-rest.invariant.same;
      steps = omega (arith, step.depth, c.look.ensures.steps, c.loop-rest.invariant.steps);
    })

pub returns-in-Equal-clause-value : goal.returns-in-Equal-clause-value
returns-in-Equal-clause-value g c =
    let o : key_cmp c.args.key.now (entry_of c.in-Full.node.value).0 ≡ Equal = search rules in
    let stop = stops_here c.args.key.now (ap shape c.in-Full.is) c.loop-rest.invariant.treap o in
    rw c.deref-in-Equal.ensures (sym stop.found_is ∙ c.loop-rest.invariant.same)

pub returns-in-Equal-clause-steps : goal.returns-in-Equal-clause-steps
returns-in-Equal-clause-steps g c =
    let o : key_cmp c.args.key.now (entry_of c.in-Full.node.value).0 ≡ Equal = search rules in
    let stop = stops_here c.args.key.now (ap shape c.in-Full.is) c.loop-rest.invariant.treap o in
    omega (arith, stop.depth, c.look.ensures.steps, c.loop-rest.invariant.steps)

pub loop-rest-preserved : goal.loop-rest-preserved
loop-rest-preserved g c =
    let o : key_cmp c.args.key.now (entry_of c.in-Full.node.value).0 ≡ Greater = search rules in
    let side : shape c.right-rest.result.now ≡ shape c.in-Full.node.value.right = search rules in
    let step = steps_right c.args.key.now (ap shape c.in-Full.is) c.loop-rest.invariant.treap o in
    rw side (record {
      treap = step.treap;
      same = step.same ∙ c.loop-rest.invariant.same;
      steps = omega (arith, step.depth, c.look.ensures.steps, c.loop-rest.invariant.steps);
    })
