use Rattle.std.proofs.Common.{rules, ◌≡◌, ◌∙◌, ◌+◌, [], ◌∷◌, ◌++◌, length, length-append, arith, sym, ap, refl, subst}
use Rattle.std.specs.declared.cmp.Ordering.TheVariants.{Less, Equal, Greater}
use Rattle.st_ptree.specs.Entries.{key_cmp}
use Rattle.st_node.specs.Shapes.{shape, entry_of}
use Rattle.st_ptree.specs.Ways.{along}
use Rattle.st_ptree.specs.Treap.{IsTreap}
use Rattle.st_ptree.specs.declared.way.Side.TheVariants.{Left, Right}
use Rattle.st_ptree.specs.declared.way.Step.{Step}
use Rattle.st_ptree.proofs.Climbing.{leads_left, leads_right, on_left, on_right}
use Rattle.st_ptree.proofs.Places.{steps_left, steps_right, stops_here}
use Rattle.st_ptree.proofs.insert.descend.Goals as goal

pub returns-in_err-push-in-Less-clause-steps : goal.returns-in_err-push-in-Less-clause-steps
returns-in_err-push-in-Less-clause-steps g c =
    let o : key_cmp c.args.key.now (entry_of c.in-Full.node.value).0 ≡ Less = search rules in
    let step = steps_left c.args.key.now (ap shape c.in-Full.is) c.loop-rest.invariant.treap o in
    omega (arith, step.depth, c.look.ensures.steps, c.loop-rest.invariant.steps)

pub loop-rest-preserved-in-Less : goal.loop-rest-preserved-in-Less
loop-rest-preserved-in-Less g c =
    let n = c.in-Full.node.value in
    let o : key_cmp c.args.key.now (entry_of n).0 ≡ Less = search rules in
    let side : shape c.left-rest.result.now ≡ shape n.left = search rules in
    let step = steps_left c.args.key.now (ap shape c.in-Full.is) c.loop-rest.invariant.treap o in
    let down : Step g.row.T.Denot = record { node = c.deref-in-Less.result; side = Left } in
    let pushed : c.push.new.self.items ≡ c.loop-rest.path.items ++ down ∷ [] = c.in_ok-push-in-Less.ensures.items in
    let one : length c.push.new.self.items ≡ length c.loop-rest.path.items + 1 = ap length pushed ∙ length-append c.loop-rest.path.items (down ∷ []) in
    rw side (record {
      treap = step.treap;
      same = step.same ∙ c.loop-rest.invariant.same;
      whole = rw pushed (leads_left c.args.key.now c.loop-rest.path.items down n c.deref-in-Less.ensures (shape c.args.tree.now) (shape c.loop-rest.rest.now) (ap shape c.in-Full.is) c.loop-rest.invariant.whole refl);
      sides = rw pushed (on_left c.args.key.now c.loop-rest.path.items down n c.deref-in-Less.ensures c.loop-rest.invariant.sides refl o);
      steps = omega (arith, step.depth, c.look.ensures.steps, c.loop-rest.invariant.steps);
      short = omega (arith, one, step.depth, c.loop-rest.invariant.short);
    })

pub returns-in-Equal-clause-leads : goal.returns-in-Equal-clause-leads
returns-in-Equal-clause-leads g c =
    let n = c.in-Full.node.value in
    let o : key_cmp c.args.key.now (entry_of n).0 ≡ Equal = search rules in
    let stop = stops_here c.args.key.now (ap shape c.in-Full.is) c.loop-rest.invariant.treap o in
    rw c.deref-in-Equal.ensures (record {
      whole = ap (along c.loop-rest.path.items) (sym (ap shape c.in-Full.is)) ∙ c.loop-rest.invariant.whole;
      sides = c.loop-rest.invariant.sides;
      found_is = sym stop.found_is ∙ c.loop-rest.invariant.same;
      treap = subst IsTreap (ap shape c.in-Full.is) c.loop-rest.invariant.treap;
      here = o;
      short = omega (arith, c.loop-rest.invariant.short);
    })

pub returns-in-Equal-clause-steps : goal.returns-in-Equal-clause-steps
returns-in-Equal-clause-steps g c =
    let o : key_cmp c.args.key.now (entry_of c.in-Full.node.value).0 ≡ Equal = search rules in
    let stop = stops_here c.args.key.now (ap shape c.in-Full.is) c.loop-rest.invariant.treap o in
    omega (arith, stop.depth, c.look.ensures.steps, c.loop-rest.invariant.steps)

pub returns-in_err-push-in-Greater-clause-steps : goal.returns-in_err-push-in-Greater-clause-steps
returns-in_err-push-in-Greater-clause-steps g c =
    let o : key_cmp c.args.key.now (entry_of c.in-Full.node.value).0 ≡ Greater = search rules in
    let step = steps_right c.args.key.now (ap shape c.in-Full.is) c.loop-rest.invariant.treap o in
    omega (arith, step.depth, c.look.ensures.steps, c.loop-rest.invariant.steps)

pub loop-rest-preserved : goal.loop-rest-preserved
loop-rest-preserved g c =
    let n = c.in-Full.node.value in
    let o : key_cmp c.args.key.now (entry_of n).0 ≡ Greater = search rules in
    let side : shape c.right-rest.result.now ≡ shape n.right = search rules in
    let step = steps_right c.args.key.now (ap shape c.in-Full.is) c.loop-rest.invariant.treap o in
    let down : Step g.row.T.Denot = record { node = c.deref-in-Greater.result; side = Right } in
    let pushed : c.push-in-Greater.new.self.items ≡ c.loop-rest.path.items ++ down ∷ [] = c.in_ok-push-in-Greater.ensures.items in
    let one : length c.push-in-Greater.new.self.items ≡ length c.loop-rest.path.items + 1 = ap length pushed ∙ length-append c.loop-rest.path.items (down ∷ []) in
    rw side (record {
      treap = step.treap;
      same = step.same ∙ c.loop-rest.invariant.same;
      whole = rw pushed (leads_right c.args.key.now c.loop-rest.path.items down n c.deref-in-Greater.ensures (shape c.args.tree.now) (shape c.loop-rest.rest.now) (ap shape c.in-Full.is) c.loop-rest.invariant.whole refl);
      sides = rw pushed (on_right c.args.key.now c.loop-rest.path.items down n c.deref-in-Greater.ensures c.loop-rest.invariant.sides refl o);
      steps = omega (arith, step.depth, c.look.ensures.steps, c.loop-rest.invariant.steps);
      short = omega (arith, one, step.depth, c.loop-rest.invariant.short);
    })
