use Rattle.std.proofs.Common.{rules, ◌≡◌, ◌≤◌, ◌<◌, [], ◌∷◌, ◌++◌, refl, ap, subst, sym}
use Rattle.st_node.specs.Shapes.{shape}
use Rattle.st_ptree.specs.Join.{IsJoin}
use Rattle.st_ptree.specs.Treap.{IsTreap}
use Rattle.st_ptree.specs.declared.way.Side.TheVariants.{Left, Right}
use Rattle.st_ptree.specs.declared.way.Step.{Step}
use Rattle.st_ptree.proofs.Climbing.{along_left, along_right}
use Rattle.st_ptree.proofs.Joining.{sew_left, sew_right}
use Rattle.st_ptree.proofs.join.sew.Goals as goal

pub loop-before-preserved-then-prio : goal.loop-before-preserved-then-prio
loop-before-preserved-then-prio g c =
    let n = c.in-Full.left.value in
    let level : c.in-Full-behind.right.value.prio ≤ n.prio = search rules in
    let sewn = sew_right (ap shape c.in-Full.is) (ap shape c.in-Full-behind.is) c.loop-before.invariant.before c.loop-before.invariant.behind c.loop-before.invariant.apart level in
    let side : shape c.right-before.result.now ≡ shape n.right = search rules in
    let down : Step g.row.T.Denot = record { node = c.deref-then-prio.result; side = Right } in
    let pushed : c.push.new.self.items ≡ c.loop-before.path.items ++ down ∷ [] = c.in_ok-push.ensures.items in
    rw (side, pushed) (record {
      before = (subst IsTreap (ap shape c.in-Full.is) c.loop-before.invariant.before).0.1;
      behind = c.loop-before.invariant.behind;
      apart = sewn.0;
      leads = λ t j. subst (IsJoin (shape c.args.before.now) (shape c.args.behind.now)) (sym (along_right [] c.loop-before.path.items down n c.deref-then-prio.ensures refl t)) (c.loop-before.invariant.leads _ (sewn.1 t j));
    })

pub loop-before-preserved : goal.loop-before-preserved
loop-before-preserved g c =
    let n = c.in-Full-behind.right.value in
    let lower : c.in-Full.left.value.prio < n.prio = search rules in
    let sewn = sew_left (ap shape c.in-Full.is) (ap shape c.in-Full-behind.is) c.loop-before.invariant.before c.loop-before.invariant.behind c.loop-before.invariant.apart lower in
    let side : shape c.left-behind.result.now ≡ shape n.left = search rules in
    let down : Step g.row.T.Denot = record { node = c.deref-else-prio.result; side = Left } in
    let pushed : c.push-else-prio.new.self.items ≡ c.loop-before.path.items ++ down ∷ [] = c.in_ok-push-2.ensures.items in
    rw (side, pushed) (record {
      before = c.loop-before.invariant.before;
      behind = (subst IsTreap (ap shape c.in-Full-behind.is) c.loop-before.invariant.behind).0.0;
      apart = sewn.0;
      leads = λ t j. subst (IsJoin (shape c.args.before.now) (shape c.args.behind.now)) (sym (along_left [] c.loop-before.path.items down n c.deref-else-prio.ensures refl t)) (c.loop-before.invariant.leads _ (sewn.1 t j));
    })
