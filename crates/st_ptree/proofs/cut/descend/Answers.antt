use Rattle.std.proofs.Common.{rules, ◌≡◌, [], ◌∷◌, ◌++◌, true, false, ap, refl}
use Rattle.st_node.specs.Shapes.{shape, entry_of}
use Rattle.st_ptree.specs.Entries.{before}
use Rattle.st_ptree.specs.declared.way.Side.TheVariants.{Left, Right}
use Rattle.st_ptree.specs.declared.way.Step.{Step}
use Rattle.st_ptree.proofs.Climbing.{leads_left, leads_right}
use Rattle.st_ptree.proofs.Cutting.{still_passed}
use Rattle.st_ptree.proofs.cut.descend.Goals as goal

pub loop-rest-preserved-then-is_before : goal.loop-rest-preserved-then-is_before
loop-rest-preserved-then-is_before g c =
    let n = c.in-Full.node.value in
    let first : before c.args.key.now c.args.or_equal (entry_of n).0 ≡ true = search rules in
    let side : shape c.right-rest.result.now ≡ shape n.right = search rules in
    let down : Step g.row.T.Denot = record { node = c.deref-then-is_before.result; side = Right } in
    let pushed : c.push.new.self.items ≡ c.loop-rest.path.items ++ down ∷ [] = c.in_ok-push.ensures.items in
    rw (side, pushed) (record {
      whole = leads_right c.args.key.now c.loop-rest.path.items down n c.deref-then-is_before.ensures (shape c.args.tree.now) (shape c.loop-rest.rest.now) (ap shape c.in-Full.is) c.loop-rest.invariant.whole refl;
      passed = still_passed c.args.key.now c.args.or_equal c.loop-rest.path.items down n c.deref-then-is_before.ensures c.loop-rest.invariant.passed first;
    })

pub loop-rest-preserved : goal.loop-rest-preserved
loop-rest-preserved g c =
    let n = c.in-Full.node.value in
    let later : before c.args.key.now c.args.or_equal (entry_of n).0 ≡ false = search rules in
    let side : shape c.left-rest.result.now ≡ shape n.left = search rules in
    let down : Step g.row.T.Denot = record { node = c.deref-else-is_before.result; side = Left } in
    let pushed : c.push-else-is_before.new.self.items ≡ c.loop-rest.path.items ++ down ∷ [] = c.in_ok-push-2.ensures.items in
    rw (side, pushed) (record {
      whole = leads_left c.args.key.now c.loop-rest.path.items down n c.deref-else-is_before.ensures (shape c.args.tree.now) (shape c.loop-rest.rest.now) (ap shape c.in-Full.is) c.loop-rest.invariant.whole refl;
      passed = still_passed c.args.key.now c.args.or_equal c.loop-rest.path.items down n c.deref-else-is_before.ensures c.loop-rest.invariant.passed later;
    })
