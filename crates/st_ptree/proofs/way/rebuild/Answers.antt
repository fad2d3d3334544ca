use Rattle.std.proofs.Common.{rules, ◌≡◌, ◌∙◌, ◌+◌, [], ◌∷◌, ◌++◌, List, length, length-append, arith, sym, ap}
use Rattle.st_node.specs.Shapes.{shape}
use Rattle.st_ptree.specs.Ways.{over, over_node, along}
use Rattle.st_ptree.specs.declared.way.Side.TheVariants.{Left, Right}
use Rattle.st_ptree.specs.declared.way.Side.{Side}
use Rattle.st_ptree.proofs.Climbing.{along-append}
use Rattle.st_ptree.proofs.way.rebuild.Goals as goal

pub loop-step-preserved-in_ok-tree-in-Left : goal.loop-step-preserved-in_ok-tree-in-Left
loop-step-preserved-in_ok-tree-in-Left g c =
    let n = c.in-Some.step.node.now in
    let popped : c.loop-step.path.items ≡ c.pop.new.self.items ++ c.in-Some.step ∷ [] = search rules in
    let one : length c.loop-step.path.items ≡ length c.pop.new.self.items + 1 = ap length popped ∙ length-append c.pop.new.self.items (c.in-Some.step ∷ []) in
    let made : shape c.in_ok-tree-in-Left.tree ≡ over_node n Left (shape c.loop-step.tree) = search rules in
    let over_is : over c.in-Some.step (shape c.loop-step.tree) ≡ over_node n Left (shape c.loop-step.tree) = ap (λ (d : Side). over_node n d (shape c.loop-step.tree)) c.in-Left.is in
    record {
      same = ap (along c.pop.new.self.items) (made ∙ sym over_is) ∙ sym (along-append c.pop.new.self.items c.in-Some.step (shape c.loop-step.tree))
          ∙ sym (ap (λ (path : List _). along path (shape c.loop-step.tree)) popped) ∙ c.loop-step.invariant.same;
      steps = omega (arith, one, c.loop-step.invariant.steps, c.remake.ensures.steps);
    }

pub loop-step-preserved : goal.loop-step-preserved
loop-step-preserved g c =
    let n = c.in-Some.step.node.now in
    let popped : c.loop-step.path.items ≡ c.pop.new.self.items ++ c.in-Some.step ∷ [] = search rules in
    let one : length c.loop-step.path.items ≡ length c.pop.new.self.items + 1 = ap length popped ∙ length-append c.pop.new.self.items (c.in-Some.step ∷ []) in
    let made : shape c.in_ok-tree-in-Right.tree ≡ over_node n Right (shape c.loop-step.tree) = search rules in
    let over_is : over c.in-Some.step (shape c.loop-step.tree) ≡ over_node n Right (shape c.loop-step.tree) = ap (λ (d : Side). over_node n d (shape c.loop-step.tree)) c.in-Right.is in
    record {
      same = ap (along c.pop.new.self.items) (made ∙ sym over_is) ∙ sym (along-append c.pop.new.self.items c.in-Some.step (shape c.loop-step.tree))
          ∙ sym (ap (λ (path : List _). along path (shape c.loop-step.tree)) popped) ∙ c.loop-step.invariant.same;
      steps = omega (arith, one, c.loop-step.invariant.steps, c.remake-in-Right.ensures.steps);
    }
