use Rattle.std.proofs.Common.{rules, ◌≡◌, ◌∙◌, ◌+◌, List, [], ◌∷◌, ◌++◌, length, length-append, arith, sym, ap, subst}
use Rattle.std.specs.List.{AllByRecursion}
use Rattle.st_node.specs.Shapes.{key_in}
use Rattle.st_ptree.specs.Ways.{IsOn, over, along}
use Rattle.st_ptree.specs.Treap.{IsTreap}
use Rattle.st_ptree.proofs.Climbing.{along-append, treap_along}
use Rattle.st_ptree.proofs.Lists.{all_split}
use Rattle.st_ptree.proofs.insert.climb.Goals as goal

pub loop-step-preserved : goal.loop-step-preserved
loop-step-preserved g c =
    let popped : c.loop-step.path.items ≡ c.pop.new.self.items ++ c.in-Some.step ∷ [] = search rules in
    let one : length c.loop-step.path.items ≡ length c.pop.new.self.items + 1 = ap length popped ∙ length-append c.pop.new.self.items (c.in-Some.step ∷ []) in
    record {
      stands = λ old sides treap stands.
          let was = c.loop-step.invariant.stands old sides treap stands in
          let whole : along c.pop.new.self.items (over c.in-Some.step was.0) ≡ along c.args.path.items old =
          sym (along-append c.pop.new.self.items c.in-Some.step was.0) ∙ sym (ap (λ (path : List _). along path was.0) popped) ∙ was.1.0 in
          let on = all_split (IsOn (key_in c.args.entry.now)) c.pop.new.self.items (c.in-Some.step ∷ []) (subst (AllByRecursion (IsOn (key_in c.args.entry.now))) popped was.1.1.0) in
          (over c.in-Some.step was.0, (whole, (on.0, c.in_ok-below.ensures.raises was.0 on.1.0 (treap_along c.pop.new.self.items (over c.in-Some.step was.0) (subst IsTreap (sym whole) treap)) was.1.1.1)));
      steps = omega (arith, one, c.loop-step.invariant.steps, c.in_ok-below.ensures.steps);
    }
