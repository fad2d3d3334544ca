use Rattle.std.proofs.Common.{rules, ◌≡◌, ◌∙◌, List, [], ◌∷◌, ◌++◌, sym, ap, subst, refl}
use Rattle.std.specs.List.{AllByRecursion}
use Rattle.st_node.specs.Shapes.{Shape, Tip, shape}
use Rattle.st_ptree.specs.Cut.{AreHalves, IsPassed}
use Rattle.st_ptree.specs.Treap.{IsTreap}
use Rattle.st_ptree.specs.Ways.{along, over}
use Rattle.st_ptree.proofs.Climbing.{along-append, treap_along}
use Rattle.st_ptree.proofs.Cutting.{no_halves}
use Rattle.st_ptree.proofs.Lists.{all_split}
use Rattle.st_ptree.proofs.cut.climb.Goals as goal

pub loop-step-init : goal.loop-step-init
loop-step-init g c = (Tip, (refl, (c.requires.passed, no_halves c.args.key.now c.args.or_equal)))

pub loop-step-preserved : goal.loop-step-preserved
loop-step-preserved g c =
    let was = c.loop-step.invariant in
    let popped : c.loop-step.path.items ≡ c.pop.new.self.items ++ c.in-Some.step ∷ [] = search rules in
    let whole : along c.pop.new.self.items (over c.in-Some.step was.0) ≡ along c.args.path.items Tip =
    sym (along-append c.pop.new.self.items c.in-Some.step was.0) ∙ sym (ap (λ (path : List _). along path was.0) popped) ∙ was.1.0 in
    let passed = all_split (IsPassed c.args.key.now c.args.or_equal) c.pop.new.self.items (c.in-Some.step ∷ []) (subst (AllByRecursion (IsPassed c.args.key.now c.args.or_equal)) popped was.1.1.0) in
    let treap = treap_along c.pop.new.self.items (over c.in-Some.step was.0) (subst IsTreap (sym whole) c.requires.treap) in
    (over c.in-Some.step was.0, (whole, (passed.0, c.in_ok-halves.ensures c.args.key.now c.args.or_equal was.0 passed.1.0 treap was.1.1.1)))

pub returns : goal.returns
returns g c =
    let was = c.loop-step.invariant in
    let empty : c.loop-step.path.items ≡ [] = search rules in
    subst (λ (s : Shape _). AreHalves c.args.key.now c.args.or_equal s (shape c.loop-step.halves.front) (shape c.loop-step.halves.back)) (sym (ap (λ (path : List _). along path was.0) empty) ∙ was.1.0) was.1.1.1
