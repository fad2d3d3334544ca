use Rattle.std.proofs.Common.{◌≤◌, ◌<◌, ◌∙◌, ap, rules, sym}
use Rattle.std.specs.Option.{option_map}
use Rattle.st_versioned.proofs.Windows.{last_to-here, last_to-past}
use Rattle.st_versioned.proofs.window.Window.last_to.Goals as goal
use Rattle.st_versioned.proofs.window.Window.last_to.Goals.{then-version, else-version}

pub loop-kept-preserved : goal.loop-kept-preserved
loop-kept-preserved c =
    let roots = c.deref-kept-items.result.now in
    let at = c.loop-kept.kept-index in
    let inside = c.loop-kept-test.true in
    elim c.if-version.branch [
      | then-version w ↦ ap (option_map (λ k. k.now)) w.last-is ∙ sym (last_to-here c.args.version roots at c.kept-item.result inside c.kept-item.is (search rules))
      | else-version w ↦ ap (option_map (λ k. k.now)) w.last-is ∙ c.loop-kept.invariant ∙ sym (last_to-past c.args.version roots at c.kept-item.result inside c.kept-item.is (search rules))
    ]
