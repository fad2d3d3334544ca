use Rattle.std.proofs.Common.{◌≡◌, ◌∙◌, ap, arith}
use Rattle.st_ptree.specs.Entries.{pairs_of}
use Rattle.st_versioned.specs.Window.{Kept}
use Rattle.st_versioned.specs.Writing.{made_above}
use Rattle.st_versioned.proofs.Forgetting.{from-next, kept-above}
use Rattle.st_versioned.proofs.kept.Kept.begun.Goals as goal

pub returns-then-forgotten-self : goal.returns-then-forgotten-self
returns-then-forgotten-self c =
    let inside = c.self.inside in
    (λ i. record { version = c.args.version; root = pairs_of (c.in_ok-share.ensures i).entries })
    ∙ (λ i. record { version = c.args.version; root = kept-above c.args.forgotten inside.from (pairs_of inside.root.entries) c.if-forgotten-self.true c.self.invariant.0 i })
    ∙ ap (λ (k : Kept). record { version = c.args.version; root = made_above c.args.forgotten k.root }) c.self.view_is

pub invariant_of-result-2 : goal.invariant_of-result-2
invariant_of-result-2 c = (from-next c.args.forgotten (pairs_of c.self.inside.root.entries) _ c.in_ok-above.ensures, omega (arith, c.requires.later))
