use Rattle.std.proofs.Common.{◌≡◌, ◌∙◌, ◌<◌, None, ap, sym, subst, arith}
use Rattle.st_versioned.specs.Window.{Versions, newest_root}
use Rattle.st_versioned.specs.Writing.{made_above}
use Rattle.st_versioned.proofs.Windows.{stands-begin}
use Rattle.st_versioned.proofs.window.Window.begin.Goals as goal

pub invariant_of-self-2 : goal.invariant_of-self-2
invariant_of-self-2 c =
    let inside = c.self.inside in
    let window : Versions = record { forgotten = inside.forgotten; newest = inside.newest; roots = inside.roots.items; making = inside.making; mutations = inside.mutations.items } in
    let above : window.newest < c.args.version = subst (λ (w : Versions). w.newest < c.args.version) (sym c.self.view_is) c.requires.above in
    let none : window.making ≡ None = ap (λ (w : Versions). w.making) c.self.view_is ∙ c.requires.sealed in
    let kept = c.in_ok-kept.ensures.kept ∙ ap (λ (w : Versions). record { version = c.args.version; root = made_above w.forgotten (newest_root w) }) (sym c.self.view_is) in (
      λ x is. omega (arith, c.in_ok-reserve.ensures.ok),
      stands-begin window c.args.version c.reserve.new.self.items c.in_ok-kept.kept c.self.invariant.1 none above c.in_ok-reserve.ensures.items kept,
    )

pub returns-clause-stands : goal.returns-clause-stands
returns-clause-stands c = (invariant_of-self-2 c).1
