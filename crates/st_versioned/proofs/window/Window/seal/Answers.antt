use Rattle.std.proofs.Common.{◌≡◌, Some, None, subst, sym}
use Rattle.st_versioned.specs.Window.{Stands, Versions}
use Rattle.st_versioned.proofs.Windows.{stands-sealed}
use Rattle.st_versioned.proofs.window.Window.seal.Goals as goal

pub invariant_of-self : goal.invariant_of-self
invariant_of-self c =
    let inside = c.self.inside in
    let kept = c.in-Some.kept in
    let window : Versions = record { forgotten = inside.forgotten; newest = inside.newest; roots = inside.roots.items; making = inside.making; mutations = inside.mutations.items } in
    let making : inside.making ≡ Some kept = sym c.in-Some.ensures.value in
    let none : c.take.new.self ≡ None = c.take.ensures.after in (
      λ x is. absurd (cc (none, is)),
      subst (λ (w : Versions). Stands w)
          (λ i. record { forgotten = inside.forgotten; newest = sym c.version-self-inside.ensures i; roots = sym c.push_reserved.ensures.items i; making = sym none i; mutations = inside.mutations.items })
          (stands-sealed window kept making c.self.invariant.1),
    )

pub returns-in-Some-clause-stands : goal.returns-in-Some-clause-stands
returns-in-Some-clause-stands c = (invariant_of-self c).1
