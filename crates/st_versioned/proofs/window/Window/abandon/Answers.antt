use Rattle.std.proofs.Common.{◌≡◌, ◌∙◌, None, ap, nat_le, rules, subst, sym}
use Rattle.std.proofs.lemmas.Fn.{filter_same}
use Rattle.st_versioned.specs.Window.{Stands, Versions, abandoned, mutations_to}
use Rattle.st_versioned.proofs.Windows.{stands-abandoned}
use Rattle.st_versioned.proofs.window.Window.abandon.Goals as goal

pub invariant_of-self : goal.invariant_of-self
invariant_of-self c =
    let inside = c.self.inside in
    let window : Versions = record { forgotten = inside.forgotten; newest = inside.newest; roots = inside.roots.items; making = inside.making; mutations = inside.mutations.items } in
    let left : c.retain.new.self.items ≡ mutations_to inside.newest window = filter_same _ (λ made. nat_le made.0 inside.newest) _ (λ x b f' k. search rules) _ _ c.retain.ensures.filtered in (
      λ x is. absurd (cc (is)),
      subst (λ (w : Versions). Stands w)
          (λ i. record { forgotten = inside.forgotten; newest = inside.newest; roots = inside.roots.items; making = None; mutations = sym left i })
          (stands-abandoned window c.self.invariant.1),
    )

pub returns-clause-abandoned : goal.returns-clause-abandoned
returns-clause-abandoned c =
    let inside = c.self.inside in
    let window : Versions = record { forgotten = inside.forgotten; newest = inside.newest; roots = inside.roots.items; making = inside.making; mutations = inside.mutations.items } in
    let left : c.retain.new.self.items ≡ mutations_to inside.newest window = filter_same _ (λ made. nat_le made.0 inside.newest) _ (λ x b f' k. search rules) _ _ c.retain.ensures.filtered in
    (λ i. record { forgotten = inside.forgotten; newest = inside.newest; roots = inside.roots.items; making = None; mutations = left i })
    ∙ ap abandoned c.self.view_is

pub returns-clause-stands : goal.returns-clause-stands
returns-clause-stands c = (invariant_of-self c).1
