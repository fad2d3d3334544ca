use Rattle.std.proofs.Common.{ℕ, ◌∙◌, ◌++◌, ◌∷◌, [], ap, subst, sym}
use Rattle.st_versioned.specs.Window.{Stands, Versions}
use Rattle.st_versioned.proofs.Windows.{stands-mutated}
use Rattle.st_versioned.proofs.window.Window.mutate.Goals as goal

pub invariant_of-self-2 : goal.invariant_of-self-2
invariant_of-self-2 c =
    let inside = c.self.inside in
    let window : Versions = record { forgotten = inside.forgotten; newest = inside.newest; roots = inside.roots.items; making = inside.making; mutations = inside.mutations.items } in (
      c.self.invariant.0,
      subst (λ (w : Versions). Stands w)
          (λ i. record { forgotten = inside.forgotten; newest = inside.newest; roots = inside.roots.items; making = inside.making; mutations = sym (c.in_ok-push.ensures.items ∙ ap (λ (v : ℕ). inside.mutations.items ++ (v, c.args.mutation) ∷ []) c.version-version.ensures) i })
          (stands-mutated window c.in-Some.kept c.args.mutation c.in-Some.is c.self.invariant.1),
    )
