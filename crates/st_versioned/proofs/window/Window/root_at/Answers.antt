use Rattle.std.proofs.Common.{◌≡◌, ◌∙◌, None, ap, sym}
use Rattle.std.specs.Option.{option_map}
use Rattle.st_versioned.specs.Window.{Versions, last_to}
use Rattle.st_versioned.proofs.Windows.{no-root}
use Rattle.st_versioned.proofs.window.Window.root_at.Goals as goal

-- from the forgotten version to the newest there is a root
pub returns-in-None-clause-none : goal.returns-in-None-clause-none
returns-in-None-clause-none c =
    let inside = c.self.inside in
    let window : Versions = record { forgotten = inside.forgotten; newest = inside.newest; roots = inside.roots.items; making = inside.making; mutations = inside.mutations.items } in
    let none : last_to c.args.version window.roots ≡ None =
    ap (λ (v : Versions). last_to c.args.version v.roots) c.self.view_is ∙ sym c.last_to.ensures ∙ ap (option_map (λ k. k.now)) c.in-None.is in
    no-root c.args.version window c.self.invariant.1 c.if-version-self.false none _
