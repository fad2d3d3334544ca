use Rattle.std.proofs.Common.{◌≡◌, ◌∙◌, Some, ap, sym}
use Rattle.st_versioned.specs.Window.{Versions, with_change}
use Rattle.st_versioned.proofs.Windows.{remade-is, stands-remade}
use Rattle.st_versioned.proofs.window.Window.change.Goals as goal

pub changed-requires-clause-apart : goal.changed-requires-clause-apart
changed-requires-clause-apart c = c.self.invariant.1.making_apart c.in-Some.kept c.in-Some.is

pub invariant_of-self-2 : goal.invariant_of-self-2
invariant_of-self-2 c =
    let inside = c.self.inside in
    let window : Versions = record { forgotten = inside.forgotten; newest = inside.newest; roots = inside.roots.items; making = inside.making; mutations = inside.mutations.items } in (
      λ x is. c.self.invariant.0 c.in-Some.kept c.in-Some.is,
      stands-remade window c.in-Some.kept _ c.args.change.now c.in-Some.is c.self.invariant.1 c.requires.has_key c.in_ok-changed.ensures,
    )

pub returns-clause-ok : goal.returns-clause-ok
returns-clause-ok c =
    let inside = c.self.inside in
    let window : Versions = record { forgotten = inside.forgotten; newest = inside.newest; roots = inside.roots.items; making = inside.making; mutations = inside.mutations.items } in
    remade-is window c.in-Some.kept _ c.args.change.now c.in-Some.is c.in_ok-changed.ensures ∙ ap (with_change c.args.change.now) c.self.view_is

pub returns-clause-stands : goal.returns-clause-stands
returns-clause-stands c = (invariant_of-self-2 c).1
