use Rattle.std.proofs.Common.{◌≡◌, ap, subst, sym}
use Rattle.st_ptree.specs.Entries.{pairs_of}
use Rattle.st_versioned.specs.Apart.{AreApart, AreFrom}
use Rattle.st_versioned.specs.Window.{Kept}
use Rattle.st_versioned.proofs.Changes.{is-changed}
use Rattle.st_versioned.proofs.kept.Kept.changed.Goals as goal

pub invariant_of-result : goal.invariant_of-result
invariant_of-result c =
    let inside = c.self.inside in
    let rows = pairs_of inside.root.entries in
    let apart = subst (λ (k : Kept). AreApart k.root) (sym c.self.view_is) c.requires.apart in (
      subst (AreFrom inside.from) (sym c.in_ok-changed.ensures) ((is-changed inside.version c.args.change.now rows apart c.requires.has_key).from inside.from c.self.invariant.1 c.self.invariant.0),
      c.self.invariant.1,
    )
