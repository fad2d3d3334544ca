use Rattle.std.proofs.Common.{◌∙◌, ◌&&◌, ap, sym}
use Rattle.st_key.specs.Spans.{is_canonical}
use Rattle.st_key.proofs.Canonical.{behind-first}
use Rattle.st_key.proofs.key_set.is_apart.Goals as goal

pub returns-in-Some : goal.returns-in-Some
returns-in-Some c =
    behind-first c.args.piece.now c.in-Some.next.now c.args.later.now c.in-Some.ensures.value c.begin.ensures.ordered c.begin-in-Some.ensures.ordered
    ∙ ap (λ b. b && is_canonical c.args.later.now) (sym c.ends_before.ensures)
