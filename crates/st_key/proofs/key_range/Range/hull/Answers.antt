use Rattle.st_key.specs.Forms.{hull_filled}
use Rattle.st_key.proofs.key_range.Range.hull.Goals as goal

pub invariant_of-result : goal.invariant_of-result
invariant_of-result c =
    rw (c.in_ok-clone.ensures.cases, c.in_ok-clone-2.ensures.cases, c.least.ensures, c.greatest.ensures)
    (hull_filled (record { begin = c.self.inside.begin; end = c.self.inside.end }) (record { begin = c.r.inside.begin; end = c.r.inside.end }) c.self.invariant)
