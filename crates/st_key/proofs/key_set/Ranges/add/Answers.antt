use Rattle.st_key.specs.Forms.{canonical-with_span}
use Rattle.st_key.specs.Members.{holds-with_span}
use Rattle.st_key.proofs.key_set.Ranges.add.Goals as goal

pub invariant_of-self : goal.invariant_of-self
invariant_of-self c =
    rw c.in_ok-self-inside.ensures.value
    (canonical-with_span c.args.self.now c.args.r.now (rw (← c.self.view_is) c.self.invariant) c.in_ok-self-inside.ensures.ordered)

pub returns-clause-ok : goal.returns-clause-ok
returns-clause-ok c =
    rw c.in_ok-self-inside.ensures.value (λ key. holds-with_span c.args.self.now c.args.r.now key)

pub returns-clause-canonical : goal.returns-clause-canonical
returns-clause-canonical c =
    rw c.in_ok-self-inside.ensures.value
    (canonical-with_span c.args.self.now c.args.r.now (rw (← c.self.view_is) c.self.invariant) c.in_ok-self-inside.ensures.ordered)
