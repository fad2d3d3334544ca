use Rattle.std.proofs.Common.{◌-◌, arith}
use Rattle.st_atomic.proofs.Sweeps.{compared_by}
use Rattle.st_atomic.proofs.little_endian.is_below.Goals as goal

pub returns-then-a-i : goal.returns-then-a-i
returns-then-a-i c =
    compared_by c.args.a.now c.args.b.now (c.loop-i.i - 1) c.loop-i.i (omega arith) c.requires (omega arith)
    (λ k. omega (arith, c.type_inv.a k)) (λ k. omega (arith, c.type_inv.b k)) c.loop-i.invariant c.if-a-i.true
