use Rattle.std.proofs.Common.{◌≡◌, length, Some, None, ap, arith}
use Rattle.st_atomic.proofs.Lengths.{short_result}
use Rattle.st_atomic.proofs.apply.Goals as goal

pub returns-in-Some-clause-short : goal.returns-in-Some-clause-short
returns-in-Some-clause-short c =
    let bound = c.requires.old c.in-Some.old c.in-Some.is in
    short_result c.of_present.result (λ bytes. bytes.items) c.args.op (Some c.in-Some.old.now) c.args.operand.now c.of_present.ensures
    (λ other is. let same : c.in-Some.old.now ≡ other = cc in omega (arith, bound, ap length same)) c.requires.operand

pub returns-in-None-clause-short : goal.returns-in-None-clause-short
returns-in-None-clause-short c =
    short_result c.of_absent.result (λ bytes. bytes.items) c.args.op None c.args.operand.now c.of_absent.ensures (λ other is. cc) c.requires.operand
