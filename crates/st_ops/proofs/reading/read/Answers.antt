use Rattle.std.proofs.Common.{◌∙◌, sym, subst, List}
use Rattle.st_ops.specs.declared.op.Op.{Op}
use Rattle.st_ops.proofs.Steps.{Leads, not_empty, leads_next, leads_astray, op_shorter, next_is}
use Rattle.st_ops.proofs.reading.read.Goals as goal

pub returns-in_default : goal.returns-in_default
returns-in_default c =
    let full = not_empty c.loop-rest.rest c.loop-rest-test.ensures in
    let none = sym c.in_ok-op.ensures ∙ c.in_default.is in
    leads_astray c.args.bytes.now c.loop-rest.ops.items c.loop-rest.stage c.loop-rest.rest c.len.result c.loop-rest.invariant full none c.len.ensures.value

pub loop-rest-smaller : goal.loop-rest-smaller
loop-rest-smaller c =
    let some = sym c.in_ok-op.ensures ∙ c.in-Some.is in
    op_shorter c.loop-rest.rest (c.in-Some.op, c.in-Some.behind) (next_is c.loop-rest.stage c.loop-rest.rest (c.in-Some.op, c.in-Some.next, c.in-Some.behind) some).0

pub loop-rest-preserved : goal.loop-rest-preserved
loop-rest-preserved c =
    let full = not_empty c.loop-rest.rest c.loop-rest-test.ensures in
    let some = sym c.in_ok-op.ensures ∙ c.in-Some.is in
    subst (λ (ops : List Op). Leads c.args.bytes.now ops c.in-Some.next c.in-Some.behind) (sym c.in_ok-push.ensures.items)
    (leads_next c.args.bytes.now c.loop-rest.ops.items c.loop-rest.stage c.loop-rest.rest (c.in-Some.op, c.in-Some.next, c.in-Some.behind) c.loop-rest.invariant full some)
