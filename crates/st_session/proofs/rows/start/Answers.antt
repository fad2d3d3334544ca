use Rattle.std.proofs.Common.{◌≡◌, ◌∙◌}
use Rattle.st_session.proofs.Next.{start-back, start-on, whole-back, whole-on}
use Rattle.st_session.proofs.rows.start.Goals as goal

pub returns-then-reverse-clause-from : goal.returns-then-reverse-clause-from
returns-then-reverse-clause-from c = start-back _ _ c.args.range.now c.if-reverse.true (c.bytes.ensures.value ∙ c.end.ensures.value)

pub returns-then-reverse-clause-whole : goal.returns-then-reverse-clause-whole
returns-then-reverse-clause-whole c = whole-back _ _ c.args.range.now c.if-reverse.true (c.bytes.ensures.value ∙ c.end.ensures.value)

pub returns-else-reverse-clause-from : goal.returns-else-reverse-clause-from
returns-else-reverse-clause-from c = start-on _ _ c.args.range.now c.if-reverse.false (c.bytes-else-reverse.ensures.value ∙ c.begin.ensures.value)

pub returns-else-reverse-clause-whole : goal.returns-else-reverse-clause-whole
returns-else-reverse-clause-whole c = whole-on _ _ c.args.range.now c.if-reverse.false (c.bytes-else-reverse.ensures.value ∙ c.begin.ensures.value)
