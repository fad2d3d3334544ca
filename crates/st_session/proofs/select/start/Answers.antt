use Rattle.std.proofs.Common.{rules, ◌≡◌, ◌∙◌, true, false, List, ℕ, sym, subst}
use Rattle.st_key.specs.Spans.{key_less}
use Rattle.st_session.specs.Walking.{IsFrom}
use Rattle.st_session.proofs.Next.{start-back, start-below, start-on}
use Rattle.st_session.proofs.Selected.{sought-back, sought-on}
use Rattle.st_session.proofs.select.start.Goals as goal

pub returns-then-lt-clause-from : goal.returns-then-lt-clause-from
returns-then-lt-clause-from c =
    let below : key_less c.args.key.now c.args.range.now.end ≡ true = search rules in
    subst (λ (k : List ℕ). IsFrom c.args.reverse k c.args.or_equal c.args.range.now) (sym c.bytes.ensures.value)
    (start-below c.args.reverse c.args.key.now c.args.or_equal c.args.range.now c.if-reverse.true below)

pub returns-else-lt-clause-from : goal.returns-else-lt-clause-from
returns-else-lt-clause-from c = start-back _ _ c.args.range.now c.if-reverse.true (c.bytes-else-lt.ensures.value ∙ c.end-else-lt.ensures.value)

pub returns-else-lt-clause-sought : goal.returns-else-lt-clause-sought
returns-else-lt-clause-sought c =
    let above : key_less c.args.key.now c.args.range.now.end ≡ false = search rules in
    sought-back c.args.reverse c.args.key.now c.args.or_equal _ c.args.range.now c.if-reverse.true above (c.bytes-else-lt.ensures.value ∙ c.end-else-lt.ensures.value)

pub returns-then-lt-2-clause-from : goal.returns-then-lt-2-clause-from
returns-then-lt-2-clause-from c = start-on _ _ c.args.range.now c.if-reverse.false (c.bytes-then-lt-2.ensures.value ∙ c.begin-then-lt-2.ensures.value)

pub returns-then-lt-2-clause-sought : goal.returns-then-lt-2-clause-sought
returns-then-lt-2-clause-sought c =
    let below : key_less c.args.key.now c.args.range.now.begin ≡ true = search rules in
    sought-on c.args.reverse c.args.key.now c.args.or_equal _ c.args.range.now c.if-reverse.false below (c.bytes-then-lt-2.ensures.value ∙ c.begin-then-lt-2.ensures.value)
