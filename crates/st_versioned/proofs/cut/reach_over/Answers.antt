use Rattle.std.proofs.Common.{◌≡◌, ◌∙◌, ap, sym, rules}
use Rattle.st_key.specs.Spans.{key_less}
use Rattle.st_versioned.specs.Writing.{reach_of}
use Rattle.st_versioned.proofs.Lasts.{last-pairs, reach-ended, reach-over, reach-value}
use Rattle.st_versioned.proofs.cut.reach_over.Goals as goal

pub returns-in_default : goal.returns-in_default
returns-in_default g c = ap (reach_of c.args.key.now) (c.in_default.ensures.value ∙ last-pairs (λ k. key_less k c.args.key.now) c.args.rows.now)

pub returns-in-Value : goal.returns-in-Value
returns-in-Value g c =
    reach-value c.args.key.now c.in-Some.begin.now c.in-Some.dated.now _ (c.in-Some.ensures.value ∙ last-pairs (λ k. key_less k c.args.key.now) c.args.rows.now) _ c.in-Value.is

pub returns-then-not-is_less : goal.returns-then-not-is_less
returns-then-not-is_less g c =
    reach-ended c.args.key.now c.in-Some.begin.now c.in-Some.dated.now _ (c.in-Some.ensures.value ∙ last-pairs (λ k. key_less k c.args.key.now) c.args.rows.now) _ c.in-ClearTo.is
    (ap (key_less c.args.key.now) (sym c.as_slice.ensures) ∙ sym c.is_less.ensures ∙ c.if-not-is_less.true)

pub returns-in_ok-clone-in-ClearTo-2 : goal.returns-in_ok-clone-in-ClearTo-2
returns-in_ok-clone-in-ClearTo-2 g c =
    let one : c.in_ok-clone-in-ClearTo.field-0 ≡ c.in-Some.begin.now = search rules in
    let two : c.in_ok-clone-in-ClearTo-2.field-0 ≡ c.in-ClearTo.end = search rules in
    reach-over c.args.key.now c.in-Some.begin.now c.in-Some.dated.now _ (c.in-Some.ensures.value ∙ last-pairs (λ k. key_less k c.args.key.now) c.args.rows.now) _ c.in-ClearTo.end _ c.in-ClearTo.is
    (ap (key_less c.args.key.now) (sym c.as_slice.ensures) ∙ sym c.is_less.ensures ∙ c.if-not-is_less.false) one two
