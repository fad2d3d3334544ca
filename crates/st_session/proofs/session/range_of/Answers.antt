use Rattle.std.proofs.Common.{rules, ◌≡◌, ◌∙◌, ◌++◌, [], ◌∷◌, false, true, sym}
use Rattle.std.proofs.lemmas.Bool.{false≢true}
use Rattle.st_key.specs.KeyOrder.{less_after}
use Rattle.st_key.specs.Spans.{key_less}
use Rattle.st_session.proofs.session.range_of.Goals as goal

pub unreachable-requires : goal.unreachable-requires
unreachable-requires c =
    let begin : c.in_ok-clone-in-Get.field-0 ≡ c.in-Get.key = search rules in
    absurd (false≢true (sym c.in-Err.ensures.0 ∙ (λ i. key_less (begin i) (c.in_ok-key_after-in-Get.ensures i)) ∙ less_after c.in-Get.key))
