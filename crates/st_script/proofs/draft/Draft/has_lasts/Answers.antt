use Rattle.std.proofs.Common.{not, false, ap, ◌∙◌}
use Rattle.std.specs.Option.{option_map_or}
use Rattle.st_script.specs.Words.{is_empty}
use Rattle.st_script.proofs.Drafts.{last_of-last, is_empty-length}
use Rattle.st_script.proofs.draft.Draft.has_lasts.Goals as goal

pub returns-in-Some : goal.returns-in-Some
returns-in-Some c =
    ap not (c.is_empty.ensures ∙ is_empty-length c.in-Some.life.now.lasts)
    ∙ rw (← c.self.view_is, ← c.deref.ensures.value) (ap (λ o. option_map_or (λ plan. not (is_empty plan.lasts)) o false) (c.in-Some.ensures.value ∙ last_of-last c.deref.result.now))

pub returns-in-None : goal.returns-in-None
returns-in-None c =
    rw (← c.self.view_is, ← c.deref.ensures.value) (ap (λ o. option_map_or (λ plan. not (is_empty plan.lasts)) o false) (c.in-None.ensures.value ∙ last_of-last c.deref.result.now))
