use Rattle.std.proofs.Common.{ap, ◌∙◌}
use Rattle.std.specs.Option.{option_map_or}
use Rattle.st_script.proofs.Drafts.{last_of-last}
use Rattle.st_script.proofs.draft.Draft.last_upto.Goals as goal

pub returns-in-Some : goal.returns-in-Some
returns-in-Some c = rw (← c.self.view_is, ← c.deref.ensures.value) (ap (λ o. option_map_or (λ plan. plan.upto) o 0) (c.in-Some.ensures.value ∙ last_of-last c.deref.result.now))

pub returns-in-None : goal.returns-in-None
returns-in-None c = rw (← c.self.view_is, ← c.deref.ensures.value) (ap (λ o. option_map_or (λ plan. plan.upto) o 0) (c.in-None.ensures.value ∙ last_of-last c.deref.result.now))
