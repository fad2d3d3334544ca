use Rattle.std.proofs.Common.{◌≡◌, ◌∙◌, ap, not}
use Rattle.st_key.specs.Spans.{key_less}
use Rattle.st_versioned.specs.Root.{decided_by, told}
use Rattle.st_versioned.proofs.Lasts.{last-pairs}
use Rattle.st_versioned.proofs.root.Root.told.Goals as goal

pub returns-clause-value : goal.returns-clause-value
returns-clause-value g c =
    c.told_by.ensures.value ∙ ap (λ o. told (decided_by c.args.key.now o)) (c.in-Some.ensures.value ∙ last-pairs (λ k. not (key_less c.args.key.now k)) c.args.self.now.entries)

pub returns-in_default-clause-value : goal.returns-in_default-clause-value
returns-in_default-clause-value g c =
    ap (λ o. told (decided_by c.args.key.now o)) (c.in_default.ensures.value ∙ last-pairs (λ k. not (key_less c.args.key.now k)) c.args.self.now.entries)
