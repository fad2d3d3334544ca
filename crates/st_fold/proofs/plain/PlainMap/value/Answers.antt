use Rattle.std.proofs.Common.{◌∙◌, ap}
use Rattle.st_fold.specs.Map.{value_at}
use Rattle.st_fold.proofs.Pairs.{lookup-seen}
use Rattle.st_fold.proofs.plain.PlainMap.value.Goals as goal

pub returns : goal.returns
returns c =
    c.get.ensures.value ∙ lookup-seen (λ k. k.items) c.args.key.now c.self.inside.pairs.entries
    ∙ ap (λ pairs. value_at pairs c.args.key.now) c.self.view_is
