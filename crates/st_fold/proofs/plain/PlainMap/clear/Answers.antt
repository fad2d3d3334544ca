use Rattle.std.proofs.Common.{◌∙◌, rules, ap, not, filter}
use Rattle.std.proofs.lemmas.Map.Made.{filter_same_pairs}
use Rattle.st_key.specs.Spans.{within}
use Rattle.st_fold.proofs.Pairs.{seen, seen-filter}
use Rattle.st_fold.proofs.plain.PlainMap.clear.Goals as goal

pub returns : goal.returns
returns c =
    ap (seen (λ k. k.items))
    (filter_same_pairs _ (λ e. not (within c.args.range.now e.0.items)) _ (λ k v b w f' called. search rules) _ _ c.retain.ensures.filtered)
    ∙ seen-filter (λ k. k.items) (λ k. not (within c.args.range.now k)) c.self.inside.pairs.entries
    ∙ ap (filter (λ pair. not (within c.args.range.now pair.0))) c.self.view_is
