use Rattle.std.proofs.Common.{◌∙◌, ap, not, filter}
use Rattle.std.specs.Prelude.{bytes_eq}
use Rattle.st_fold.proofs.Pairs.{seen, seen-remove_entry}
use Rattle.st_fold.proofs.plain.PlainMap.forget.Goals as goal

pub returns : goal.returns
returns c =
    ap (seen (λ k. k.items)) c.remove.ensures.entries
    ∙ seen-remove_entry (λ k. k.items) c.bytes.result.now c.self.inside.pairs.entries c.len.ensures.ordered
    ∙ λ i. filter (λ pair. not (bytes_eq pair.0 (c.bytes.ensures.value i))) (c.self.view_is i)
