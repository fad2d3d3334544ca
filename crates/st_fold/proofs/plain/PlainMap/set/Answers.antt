use Rattle.std.proofs.Common.{◌∙◌, ap, refl}
use Rattle.st_fold.proofs.Pairs.{seen, seen-insert_entry, same_put}
use Rattle.st_fold.proofs.plain.PlainMap.set.Goals as goal

pub returns-clause-ok : goal.returns-clause-ok
returns-clause-ok c =
    ap (seen (λ k. k.items)) c.in_ok-insert.ensures.entries
    ∙ seen-insert_entry (λ k. k.items) c.in_ok-key.key c.args.value c.self.inside.pairs.entries
    ∙ same_put (c.in_ok-key.ensures.items ∙ c.bytes.ensures.value) refl c.self.view_is
