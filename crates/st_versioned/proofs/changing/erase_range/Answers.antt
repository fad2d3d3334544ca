use Rattle.std.proofs.Common.{◌≡◌, ◌∙◌, rules}
use Rattle.st_ptree.specs.Entries.{pairs_of}
use Rattle.st_versioned.specs.Writing.{without_span}
use Rattle.st_versioned.proofs.Lasts.{on-ok}
use Rattle.st_versioned.proofs.changing.erase_range.Goals as goal

pub returns : goal.returns
returns g c =
    let span = c.args.range.now in
    let begin : c.in_ok-begin.begin ≡ span.begin = search rules in
    let end : c.in_ok-end.end ≡ span.end = search rules in
    on-ok (λ is. is ∙ (λ i. without_span (record { begin = begin i; end = end i }) (pairs_of c.args.rows.now))) c.erase.result c.erase.ensures
