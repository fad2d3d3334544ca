use Rattle.std.proofs.Common.{◌≡◌, ◌∙◌, ap, rules}
use Rattle.st_ptree.specs.Entries.{pairs_of}
use Rattle.st_versioned.specs.Writing.{without_span}
use Rattle.st_versioned.specs.declared.entry.Entry.TheVariants.{ClearTo}
use Rattle.st_versioned.proofs.Lasts.{on-ok, row-put}
use Rattle.st_versioned.proofs.changing.clear.Goals as goal

pub returns : goal.returns
returns g c =
    let span = c.args.range.now in
    let begin : c.in_ok-begin.begin ≡ span.begin = search rules in
    let end : c.in_ok-end.end ≡ span.end = search rules in
    let left = c.in_ok-erase.ensures ∙ (λ i. without_span (record { begin = begin i; end = end i }) (pairs_of c.args.rows.now)) in
    on-ok (row-put c.erase.new.rows c.insert.new.self _ span.begin _ _ c.args.version (ClearTo span.end) _ left begin (ap ClearTo end)) c.insert.result c.insert.ensures.ok
