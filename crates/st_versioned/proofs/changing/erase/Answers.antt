use Rattle.std.proofs.Common.{◌≡◌, ◌∙◌, ap}
use Rattle.st_ptree.specs.Entries.{pairs_of}
use Rattle.st_versioned.specs.Writing.{cut_at}
use Rattle.st_versioned.proofs.Lasts.{on-ok, rows-left}
use Rattle.st_versioned.proofs.changing.erase.Goals as goal

pub returns : goal.returns
returns g c =
    let cut = c.in_ok-cut-2.ensures ∙ ap (cut_at c.args.end.now) c.in_ok-cut.ensures in
    on-ok (rows-left c.cut-2.new.rows c.erase.new.self (pairs_of c.args.rows.now) (record { begin = c.args.begin.now; end = c.args.end.now }) _ _ cut c.as_slice.ensures c.as_slice-2.ensures)
    c.erase.result c.erase.ensures.ok
