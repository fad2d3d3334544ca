use Rattle.std.proofs.Common.{◌≡◌, ap, refl, rules}
use Rattle.st_ptree.specs.Entries.{pairs_of}
use Rattle.st_versioned.specs.Writing.{with_row}
use Rattle.st_versioned.specs.declared.entry.Entry.TheVariants.{ClearTo}
use Rattle.st_versioned.proofs.Lasts.{on-ok, row-put}
use Rattle.st_versioned.proofs.cut.part.Goals as goal

pub returns : goal.returns
returns g c =
    let key = c.args.key.now in
    let one : c.in_ok-clone.field-0 ≡ key = search rules in
    let two : c.in_ok-clone-2.field-0 ≡ key = search rules in
    let first = row-put c.args.rows.now c.insert.new.self (pairs_of c.args.rows.now) c.args.reach.begin c.args.reach.begin _ c.args.reach.version (ClearTo key) _ refl refl (ap ClearTo one) c.in_ok-insert.ensures.ok in
    on-ok (row-put c.insert.new.self c.insert-2.new.self _ key _ _ c.args.reach.version (ClearTo c.args.reach.end) _ first two refl) c.insert-2.result c.insert-2.ensures.ok
