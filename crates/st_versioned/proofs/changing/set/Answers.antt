use Rattle.std.proofs.Common.{◌≡◌, ◌∙◌, ◌++◌, ◌∷◌, [], ap, rules}
use Rattle.st_ptree.specs.Entries.{pairs_of}
use Rattle.st_versioned.specs.Writing.{cut_at}
use Rattle.st_versioned.specs.declared.entry.Entry.TheVariants.{Value}
use Rattle.st_versioned.proofs.Lasts.{on-ok, row-put}
use Rattle.st_versioned.proofs.changing.set.Goals as goal

pub returns : goal.returns
returns g c =
    let key = c.args.key.now in
    let copy : c.in_ok-key.key ≡ key = search rules in
    let next : c.in_ok-next.next ≡ key ++ 0 ∷ [] = search rules in
    let value : c.in_ok-value.value ≡ c.args.value.now = search rules in
    let cut : pairs_of c.cut-2.new.rows ≡ cut_at (key ++ 0 ∷ []) (cut_at key (pairs_of c.args.rows.now)) =
    c.in_ok-cut-2.ensures ∙ ap (cut_at c.in_ok-next.next) c.in_ok-cut.ensures ∙ (λ i. cut_at (next i) (cut_at (copy i) (pairs_of c.args.rows.now))) in
    on-ok (row-put c.cut-2.new.rows c.insert.new.self _ key _ _ c.args.version (Value c.args.value.now) _ cut copy (ap Value value)) c.insert.result c.insert.ensures.ok
