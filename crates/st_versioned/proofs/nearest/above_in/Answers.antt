use Rattle.std.proofs.Common.{◌∙◌, false, sym, subst}
use Rattle.st_key.specs.Spans.{key_less}
use Rattle.st_ptree.specs.Entries.{above, first_of, less, pairs_of}
use Rattle.st_versioned.specs.Neighbours.{IsFirstKey, comes_behind, keys_of}
use Rattle.st_versioned.proofs.Bases.{first-least, keys-alike}
use Rattle.st_versioned.proofs.nearest.above_in.Goals as goal

pub returns : goal.returns
returns g c =
    let es = c.args.map.now in
    let key = c.args.key.now in
    let least = first-least (less key) es (first_of (above es key)) (c.neighbours_are_nearest.ensures.least es (less key) c.next_after.ensures.ordered) in
    let found = c.key_of.ensures ∙ keys-alike (λ pair. (pair.0.now, pair.1.now)) c.next_after.result (first_of (above es key)) c.next_after.ensures.value in
    subst (λ o. IsFirstKey key_less (comes_behind key false) (keys_of (pairs_of es)) o) (sym found) least
