use Rattle.std.proofs.Common.{◌∙◌, not, sym, subst}
use Rattle.st_key.specs.Spans.{key_less}
use Rattle.st_ptree.specs.Entries.{at_or_below, last_of, less, pairs_of}
use Rattle.st_versioned.specs.Neighbours.{IsFirstKey, key_above, keys_of}
use Rattle.st_versioned.proofs.Bases.{first-greatest, keys-alike}
use Rattle.st_versioned.proofs.nearest.last_in.Goals as goal

pub returns : goal.returns
returns g c =
    let es = c.args.map.now in
    let key = c.args.key.now in
    let greatest = first-greatest (λ k. not (less key k)) es (last_of (at_or_below es key)) (c.neighbours_are_nearest.ensures.greatest es (λ k. not (less key k)) c.last_at_or_below.ensures.ordered) in
    let found = c.key_of.ensures ∙ keys-alike (λ pair. (pair.0.now, pair.1.now)) c.last_at_or_below.result (last_of (at_or_below es key)) c.last_at_or_below.ensures.value in
    subst (λ o. IsFirstKey key_above (λ k. not (key_less key k)) (keys_of (pairs_of es)) o) (sym found) greatest
