use Rattle.std.proofs.Common.{◌∙◌, sym, subst}
use Rattle.st_key.specs.Spans.{key_less}
use Rattle.st_ptree.specs.Entries.{below, last_of, less, pairs_of}
use Rattle.st_versioned.specs.Neighbours.{IsFirstKey, key_above, keys_of}
use Rattle.st_versioned.proofs.Bases.{first-greatest, keys-alike}
use Rattle.st_versioned.proofs.nearest.below_in.Goals as goal

pub returns : goal.returns
returns g c =
    let es = c.args.map.now in
    let key = c.args.key.now in
    let greatest = first-greatest (λ k. less k key) es (last_of (below es key)) (c.neighbours_are_nearest.ensures.greatest es (λ k. less k key) c.prev_before.ensures.ordered) in
    let found = c.key_of.ensures ∙ keys-alike (λ pair. (pair.0.now, pair.1.now)) c.prev_before.result (last_of (below es key)) c.prev_before.ensures.value in
    subst (λ o. IsFirstKey key_above (λ k. key_less k key) (keys_of (pairs_of es)) o) (sym found) greatest
