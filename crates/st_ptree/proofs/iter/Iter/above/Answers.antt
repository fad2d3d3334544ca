use Rattle.std.specs.Option.{option_map}
use Rattle.st_ptree.proofs.Going.{above_from}
use Rattle.st_ptree.proofs.iter.Iter.above.Goals as goal

pub returns-clause-value : goal.returns-clause-value
returns-clause-value g c =
    let found = option_map (λ pair. (pair.0.now, pair.1.now)) c.next_after-next.result in
    above_from c.args.key.now c.args.map.now found c.next_after-next.ensures.ordered c.next_after-next.ensures.value
