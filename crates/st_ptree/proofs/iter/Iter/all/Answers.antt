use Rattle.std.specs.Option.{option_map}
use Rattle.st_ptree.proofs.Going.{all_from}
use Rattle.st_ptree.proofs.iter.Iter.all.Goals as goal

pub returns-clause-value : goal.returns-clause-value
returns-clause-value g c =
    let found = option_map (λ pair. (pair.0.now, pair.1.now)) c.first_in-next.result in
    all_from c.args.map.now found c.first_in-next.ensures.ordered c.first_in-next.ensures.value
