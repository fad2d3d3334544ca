use Rattle.std.specs.Option.{option_map}
use Rattle.st_ptree.specs.Entries.{pairs_of}
use Rattle.st_versioned.specs.Neighbours.{keys_of}
use Rattle.st_versioned.proofs.Bases.{from-above, from-at}
use Rattle.st_versioned.proofs.nearest.from_in.Goals as goal

pub returns-in-Some : goal.returns-in-Some
returns-in-Some g c = from-at (keys_of (pairs_of c.args.map.now)) c.args.key.now c.in-Some.at.now c.in-Some.ensures

pub returns-in-None : goal.returns-in-None
returns-in-None g c = from-above (keys_of (pairs_of c.args.map.now)) c.args.key.now (option_map (λ k. k.now) c.above_in.result) c.in-None.ensures c.above_in.ensures
