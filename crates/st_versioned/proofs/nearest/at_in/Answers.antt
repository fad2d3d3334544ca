use Rattle.std.proofs.Common.{◌≡◌, true, false, rules}
use Rattle.st_ptree.specs.Entries.{pairs_of}
use Rattle.st_versioned.specs.Neighbours.{keys_of}
use Rattle.st_versioned.specs.Root.{same}
use Rattle.st_versioned.proofs.Bases.{key-none, key-other, key-same}
use Rattle.st_versioned.proofs.nearest.at_in.Goals as goal

pub returns-in-None : goal.returns-in-None
returns-in-None g c = key-none (keys_of (pairs_of c.args.map.now)) c.args.key.now c.in-None.ensures

pub returns-then-is_same : goal.returns-then-is_same
returns-then-is_same g c =
    let is : same c.in-Some.at.now c.args.key.now ≡ true = search rules in
    key-same (keys_of (pairs_of c.args.map.now)) c.args.key.now c.in-Some.at.now c.in-Some.ensures is

pub returns-else-is_same : goal.returns-else-is_same
returns-else-is_same g c =
    let is : same c.in-Some.at.now c.args.key.now ≡ false = search rules in
    key-other (keys_of (pairs_of c.args.map.now)) c.args.key.now c.in-Some.at.now c.in-Some.ensures is
