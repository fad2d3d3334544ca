use Rattle.std.proofs.Common.{◌≡◌, drop, fold}
use Rattle.st_ptree.specs.Entries.{pairs_of}
use Rattle.st_engine.specs.Replay.{op_on, ops_on}
use Rattle.st_engine.proofs.map.changed_in.Given as goal

-- the operations that are left lead to the map behind all
abbrev pub invariant-loop-op : goal.invariant-loop-op
invariant-loop-op g l = fold op_on (pairs_of l.changed) (drop l.op-index l.ops) ≡ ops_on (pairs_of l.pairs) l.ops
