use Rattle.std.proofs.Common.{◌-◌, ◌≤◌, length, arith, subst, sym}
use Rattle.st_model.specs.Partition.{IsPartition}
use Rattle.st_shards.proofs.Reading.{some_piece, last_end}
use Rattle.st_shards.proofs.slots.Slots.end.Goals as goal

pub returns : goal.returns
returns c =
    let parts : IsPartition c.as_slice-pieces.result.now = subst IsPartition (sym c.as_slice-pieces.ensures) c.requires in
    let one : 1 ≤ length c.as_slice-pieces.result.now = some_piece c.as_slice-pieces.result.now parts in
    last_end c.as_slice-pieces.result.now (length c.as_slice-pieces.result.now - 1) c.index-pieces-pieces.result parts (omega arith)
