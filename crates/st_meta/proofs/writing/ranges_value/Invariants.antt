use Rattle.std.proofs.Common.{◌≡◌, ◌++◌, length, take}
use Rattle.std.specs.List.{flat_map}
use Rattle.st_meta.specs.Stored.{range_bytes}
use Rattle.st_num.specs.Number.{little_bytes}
use Rattle.st_meta.proofs.writing.ranges_value.Given as goal

-- the ranges so far, behind the number of all
abbrev pub invariant-loop-piece : goal.invariant-loop-piece
invariant-loop-piece l = l.out.items ≡ little_bytes 4 (length l.pieces) ++ flat_map range_bytes (take l.piece-index l.pieces)
