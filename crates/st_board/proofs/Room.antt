-- The room that a trace keeps.
use Rattle.std.proofs.Common.{◌≤◌, Option, Some, None, arith}
use Rattle.st_meta.specs.declared.state.Meta.{Meta}
use Rattle.st_board.specs.Stands.{still_to_come}

pub at-most-two : (next : Option Meta) → still_to_come next ≤ 2
at-most-two None = omega arith
at-most-two (Some next) = omega arith
