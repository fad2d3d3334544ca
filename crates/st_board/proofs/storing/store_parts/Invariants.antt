use Rattle.std.proofs.Common.{◌≡◌, fold, take}
use Rattle.st_ptree.specs.Entries.{pairs_of}
use Rattle.st_board.specs.Making.{GoesOn}
use Rattle.st_board.specs.Storing.{stored_part}
use Rattle.st_board.proofs.storing.store_parts.Given as goal

-- the pieces so far
abbrev pub invariant-loop-piece : goal.invariant-loop-piece
invariant-loop-piece g l = record {
  stored : l.window ≡ fold (stored_part (pairs_of l.base) l.mutation) l.fn.window (take l.piece-index l.pieces);
  going_on : GoesOn l.fn.window l.window;
}
