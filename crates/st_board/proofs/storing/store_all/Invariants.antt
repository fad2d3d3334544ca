use Rattle.std.proofs.Common.{◌≡◌, fold, take}
use Rattle.st_ptree.specs.Entries.{pairs_of}
use Rattle.st_board.specs.Making.{GoesOn}
use Rattle.st_board.specs.Storing.{stored_parts}
use Rattle.st_board.proofs.storing.store_all.Given as goal

-- the mutations so far
abbrev pub invariant-loop-mutation : goal.invariant-loop-mutation
invariant-loop-mutation g l = record {
  stored : l.window ≡ fold (stored_parts (pairs_of l.base) l.pieces) l.fn.window (take l.mutation-index l.mutations);
  going_on : GoesOn l.fn.window l.window;
}
